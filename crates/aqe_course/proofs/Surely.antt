-- What cannot fail to hold. The definitions compute no test of "these tokens are a script" and of the like, so that one of two
-- holds is used where the end is that something cannot be.
use Rattle.std.proofs.Common.{◌⊎◌, inl, inr}

abbrev pub Surely : Type 0 → Type 0
Surely A = (A → ⊥) → ⊥

pub sure : {A : Type 0} → A → Surely A
sure a never = never a

pub onwards : {A B : Type 0} → Surely A → (A → Surely B) → Surely B
onwards h next never = h (λ a. next a never)

pub holds_or_not : (A : Type 0) → Surely (A ⊎ (A → ⊥))
holds_or_not A never = never (inr (λ a. never (inl a)))
