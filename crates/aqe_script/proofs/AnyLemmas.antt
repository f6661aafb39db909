-- A property of some element, over the first and the rest.
use Rattle.std.proofs.Common.{zero, suc, List, [], ◌∷◌, ◌≡◌, refl, sym, subst, arith, ◌↔◌}
use Rattle.std.specs.Prelude.{Any, Option, Some, None, MatchOption}

pub any_here : {X : Type 0} (P : X → Type 0) (x : X) (xs : List X) → P x → Any P (x ∷ xs)
any_here P x xs h = (0, x, omega arith, refl, h)

pub any_later : {X : Type 0} (P : X → Type 0) (x : X) (xs : List X) → Any P xs → Any P (x ∷ xs)
any_later P x xs (i, y, l, e, h) = (suc i, y, omega (arith, l), e, h)

pub any_rest : {X : Type 0} (P : X → Type 0) (x : X) (xs : List X) → (P x → ⊥) → Any P (x ∷ xs) → Any P xs
any_rest P x xs not_here (zero, y, l, e, h) = absurd (not_here (subst P (sym e) h))
any_rest P x xs not_here (suc i, y, l, e, h) = (i, y, omega (arith, l), e, h)

nothing : {X : Type 0} (P : X → Type 0) → Any P [] → ⊥
nothing P (i, y, l, e, h) = absurd (omega (arith, l))

-- where the first has it not, some element of the whole has it exactly where some element of the rest has it
pub any_go_on : {X : Type 0} (P : X → Type 0) (x : X) (all more : List X) (W : Type 0) → all ≡ x ∷ more → (P x → ⊥) → (Any P all ↔ W) → (Any P more ↔ W)
any_go_on P x all more W e not_here same = (
  λ a. same.0 (subst (λ (l : List _). Any P l) (sym e) (any_later P x more a)),
  λ w. any_rest P x more not_here (subst (λ (l : List _). Any P l) e (same.1 w)),
)

-- where the first has it, some element of the whole has it
pub any_found : {X : Type 0} (P : X → Type 0) (x : X) (all more : List X) (W : Type 0) → all ≡ x ∷ more → P x → (Any P all ↔ W) → W
any_found P x all more W e h same = same.0 (subst (λ (l : List _). Any P l) (sym e) (any_here P x more h))

-- where there is one element and it has it not, none has it
pub any_none : {X : Type 0} (P : X → Type 0) (x : X) (all : List X) (W : Type 0) → all ≡ x ∷ [] → (P x → ⊥) → (Any P all ↔ W) → W → ⊥
any_none P x all W e not_here same w = nothing P (any_rest P x [] not_here (subst (λ (l : List _). Any P l) e (same.1 w)))

-- either way the list has this first element
pub first_of_match : {X R : Type 0} (f : R → List X) (x : X) (all : List X) (o : Option R) →
    MatchOption o (all ≡ x ∷ []) (λ r. all ≡ x ∷ f r) → (more : List X) × (all ≡ x ∷ more)
first_of_match f x all None e = ([], e)
first_of_match f x all (Some r) e = (f r, e)
