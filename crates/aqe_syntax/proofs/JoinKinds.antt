-- The kinds of join: which terminals spell one.
use Rattle.std.proofs.Common.{List, ◌∷◌, ◌≡◌, refl, MatchOption, Bor}
use Rattle.std.specs.Prelude.{Option, Some, None}
use Rattle.aqe_base.specs.declared.join_kind.JoinKind.{JoinKind}
use Rattle.aqe_base.specs.declared.join_kind.JoinKind.TheVariants as kind
use Rattle.aqe_trees.specs.declared.terminal.Key.TheVariants as k
use Rattle.aqe_trees.specs.declared.terminal.Terminal.{Terminal}
use Rattle.aqe_trees.specs.declared.terminal.Terminal.TheVariants.{Fixed}
use Rattle.aqe_trees.specs.Queries.{IsKind, join, inner, cross, left, left_outer, right, right_outer, full, full_outer, semi, left_semi, anti, left_anti}
use Rattle.aqe_syntax.specs.Parts.{IsOuterJoin, outer_said, outer_unsaid}

-- [OUTER] JOIN

pub no_outer_join : {ts us : List Terminal} → ((vs : List Terminal) → ts ≡ Fixed k.Join ∷ vs → ⊥) →
    ((vs : List Terminal) → ts ≡ Fixed k.Outer ∷ Fixed k.Join ∷ vs → ⊥) → IsOuterJoin ts us → ⊥
no_outer_join m n outer_unsaid = m _ refl
no_outer_join m n outer_said = n _ refl

-- behind LEFT

pub no_left_join : {a : JoinKind} {ts us : List Terminal} →
    ((vs : List Terminal) → ts ≡ Fixed k.Semi ∷ Fixed k.Join ∷ vs → ⊥) → ((vs : List Terminal) → ts ≡ Fixed k.Anti ∷ Fixed k.Join ∷ vs → ⊥) →
    ((vs : List Terminal) → IsOuterJoin ts vs → ⊥) → IsKind a (Fixed k.Left ∷ ts) us → ⊥
no_left_join m n o left = o _ outer_unsaid
no_left_join m n o left_outer = o _ outer_said
no_left_join m n o left_semi = m _ refl
no_left_join m n o left_anti = n _ refl

pub left_join_read : {ts us : List Terminal} → IsOuterJoin ts us → IsKind kind.LeftOuter (Fixed k.Left ∷ ts) us
left_join_read outer_unsaid = left
left_join_read outer_said = left_outer

pub right_join_read : {ts us : List Terminal} → IsOuterJoin ts us → IsKind kind.RightOuter (Fixed k.Right ∷ ts) us
right_join_read outer_unsaid = right
right_join_read outer_said = right_outer

pub full_join_read : {ts us : List Terminal} → IsOuterJoin ts us → IsKind kind.FullOuter (Fixed k.Full ∷ ts) us
full_join_read outer_unsaid = full
full_join_read outer_said = full_outer

pub no_right_join : {a : JoinKind} {ts us : List Terminal} → ((vs : List Terminal) → IsOuterJoin ts vs → ⊥) → IsKind a (Fixed k.Right ∷ ts) us → ⊥
no_right_join o right = o _ outer_unsaid
no_right_join o right_outer = o _ outer_said

pub no_full_join : {a : JoinKind} {ts us : List Terminal} → ((vs : List Terminal) → IsOuterJoin ts vs → ⊥) → IsKind a (Fixed k.Full ∷ ts) us → ⊥
no_full_join o full = o _ outer_unsaid
no_full_join o full_outer = o _ outer_said

-- what a step answers, and what that says with the word before it

match_as : {A P Q : Type 0} {F G : A → Type 0} (r : Option A) → MatchOption r P F → (P → Q) → ((x : A) → F x → G x) → MatchOption r Q G
match_as None p f g = f p
match_as (Some x) p f g = g x p

abbrev pub Answer : Type 0
Answer = JoinKind × Bor (List Terminal)

pub left_outer_join : {ts : List Terminal} (r : Option Answer) →
    ((vs : List Terminal) → ts ≡ Fixed k.Semi ∷ Fixed k.Join ∷ vs → ⊥) → ((vs : List Terminal) → ts ≡ Fixed k.Anti ∷ Fixed k.Join ∷ vs → ⊥) →
    MatchOption r ((us : List Terminal) → IsOuterJoin ts us → ⊥) (λ x. (x.0 ≡ kind.LeftOuter) × IsOuterJoin ts x.1.now) →
    MatchOption r ((a : JoinKind) (us : List Terminal) → IsKind a (Fixed k.Left ∷ ts) us → ⊥) (λ x. IsKind x.0 (Fixed k.Left ∷ ts) x.1.now)
left_outer_join r m n p = match_as r p (λ o a us d. no_left_join m n o d) (λ x q. rw q.0 (left_join_read q.1))

pub left_kind : {ts rest : List Terminal} (r : Option Answer) → ts ≡ Fixed k.Left ∷ rest →
    MatchOption r ((a : JoinKind) (us : List Terminal) → IsKind a (Fixed k.Left ∷ rest) us → ⊥) (λ x. IsKind x.0 (Fixed k.Left ∷ rest) x.1.now) →
    MatchOption r ((a : JoinKind) (us : List Terminal) → IsKind a ts us → ⊥) (λ x. IsKind x.0 ts x.1.now)
left_kind r e p = match_as r p (λ n. rw e n) (λ x q. rw e q)

pub right_kind : {ts rest : List Terminal} (r : Option Answer) → ts ≡ Fixed k.Right ∷ rest →
    MatchOption r ((us : List Terminal) → IsOuterJoin rest us → ⊥) (λ x. (x.0 ≡ kind.RightOuter) × IsOuterJoin rest x.1.now) →
    MatchOption r ((a : JoinKind) (us : List Terminal) → IsKind a ts us → ⊥) (λ x. IsKind x.0 ts x.1.now)
right_kind r e p = match_as r p (λ o. rw e (λ a us d. no_right_join o d)) (λ x q. rw (e, q.0) (right_join_read q.1))

pub full_kind : {ts rest : List Terminal} (r : Option Answer) → ts ≡ Fixed k.Full ∷ rest →
    MatchOption r ((us : List Terminal) → IsOuterJoin rest us → ⊥) (λ x. (x.0 ≡ kind.FullOuter) × IsOuterJoin rest x.1.now) →
    MatchOption r ((a : JoinKind) (us : List Terminal) → IsKind a ts us → ⊥) (λ x. IsKind x.0 ts x.1.now)
full_kind r e p = match_as r p (λ o. rw e (λ a us d. no_full_join o d)) (λ x q. rw (e, q.0) (full_join_read q.1))

-- the words that begin no kind of join but the plain one
pub no_kind : {a : JoinKind} {ts us : List Terminal} →
    ((vs : List Terminal) → ts ≡ Fixed k.Left ∷ vs → ⊥) → ((vs : List Terminal) → ts ≡ Fixed k.Right ∷ vs → ⊥) →
    ((vs : List Terminal) → ts ≡ Fixed k.Full ∷ vs → ⊥) → ((vs : List Terminal) → ts ≡ Fixed k.Join ∷ vs → ⊥) →
    ((vs : List Terminal) → ts ≡ Fixed k.Inner ∷ Fixed k.Join ∷ vs → ⊥) → ((vs : List Terminal) → ts ≡ Fixed k.Cross ∷ Fixed k.Join ∷ vs → ⊥) →
    ((vs : List Terminal) → ts ≡ Fixed k.Semi ∷ Fixed k.Join ∷ vs → ⊥) → ((vs : List Terminal) → ts ≡ Fixed k.Anti ∷ Fixed k.Join ∷ vs → ⊥) →
    IsKind a ts us → ⊥
no_kind l r f j i c s n join = j _ refl
no_kind l r f j i c s n inner = i _ refl
no_kind l r f j i c s n cross = c _ refl
no_kind l r f j i c s n left = l _ refl
no_kind l r f j i c s n left_outer = l _ refl
no_kind l r f j i c s n right = r _ refl
no_kind l r f j i c s n right_outer = r _ refl
no_kind l r f j i c s n full = f _ refl
no_kind l r f j i c s n full_outer = f _ refl
no_kind l r f j i c s n semi = s _ refl
no_kind l r f j i c s n left_semi = l _ refl
no_kind l r f j i c s n anti = n _ refl
no_kind l r f j i c s n left_anti = l _ refl
