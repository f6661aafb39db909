-- Tests, options, and lists of makings.
use Rattle.std.proofs.Common.{◌≡◌, Bool, true, false, List, [], ◌∷◌, map, refl, ap, Option, Some, None}
use Rattle.std.specs.Prelude.{All, cond, ◌&&◌}
use Rattle.std.proofs.lemmas.List.Elements.{All-nil, All-cons, All-head, All-tail}
use Rattle.aqe_base.specs.declared.join_kind.Side.{Side}
use Rattle.aqe_stages.specs.Stages.{Stage}
use Rattle.aqe_making.specs.Makings.{Making, below}

pub and_left : (a b : Bool) → (a && b) ≡ true → a ≡ true
and_left true b e = refl
and_left false b e = e

pub and_right : (a b : Bool) → (a && b) ≡ true → b ≡ true
and_right true b e = e
and_right false b e = absurd (let no : false ≡ true = e in cc no)

pub false_left : (a b : Bool) → a ≡ false → (a && b) ≡ false
false_left true b e = absurd (let no : true ≡ false = e in cc no)
false_left false b e = refl

pub false_right : (a b : Bool) → b ≡ false → (a && b) ≡ false
false_right true b e = e
false_right false b e = refl

pub true_is_not_false : (a : Bool) → a ≡ true → a ≡ false → ⊥
true_is_not_false true e f = let no : true ≡ false = f in cc no
true_is_not_false false e f = let no : false ≡ true = e in cc no

pub no_stage : (stage : Stage) → None ≡ Some stage → ⊥
no_stage stage e = cc e

abbrev of_some : Stage → Option Stage → Stage
of_some other None = other
of_some other (Some stage) = stage

pub same_stage : (a b : Stage) → Some a ≡ Some b → a ≡ b
same_stage a b e = ap (of_some a) e

-- what holds of each making below a node holds of it lifted
pub lifted : (P Q : Making → Type 0) (side : Side) → ((m : Making) → P m → Q (below side m)) → (ms : List Making) → All P ms → All Q (map (below side) ms)
lifted P Q side f [] h = All-nil Q
lifted P Q side f (m ∷ ms) h = All-cons Q (below side m) (map (below side) ms) (f m (All-head P m ms h)) (lifted P Q side f ms (All-tail P m ms h))

pub at_most_one : (P : Making → Type 0) (b : Bool) (m : Making) → (b ≡ true → P m) → All P (cond b (m ∷ []) [])
at_most_one P true m h = All-cons P m [] (h refl) (All-nil P)
at_most_one P false m h = All-nil P

-- the first of a list, and those behind it
abbrev head_or : Making → List Making → Making
head_or other [] = other
head_or other (m ∷ ms) = m

abbrev behind : List Making → List Making
behind [] = []
behind (m ∷ ms) = ms

pub same_head : (a b : Making) (as_ bs : List Making) → a ∷ as_ ≡ b ∷ bs → a ≡ b
same_head a b as_ bs e = ap (head_or a) e

pub same_tail : (a b : Making) (as_ bs : List Making) → a ∷ as_ ≡ b ∷ bs → as_ ≡ bs
same_tail a b as_ bs e = ap behind e

pub no_making : (m : Making) (ms : List Making) → [] ≡ m ∷ ms → ⊥
no_making m ms e = cc e
