-- Loops over the parts of a chain: what they have come to, and what is left.
use Rattle.std.proofs.Common.{◌≡◌, ◌≤◌, ◌<◌, ◌+◌, ℕ, suc, List, ◌∷◌, length, drop, get_or, add-one, drop-cons, ap, sym, subst, Result}
use Rattle.std.specs.Prelude.{fold}
use Rattle.std.proofs.lemmas.List.{drop_all}
use Rattle.aqe_rules.specs.declared.fault.AnalysisFault.{AnalysisFault}
use Rattle.aqe_rules.specs.Outcomes.{Outcome}
use Rattle.aqe_sources.specs.Seen.{SaysSeen}

from_next : {X : Type 0} (xs : List X) (i : ℕ) (x : X) → i < length xs → x ≡ get_or xs i x → drop i xs ≡ x ∷ drop (i + 1) xs
from_next xs i x below e = rw (add-one, drop-cons xs i x) (ap (λ (y : _). y ∷ drop (suc i) xs) (sym e))

-- what the loop keeps: the value says an outcome, from which the parts that are left make the whole
module _ {S T U : Type 0} (seen : S → U) (f : Outcome U → T → Outcome U) where
  abbrev pub Left : Result S AnalysisFault → List T → Outcome U → Type 0
  Left value rest whole = (o : Outcome U) × SaysSeen seen value o × (fold f o rest ≡ whole)

  pub begun : (xs : List T) (first : Outcome U) (value : Result S AnalysisFault) {whole : Outcome U} → SaysSeen seen value first → whole ≡ fold f first xs → Left value xs whole
  begun xs first value h e = (first, h, sym e)

  pub turned : (xs : List T) (i : ℕ) (next : T) (value more : Result S AnalysisFault) {whole : Outcome U} → i < length xs → next ≡ get_or xs i next → Left value (drop i xs) whole →
      ((o : Outcome U) → SaysSeen seen value o → SaysSeen seen more (f o next)) → Left more (drop (i + 1) xs) whole
  turned xs i next value more {whole = whole} below e left step =
      (f left.0 next, step left.0 left.1, subst (λ (ys : List T). fold f left.0 ys ≡ whole) (from_next xs i next below e) left.2)

  pub ended : (xs : List T) (i : ℕ) (value : Result S AnalysisFault) {whole : Outcome U} → length xs ≤ i → Left value (drop i xs) whole → SaysSeen seen value whole
  ended xs i value {whole = whole} h left =
      subst (λ (o : Outcome U). SaysSeen seen value o) (subst (λ (ys : List T). fold f left.0 ys ≡ whole) (drop_all i xs h) left.2) left.1
