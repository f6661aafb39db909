-- The common types of two sides, one column more at a time.
use Rattle.std.proofs.Common.{◌≡◌, ℕ, ◌+◌, ◌<◌, Bool, true, false, List, [], ◌∷◌, ◌++◌, length, Some, None, Ok, Err, refl, ap, sym, ◌∙◌, drop, get_or, append_assoc, append-nil}
use Rattle.std.proofs.lemmas.List.{drop_more}
use Rattle.aqe_values.specs.declared.sql_type.SqlType.{SqlType}
use Rattle.aqe_values.specs.declared.schema.Field.{Field}
use Rattle.aqe_rules.specs.declared.fault.AnalysisFault.{AnalysisFault}
use Rattle.aqe_rules.specs.Faults.{Tells, Fails}
use Rattle.aqe_rules.specs.Kinds.{common, is_same_kind}
use Rattle.aqe_rules.specs.Operations.{mismatch}
use Rattle.aqe_rules.specs.Outcomes.{Outcome, upon}
use Rattle.aqe_rules.specs.Unions.{common_kinds, has_kinds}
use Rattle.aqe_rules.proofs.Steps.{memory_fails}

-- types before those of other columns
abbrev pub behind : List SqlType → Outcome (List SqlType) → Outcome (List SqlType)
behind before more = upon more (λ ks. Ok (before ++ ks))

pub nothing_before : (o : Outcome (List SqlType)) → behind [] o ≡ o
nothing_before (Ok ks) = refl
nothing_before (Err check) = refl

-- what is left of the first list is its next item and what is behind that
next_left : (left : List Field) (i : ℕ) (f : Field) → i < length left → f ≡ get_or left i f → drop i left ≡ f ∷ drop (i + 1) left
next_left left i f lt at = drop_more left i f lt ∙ ap (λ (x : Field). x ∷ drop (i + 1) left) (sym at)

kind_behind : (before : List SqlType) (k : SqlType) (o : Outcome (List SqlType)) → upon (upon o (λ ks. Ok (k ∷ ks))) (λ ks. Ok (before ++ ks)) ≡ behind (before ++ k ∷ []) o
kind_behind before k (Ok ks) = ap (λ (all : List SqlType). Ok all) (sym (append_assoc before (k ∷ []) ks))
kind_behind before k (Err check) = refl

-- one column more
pub kind_more : (left others behind_others : List Field) (i : ℕ) (f g : Field) (before now : List SqlType) (k : SqlType) (whole : Outcome (List SqlType)) → i < length left → f ≡ get_or left i f →
    others ≡ g ∷ behind_others → common f.kind g.kind ≡ Some k → now ≡ before ++ k ∷ [] → behind before (common_kinds (drop i left) others) ≡ whole → behind now (common_kinds (drop (i + 1) left) behind_others) ≡ whole
kind_more left others rest i f g before now k whole lt at is e n h =
    rw n (sym (ap (λ (fs : List Field). behind before (common_kinds fs others)) (next_left left i f lt at) ∙
    ap (λ (gs : List Field). behind before (common_kinds (f ∷ drop (i + 1) left) gs)) is ∙ rw e (kind_behind before k (common_kinds (drop (i + 1) left) rest))) ∙ h)

-- a column without a common type
pub no_kind : (left others behind_others : List Field) (i : ℕ) (f g : Field) (before : List SqlType) (whole : Outcome (List SqlType)) (fault : AnalysisFault) → i < length left → f ≡ get_or left i f →
    others ≡ g ∷ behind_others → common f.kind g.kind ≡ None → Tells fault mismatch → behind before (common_kinds (drop i left) others) ≡ whole → Fails fault whole
no_kind left others rest i f g before whole fault lt at is e t h =
    let there : behind before (common_kinds (drop i left) others) ≡ Err mismatch =
    ap (λ (fs : List Field). behind before (common_kinds fs others)) (next_left left i f lt at) ∙ ap (λ (gs : List Field). behind before (common_kinds (f ∷ drop (i + 1) left) gs)) is ∙ rw e refl in
    rw (← h, there) t

none_left : (left : List Field) → common_kinds left [] ≡ Ok []
none_left [] = refl
none_left (f ∷ fs) = refl

kinds_done : (before : List SqlType) (o whole : Outcome (List SqlType)) → o ≡ Ok [] → behind before o ≡ whole → whole ≡ Ok before
kinds_done before o whole e h = sym h ∙ ap (behind before) e ∙ ap (λ (all : List SqlType). Ok all) (append-nil before)

-- a side that is at its end
pub others_end : (left others : List Field) (before : List SqlType) (whole : Outcome (List SqlType)) → others ≡ [] → behind before (common_kinds left others) ≡ whole → whole ≡ Ok before
others_end left others before whole e h = kinds_done before (common_kinds left others) whole (ap (common_kinds left) e ∙ none_left left) h

pub left_ends : (left others : List Field) (before : List SqlType) (whole : Outcome (List SqlType)) → left ≡ [] → behind before (common_kinds left others) ≡ whole → whole ≡ Ok before
left_ends left others before whole e h = kinds_done before (common_kinds left others) whole (ap (λ (fs : List Field). common_kinds fs others) e) h

pub ruleset kind_steps = (memory_fails, nothing_before)

-- whether the columns have these types
module _ (fields : List Field) (others behind_others : List SqlType) (i : ℕ) (f : Field) (k : SqlType) (whole : Bool) (lt : i < length fields) (at : f ≡ get_or fields i f) (is : others ≡ k ∷ behind_others)
    (h : has_kinds others (drop i fields) ≡ whole) where
  here : whole ≡ has_kinds (k ∷ behind_others) (f ∷ drop (i + 1) fields)
  here = sym h ∙ ap (has_kinds others) (next_left fields i f lt at) ∙ ap (λ (ks : List SqlType). has_kinds ks (f ∷ drop (i + 1) fields)) is

  pub has_more : is_same_kind f.kind k ≡ true → has_kinds behind_others (drop (i + 1) fields) ≡ whole
  has_more e = sym (here ∙ rw e refl)

  pub has_other : is_same_kind f.kind k ≡ false → whole ≡ false
  has_other e = here ∙ rw e refl

pub no_kinds_left : (fields : List Field) (others : List SqlType) (whole : Bool) → others ≡ [] → has_kinds others fields ≡ whole → whole ≡ true
no_kinds_left fields others whole e h = sym h ∙ ap (λ (ks : List SqlType). has_kinds ks fields) e

pub no_columns_left : (fields : List Field) (others : List SqlType) (whole : Bool) → fields ≡ [] → has_kinds others fields ≡ whole → true ≡ whole
no_columns_left fields [] whole e h = h
no_columns_left fields (k ∷ ks) whole e h = sym (ap (has_kinds (k ∷ ks)) e) ∙ h
