-- Places among the values of a select list.
use Rattle.std.proofs.Common.{◌≡◌, ◌≢◌, ℕ, zero, suc, ◌+◌, ◌<◌, arith, true, false, List, [], ◌∷◌, ◌++◌, flat_map, length, length-append, Option, Some, Ok, refl, ap, ◌∙◌}
use Rattle.std.specs.Prelude.{slice_get}
use Rattle.aqe_trees.specs.declared.expression.OrTree.{OrTree}
use Rattle.aqe_trees.specs.declared.query.ItemTree.{ItemTree}
use Rattle.aqe_trees.specs.declared.query.ItemTree.TheVariants as tree
use Rattle.aqe_rules.specs.declared.names.Named.{Named}
use Rattle.aqe_rules.specs.declared.typed.Typed.{Typed}
use Rattle.aqe_rules.specs.Expressions.{read}
use Rattle.aqe_rules.specs.Outcomes.{Outcome}
use Rattle.aqe_rules.specs.Sources.{over}
use Rattle.aqe_grouping.specs.declared.select_list.Landing.{Landing}
use Rattle.aqe_grouping.specs.declared.select_list.Landing.TheVariants as landing
use Rattle.aqe_grouping.specs.Places.{is_shown, shown_value, shown_values, item_values, IsAt}

-- one column
module _ (columns : List Named) (item : ItemTree) (column : Named) (place : ℕ) where
  pub passed_over : is_shown item column ≡ false → place ≡ length (shown_value item column) + place
  passed_over e = rw e (omega arith)

  pub counted : (left : ℕ) → is_shown item column ≡ true → left + 1 ≡ place → place ≡ length (shown_value item column) + left
  counted left e h = rw (e, ← h) (omega arith)

  pub is_there : is_shown item column ≡ true → place < 1 → slice_get (shown_value item column) place ≡ Some (Ok column.value)
  is_there e h =
      let first : place ≡ 0 = omega (arith, h) in
      rw (e, first) refl

pub ruleset column_steps = (passed_over, counted, is_there)

-- one expression
module _ (value : Outcome Typed) (place : ℕ) where
  pub value_counted : (left : ℕ) → left + 1 ≡ place → place ≡ length (value ∷ []) + left
  value_counted left h = rw (← h) (omega arith)

  pub value_there : place < 1 → slice_get (value ∷ []) place ≡ Some value
  value_there h =
      let first : place ≡ 0 = omega (arith, h) in
      rw first refl

pub ruleset value_steps = (value_counted, value_there)

-- one item
module _ (columns : List Named) (item : ItemTree) (place : ℕ) (found : Landing) where
  pub all_found : item ≡ tree.All → IsAt columns (shown_values item columns) place found → IsAt columns (item_values columns item) place found
  all_found e h = rw e (rw e at h)

  pub all_of_found : (name : List ℕ) → item ≡ tree.AllOf name → IsAt columns (shown_values item columns) place found → IsAt columns (item_values columns item) place found
  all_of_found name e h = rw e (rw e at h)

  pub expression_found : (value : OrTree) (alias : Option (List ℕ)) → item ≡ tree.One value alias → IsAt columns ((read value (over columns)).value ∷ []) place found →
      IsAt columns (item_values columns item) place found
  expression_found value alias e h = rw e h

pub ruleset item_steps = (all_found, all_of_found)

-- values behind others, and in front of others
module _ (columns : List Named) where
  behind_them : {A : Type 0} (xs ys : List A) (n : ℕ) → slice_get (xs ++ ys) (length xs + n) ≡ slice_get ys n
  behind_them [] ys n =
      let none : 0 + n ≡ n = omega arith in
      ap (slice_get ys) none
  behind_them (x ∷ xs) ys n =
      let next : suc (length xs) + n ≡ suc (length xs + n) = omega arith in
      ap (slice_get (x ∷ xs ++ ys)) next ∙ behind_them xs ys n

  in_front_of : {A : Type 0} (xs ys : List A) (n : ℕ) (x : A) → slice_get xs n ≡ Some x → slice_get (xs ++ ys) n ≡ Some x
  in_front_of [] ys n x e = absurd (cc e)
  in_front_of (y ∷ xs) ys zero x e = e
  in_front_of (y ∷ xs) ys (suc n) x e = in_front_of xs ys n x e

  farther : (xs ys : List (Outcome Typed)) (n : ℕ) (found : Landing) → IsAt columns ys n found → IsAt columns (xs ++ ys) (length xs + n) found
  farther xs ys n (landing.Column c) h = behind_them xs ys n ∙ h
  farther xs ys n (landing.Expression v) h = behind_them xs ys n ∙ h
  farther xs ys n (landing.Behind m) h =
      let all : length (xs ++ ys) ≡ length xs + length ys = length-append xs ys in
      omega (arith, all, h)

  among_more : (xs ys : List (Outcome Typed)) (n : ℕ) (found : Landing) → ((m : ℕ) → found ≢ landing.Behind m) → IsAt columns xs n found → IsAt columns (xs ++ ys) n found
  among_more xs ys n (landing.Column c) never h = in_front_of xs ys n (Ok c.now.value) h
  among_more xs ys n (landing.Expression v) never h = in_front_of xs ys n (read v.now (over columns)).value h
  among_more xs ys n (landing.Behind m) never h = absurd (never m refl)

  -- what stands at a place of the rest stands at the place of the whole
  module _ {X : Type 0} (f : X → List (Outcome Typed)) where
    abbrev pub IsLeft : List X → ℕ → List X → ℕ → Type 0
    IsLeft rest left list place = (found : Landing) → IsAt columns (flat_map f rest) left found → IsAt columns (flat_map f list) place found

    pub passed : (rest : List X) (x : X) (more : List X) (left less : ℕ) (found : Landing) (list : List X) (place : ℕ) → rest ≡ x ∷ more → found ≡ landing.Behind less → IsAt columns (f x) left found →
        IsLeft rest left list place → IsLeft more less list place
    passed rest x more left less found list place e is h whole = λ other k.
        let count : left ≡ length (f x) + less = rw is at h in
        whole other (rw (e, count) (farther (f x) (flat_map f more) less other k))

    pub landed : (rest : List X) (x : X) (more : List X) (left : ℕ) (found : Landing) (list : List X) (place : ℕ) → rest ≡ x ∷ more → ((m : ℕ) → found ≢ landing.Behind m) → IsAt columns (f x) left found →
        IsLeft rest left list place → IsAt columns (flat_map f list) place found
    landed rest x more left found list place e never h whole = whole found (rw e (among_more (f x) (flat_map f more) left found never h))

    pub fallen : (rest : List X) (left : ℕ) (list : List X) (place : ℕ) → length rest ≡ 0 → IsLeft rest left list place → IsAt columns (flat_map f list) place (landing.Behind left)
    fallen [] left list place e whole = whole (landing.Behind left) (omega arith)
    fallen (x ∷ rest) left list place e whole = absurd (let never : ⊥ = omega (arith, e) in never)
