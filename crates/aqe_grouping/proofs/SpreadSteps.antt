-- The stars of a select list, one item after the other.
use Rattle.std.proofs.Common.{◌≡◌, arith, length, ℕ, Bool, true, false, ◌||◌, List, [], ◌∷◌, ◌++◌, map, flat_map, filter, Option, Result, Ok, Err, refl, ap, sym, ◌∙◌}
use Rattle.std.specs.Prelude.{codes}
use Rattle.std.specs.List.{list_any}
use Rattle.aqe_base.specs.declared.status.AnalysisKind.TheVariants.{NoSuchTable, NoSuchColumn}
use Rattle.aqe_trees.specs.declared.expression.OrTree.{OrTree}
use Rattle.aqe_trees.specs.declared.query.ItemTree.{ItemTree}
use Rattle.aqe_trees.specs.declared.query.ItemTree.TheVariants as tree
use Rattle.aqe_rules.specs.declared.fault.AnalysisFault.{AnalysisFault}
use Rattle.aqe_rules.specs.declared.names.Named.{Named}
use Rattle.aqe_rules.specs.Faults.{Fails, Tells}
use Rattle.aqe_rules.specs.Outcomes.{Outcome, refused, upon, each}
use Rattle.aqe_rules.specs.Readings.{is_of}
use Rattle.aqe_rules.specs.Selects.{Spread, column, all_columns, is_named, columns_of_all, spread_item, spread}
use Rattle.aqe_rules.specs.Sources.{Item, columns_of}
use Rattle.aqe_typing.proofs.StepLemmas.{upon_fails}
use Rattle.aqe_sources.specs.declared.scope.FromItem.{FromItem}
use Rattle.aqe_sources.specs.Seen.{item_seen, items_seen, SaysSeen}
use Rattle.aqe_grouping.specs.Spreads.{spread_of, spreads_of}

-- `*`, with a FROM and without
pub columns_there : (b : Bool) (columns : List Named) → b ≡ true → all_columns b columns ≡ Ok columns
columns_there b columns e = rw e refl

pub no_columns : (b : Bool) (columns : List Named) (f : AnalysisFault) → b ≡ false → Tells f (refused NoSuchColumn (codes "*")) → Fails f (all_columns b columns)
no_columns b columns f e t = rw e t

-- a test of the items as they are seen
any_seen : {A B : Type 0} (p : B → Bool) (f : A → B) (xs : List A) → list_any p (map f xs) ≡ list_any (λ x. p (f x)) xs
any_seen p f [] = refl
any_seen p f (x ∷ xs) = ap (λ b. p (f x) || b) (any_seen p f xs)

-- `t.*`, with an item of the name and without
module _ (name : List ℕ) (items : List FromItem) (b : Bool) (h : b ≡ list_any (λ item. is_named name (item_seen item)) items) where
  named : list_any (is_named name) (items_seen items) ≡ b
  named = any_seen (is_named name) item_seen items ∙ sym h

  pub items_there : b ≡ true → columns_of_all name (items_seen items) ≡ Ok (filter (is_of name) (columns_of (items_seen items)))
  items_there e = rw (named, e) refl

  pub no_items : (f : AnalysisFault) → b ≡ false → Tells f (refused NoSuchTable name) → Fails f (columns_of_all name (items_seen items))
  no_items f e t = rw (named, e) t

pub ruleset star_steps = (columns_there, no_columns, items_there, no_items)

-- each item
columns_spread : (columns : List Named) (o : Outcome (List Named)) (r : Result Unit AnalysisFault) → SaysSeen (λ _. columns) r o → SaysSeen (λ _. map column columns) r (upon o (λ cs. Ok (map column cs)))
columns_spread columns o (Ok u) h = rw h refl
columns_spread columns o (Err f) h = upon_fails f o (λ cs. Ok (map column cs)) h

module _ (b : Bool) (items : List Item) (item : ItemTree) (r : Result Unit AnalysisFault) where
  pub all_spread : item ≡ tree.All → ((columns : List Named) → SaysSeen (λ _. columns) r (all_columns b columns)) → SaysSeen (λ _. spread_of (columns_of items) item) r (spread_item b items item)
  all_spread e h = rw e (columns_spread (columns_of items) (all_columns b (columns_of items)) r (h (columns_of items)))

  pub all_of_spread : (name : List ℕ) → item ≡ tree.AllOf name → SaysSeen (λ _. filter (is_of name) (columns_of items)) r (columns_of_all name items) →
      SaysSeen (λ _. spread_of (columns_of items) item) r (spread_item b items item)
  all_of_spread name e h = rw e (columns_spread (filter (is_of name) (columns_of items)) (columns_of_all name items) r h)

pub one_spread : (b : Bool) (items : List Item) (item : ItemTree) (value : OrTree) (alias : Option (List ℕ)) → item ≡ tree.One value alias → spread_item b items item ≡ Ok (spread_of (columns_of items) item)
one_spread b items item value alias e = rw e refl

pub ruleset item_steps = (all_spread, all_of_spread, one_spread)

-- the whole list, from an item on
module _ (b : Bool) (items : List Item) where
  abbrev of_item : ItemTree → Outcome (List Spread)
  of_item item = spread_item b items item

  abbrev pub EachSpread : Result Unit AnalysisFault → List ItemTree → Type 0
  EachSpread r list = SaysSeen (λ _. map (spread_of (columns_of items)) list) r (each (map of_item list))

  -- what is said of the items that are left is said of the whole list
  abbrev pub IsLeft : List ItemTree → List ItemTree → Type 0
  IsLeft rest list = (r : Result Unit AnalysisFault) → EachSpread r rest → EachSpread r list

  joined : (list : List ItemTree) → flat_map (λ s. s) (map (spread_of (columns_of items)) list) ≡ spreads_of (columns_of items) list
  joined [] = refl
  joined (item ∷ list) = ap (λ (more : List Spread). spread_of (columns_of items) item ++ more) (joined list)

  whole : (list : List ItemTree) (r : Result Unit AnalysisFault) → EachSpread r list → SaysSeen (λ _. spreads_of (columns_of items) list) r (spread b items list)
  whole list (Ok u) h = rw h (ap (λ (all : List Spread). Ok all) (joined list))
  whole list (Err f) h = upon_fails f (each (map of_item list)) (λ all. Ok (flat_map (λ s. s) all)) h

  pub all_passed : (rest list : List ItemTree) → length rest ≡ 0 → IsLeft rest list → spread b items list ≡ Ok (spreads_of (columns_of items) list)
  all_passed [] list e left = whole list (Ok tt) (left (Ok tt) refl)
  all_passed (item ∷ rest) list e left = absurd (let never : ⊥ = omega (arith, e) in never)
