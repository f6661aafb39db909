-- The output columns of a SELECT, one item more at a time.
use Rattle.std.proofs.Common.{◌≡◌, ℕ, suc, ◌+◌, Bool, true, false, ◌||◌, List, [], ◌∷◌, ◌++◌, map, fold, length, Option, Result, Ok, Err, refl, ap, sym, subst, ◌∙◌, append_assoc, append-nil, length-append}
use Rattle.std.specs.Prelude.{codes, MatchResult}
use Rattle.std.specs.List.{list_any}
use Rattle.aqe_base.specs.declared.status.AnalysisKind.TheVariants.{NoSuchColumn}
use Rattle.aqe_trees.specs.declared.expression.OrTree.{OrTree}
use Rattle.aqe_trees.specs.declared.query.ItemTree.{ItemTree}
use Rattle.aqe_trees.specs.declared.query.ItemTree.TheVariants as tree
use Rattle.aqe_rules.specs.declared.fault.AnalysisFault.{AnalysisFault}
use Rattle.aqe_rules.specs.declared.names.Named.{Named}
use Rattle.aqe_rules.specs.declared.typed.Typed.{Typed}
use Rattle.aqe_rules.specs.Expressions.{read}
use Rattle.aqe_rules.specs.Outcomes.{Check, refused, Outcome, upon, each}
use Rattle.aqe_rules.specs.Faults.{Says, Fails, Tells}
use Rattle.aqe_rules.specs.Readings.{Place}
use Rattle.aqe_rules.specs.Sources.{Item}
use Rattle.aqe_rules.specs.Selects.{Output, output, column_output, item_outputs, outputs, output_name}
use Rattle.aqe_rules.proofs.Steps.{memory_fails}
use Rattle.aqe_typing.proofs.StepLemmas.{upon_fails}
use Rattle.aqe_typing.proofs.ListSteps.{each_behind}
use Rattle.aqe_outputs.specs.declared.outputs.OutputColumn.{OutputColumn}
use Rattle.aqe_outputs.specs.declared.outputs.Shown.{Shown}
use Rattle.aqe_sources.specs.Given.{Gives}
use Rattle.aqe_sources.specs.Pairs.{both_of}
use Rattle.aqe_outputs.specs.Items.{behind, columns_shown, expression, with_all, with_all_of, with_one, with_item}
use Rattle.aqe_sources.specs.Seen.{items_seen, SaysSeen}
use Rattle.aqe_outputs.specs.Shown.{output_seen, outputs_seen, place_of, next_item}

-- one more behind those so far
one_behind : (before : List Output) (all : Outcome (List Output)) (o : Outcome Output) →
    behind before (upon all (λ ts. upon o (λ t. Ok (ts ++ t ∷ [])))) ≡ upon (behind before all) (λ ts. upon o (λ t. Ok (ts ++ t ∷ [])))
one_behind before (Ok ts) (Ok t) = ap (λ (os : List Output). Ok os) (sym (append_assoc before ts (t ∷ [])))
one_behind before (Ok ts) (Err check) = refl
one_behind before (Err check) o = refl

pub grown : (before : List Output) (os : List (Outcome Output)) (o : Outcome Output) → behind before (each (os ++ o ∷ [])) ≡ upon (behind before (each os)) (λ ts. upon o (λ t. Ok (ts ++ t ∷ [])))
grown before os o = ap (behind before) (each_behind os o) ∙ one_behind before (each os) o

push-seen : (cs : List OutputColumn) (c : OutputColumn) → outputs_seen (cs ++ c ∷ []) ≡ outputs_seen cs ++ output_seen c ∷ []
push-seen [] c = refl
push-seen (d ∷ cs) c = ap (λ (os : List Output). output_seen d ∷ os) (push-seen cs c)

one_pushed : (before : List Output) (os : List (Outcome Output)) (o : Outcome Output) (cs : List OutputColumn) (c : OutputColumn) (r : Result (List OutputColumn) AnalysisFault) →
    behind before (each os) ≡ Ok (outputs_seen cs) → o ≡ Ok (output_seen c) → Gives r (λ all. all ≡ cs ++ c ∷ []) → SaysSeen outputs_seen r (behind before (each (os ++ o ∷ [])))
one_pushed before os o cs c (Ok all) e h g = rw (grown before os o, e, h, g, push-seen cs c) refl
one_pushed before os o cs c (Err f) e h g = memory_fails f (behind before (each (os ++ o ∷ []))) g

-- one more behind those so far, where both are there, and where one is not
pub column_more : (before : List Output) (os : List (Outcome Output)) (o : Outcome Output) (a : Result (List OutputColumn) AnalysisFault) (b : Result OutputColumn AnalysisFault) (r : Result (List OutputColumn) AnalysisFault) →
    SaysSeen outputs_seen a (behind before (each os)) → SaysSeen output_seen b o → MatchResult (both_of a b) (λ p. Gives r (λ all. all ≡ p.0 ++ p.1 ∷ [])) (λ f. r ≡ Err f) →
    SaysSeen outputs_seen r (behind before (each (os ++ o ∷ [])))
column_more before os o (Ok cs) (Ok c) r h k g = one_pushed before os o cs c r h k g
column_more before os o (Ok cs) (Err f) r h k g = rw (g, grown before os o, h) (upon_fails f o (λ t. Ok (outputs_seen cs ++ t ∷ [])) k)
column_more before os o (Err f) b r h k g = rw (g, grown before os o) (upon_fails f (behind before (each os)) (λ ts. upon o (λ t. Ok (ts ++ t ∷ []))) h)

-- a column of FROM
module _ (built : Typed → Outcome Typed) (c : Named) where
  pub unbuilt : (r : Result Typed AnalysisFault) (v : Typed) (f : AnalysisFault) → r ≡ Err f → v ≡ c.value → Says r (built v) → Fails f (column_output built c)
  unbuilt r v f e is h =
      let fails : Fails f (built v) = subst (λ (x : Result Typed AnalysisFault). Says x (built v)) e h in
      upon_fails f (built c.value) (λ value. Ok (output c.name value)) (subst (λ (w : Typed). Fails f (built w)) is fails)

  pub column_built : (r : Result Typed AnalysisFault) (v made : Typed) (o : OutputColumn) → r ≡ Ok made → v ≡ c.value → Says r (built v) → output_seen o ≡ output c.name made → column_output built c ≡ Ok (output_seen o)
  column_built r v made o e is h k =
      let there : built v ≡ Ok made = subst (λ (x : Result Typed AnalysisFault). Says x (built v)) e h in
      let here : built c.value ≡ Ok made = subst (λ (w : Typed). built w ≡ Ok made) is there in
      rw (here, k) refl

pub ruleset column_steps = (memory_fails, unbuilt, column_built)

-- an expression
module _ (built : Typed → Outcome Typed) (place : Place) (n : ℕ) (value : OrTree) (alias : Option (List ℕ)) where
  pub meaning_fails : (r : Result Typed AnalysisFault) (f : AnalysisFault) → r ≡ Err f → Says r (read value place).value → Fails f (expression built place n value alias)
  meaning_fails r f e h =
      upon_fails f (read value place).value (λ meaning. upon (built meaning) (λ made. Ok (output (output_name place.columns n alias value meaning) made)))
      (subst (λ (x : Result Typed AnalysisFault). Says x (read value place).value) e h)

  pub building_fails : (r b : Result Typed AnalysisFault) (m : Typed) (f : AnalysisFault) → r ≡ Ok m → b ≡ Err f → Says r (read value place).value → Says b (built m) → Fails f (expression built place n value alias)
  building_fails r b m f d e h k =
      let is : (read value place).value ≡ Ok m = subst (λ (x : Result Typed AnalysisFault). Says x (read value place).value) d h in
      rw is (upon_fails f (built m) (λ made. Ok (output (output_name place.columns n alias value m) made)) (subst (λ (x : Result Typed AnalysisFault). Says x (built m)) e k))

  pub expression_built : (r b : Result Typed AnalysisFault) (m v : Typed) (name : List ℕ) → r ≡ Ok m → b ≡ Ok v → Says r (read value place).value → Says b (built m) → name ≡ output_name place.columns n alias value m →
      expression built place n value alias ≡ Ok (output name v)
  expression_built r b m v name d e h k l =
      let is : (read value place).value ≡ Ok m = subst (λ (x : Result Typed AnalysisFault). Says x (read value place).value) d h in
      let made : built m ≡ Ok v = subst (λ (x : Result Typed AnalysisFault). Says x (built m)) e k in
      rw (is, made, l) refl

pub ruleset expression_steps = (memory_fails, meaning_fails, building_fails, expression_built)

-- `*`, where there is a FROM and where there is none
pub no_columns : (built : Typed → Outcome Typed) (b : Bool) (columns : List Named) (before : List Output) (f : AnalysisFault) → b ≡ false → Tells f (refused NoSuchColumn (codes "*")) → Fails f (with_all built b columns before)
no_columns built b columns before f e t = rw e t

pub all_there : (built : Typed → Outcome Typed) (b : Bool) (columns : List Named) (before : List Output) (r : Result (List OutputColumn) AnalysisFault) → b ≡ true →
    SaysSeen outputs_seen r (behind before (columns_shown built columns)) → SaysSeen outputs_seen r (with_all built b columns before)
all_there built b columns before r e s = rw e s

pub ruleset all_steps = (memory_fails, no_columns, all_there)

-- a test of the items as they are seen
pub any-seen : {A B : Type 0} (p : B → Bool) (f : A → B) (xs : List A) → list_any p (map f xs) ≡ list_any (λ x. p (f x)) xs
any-seen p f [] = refl
any-seen p f (x ∷ xs) = ap (λ b. p (f x) || b) (any-seen p f xs)

-- the columns so far, before any more
pub nothing_behind : (before : List Output) → behind before (each []) ≡ Ok before
nothing_behind before = ap (λ (os : List Output). Ok os) (append-nil before)

pub one_said : (built : Typed → Outcome Typed) (place : Place) (value : OrTree) (alias : Option (List ℕ)) (before : List Output) (r : Result (List OutputColumn) AnalysisFault) →
    SaysSeen outputs_seen r (behind before (each ([] ++ expression built place (length before) value alias ∷ []))) → SaysSeen outputs_seen r (with_one built place value alias before)
one_said built place value alias before r h = h

-- each item of the list
module _ (built : Typed → Outcome Typed) (s : Shown) (before : List Output) (item : ItemTree) (r : Result (List OutputColumn) AnalysisFault) where
  pub all_said : item ≡ tree.All → SaysSeen outputs_seen r (with_all built s.has_from s.columns before) → SaysSeen outputs_seen r (next_item built s (Ok before) item)
  all_said e h = rw e h

  pub all_of_said : (name : List ℕ) → item ≡ tree.AllOf name → SaysSeen outputs_seen r (with_all_of built name (items_seen s.items) before) → SaysSeen outputs_seen r (next_item built s (Ok before) item)
  all_of_said name e h = rw e h

  alone : (o : Outcome Typed) (h : Typed → Output) → upon (upon o (λ x. Ok (h x))) (λ y. Ok (y ∷ [])) ≡ upon o (λ x. Ok (h x ∷ []))
  alone (Ok x) h = refl
  alone (Err check) h = refl

  listed : (o : Outcome Typed) (g : Typed → Outcome Typed) (h : Typed → Typed → Output) → upon (upon o (λ m. upon (g m) (λ x. Ok (h m x)))) (λ y. Ok (y ∷ [])) ≡ upon o (λ m. upon (g m) (λ x. Ok (h m x ∷ [])))
  listed (Ok m) g h = alone (g m) (h m)
  listed (Err check) g h = refl

  pub expression_said : (value : OrTree) (alias : Option (List ℕ)) → item ≡ tree.One value alias → SaysSeen outputs_seen r (with_one built (place_of s) value alias before) →
      SaysSeen outputs_seen r (next_item built s (Ok before) item)
  expression_said value alias e h =
      rw e (subst (λ (o : Outcome (List Output)). SaysSeen outputs_seen r (behind before o))
      (listed (read value (place_of s)).value built (λ m x. output (output_name s.columns (length before) alias value m) x)) h)

pub ruleset item_steps = (all_said, all_of_said, expression_said)

module _ (built : Typed → Outcome Typed) (has_from : Bool) (items : List Item) (place : Place) where
  refused-stays : (check : Check) (list : List ItemTree) → fold (with_item built has_from items place) (Err check) list ≡ Err check
  refused-stays check [] = refl
  refused-stays check (item ∷ list) = refused-stays check list

  put-behind : (before first : List Output) (o : Outcome (List Output)) → behind (before ++ first) o ≡ behind before (upon o (λ more. Ok (first ++ more)))
  put-behind before first (Ok more) = ap (λ (os : List Output). Ok os) (append_assoc before first more)
  put-behind before first (Err check) = refl

  items-behind : (before : List Output) (list : List ItemTree) → fold (with_item built has_from items place) (Ok before) list ≡ behind before (outputs built has_from items place (length before) list)
  items-behind before [] = ap (λ (os : List Output). Ok os) (sym (append-nil before))
  items-behind before (item ∷ list) =
      elim (item_outputs built has_from items place (length before) item) as (λ o. fold (with_item built has_from items place) (behind before o) list ≡
      behind before (upon o (λ first. upon (outputs built has_from items place (length before + length first) list) (λ more. Ok (first ++ more))))) [
        | Ok first ↦
            items-behind (before ++ first) list ∙
            ap (λ n. behind (before ++ first) (outputs built has_from items place n list)) (length-append before first) ∙
            put-behind before first (outputs built has_from items place (length before + length first) list)
        | Err check ↦ refused-stays check list
      ]

  as-they-are : (o : Outcome (List Output)) → behind [] o ≡ o
  as-they-are (Ok more) = refl
  as-they-are (Err check) = refl

  -- the whole list
  pub items-all : (list : List ItemTree) → fold (with_item built has_from items place) (Ok []) list ≡ outputs built has_from items place 0 list
  items-all list = items-behind [] list ∙ as-they-are (outputs built has_from items place 0 list)

pub seen-length : (cs : List OutputColumn) → length (outputs_seen cs) ≡ length cs
seen-length [] = refl
seen-length (c ∷ cs) = ap suc (seen-length cs)
