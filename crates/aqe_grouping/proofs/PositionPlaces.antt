-- The value at a position of a select list.
use Rattle.std.proofs.Common.{◌≡◌, ℕ, zero, suc, ◌+◌, ◌<◌, arith, get_or, take, Bool, true, false, List, [], ◌∷◌, ◌++◌, map, filter, length, cond, Option, Some, None, Result, Ok, Err, refl, ap, sym, subst, ◌∙◌}
use Rattle.std.specs.Prelude.{slice_get}
use Rattle.std.specs.Option.{unwrap_or}
use Rattle.std.proofs.lemmas.List.{take_more, map-append}
use Rattle.std.proofs.lemmas.Option.{slice_get_past}
use denote.Ref.{Bor}
use Rattle.aqe_base.specs.declared.status.AnalysisKind.TheVariants.{BadPosition}
use Rattle.aqe_trees.specs.declared.expression.OrTree.{OrTree}
use Rattle.aqe_trees.specs.declared.query.ItemTree.{ItemTree}
use Rattle.aqe_trees.specs.declared.query.ItemTree.TheVariants as tree
use Rattle.aqe_rules.specs.declared.fault.AnalysisFault.{AnalysisFault}
use Rattle.aqe_rules.specs.declared.names.Named.{Named}
use Rattle.aqe_rules.specs.declared.typed.Typed.{Typed}
use Rattle.aqe_rules.specs.Expressions.{read}
use Rattle.aqe_rules.specs.Faults.{Says, Fails, Tells}
use Rattle.aqe_rules.specs.Looks.{Alone, a_number, a_column, something}
use Rattle.aqe_rules.specs.Outcomes.{Check, Outcome, refused, upon, each}
use Rattle.aqe_rules.specs.Readings.{Place, is_of}
use Rattle.aqe_rules.specs.Selects.{Spread, column, spread, spread_value, nth, at_position, written, grouping_key}
use Rattle.aqe_rules.specs.Sources.{Item, over, columns_of}
use Rattle.aqe_rules.proofs.Steps.{memory_fails}
use Rattle.aqe_looks.specs.Numbers.{number_of}
use Rattle.aqe_typing.proofs.StepLemmas.{upon_fails}
use Rattle.aqe_typing.proofs.ListSteps.{each_behind}
use Rattle.aqe_sources.specs.Seen.{SaysSeen}
use Rattle.aqe_grouping.specs.declared.select_list.Landing.{Landing}
use Rattle.aqe_grouping.specs.declared.select_list.Landing.TheVariants as landing
use Rattle.aqe_grouping.specs.Places.{shown_values, item_values, list_values, IsAt, taken, from_0}
use Rattle.aqe_grouping.specs.Several.{with_next}
use Rattle.aqe_grouping.specs.Spreads.{spread_of, spreads_of}

-- a position as a place
pub no_negative : (negative : Bool) (n : ℕ) → negative ≡ true → None ≡ from_0 negative n
no_negative negative n e = rw e refl

pub no_zero : (negative : Bool) (n : ℕ) → negative ≡ false → n < 1 → None ≡ from_0 negative n
no_zero negative zero e lt = rw e refl
no_zero negative (suc n) e lt = absurd (let no : ⊥ = omega (arith, lt) in no)

pub one_less : (negative : Bool) (n m : ℕ) → negative ≡ false → m + 1 ≡ n → Some m ≡ from_0 negative n
one_less negative n m e h =
    let next : n ≡ suc m = omega (arith, h) in
    rw (e, next) refl

pub ruleset place_steps = (no_negative, no_zero, one_less)

-- what is found at a place
module _ (columns : List Named) (found : Landing) (all : List (Outcome Typed)) (place : ℕ) (check : Check) (h : IsAt columns all place found) where
  pub column_value : (c : Bor Named) (t : Typed) → found ≡ landing.Column c → t ≡ c.now.value → taken (slice_get all place) check ≡ Ok t
  column_value c t is e =
      let there : slice_get all place ≡ Some (Ok c.now.value) = rw is at h in
      rw (there, e) refl

  pub expression_value : (v : Bor OrTree) (r : Result Typed AnalysisFault) → found ≡ landing.Expression v → Says r (read v.now (over columns)).value → Says r (taken (slice_get all place) check)
  expression_value v r is s =
      let there : slice_get all place ≡ Some (read v.now (over columns)).value = rw is at h in
      rw there s

  pub nothing_there : (left : ℕ) (f : AnalysisFault) → found ≡ landing.Behind left → Tells f check → Fails f (taken (slice_get all place) check)
  nothing_there left f is t =
      let behind : place ≡ length all + left = rw is at h in
      let none : slice_get all place ≡ None = slice_get_past all place (omega (arith, behind)) in
      rw none t

pub ruleset value_steps = (memory_fails, column_value, expression_value, nothing_there)

-- the values of a spread list
module _ (columns : List Named) where
  abbrev value_of : Spread → Outcome Typed
  value_of s = spread_value (over columns) s

  of_columns : (cs : List Named) → map value_of (map column cs) ≡ shown_values tree.All cs
  of_columns [] = refl
  of_columns (c ∷ cs) = ap (λ (more : List (Outcome Typed)). Ok c.value ∷ more) (of_columns cs)

  of_named : (name : List ℕ) (cs : List Named) → map value_of (map column (filter (is_of name) cs)) ≡ shown_values (tree.AllOf name) cs
  of_named name [] = refl
  of_named name (c ∷ cs) =
      elim (is_of name c) as (λ b. map value_of (map column (cond b (c ∷ filter (is_of name) cs) (filter (is_of name) cs))) ≡ cond b (Ok c.value ∷ []) [] ++ shown_values (tree.AllOf name) cs) [
        | true ↦ ap (λ (more : List (Outcome Typed)). Ok c.value ∷ more) (of_named name cs)
        | false ↦ of_named name cs
      ]

  of_item : (item : ItemTree) → map value_of (spread_of columns item) ≡ item_values columns item
  of_item tree.All = of_columns columns
  of_item (tree.AllOf name) = of_named name columns
  of_item (tree.One value alias) = refl

  of_two : (xs ys : List Spread) → map value_of (xs ++ ys) ≡ map value_of xs ++ map value_of ys
  of_two [] ys = refl
  of_two (x ∷ xs) ys = ap (λ (more : List (Outcome Typed)). value_of x ∷ more) (of_two xs ys)

  of_list : (list : List ItemTree) → map value_of (spreads_of columns list) ≡ list_values columns list
  of_list [] = refl
  of_list (item ∷ list) = of_two (spread_of columns item) (spreads_of columns list) ∙ (λ i. of_item item i ++ of_list list i)

  at_place : (name : List ℕ) (n : ℕ) (all : List Spread) → upon (nth name (suc n) all) value_of ≡ taken (slice_get (map value_of all) n) (refused BadPosition name)
  at_place name n [] = refl
  at_place name zero (s ∷ all) = refl
  at_place name (suc n) (s ∷ all) = at_place name n all

  module _ (list : List ItemTree) (negative : Bool) (n : ℕ) (o : Option ℕ) (h : o ≡ from_0 negative n) where
    placed : (negative : Bool) (n place : ℕ) → from_0 negative n ≡ Some place → upon (at_position negative n (spreads_of columns list)) value_of ≡
        taken (slice_get (list_values columns list) place) (refused BadPosition (written negative n))
    placed true n place e = absurd (cc e)
    placed false zero place e = absurd (cc e)
    placed false (suc n) place e =
        let same : n ≡ place = cc e in
        at_place (written false (suc n)) n (spreads_of columns list) ∙ (λ i. taken (slice_get (of_list list i) (same i)) (refused BadPosition (written false (suc n))))

    unplaced : (negative : Bool) (n : ℕ) (all : List Spread) → from_0 negative n ≡ None → upon (at_position negative n all) value_of ≡ Err (refused BadPosition (written negative n))
    unplaced true n all e = refl
    unplaced false zero [] e = refl
    unplaced false zero (s ∷ all) e = refl
    unplaced false (suc n) all e = absurd (cc e)

    pub position_said : (place : ℕ) (found : Landing) (r : Result Typed AnalysisFault) → o ≡ Some place → IsAt columns (list_values columns list) place found →
        ((all : List (Outcome Typed)) (m : ℕ) → IsAt columns all m found → Says r (taken (slice_get all m) (refused BadPosition (written negative n)))) →
        Says r (upon (at_position negative n (spreads_of columns list)) (spread_value (over columns)))
    position_said place found r is at step = rw (placed negative n place (sym h ∙ is)) (step (list_values columns list) place at)

    pub no_position : (f : AnalysisFault) → o ≡ None → Tells f (refused BadPosition (written negative n)) → Fails f (upon (at_position negative n (spreads_of columns list)) (spread_value (over columns)))
    no_position f is t = rw (unplaced negative n (spreads_of columns list) (sym h ∙ is)) t

-- a position in a list whose stars may be refused
module _ (b : Bool) (items : List Item) (list : List ItemTree) (columns : List Named) (u : Result Unit AnalysisFault) (next : List Spread → Outcome Typed) (is : columns ≡ columns_of items)
    (h : SaysSeen (λ _. spreads_of (columns_of items) list) u (spread b items list)) where
  pub list_there : (unit : Unit {0}) (r : Result Typed AnalysisFault) → u ≡ Ok unit → Says r (next (spreads_of columns list)) → Says r (upon (spread b items list) next)
  list_there unit r e s =
      let there : spread b items list ≡ Ok (spreads_of (columns_of items) list) = rw e at h in
      rw (there, ← is) s

  pub list_refused : (f : AnalysisFault) → u ≡ Err f → Fails f (upon (spread b items list) next)
  list_refused f e = upon_fails f (spread b items list) next (rw e at h)

-- a number alone, and what is none
module _ (b : Bool) (items : List Item) (place : Place) (list : List ItemTree) (value : OrTree) where
  numbered : (alone : Alone) (negative : Bool) (n : ℕ) → number_of alone ≡ Some (negative, n) →
      grouping_key b items place list value alone ≡ upon (spread b items list) (λ all. upon (at_position negative n all) (spread_value (over place.columns)))
  numbered (a_number c m) negative n e =
      let both : (c, m) ≡ (negative, n) = ap (λ (x : Option (Bool × ℕ)). unwrap_or x (c, m)) e in
      let first : c ≡ negative = ap (λ (x : Bool × ℕ). x.0) both in
      let second : m ≡ n = ap (λ (x : Bool × ℕ). x.1) both in
      rw (first, second) refl
  numbered a_column negative n e = absurd (cc e)
  numbered something negative n e = absurd (cc e)

  unnumbered : (alone : Alone) → number_of alone ≡ None → grouping_key b items place list value alone ≡ (read value place).value
  unnumbered (a_number c m) e = absurd (cc e)
  unnumbered a_column e = refl
  unnumbered something e = refl

  module _ (alone : Alone) (o : Option (Bool × ℕ)) (r : Result Typed AnalysisFault) (h : o ≡ number_of alone) where
    pub number_said : (p : Bool × ℕ) → o ≡ Some p → Says r (upon (spread b items list) (λ all. upon (at_position p.0 p.1 all) (spread_value (over place.columns)))) →
        Says r (grouping_key b items place list value alone)
    number_said p is s = rw (numbered alone p.0 p.1 (sym h ∙ is)) s

    pub value_said : o ≡ None → Says r (read value place).value → Says r (grouping_key b items place list value alone)
    value_said is s = rw (unnumbered alone (sym h ∙ is)) s

pub ruleset key_steps = (list_refused, number_said, value_said)

-- one key more
module _ (f : OrTree → Outcome Typed) where
  pub keys_more : (group : List OrTree) (i : ℕ) (x : OrTree) (now : Result (List Typed) AnalysisFault) → i < length group → x ≡ get_or group i x →
      Says now (with_next (each (map f (take i group))) (f x)) → Says now (each (map f (take (i + 1) group)))
  keys_more group i x now below e h =
      let next : take (i + 1) group ≡ take i group ++ x ∷ [] = take_more group i x below ∙ ap (λ (y : OrTree). take i group ++ y ∷ []) (sym e) in
      let all : map f (take (i + 1) group) ≡ map f (take i group) ++ f x ∷ [] = ap (map f) next ∙ map-append f (take i group) (x ∷ []) in
      subst (λ (os : List (Outcome Typed)). Says now (each os)) (sym all) (subst (λ (o : Outcome (List Typed)). Says now o) (sym (each_behind (map f (take i group)) (f x))) h)
