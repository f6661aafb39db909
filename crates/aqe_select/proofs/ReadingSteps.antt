-- The clauses of a SELECT, one step at a time.
use Rattle.std.proofs.Common.{◌≡◌, Bool, List, [], Option, Some, None, Result, Ok, Err, refl, ap, sym, subst, ◌∙◌}
use Rattle.aqe_values.specs.declared.sql_type.SqlType.TheVariants as sql
use Rattle.aqe_expr.specs.declared.expr.Expr.{Expr}
use Rattle.aqe_logical.specs.declared.plan.Logical.{Logical}
use Rattle.aqe_trees.specs.declared.expression.OrTree.{OrTree}
use Rattle.aqe_rules.specs.declared.fault.AnalysisFault.{AnalysisFault}
use Rattle.aqe_rules.specs.declared.names.Named.{Named}
use Rattle.aqe_rules.specs.declared.typed.Typed.{Typed}
use Rattle.aqe_rules.specs.Analysis as analysis
use Rattle.aqe_rules.specs.Faults.{Says, Fails}
use Rattle.aqe_rules.specs.Operations.{typed}
use Rattle.aqe_rules.specs.Outcomes.{Outcome, upon}
use Rattle.aqe_rules.specs.Readings.{Place}
use Rattle.aqe_rules.specs.Selects.{at, built, with_aliases, outputs, grouping_keys, having_condition}
use Rattle.aqe_rules.specs.Sources.{columns_of, condition, kept}
use Rattle.aqe_rules.proofs.Steps.{memory_fails}
use Rattle.aqe_typing.specs.declared.calls.Call.{Call}
use Rattle.aqe_typing.specs.Calls.{calls_seen}
use Rattle.aqe_typing.proofs.StepLemmas.{upon_fails, first_fails, one_there}
use Rattle.aqe_sources.specs.Pairs.{both_of}
use Rattle.aqe_sources.specs.Seen.{items_seen, SaysSeen}
use Rattle.aqe_outputs.specs.declared.outputs.OutputColumn.{OutputColumn}
use Rattle.aqe_outputs.specs.declared.outputs.Shown.{Shown}
use Rattle.aqe_outputs.specs.Shown.{outputs_seen, outputs_of}
use Rattle.aqe_select.specs.declared.clauses.Clauses.{Clauses}
use Rattle.aqe_select.specs.declared.reading.Read.{Read}
use Rattle.aqe_select.specs.Clauses.{selected_over, parts_of}
use Rattle.aqe_select.specs.Reading.{Parts, having_of, read_seen, over_keys, read_of, with_keys, selected_of}

-- a condition, built over the groups
module _ (built : Typed → Outcome Typed) (place : Place) (tree : OrTree) (a : Result Expr AnalysisFault) (h : Says a (condition tree place)) where
  pub condition_fails : (f : AnalysisFault) → a ≡ Err f → Fails f (having_condition built place tree)
  condition_fails f e = first_fails (λ (x : Expr). built (typed x sql.Boolean)) a (condition tree place) f e h

  pub condition_built : (x : Expr) (r : Result Typed AnalysisFault) → a ≡ Ok x → Says r (built (typed x sql.Boolean)) → Says r (having_condition built place tree)
  condition_built x r e s = one_there (λ (x : Expr). built (typed x sql.Boolean)) a r (condition tree place) x e h s

pub ruleset condition_steps = (memory_fails, condition_fails, condition_built)

-- HAVING, where there is one
module _ (built : Typed → Outcome Typed) (place : Place) (having : Option OrTree) where
  pub having_fails : (tree : OrTree) (a : Result Typed AnalysisFault) (f : AnalysisFault) → having ≡ Some tree → Says a (having_condition built place tree) → a ≡ Err f → Fails f (having_of built place having)
  having_fails tree a f is h e = rw is (first_fails (λ (t : Typed). Ok (Some t)) a (having_condition built place tree) f e h)

  pub having_there : (tree : OrTree) (a : Result Typed AnalysisFault) (t : Typed) → having ≡ Some tree → Says a (having_condition built place tree) → a ≡ Ok t → having_of built place having ≡ Ok (Some t)
  having_there tree a t is h e =
      let there : having_condition built place tree ≡ Ok t = subst (λ (r : Result Typed AnalysisFault). Says r (having_condition built place tree)) e h in
      rw (is, there) refl

  pub no_having : having ≡ None → having_of built place having ≡ Ok None
  no_having is = rw is refl

pub ruleset having_steps = (memory_fails, having_fails, having_there, no_having)

-- the select list and HAVING over the keys
pub over_keys_say : (c : Clauses) (g : Bool) (s : Shown) (keys : List Typed) (a : Result (List OutputColumn) AnalysisFault) (b : Result (Option Typed) AnalysisFault) →
    SaysSeen outputs_seen a (outputs_of (built g keys s.columns) s c.list.now) →
    Says b (having_of (built g keys s.columns) (with_aliases s.columns c.list.now (calls_seen s.calls)) c.having.now) → SaysSeen read_seen (with_keys keys (both_of a b)) (over_keys c g s keys)
over_keys_say c g s keys (Ok os) (Ok having) h k = rw (h, k) refl
over_keys_say c g s keys (Ok os) (Err f) h k =
    rw h (upon_fails f (having_of (built g keys s.columns) (with_aliases s.columns c.list.now (calls_seen s.calls)) c.having.now) (λ having. Ok (keys, (outputs_seen os, having))) k)
over_keys_say c g s keys (Err f) b h k =
    upon_fails f (outputs_of (built g keys s.columns) s c.list.now) (λ outputs.
    upon (having_of (built g keys s.columns) (with_aliases s.columns c.list.now (calls_seen s.calls)) c.having.now) (λ having. Ok (keys, (outputs, having)))) h

-- the same, from what the calls say of slices
pub slices_say : (c : Clauses) (g : Bool) (s : Shown) (keys ks : List Typed) (cs ds : List Named) (calls : List Call) (a : Result (List OutputColumn) AnalysisFault) (b : Result (Option Typed) AnalysisFault) →
    ks ≡ keys → cs ≡ s.columns → ds ≡ s.columns → calls ≡ s.calls → SaysSeen outputs_seen a (outputs_of (built g ks cs) s c.list.now) →
    Says b (having_of (built g ks cs) (with_aliases ds c.list.now (calls_seen calls)) c.having.now) → SaysSeen read_seen (with_keys keys (both_of a b)) (over_keys c g s keys)
slices_say c g s keys ks cs ds calls a b d e f i h k =
    let shown_so : SaysSeen outputs_seen a (outputs_of (built g keys s.columns) s c.list.now) =
    subst (λ (xs : List Typed). SaysSeen outputs_seen a (outputs_of (built g xs s.columns) s c.list.now)) d
    (subst (λ (xs : List Named). SaysSeen outputs_seen a (outputs_of (built g ks xs) s c.list.now)) e h) in
    let over_keys_so : Says b (having_of (built g keys s.columns) (with_aliases ds c.list.now (calls_seen calls)) c.having.now) =
    subst (λ (xs : List Typed). Says b (having_of (built g xs s.columns) (with_aliases ds c.list.now (calls_seen calls)) c.having.now)) d
    (subst (λ (xs : List Named). Says b (having_of (built g ks xs) (with_aliases ds c.list.now (calls_seen calls)) c.having.now)) e k) in
    let having_so : Says b (having_of (built g keys s.columns) (with_aliases s.columns c.list.now (calls_seen s.calls)) c.having.now) =
    subst (λ (xs : List Named). Says b (having_of (built g keys s.columns) (with_aliases xs c.list.now (calls_seen s.calls)) c.having.now)) f
    (subst (λ (xs : List Call). Says b (having_of (built g keys s.columns) (with_aliases ds c.list.now (calls_seen xs)) c.having.now)) i over_keys_so) in
    over_keys_say c g s keys a b shown_so having_so

-- the keys of GROUP BY, and what is over them
module _ (c : Clauses) (g : Bool) (s : Shown) (e : s.columns ≡ columns_of (items_seen s.items)) (a : Result (List Typed) AnalysisFault)
    (h : Says a (grouping_keys s.has_from (items_seen s.items) (with_aliases (columns_of (items_seen s.items)) c.list.now []) c.list.now c.group.now)) where
  keys-say : Says a (grouping_keys s.has_from (items_seen s.items) (with_aliases s.columns c.list.now []) c.list.now c.group.now)
  keys-say = subst (λ (cs : List Named). Says a (grouping_keys s.has_from (items_seen s.items) (with_aliases cs c.list.now []) c.list.now c.group.now)) (sym e) h

  pub keys_fail : (f : AnalysisFault) → a ≡ Err f → Fails f (read_of c g s)
  keys_fail f is = first_fails (over_keys c g s) a (grouping_keys s.has_from (items_seen s.items) (with_aliases s.columns c.list.now []) c.list.now c.group.now) f is keys-say

  pub keys_there : (keys : List Typed) (r : Result Read AnalysisFault) → a ≡ Ok keys → SaysSeen read_seen r (over_keys c g s keys) → SaysSeen read_seen r (read_of c g s)
  keys_there keys r is said =
      let there : grouping_keys s.has_from (items_seen s.items) (with_aliases s.columns c.list.now []) c.list.now c.group.now ≡ Ok keys =
      subst (λ (x : Result (List Typed) AnalysisFault). Says x (grouping_keys s.has_from (items_seen s.items) (with_aliases s.columns c.list.now []) c.list.now c.group.now)) is keys-say in
      subst (λ (o : Outcome (List Typed)). SaysSeen read_seen r (upon o (over_keys c g s))) (sym there) said

pub ruleset keys_steps = (keys_fail, keys_there)

-- three steps, and what is made of their values at once or later
then-one : {C P T : Type 0} (o : Outcome C) (p : C → P) (q : P → T) → upon o (λ z. Ok (q (p z))) ≡ upon (upon o (λ z. Ok (p z))) (λ x. Ok (q x))
then-one (Ok z) p q = refl
then-one (Err check) p q = refl

then-two : {B C P T : Type 0} (o : Outcome B) (h : Outcome C) (p : B → C → P) (q : P → T) →
    upon o (λ y. upon h (λ z. Ok (q (p y z)))) ≡ upon (upon o (λ y. upon h (λ z. Ok (p y z)))) (λ x. Ok (q x))
then-two (Ok y) h p q = then-one h (p y) q
then-two (Err check) h p q = refl

then-three : {A B C P T : Type 0} (k : Outcome A) (o : A → Outcome B) (h : A → Outcome C) (p : A → B → C → P) (q : P → T) →
    upon k (λ x. upon (o x) (λ y. upon (h x) (λ z. Ok (q (p x y z))))) ≡ upon (upon k (λ x. upon (o x) (λ y. upon (h x) (λ z. Ok (p x y z))))) (λ x. Ok (q x))
then-three (Ok x) o h p q = then-two (o x) (h x) (p x) q
then-three (Err check) o h p q = refl

-- all of them
module _ (c : Clauses) (g : Bool) (s : Shown) (plan : Logical) where
  abbrev selected_at : Logical → Parts → analysis.Selected
  selected_at below p = record { below = below; columns = s.columns; is_grouped = g; keys = p.0; outputs = p.1.0; having = p.1.1; distinct = c.distinct }

  -- the walk over these columns of FROM
  abbrev walk_over : List Named → Outcome analysis.Selected
  walk_over columns =
      upon (kept c.filter.now (with_aliases columns c.list.now []) plan) (λ below.
      upon (grouping_keys s.has_from (items_seen s.items) (with_aliases columns c.list.now []) c.list.now c.group.now) (λ keys.
      upon (outputs (built g keys columns) s.has_from (items_seen s.items) (at columns (calls_seen s.calls)) 0 c.list.now) (λ os.
      upon (having_of (built g keys columns) (with_aliases columns c.list.now (calls_seen s.calls)) c.having.now) (λ having.
      Ok (record { below = below; columns = columns; is_grouped = g; keys = keys; outputs = os; having = having; distinct = c.distinct })))))

  abbrev in_steps : Outcome analysis.Selected
  in_steps = upon (kept c.filter.now (with_aliases s.columns c.list.now []) plan) (λ below. upon (read_of c g s) (λ p. Ok (selected_at below p)))

  behind-where : (below : Logical) →
      upon (grouping_keys s.has_from (items_seen s.items) (with_aliases s.columns c.list.now []) c.list.now c.group.now) (λ keys.
      upon (outputs_of (built g keys s.columns) s c.list.now) (λ os.
      upon (having_of (built g keys s.columns) (with_aliases s.columns c.list.now (calls_seen s.calls)) c.having.now) (λ having. Ok (selected_at below (keys, (os, having)))))) ≡
      upon (read_of c g s) (λ p. Ok (selected_at below p))
  behind-where below =
      then-three (grouping_keys s.has_from (items_seen s.items) (with_aliases s.columns c.list.now []) c.list.now c.group.now) (λ keys. outputs_of (built g keys s.columns) s c.list.now)
      (λ keys. having_of (built g keys s.columns) (with_aliases s.columns c.list.now (calls_seen s.calls)) c.having.now) (λ keys os having. (keys, (os, having))) (selected_at below)

  then-is : walk_over s.columns ≡ in_steps
  then-is = λ i. upon (kept c.filter.now (with_aliases s.columns c.list.now []) plan) (λ below. behind-where below i)

  steps-are : s.columns ≡ columns_of (items_seen s.items) → parts_of c g s plan ≡ in_steps
  steps-are e = ap walk_over (sym e) ∙ then-is

  both-say : (a : Result Logical AnalysisFault) (b : Result Read AnalysisFault) → Says a (kept c.filter.now (with_aliases s.columns c.list.now []) plan) → SaysSeen read_seen b (read_of c g s) →
      SaysSeen (selected_over s.columns) (selected_of c.distinct g (both_of a b)) in_steps
  both-say (Ok below) (Ok read) h k = rw (h, k) refl
  both-say (Ok below) (Err f) h k = rw h (upon_fails f (read_of c g s) (λ p. Ok (selected_at below p)) k)
  both-say (Err f) b h k = upon_fails f (kept c.filter.now (with_aliases s.columns c.list.now []) plan) (λ below. upon (read_of c g s) (λ p. Ok (selected_at below p))) h

  pub parts-say : s.columns ≡ columns_of (items_seen s.items) → (a : Result Logical AnalysisFault) (b : Result Read AnalysisFault) → Says a (kept c.filter.now (with_aliases s.columns c.list.now []) plan) →
      SaysSeen read_seen b (read_of c g s) → SaysSeen (selected_over s.columns) (selected_of c.distinct g (both_of a b)) (parts_of c g s plan)
  parts-say e a b h k = subst (λ (o : Outcome analysis.Selected). SaysSeen (selected_over s.columns) (selected_of c.distinct g (both_of a b)) o) (sym (steps-are e)) (both-say a b h k)
