-- Calls, as the code takes them.
use Rattle.std.proofs.Common.{◌≡◌, ◌<◌, ◌+◌, ℕ, true, false, cond, List, [], ◌∷◌, ◌++◌, length, Option, Some, None, Result, Ok, Err, refl, ap, sym, subst, ◌∙◌, arith, codes}
use Rattle.std.specs.Prelude.{Vec, position}
use Rattle.std.specs.List.{position_from}
use Rattle.std.proofs.lemmas.Iterator.Adapters.{position_from-zero}
use Rattle.aqe_expr.specs.declared.expr.Expr.{Column}
use Rattle.aqe_base.specs.declared.status.AnalysisKind.TheVariants.{NoSuchColumn, NestedAggregate}
use Rattle.aqe_logical.specs.declared.plan.AggFun.{AggFun}
use Rattle.aqe_rules.specs.declared.fault.AnalysisFault.{AnalysisFault}
use Rattle.aqe_rules.specs.declared.typed.Typed.{Typed}
use Rattle.aqe_rules.specs.Outcomes.{Outcome, refused, upon}
use Rattle.aqe_rules.specs.Operations as operation
use Rattle.aqe_rules.specs.Operations.{typed}
use Rattle.aqe_rules.specs.Readings as rules
use Rattle.aqe_rules.specs.Readings.{alike, the_argument, function_value, takes, value_of_call}
use Rattle.aqe_rules.specs.Faults.{Says, Fails, Tells}
use Rattle.aqe_rules.proofs.Steps.{memory_fails}
use Rattle.aqe_typing.specs.declared.calls.Call.{Call}
use Rattle.aqe_typing.specs.Calls.{call_seen, calls_seen, is_call, aggregate_call, called, length_call}
use Rattle.aqe_typing.specs.Values.{SaysAll}
use Rattle.aqe_typing.proofs.StepLemmas.{upon_fails}

-- one argument
pub no_argument : (name : List ℕ) (xs : List Typed) (f : AnalysisFault) → length xs ≡ 0 → Tells f (refused NoSuchColumn name) → Fails f (the_argument name xs)
no_argument name [] f h t = t
no_argument name (x ∷ xs) f h t = absurd (omega (arith, h))

pub several_arguments : (name : List ℕ) (xs : List Typed) (f : AnalysisFault) → 1 < length xs → Tells f (refused NoSuchColumn name) → Fails f (the_argument name xs)
several_arguments name [] f h t = absurd (omega (arith, h))
several_arguments name (x ∷ []) f h t = absurd (omega (arith, h))
several_arguments name (x ∷ y ∷ xs) f h t = t

pub only_argument : (name : List ℕ) (xs rest : List Typed) (a : Typed) → xs ≡ rest ++ a ∷ [] → length rest ≡ 0 → the_argument name xs ≡ Ok a
only_argument name xs [] a h e = ap (the_argument name) h
only_argument name xs (b ∷ rest) a h e = absurd (omega (arith, e))

-- functions that are no aggregate functions
pub nothing_given : (name : List ℕ) (xs : List Typed) (f : AnalysisFault) → length xs ≡ 0 → Tells f (refused NoSuchColumn name) → Fails f (function_value name xs)
nothing_given name [] f h t = t
nothing_given name (x ∷ xs) f h t = absurd (omega (arith, h))

pub is_coalesce : (name : List ℕ) (xs : List Typed) (r : Result Typed AnalysisFault) → 0 < length xs → alike name (codes "coalesce") ≡ true → Says r (operation.coalesce xs) → Says r (function_value name xs)
is_coalesce name [] r h e s = absurd (omega (arith, h))
is_coalesce name (x ∷ xs) r h e s = rw e s

pub is_length : (name : List ℕ) (xs : List Typed) (r : Result Typed AnalysisFault) → 0 < length xs → alike name (codes "coalesce") ≡ false → alike name (codes "length") ≡ true →
    Says r (length_call name xs) → Says r (function_value name xs)
is_length name [] r h d e s = absurd (omega (arith, h))
is_length name (x ∷ xs) r h d e s = rw (d, e) s

pub is_no_function : (name : List ℕ) (xs : List Typed) (f : AnalysisFault) → 0 < length xs → alike name (codes "coalesce") ≡ false → alike name (codes "length") ≡ false →
    Tells f (refused NoSuchColumn name) → Fails f (function_value name xs)
is_no_function name [] f h d e t = absurd (omega (arith, h))
is_no_function name (x ∷ xs) f h d e t = rw (d, e) t

-- the place of a call among those that may stand here
nowhere : (name : List ℕ) (call : Call) (calls : List Call) (n k : ℕ) → position_from (is_call call) k calls ≡ None → value_of_call name (call_seen call) n (calls_seen calls) ≡ Err (refused NestedAggregate name)
nowhere name call [] n k e = refl
nowhere name call (c ∷ cs) n k e =
    elim (is_call call c) as (λ b. cond b (Some k) (position_from (is_call call) (k + 1) cs) ≡ None →
    cond b (Ok (typed (Column n) call.kind)) (value_of_call name (call_seen call) (n + 1) (calls_seen cs)) ≡ Err (refused NestedAggregate name))
    [ true ↦ λ h. absurd (cc) | false ↦ λ h. nowhere name call cs (n + 1) (k + 1) h ] e

somewhere : (name : List ℕ) (call : Call) (calls : List Call) (n k i : ℕ) → position_from (is_call call) k calls ≡ Some i → value_of_call name (call_seen call) (n + k) (calls_seen calls) ≡ Ok (typed (Column (n + i)) call.kind)
somewhere name call [] n k i e = absurd (cc)
somewhere name call (c ∷ cs) n k i e =
    elim (is_call call c) as (λ b. cond b (Some k) (position_from (is_call call) (k + 1) cs) ≡ Some i →
    cond b (Ok (typed (Column (n + k)) call.kind)) (value_of_call name (call_seen call) (n + k + 1) (calls_seen cs)) ≡ Ok (typed (Column (n + i)) call.kind)) [
      | true ↦ λ h. let same : k ≡ i = cc in ap (λ (m : ℕ). Ok (typed (Column (n + m)) call.kind)) same
      | false ↦ λ h. let next : n + k + 1 ≡ n + (k + 1) = omega arith in rw next (somewhere name call cs n (k + 1) i h)
    ] e

pub no_place : (name : List ℕ) (call : Call) (calls : List Call) (n : ℕ) (f : AnalysisFault) → position (is_call call) calls ≡ None → Tells f (refused NestedAggregate name) →
    Fails f (value_of_call name (call_seen call) n (calls_seen calls))
no_place name call calls n f e t = rw (nowhere name call calls n 0 (sym (position_from-zero (is_call call) calls) ∙ e)) t

pub at_place : (name : List ℕ) (call : Call) (calls : List Call) (n i : ℕ) (v : Typed) → position (is_call call) calls ≡ Some i → v ≡ typed (Column (n + i)) call.kind →
    value_of_call name (call_seen call) n (calls_seen calls) ≡ Ok v
at_place name call calls n i v e h =
    let here : n + 0 ≡ n = omega arith in
    let found : value_of_call name (call_seen call) (n + 0) (calls_seen calls) ≡ Ok (typed (Column (n + i)) call.kind) = somewhere name call calls n 0 i (sym (position_from-zero (is_call call) calls) ∙ e) in
    subst (λ (m : ℕ). value_of_call name (call_seen call) m (calls_seen calls) ≡ Ok (typed (Column (n + i)) call.kind)) here found ∙ ap (λ (t : Typed). Ok t) (sym h)

-- aggregate functions
pub is_mismatched : (name : List ℕ) (fun : AggFun) (n : ℕ) (calls : List rules.Call) (a : Typed) (f : AnalysisFault) → takes fun a.kind ≡ false → Tells f operation.mismatch → Fails f (aggregate_call name fun n calls a)
is_mismatched name fun n calls a f e t = rw e t

pub is_taken : (name : List ℕ) (fun : AggFun) (n : ℕ) (calls : List rules.Call) (a : Typed) (c : Call) (r : Result Typed AnalysisFault) → takes fun a.kind ≡ true → call_seen c ≡ rules.call_of fun a →
    Says r (value_of_call name (call_seen c) n calls) → Says r (aggregate_call name fun n calls a)
is_taken name fun n calls a c r e h s = rw e (subst (λ (k : rules.Call). Says r (value_of_call name k n calls)) h s)

-- a call, where its arguments have values and where one has none
module _ {Z : Type 0} (name : List ℕ) (n : ℕ) (calls : List rules.Call) (b : Result (Vec Typed Z) AnalysisFault) (p : Outcome (List Typed)) where
  arguments_fail_by : (fun : Option AggFun) (f : AnalysisFault) → Fails f p → Fails f (called name fun n calls p)
  arguments_fail_by (Some fun) f h = upon_fails f (upon p (the_argument name)) (aggregate_call name fun n calls) (upon_fails f p (the_argument name) h)
  arguments_fail_by None f h = upon_fails f p (function_value name) h

  pub arguments_fail : (fun : Option AggFun) (f : AnalysisFault) → b ≡ Err f → SaysAll b p → Fails f (called name fun n calls p)
  arguments_fail fun f e h = arguments_fail_by fun f (subst (λ (r : Result (Vec Typed Z) AnalysisFault). SaysAll r p) e h)

  pub aggregate_there : (asked : Option AggFun) (fun : AggFun) (v : Vec Typed Z) (r : Result Typed AnalysisFault) → b ≡ Ok v → SaysAll b p → asked ≡ Some fun →
      Says r (upon (the_argument name v.items) (aggregate_call name fun n calls)) → Says r (called name asked n calls p)
  aggregate_there asked fun v r d h g s =
      let are : p ≡ Ok v.items = subst (λ (r : Result (Vec Typed Z) AnalysisFault). SaysAll r p) d h in
      rw (g, are) s

  pub function_there : (asked : Option AggFun) (v : Vec Typed Z) (r : Result Typed AnalysisFault) → b ≡ Ok v → SaysAll b p → asked ≡ None → Says r (function_value name v.items) → Says r (called name asked n calls p)
  function_there asked v r d h g s =
      let are : p ≡ Ok v.items = subst (λ (r : Result (Vec Typed Z) AnalysisFault). SaysAll r p) d h in
      rw (g, are) s

pub ruleset argument_steps = (memory_fails, no_argument, several_arguments, only_argument)

pub ruleset function_steps = (memory_fails, nothing_given, is_coalesce, is_length, is_no_function)

pub ruleset value_steps = (memory_fails, no_place, at_place)

pub ruleset aggregate_steps = (is_mismatched, is_taken)

pub ruleset call_steps = (memory_fails, arguments_fail, aggregate_there, function_there)
