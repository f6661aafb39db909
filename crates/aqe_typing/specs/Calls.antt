-- Aggregate calls as the rules see them, and what calls come to.
use Rattle.std.specs.Prelude.{ℕ, Bool, List, [], map, Option, Some, None}
use Rattle.aqe_logical.specs.declared.plan.AggFun.{AggFun}
use Rattle.aqe_rules.specs.declared.typed.Typed.{Typed}
use Rattle.aqe_rules.specs.Outcomes.{Outcome, upon, provided}
use Rattle.aqe_rules.specs.Operations as operation
use Rattle.aqe_rules.specs.Readings as rules
use Rattle.aqe_rules.specs.Readings.{Place, within_call, the_argument, function_value, takes, same_call, call_of, value_of_call}
use Rattle.aqe_typing.specs.declared.calls.Call.{Call}

abbrev pub call_seen : Call → rules.Call
call_seen c = record { call = c.call; kind = c.kind }

abbrev pub calls_seen : List Call → List rules.Call
calls_seen calls = map call_seen calls

-- whether a call is this one, whatever the type of its values
abbrev pub is_call : Call → Call → Bool
is_call call other = same_call other.call call.call

-- a place where these aggregate calls may stand, and no others
abbrev pub at_calls : Place → List Call → Place
at_calls place calls = record { columns = place.columns; aliases = place.aliases; calls = calls_seen calls }

-- no aggregate call may stand in the argument of one; the arguments of another function stand where it does
abbrev pub arguments_at : Option AggFun → Place → Place
arguments_at (Some fun) place = within_call place
arguments_at None place = place

abbrev pub calls_within : Option AggFun → List Call → List Call
calls_within (Some fun) calls = []
calls_within None calls = calls

-- an aggregate call of this argument: its value is at its place among the calls that may stand here, behind n columns
abbrev pub aggregate_call : List ℕ → AggFun → ℕ → List rules.Call → Typed → Outcome Typed
aggregate_call name fun n calls a = provided (takes fun a.kind) operation.mismatch (value_of_call name (call_of fun a) n calls)

-- a call, by the aggregate function that its name is and by what its arguments come to
abbrev pub called : List ℕ → Option AggFun → ℕ → List rules.Call → Outcome (List Typed) → Outcome Typed
called name (Some fun) n calls arguments = upon (upon arguments (the_argument name)) (aggregate_call name fun n calls)
called name None n calls arguments = upon arguments (function_value name)

abbrev pub length_call : List ℕ → List Typed → Outcome Typed
length_call name arguments = upon (the_argument name arguments) operation.length_of
