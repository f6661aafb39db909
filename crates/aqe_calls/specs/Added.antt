-- Aggregate calls that are collected, equal ones once.
use Rattle.std.specs.Prelude.{◌≡◌, cond, List, [], ◌∷◌, ◌++◌, Option, Some, None}
use Rattle.std.specs.List.{list_any}
use Rattle.aqe_rules.specs.Readings.{Call, same_call}
use Rattle.aqe_typing.specs.declared.calls.Call as typing
use Rattle.aqe_typing.specs.Calls.{call_seen, calls_seen}

-- a call behind those that are there, unless one of them equals it; and several in order
abbrev pub with_call : List Call → Call → List Call
with_call calls call = cond (list_any (λ other. same_call other.call call.call) calls) calls (calls ++ call ∷ [])

abbrev pub with_calls : List Call → List Call → List Call
with_calls calls [] = calls
with_calls calls (call ∷ more) = with_calls (with_call calls call) more

-- a call or none
abbrev pub seen_if_any : Option typing.Call → List Call
seen_if_any None = []
seen_if_any (Some call) = call_seen call ∷ []

-- what was collected before, with some calls more, is what is collected now
abbrev pub Added : List typing.Call → List typing.Call → List Call → Type 0
Added before now calls = calls_seen now ≡ with_calls (calls_seen before) calls
