use Rattle.std.proofs.Common.{◌∙◌, ◌++◌, [], List, refl, subst}
use Rattle.std.specs.Prelude.{flat_map}
use Rattle.aqe_rules.specs.Selects as spec
use Rattle.aqe_rules.specs.Selects.{with_aliases}
use Rattle.aqe_rules.specs.Sources.{over}
use Rattle.aqe_typing.specs.declared.calls.Call.{Call}
use Rattle.aqe_calls.specs.Added.{Added}
use Rattle.aqe_calls.proofs.AddedSteps.{then_added}
use Rattle.aqe_calls.proofs.Once.{collected_once}
use Rattle.aqe_calls.proofs.query.calls_of.Goals as goal

pub returns : goal.returns
returns c =
    let p = over c.args.columns.now in
    let q = with_aliases c.args.columns.now c.args.list.now [] in
    let a = flat_map (spec.calls_of_item p) c.args.list.now in
    let b = spec.calls_of_having q c.args.having.now in
    let d = spec.calls_of_sorts p c.args.sorts.now in
    let first : Added [] c.items.new.calls a = subst (λ (l : List Call). Added l c.items.new.calls a) c.new-calls.ensures c.in_ok-items.ensures in
    let second : Added [] c.condition.new.calls (a ++ b) = then_added [] c.items.new.calls c.condition.new.calls a b (a ++ b) refl first c.in_ok-condition.ensures in
    then_added [] c.condition.new.calls c.keys.new.calls (a ++ b) d (a ++ b ++ d) refl second c.in_ok-keys.ensures ∙ collected_once (a ++ b ++ d)
