use Rattle.std.proofs.Common.{List, subst}
use Rattle.aqe_rules.specs.Faults.{Says}
use Rattle.aqe_rules.specs.Sources.{from_of}
use Rattle.aqe_sources.specs.declared.scope.FromItem.{FromItem}
use Rattle.aqe_sources.specs.Seen.{items_seen}
use Rattle.aqe_select.specs.Clauses.{select_of}
use Rattle.aqe_select.proofs.one_select.select_over.Goals as goal

pub returns-in-Ok : goal.returns-in-Ok
returns-in-Ok c =
    subst (λ (items : List FromItem). Says c.over_shown.result (select_of c.args.clauses.now (from_of c.args.from.plan (items_seen items)))) c.in-Ok.ensures.items c.over_shown.ensures
