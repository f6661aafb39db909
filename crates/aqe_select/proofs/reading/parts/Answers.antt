use Rattle.std.proofs.Common.{List, [], subst}
use Rattle.aqe_rules.specs.declared.names.Named.{Named}
use Rattle.aqe_rules.specs.Faults.{Says}
use Rattle.aqe_rules.specs.Selects.{with_aliases}
use Rattle.aqe_rules.specs.Sources.{kept}
use Rattle.aqe_select.proofs.ReadingSteps.{parts-say}
use Rattle.aqe_select.proofs.reading.parts.Goals as goal

pub returns-clause-says : goal.returns-clause-says
returns-clause-says c =
    let clauses = c.args.clauses.now in
    rw (c.selected.ensures, c.both_of.ensures)
    (parts-say clauses c.args.is_grouped c.args.shown.now c.args.plan c.requires c.kept-below.result c.behind_where-read.result
    (subst (λ (columns : List Named). Says c.kept-below.result (kept clauses.filter.now (with_aliases columns clauses.list.now []) c.args.plan)) c.slice-columns.ensures c.kept-below.ensures)
    c.behind_where-read.ensures)
