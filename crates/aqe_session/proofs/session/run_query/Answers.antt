use Rattle.std.proofs.Common.{[], subst}
use Rattle.std.specs.Prelude.{IfOk}
use Rattle.aqe_settings.specs.Values.{values_of}
use Rattle.aqe_session.specs.declared.query.Rest.TheVariants as rest
use Rattle.aqe_session.specs.Query.{IsAnswered, asked_of}
use Rattle.aqe_session.proofs.Answering.{ends_query, done_or_memory}
use Rattle.aqe_session.proofs.session.run_query.Goals as goal

pub returns-clause-query : goal.returns-clause-query
returns-clause-query g c =
    ends_query c.args.logical c.args.tables.now (values_of c.args.settings.now) c.requires.query c.args.events.now c.args.rest c.args.journal.now c.added.new.journal (g.R.Runner.ran c.args.runner.now) (g.R.Runner.ran c.recorded-note.new.runner) c.recorded-note.result c.added.result c.requires.alone
    (subst (λ n. IfOk c.recorded-note.result (IsAnswered (asked_of c.args.logical c.args.tables.now (values_of c.args.settings.now) [] rest.Run) n (g.R.Runner.ran c.args.runner.now) (g.R.Runner.ran c.recorded-note.new.runner))) c.next_number-query.ensures c.recorded-note.ensures) c.added.ensures

pub returns-clause-ends : goal.returns-clause-ends
returns-clause-ends g c = done_or_memory c.recorded-note.result c.args.journal.now c.added.new.journal c.added.result c.added.ensures
