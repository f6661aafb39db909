use Rattle.aqe_estimates.specs.LoadedTables.{tables_of}
use Rattle.aqe_session.proofs.Answering.{answers_ready, can_finish_ready}
use Rattle.aqe_session.proofs.session.answered.Goals as goal

pub record_of-requires : goal.record_of-requires
record_of-requires g c = can_finish_ready (tables_of c.args.tables.now) c.args.run c.carried_out.new.run c.requires c.in_ok-carried_out.ensures.done

pub returns : goal.returns
returns g c =
    answers_ready (tables_of c.args.tables.now) c.args.run c.carried_out.new.run c.args.query (g.R.Runner.ran c.args.runner.now) (g.R.Runner.ran c.carried_out.new.runner) c.record_of.result
    c.in_ok-carried_out.ensures.done c.in_ok-carried_out.ensures.ran c.record_of.ensures
