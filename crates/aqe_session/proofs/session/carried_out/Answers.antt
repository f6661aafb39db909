use Rattle.aqe_estimates.specs.LoadedTables.{tables_of}
use Rattle.aqe_steps.proofs.Marking.{on_ok}
use Rattle.aqe_session.proofs.Answering.{carries_out, ran_turned, ready_running, ready_steady}
use Rattle.aqe_session.proofs.session.carried_out.Goals as goal

pub turn-requires : goal.turn-requires
turn-requires g c = ready_steady (tables_of c.args.tables.now) c.args.run.now c.requires

pub run_to_end-requires : goal.run_to_end-requires
run_to_end-requires g c = ready_running (tables_of c.args.tables.now) c.args.run.now c.turn.new.run c.requires c.in_ok-turn.ensures

pub returns-clause-done : goal.returns-clause-done
returns-clause-done g c =
    on_ok c.run_to_end.result (λ d. carries_out (tables_of c.args.tables.now) c.args.run.now c.turn.new.run c.run_to_end.new.run c.in_ok-turn.ensures d) c.run_to_end.ensures.done

pub returns-clause-ran : goal.returns-clause-ran
returns-clause-ran g c =
    on_ok c.run_to_end.result (λ r. ran_turned c.args.run.now c.turn.new.run c.run_to_end.new.run _ _ c.in_ok-turn.ensures r) c.run_to_end.ensures.ran
