use Rattle.aqe_estimates.specs.LoadedTables.{tables_of}
use Rattle.aqe_steps.proofs.Marking.{on_ok}
use Rattle.aqe_session.proofs.Looping.{next_can_end, ended_below, steady_noted, ran_once}
use Rattle.aqe_session.proofs.query.end_task.Goals as goal

pub end-requires : goal.end-requires
end-requires g c = next_can_end (tables_of c.args.tables.now) c.args.run.now c.args.stage c.args.task c.requires

pub note_whole-requires : goal.note_whole-requires
note_whole-requires g c = ended_below (tables_of c.args.tables.now) c.args.run.now c.end.new.run c.args.stage c.args.task c.requires c.in_ok-end.ensures.ended

pub turn-requires : goal.turn-requires
turn-requires g c =
    steady_noted (tables_of c.args.tables.now) c.args.run.now c.end.new.run c.note_whole.new.run c.args.stage c.args.task c.in_ok-is_turning.is_turning c.requires c.in_ok-end.ensures.ended c.in_ok-is_turning.ensures

pub returns-clause-ends : goal.returns-clause-ends
returns-clause-ends g c =
    on_ok c.turn.result
    (λ t. record { ended = c.end.new.run; noted = c.note_whole.new.run; is_turning = c.in_ok-is_turning.is_turning; ends = c.in_ok-end.ensures.ended; notes = c.in_ok-is_turning.ensures; turns = t })
    c.turn.ensures

pub returns-clause-ran : goal.returns-clause-ran
returns-clause-ran g c =
    on_ok c.turn.result
    (λ t. ran_once (tables_of c.args.tables.now) c.args.run.now c.end.new.run c.note_whole.new.run c.turn.new.run c.args.stage c.args.task c.in_ok-is_turning.is_turning _ _ c.in_ok-end.ensures.ended
    c.in_ok-is_turning.ensures t c.in_ok-end.ensures.ran)
    c.turn.ensures
