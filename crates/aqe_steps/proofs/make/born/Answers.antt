use Rattle.std.proofs.Common.{◌∙◌, ap, sym, length, map}
use Rattle.std.proofs.lemmas.List.FromFn.{length-map-range_with_len}
use Rattle.aqe_physical.specs.Counts.{part_count}
use Rattle.aqe_stages.specs.Reads.{task_needs}
use Rattle.aqe_journal.specs.Needed.{need_over}
use Rattle.aqe_needs.specs.Noted.{stages_of}
use Rattle.aqe_steps.proofs.make.born.Goals as goal

pub birth-requires-clause-each : goal.birth-requires-clause-each
birth-requires-clause-each c =
    ap (λ reads. length reads) c.in_ok-reads.ensures
    ∙ length-map-range_with_len (λ k. map (need_over (stages_of c.args.stages.now)) (task_needs c.args.note.now.kind c.args.note.now.body k)) 0 (part_count c.args.note.now.body)
    ∙ sym c.parts.ensures
