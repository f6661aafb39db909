-- The stages that are noted of a query, as the stages that plans are carried out over.
use Rattle.std.specs.Prelude.{List, map, All}
use Rattle.aqe_physical.specs.Counts.{PartsFit}
use Rattle.aqe_stages.specs.Stages.{Stage, Stages}
use Rattle.aqe_journal.specs.declared.record.StageNote.{StageNote}

-- the stage of which a note is
abbrev pub stage_of : StageNote → Stage
stage_of note = record { kind = note.kind; body = note.body }

abbrev pub stages_of : List StageNote → Stages
stages_of notes = map stage_of notes

-- the parts of the body of each stage can be numbered in 32 bits
abbrev pub BodyFits : StageNote → Type 0
BodyFits note = PartsFit note.body

abbrev pub BodiesFit : List StageNote → Type 0
BodiesFit notes = All BodyFits notes
