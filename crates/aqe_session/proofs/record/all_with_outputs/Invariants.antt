-- the notes before those that are left are filled
use Rattle.aqe_session.proofs.Rows.{FilledTo}
use Rattle.aqe_session.proofs.record.all_with_outputs.Given as goal

abbrev pub invariant-notes : goal.invariant-notes
invariant-notes l = FilledTo l.fn.outputs l.outputs l.fn.notes.items l.note-iterator.rest.items l.all
