use Rattle.std.proofs.Common.{sym}
use Rattle.aqe_spell.proofs.Scripts.{spelling}
use Rattle.aqe_spell.proofs.statement.spell.Goals as goal

pub returns-in-Ok : goal.returns-in-Ok
returns-in-Ok c = rw (c.from_vec.ensures, sym c.slice.ensures) (spelling _ _ c.in-Ok.ensures)
