use Rattle.std.proofs.Common.{drop}
use Rattle.aqe_spell.specs.Tokens.{AllWritable}
use Rattle.aqe_spell.proofs.Scripts.{Reached}
use Rattle.aqe_spell.proofs.statement.lines.Given as goal

abbrev pub invariant-statements : goal.invariant-statements
invariant-statements l = AllWritable l.script → Reached l.script (drop l.next-index l.script) l.out.items
