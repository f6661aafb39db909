use Rattle.std.proofs.Common.{◌≡◌, ◌++◌, drop}
use Rattle.aqe_lexer.specs.Content.{decoded, name_gives, name_marks, undouble}
use Rattle.aqe_lexer.proofs.content.undoubled.Given as goal

abbrev pub invariant-loop-b : goal.invariant-loop-b
invariant-loop-b l =
    l.bytes.items ++ decoded name_gives name_marks l.doubled (drop l.b-index l.content)
    ≡ undouble l.content
