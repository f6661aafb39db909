use Rattle.std.proofs.Common.{◌≡◌, ◌++◌, drop}
use Rattle.aqe_lexer.specs.Content.{decoded, string_gives, string_marks, unescape}
use Rattle.aqe_lexer.proofs.content.unescaped.Given as goal

abbrev pub invariant-loop-b : goal.invariant-loop-b
invariant-loop-b l =
    l.bytes.items ++ decoded string_gives string_marks l.escaped (drop l.b-index l.content)
    ≡ unescape l.content
