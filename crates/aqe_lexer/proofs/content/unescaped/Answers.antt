use Rattle.std.proofs.Common.{◌≡◌, IsUtf8, length, arith, ap, sym, subst, ◌∙◌}
use Rattle.aqe_lexer.specs.Content.{string_gives, string_marks, unescape}
use Rattle.aqe_lexer.proofs.ContentLemmas.{decoded_end, unescape_utf8, unescape_short}
use Rattle.aqe_lexer.proofs.content.unescaped.Goals as goal

pub text-requires : goal.text-requires
text-requires c =
    let all : c.loop-b.bytes.items ≡ unescape c.args.content.now =
    decoded_end string_gives string_marks c.loop-b.escaped _ _ _ c.loop-b.b-index (omega arith) c.loop-b.invariant in
    subst IsUtf8 (sym all) (unescape_utf8 c.args.content.now c.requires)

pub returns-clause-bound : goal.returns-clause-bound
returns-clause-bound c =
    let all : c.loop-b.bytes.items ≡ unescape c.args.content.now =
    decoded_end string_gives string_marks c.loop-b.escaped _ _ _ c.loop-b.b-index (omega arith) c.loop-b.invariant in
    omega (arith, unescape_short c.args.content.now, ap length (c.text.ensures ∙ all))
