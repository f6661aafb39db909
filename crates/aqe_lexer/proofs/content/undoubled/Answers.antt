use Rattle.std.proofs.Common.{◌≡◌, IsUtf8, length, arith, ap, sym, subst, ◌∙◌}
use Rattle.aqe_lexer.specs.Content.{name_gives, name_marks, undouble}
use Rattle.aqe_lexer.proofs.ContentLemmas.{decoded_end, undouble_utf8, undouble_short}
use Rattle.aqe_lexer.proofs.content.undoubled.Goals as goal

pub text-requires : goal.text-requires
text-requires c =
    let all : c.loop-b.bytes.items ≡ undouble c.args.content.now =
    decoded_end name_gives name_marks c.loop-b.doubled _ _ _ c.loop-b.b-index (omega arith) c.loop-b.invariant in
    subst IsUtf8 (sym all) (undouble_utf8 c.args.content.now c.requires)

pub returns-clause-bound : goal.returns-clause-bound
returns-clause-bound c =
    let all : c.loop-b.bytes.items ≡ undouble c.args.content.now =
    decoded_end name_gives name_marks c.loop-b.doubled _ _ _ c.loop-b.b-index (omega arith) c.loop-b.invariant in
    omega (arith, undouble_short c.args.content.now, ap length (c.text.ensures ∙ all))
