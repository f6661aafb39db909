use Rattle.std.proofs.Common.{sym, arith, ◌<◌, length}
use Rattle.std.proofs.lemmas.Bool.Decides.{nat_tests}
use Rattle.aqe_looks.proofs.NumbersAlone.{sign_not_alone}
use Rattle.aqe_looks.proofs.numbers.+number.Goals as goal

pub sign-returns-then-not-is_empty : goal.sign-returns-then-not-is_empty
sign-returns-then-not-is_empty t c =
    let empty = c.is_empty.ensures in
    let no = c.if-not-is_empty.true in
    let some : 0 < length c.sign_parts.result.0.now = grind (arith, nat_tests) in
    sym (sign_not_alone c.args.tree.now c.sign_parts.result.0.now c.sign_parts.result.1.now c.sign_parts.ensures some)
