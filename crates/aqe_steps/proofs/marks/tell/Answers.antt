use Rattle.std.proofs.Common.{arith, ap, length}
use Rattle.aqe_steps.proofs.Marking.{told_none, told_more, told_all}
use Rattle.aqe_steps.proofs.marks.tell.Goals as goal

pub marks-init : goal.marks-init
marks-init c = told_none c.args.board.now c.args.marks.now

pub numbered-requires : goal.numbered-requires
numbered-requires c = let few = c.requires.few in let lt = c.marks-test.true in omega (arith, few, lt)

pub need-requires : goal.need-requires
need-requires c =
    let lt = c.marks-test.true in
    let count = c.requires.count in
    let births = ap length c.marks.invariant.births in
    let is = c.numbered.ensures in
    omega (arith, lt, count, births, is)

pub marks-preserved : goal.marks-preserved
marks-preserved c =
    told_more c.args.board.now c.marks.board c.need.new.self c.args.marks.now c.marks.n c.numbered.result.0 c.mark_at.result c.marks.invariant c.marks-test.true c.numbered.ensures c.mark_at.ensures
    c.need.ensures.stands c.need.ensures.births

pub returns-clause-stands : goal.returns-clause-stands
returns-clause-stands c = told_all c.args.board.now c.marks.board c.args.marks.now c.marks.n c.marks.invariant c.marks-test.false

pub returns-clause-births : goal.returns-clause-births
returns-clause-births c = c.marks.invariant.births
