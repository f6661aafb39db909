use Rattle.std.proofs.Common.{sym}
use Rattle.std.proofs.lemmas.List.{drop_all}
use Rattle.aqe_phrases.proofs.Chains.{going_begin, going_step, going_all}
use Rattle.aqe_phrases.proofs.Expressions.{or_step, or_spelled, and_step, and_spelled, not_spelled, predicate_spelled, plain_spelled, between_spelled, one_of_spelled, like_spelled, list_step, list_spelled, comparison_step, comparison_spelled, sum_step, sum_spelled, product_step, product_spelled, sign_spelled, paren_spelled, cast_spelled, case_spelled, case_alone_spelled, case_operand_spelled, arm_step, end_spelled, otherwise_spelled, call_spelled}
use Rattle.aqe_phrases.proofs.expression.+expression.Goals as goal

pub or-more-init : goal.or-more-init
or-more-init t c = going_begin

pub or-more-preserved : goal.or-more-preserved
or-more-preserved t c = going_step c.or_parts.result.1.now c.more.next-index c.next-item.result c.more-test.true (sym c.next-item.is) c.more.invariant (or_step c.in_ok-fixed.ensures c.in_ok-and-2.ensures)

pub or-returns : goal.or-returns
or-returns t c = rw c.or_parts.ensures (or_spelled c.in_ok-and.ensures (going_all (drop_all c.more.next-index c.or_parts.result.1.now c.more-test.false) c.more.invariant))

pub and-more-init : goal.and-more-init
and-more-init t c = going_begin

pub and-more-preserved : goal.and-more-preserved
and-more-preserved t c = going_step c.and_parts.result.1.now c.more.next-index c.next-item.result c.more-test.true (sym c.next-item.is) c.more.invariant (and_step c.in_ok-fixed.ensures c.in_ok-negated-2.ensures)

pub and-returns : goal.and-returns
and-returns t c = rw c.and_parts.ensures (and_spelled c.in_ok-negated.ensures (going_all (drop_all c.more.next-index c.and_parts.result.1.now c.more-test.false) c.more.invariant))

pub comparison-more-init : goal.comparison-more-init
comparison-more-init t c = going_begin

pub comparison-more-preserved : goal.comparison-more-preserved
comparison-more-preserved t c = going_step c.comparison_parts.result.1.now c.more.next-index c.next-item.result c.more-test.true (sym c.next-item.is) c.more.invariant (comparison_step c.compare_key.ensures.op c.in_ok-fixed.ensures c.in_ok-sum-2.ensures)

pub comparison-returns : goal.comparison-returns
comparison-returns t c = rw c.comparison_parts.ensures (comparison_spelled c.in_ok-sum.ensures (going_all (drop_all c.more.next-index c.comparison_parts.result.1.now c.more-test.false) c.more.invariant))

pub sum-more-init : goal.sum-more-init
sum-more-init t c = going_begin

pub sum-more-preserved : goal.sum-more-preserved
sum-more-preserved t c = going_step c.sum_parts.result.1.now c.more.next-index c.next-item.result c.more-test.true (sym c.next-item.is) c.more.invariant (sum_step c.sign_key.ensures.op c.in_ok-fixed.ensures c.in_ok-product-2.ensures)

pub sum-returns : goal.sum-returns
sum-returns t c = rw c.sum_parts.ensures (sum_spelled c.in_ok-product.ensures (going_all (drop_all c.more.next-index c.sum_parts.result.1.now c.more-test.false) c.more.invariant))

pub product-more-init : goal.product-more-init
product-more-init t c = going_begin

pub product-more-preserved : goal.product-more-preserved
product-more-preserved t c = going_step c.product_parts.result.1.now c.more.next-index c.next-item.result c.more-test.true (sym c.next-item.is) c.more.invariant (product_step c.product_key.ensures.op c.in_ok-fixed.ensures c.in_ok-signed-2.ensures)

pub product-returns : goal.product-returns
product-returns t c = rw c.product_parts.ensures (product_spelled c.in_ok-signed.ensures (going_all (drop_all c.more.next-index c.product_parts.result.1.now c.more-test.false) c.more.invariant))

pub list-more-init : goal.list-more-init
list-more-init t c = going_begin

pub list-more-preserved : goal.list-more-preserved
list-more-preserved t c = going_step c.in-Some.rest.now c.more.next-index c.next-item.result c.more-test.true (sym c.next-item.is) c.more.invariant (list_step c.in_ok-fixed.ensures c.in_ok-or-2.ensures)

pub list-returns : goal.list-returns
list-returns t c = rw c.in-Some.ensures.cases.0 (list_spelled c.in_ok-or.ensures (going_all (drop_all c.more.next-index c.in-Some.rest.now c.more-test.false) c.more.invariant))

pub arms-arms-init : goal.arms-arms-init
arms-arms-init t c = λ last. going_begin

pub arms-arms-preserved : goal.arms-arms-preserved
arms-arms-preserved t c = λ last. going_step c.args.arms.now c.arms.next-index c.next-item.result c.arms-test.true (sym c.next-item.is) (c.arms.invariant last) (c.in_ok-arm.ensures last _)

pub arm-returns : goal.arm-returns
arm-returns t c = rw c.arm_parts.ensures (arm_step c.in_ok-fixed.ensures c.in_ok-or.ensures c.in_ok-fixed-2.ensures c.in_ok-or-2.ensures)

pub asked-returns-in-Plain : goal.asked-returns-in-Plain
asked-returns-in-Plain t c = rw c.in-Plain.is plain_spelled

pub asked-returns-in_ok-comparison-in-Between-2 : goal.asked-returns-in_ok-comparison-in-Between-2
asked-returns-in_ok-comparison-in-Between-2 t c = rw c.in-Between.is (between_spelled c.in_ok-negation-in-Between.ensures c.in_ok-fixed-in-Between.ensures c.in_ok-comparison-in-Between.ensures c.in_ok-fixed-in-Between-2.ensures c.in_ok-comparison-in-Between-2.ensures)

pub asked-returns-in_ok-fixed-in-OneOf-3 : goal.asked-returns-in_ok-fixed-in-OneOf-3
asked-returns-in_ok-fixed-in-OneOf-3 t c = rw (c.in-OneOf.is, sym c.as_slice.ensures) (one_of_spelled c.in_ok-negation-in-OneOf.ensures c.in_ok-fixed-in-OneOf.ensures c.in_ok-fixed-in-OneOf-2.ensures c.in_ok-list-in-OneOf.ensures c.in_ok-fixed-in-OneOf-3.ensures)

pub asked-returns-in_ok-comparison-in-Like : goal.asked-returns-in_ok-comparison-in-Like
asked-returns-in_ok-comparison-in-Like t c = rw c.in-Like.is (like_spelled c.in_ok-negation-in-Like.ensures c.in_ok-fixed-in-Like.ensures c.in_ok-comparison-in-Like.ensures)

pub case_of-returns-in_ok-or-in-Some : goal.case_of-returns-in_ok-or-in-Some
case_of-returns-in_ok-or-in-Some t c = rw (c.in-Some.is, sym c.get.ensures) (case_operand_spelled c.in_ok-fixed.ensures c.in_ok-or-in-Some.ensures)

pub case_of-returns-in-None : goal.case_of-returns-in-None
case_of-returns-in-None t c = rw c.in-None.is (case_alone_spelled c.in_ok-fixed.ensures)

pub case_end-returns-in_ok-fixed-in-Some-2 : goal.case_end-returns-in_ok-fixed-in-Some-2
case_end-returns-in_ok-fixed-in-Some-2 t c = rw (c.in-Some.is, sym c.get.ensures) (otherwise_spelled c.in_ok-fixed-in-Some.ensures c.in_ok-or-in-Some.ensures c.in_ok-fixed-in-Some-2.ensures)

pub case_end-returns-in_ok-fixed-in-None : goal.case_end-returns-in_ok-fixed-in-None
case_end-returns-in_ok-fixed-in-None t c = rw c.in-None.is (end_spelled c.in_ok-fixed-in-None.ensures)

pub negated-returns : goal.negated-returns
negated-returns t c = rw c.not_parts-count.ensures (not_spelled c.not_parts-count.result.0 c.in_ok-nots.ensures c.in_ok-predicate.ensures)

pub predicate-returns : goal.predicate-returns
predicate-returns t c = rw c.predicate_parts.ensures (predicate_spelled c.in_ok-comparison.ensures c.in_ok-asked.ensures)

pub signed-returns : goal.signed-returns
signed-returns t c = rw c.sign_parts.ensures (sign_spelled c.in_ok-signs.ensures c.in_ok-primary.ensures)

pub primary-returns-in_ok-case_end-in-Case : goal.primary-returns-in_ok-case_end-in-Case
primary-returns-in_ok-case_end-in-Case t c = rw (c.in-Case.is, sym c.as_slice.ensures) (case_spelled c.in_ok-case_of-in-Case.ensures c.in_ok-arms-in-Case.ensures c.in_ok-case_end-in-Case.ensures)

pub paren-returns : goal.paren-returns
paren-returns t c = paren_spelled c.in_ok-fixed.ensures c.in_ok-or.ensures c.in_ok-fixed-2.ensures

pub cast-returns : goal.cast-returns
cast-returns t c = cast_spelled c.in_ok-fixed.ensures c.in_ok-fixed-2.ensures c.in_ok-or.ensures c.in_ok-fixed-3.ensures c.in_ok-type_word.ensures c.in_ok-fixed-4.ensures

pub call-returns : goal.call-returns
call-returns t c = call_spelled c.in_ok-name.ensures c.in_ok-fixed.ensures c.in_ok-list.ensures c.in_ok-fixed-2.ensures
