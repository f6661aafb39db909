use Rattle.std.proofs.Common.{◌∙◌, ◌++◌, refl, sym, subst, List, []}
use Rattle.std.specs.Prelude.{OnOk, flat_map}
use Rattle.aqe_trees.specs.declared.expression.OrTree.{OrTree}
use Rattle.aqe_trees.specs.declared.expression.Arm.{Arm}
use Rattle.aqe_calls.specs.Added.{Added}
use Rattle.aqe_calls.specs.Calls.{place_of, calls_of_or, calls_of_and, calls_of_not, calls_of_predicate, calls_of_test, calls_of_comparison, calls_of_sum, calls_of_product, calls_of_sign, calls_of_primary, calls_of_arm, calls_of_list, calls_of_arms, calls_if_any, call_of_arguments}
use Rattle.aqe_calls.proofs.AddedSteps.{begun, turned, then_added, same_calls, still}
use Rattle.aqe_calls.proofs.CallLevels.{or_calls, and_calls, not_calls, predicate_calls, plain_calls, between_calls, one_of_calls, like_calls, is_calls, comparison_calls, sum_calls, product_calls, sign_calls, number_calls, literal_calls, boolean_calls, null_calls, column_calls, table_column_calls, count_all_calls, paren_calls, cast_calls, case_calls, aggregate_calls, other_calls, arm_calls}
use Rattle.aqe_calls.proofs.calls.+calls.Goals as goal

pub or-more-init : goal.or-more-init
or-more-init t c =
    let p = place_of c.args.scope.now in
    begun c.args.calls.now c.and.new.calls (calls_of_and c.or_parts.result.0.now p) (flat_map (λ t. calls_of_and t p) c.or_parts.result.1.now) (calls_of_or c.args.tree.now p) (or_calls p c.args.tree.now c.or_parts.result.0.now c.or_parts.result.1.now c.or_parts.ensures) c.in_ok-and.ensures

pub or-more-preserved : goal.or-more-preserved
or-more-preserved t c =
    let p = place_of c.args.scope.now in
    turned (λ t. calls_of_and t p) c.or_parts.result.1.now c.more.next-index c.next-item.result c.args.calls.now c.more.calls c.and-in-more.new.calls (calls_of_or c.args.tree.now p) c.more-test.true c.next-item.is c.more.invariant c.in_ok-and-2.ensures

pub and-more-init : goal.and-more-init
and-more-init t c =
    let p = place_of c.args.scope.now in
    begun c.args.calls.now c.negation.new.calls (calls_of_not c.and_parts.result.0.now p) (flat_map (λ t. calls_of_not t p) c.and_parts.result.1.now) (calls_of_and c.args.tree.now p) (and_calls p c.args.tree.now c.and_parts.result.0.now c.and_parts.result.1.now c.and_parts.ensures) c.in_ok-negation.ensures

pub and-more-preserved : goal.and-more-preserved
and-more-preserved t c =
    let p = place_of c.args.scope.now in
    turned (λ t. calls_of_not t p) c.and_parts.result.1.now c.more.next-index c.next-item.result c.args.calls.now c.more.calls c.negation-in-more.new.calls (calls_of_and c.args.tree.now p) c.more-test.true c.next-item.is c.more.invariant c.in_ok-negation-2.ensures

pub comparison-more-init : goal.comparison-more-init
comparison-more-init t c =
    let p = place_of c.args.scope.now in
    begun c.args.calls.now c.sum.new.calls (calls_of_sum c.comparison_parts.result.0.now p) (flat_map (λ next. calls_of_sum next.1 p) c.comparison_parts.result.1.now) (calls_of_comparison c.args.tree.now p) (comparison_calls p c.args.tree.now c.comparison_parts.result.0.now c.comparison_parts.result.1.now c.comparison_parts.ensures) c.in_ok-sum.ensures

pub comparison-more-preserved : goal.comparison-more-preserved
comparison-more-preserved t c =
    let p = place_of c.args.scope.now in
    turned (λ next. calls_of_sum next.1 p) c.comparison_parts.result.1.now c.more.next-index c.next-item.result c.args.calls.now c.more.calls c.sum-in-more.new.calls (calls_of_comparison c.args.tree.now p) c.more-test.true c.next-item.is c.more.invariant c.in_ok-sum-2.ensures

pub sum-more-init : goal.sum-more-init
sum-more-init t c =
    let p = place_of c.args.scope.now in
    begun c.args.calls.now c.product.new.calls (calls_of_product c.sum_parts.result.0.now p) (flat_map (λ next. calls_of_product next.1 p) c.sum_parts.result.1.now) (calls_of_sum c.args.tree.now p) (sum_calls p c.args.tree.now c.sum_parts.result.0.now c.sum_parts.result.1.now c.sum_parts.ensures) c.in_ok-product.ensures

pub sum-more-preserved : goal.sum-more-preserved
sum-more-preserved t c =
    let p = place_of c.args.scope.now in
    turned (λ next. calls_of_product next.1 p) c.sum_parts.result.1.now c.more.next-index c.next-item.result c.args.calls.now c.more.calls c.product-in-more.new.calls (calls_of_sum c.args.tree.now p) c.more-test.true c.next-item.is c.more.invariant c.in_ok-product-2.ensures

pub product-more-init : goal.product-more-init
product-more-init t c =
    let p = place_of c.args.scope.now in
    begun c.args.calls.now c.sign.new.calls (calls_of_sign c.product_parts.result.0.now p) (flat_map (λ next. calls_of_sign next.1 p) c.product_parts.result.1.now) (calls_of_product c.args.tree.now p) (product_calls p c.args.tree.now c.product_parts.result.0.now c.product_parts.result.1.now c.product_parts.ensures) c.in_ok-sign.ensures

pub product-more-preserved : goal.product-more-preserved
product-more-preserved t c =
    let p = place_of c.args.scope.now in
    turned (λ next. calls_of_sign next.1 p) c.product_parts.result.1.now c.more.next-index c.next-item.result c.args.calls.now c.more.calls c.sign-in-more.new.calls (calls_of_product c.args.tree.now p) c.more-test.true c.next-item.is c.more.invariant c.in_ok-sign-2.ensures

pub list-items-preserved : goal.list-items-preserved
list-items-preserved t c =
    let p = place_of c.args.scope.now in
    turned (λ t. calls_of_or t p) c.args.items.now c.items.next-index c.next-item.result c.args.calls.now c.items.calls c.or.new.calls (calls_of_list c.args.items.now p) c.items-test.true c.next-item.is c.items.invariant c.in_ok-or.ensures

pub arms-arms-preserved : goal.arms-arms-preserved
arms-arms-preserved t c =
    let p = place_of c.args.scope.now in
    turned (λ t. calls_of_arm t p) c.args.pairs.now c.arms.next-index c.next-item.result c.args.calls.now c.arms.calls c.arm.new.calls (calls_of_arms c.args.pairs.now p) c.arms-test.true c.next-item.is c.arms.invariant c.in_ok-arm.ensures

pub arm-returns : goal.arm-returns
arm-returns t c =
    let p = place_of c.args.scope.now in
    still c.or-2.result (then_added c.args.calls.now c.or.new.calls c.or-2.new.calls (calls_of_or c.arm_parts.result.0.now p) (calls_of_or c.arm_parts.result.1.now p) (calls_of_arm c.args.pair.now p) (arm_calls p c.args.pair.now c.arm_parts.result.0.now c.arm_parts.result.1.now c.arm_parts.ensures) c.in_ok-or.ensures) c.or-2.ensures

pub negation-returns : goal.negation-returns
negation-returns t c =
    let p = place_of c.args.scope.now in
    still c.predicate.result (same_calls c.args.calls.now c.predicate.new.calls _ _ (not_calls p c.args.tree.now c.not_parts.result.0 c.not_parts.result.1.now c.not_parts.ensures)) c.predicate.ensures

pub sign-returns : goal.sign-returns
sign-returns t c =
    let p = place_of c.args.scope.now in
    still c.primary.result (same_calls c.args.calls.now c.primary.new.calls _ _ (sign_calls p c.args.tree.now c.sign_parts.result.0.now c.sign_parts.result.1.now c.sign_parts.ensures)) c.primary.ensures

pub predicate-returns : goal.predicate-returns
predicate-returns t c =
    let p = place_of c.args.scope.now in
    still c.asked.result (then_added c.args.calls.now c.comparison.new.calls c.asked.new.calls (calls_of_comparison c.predicate_parts.result.0.now p) (calls_of_test c.predicate_parts.result.1.now p) (calls_of_predicate c.args.tree.now p) (predicate_calls p c.args.tree.now c.predicate_parts.result.0.now c.predicate_parts.result.1.now c.predicate_parts.ensures) c.in_ok-comparison.ensures) c.asked.ensures

pub asked-returns-in-Plain : goal.asked-returns-in-Plain
asked-returns-in-Plain t c =
    let p = place_of c.args.scope.now in
    same_calls c.args.calls.now c.args.calls.now [] _ (plain_calls p c.args.test.now c.in-Plain.is) refl

pub asked-returns-in-Is : goal.asked-returns-in-Is
asked-returns-in-Is t c =
    let p = place_of c.args.scope.now in
    same_calls c.args.calls.now c.args.calls.now [] _ (is_calls p c.args.test.now c.in-Is.negated c.in-Is.truth c.in-Is.is) refl

pub asked-returns-in_ok-comparison-in-Between : goal.asked-returns-in_ok-comparison-in-Between
asked-returns-in_ok-comparison-in-Between t c =
    let p = place_of c.args.scope.now in
    still c.comparison-in-Between.result (then_added c.args.calls.now c.comparison.new.calls c.comparison-in-Between.new.calls (calls_of_comparison c.in-Between.low p) (calls_of_comparison c.in-Between.high p) (calls_of_test c.args.test.now p) (between_calls p c.args.test.now c.in-Between.negated c.in-Between.low c.in-Between.high c.in-Between.is) c.in_ok-comparison-in-Between.ensures) c.comparison-in-Between.ensures

pub asked-returns-in-OneOf : goal.asked-returns-in-OneOf
asked-returns-in-OneOf t c =
    let p = place_of c.args.scope.now in
    let there = subst (λ (trees : List OrTree). OnOk c.list.result (Added c.args.calls.now c.list.new.calls (calls_of_list trees p))) c.as_slice.ensures c.list.ensures in
    still c.list.result (same_calls c.args.calls.now c.list.new.calls _ _ (one_of_calls p c.args.test.now c.in-OneOf.negated c.in-OneOf.items c.in-OneOf.is)) there

pub asked-returns-in-Like : goal.asked-returns-in-Like
asked-returns-in-Like t c =
    let p = place_of c.args.scope.now in
    still c.comparison-in-Like.result (same_calls c.args.calls.now c.comparison-in-Like.new.calls _ _ (like_calls p c.args.test.now c.in-Like.negated c.in-Like.pattern c.in-Like.is)) c.comparison-in-Like.ensures

pub primary-returns-in-Number : goal.primary-returns-in-Number
primary-returns-in-Number t c =
    let p = place_of c.args.scope.now in
    same_calls c.args.calls.now c.args.calls.now [] _ (number_calls p c.args.tree.now c.in-Number.negative c.in-Number.value c.in-Number.long c.in-Number.is) refl

pub primary-returns-in-Literal : goal.primary-returns-in-Literal
primary-returns-in-Literal t c =
    let p = place_of c.args.scope.now in
    same_calls c.args.calls.now c.args.calls.now [] _ (literal_calls p c.args.tree.now c.in-Literal.field-0 c.in-Literal.is) refl

pub primary-returns-in-Boolean : goal.primary-returns-in-Boolean
primary-returns-in-Boolean t c =
    let p = place_of c.args.scope.now in
    same_calls c.args.calls.now c.args.calls.now [] _ (boolean_calls p c.args.tree.now c.in-Boolean.field-0 c.in-Boolean.is) refl

pub primary-returns-in-Null : goal.primary-returns-in-Null
primary-returns-in-Null t c =
    let p = place_of c.args.scope.now in
    same_calls c.args.calls.now c.args.calls.now [] _ (null_calls p c.args.tree.now c.in-Null.is) refl

pub primary-returns-in-Column : goal.primary-returns-in-Column
primary-returns-in-Column t c =
    let p = place_of c.args.scope.now in
    same_calls c.args.calls.now c.args.calls.now [] _ (column_calls p c.args.tree.now c.in-Column.field-0 c.in-Column.is) refl

pub primary-returns-in-TableColumn : goal.primary-returns-in-TableColumn
primary-returns-in-TableColumn t c =
    let p = place_of c.args.scope.now in
    same_calls c.args.calls.now c.args.calls.now [] _ (table_column_calls p c.args.tree.now c.in-TableColumn.table c.in-TableColumn.name c.in-TableColumn.is) refl

pub primary-returns-in-CountAll : goal.primary-returns-in-CountAll
primary-returns-in-CountAll t c =
    let p = place_of c.args.scope.now in
    still c.count_all.result (same_calls c.args.calls.now c.count_all.new.calls _ _ (count_all_calls p c.args.tree.now c.in-CountAll.is)) c.count_all.ensures

pub primary-returns-in-Paren : goal.primary-returns-in-Paren
primary-returns-in-Paren t c =
    let p = place_of c.args.scope.now in
    let there = subst (λ (tree : OrTree). OnOk c.or.result (Added c.args.calls.now c.or.new.calls (calls_of_or tree p))) c.get.ensures c.or.ensures in
    still c.or.result (same_calls c.args.calls.now c.or.new.calls _ _ (paren_calls p c.args.tree.now c.in-Paren.value c.in-Paren.is)) there

pub primary-returns-in-Cast : goal.primary-returns-in-Cast
primary-returns-in-Cast t c =
    let p = place_of c.args.scope.now in
    let there = subst (λ (tree : OrTree). OnOk c.or-in-Cast.result (Added c.args.calls.now c.or-in-Cast.new.calls (calls_of_or tree p))) c.get-in-Cast.ensures c.or-in-Cast.ensures in
    still c.or-in-Cast.result (same_calls c.args.calls.now c.or-in-Cast.new.calls _ _ (cast_calls p c.args.tree.now c.in-Cast.value c.in-Cast.kind c.in-Cast.is)) there

pub primary-returns-in_ok-arms-in-Case : goal.primary-returns-in_ok-arms-in-Case
primary-returns-in_ok-arms-in-Case t c =
    let p = place_of c.args.scope.now in
    let there = subst (λ (pairs : List Arm). Added c.maybe.new.calls c.arms.new.calls (calls_of_arms pairs p)) c.as_slice.ensures c.in_ok-arms-in-Case.ensures in
    let first = then_added c.args.calls.now c.maybe.new.calls c.arms.new.calls (calls_if_any c.in-Case.operand p) (calls_of_arms c.in-Case.pairs p) (calls_if_any c.in-Case.operand p ++ calls_of_arms c.in-Case.pairs p) refl c.in_ok-maybe-in-Case.ensures there in
    still c.maybe-in-Case.result (then_added c.args.calls.now c.arms.new.calls c.maybe-in-Case.new.calls (calls_if_any c.in-Case.operand p ++ calls_of_arms c.in-Case.pairs p) (calls_if_any c.in-Case.otherwise p) (calls_of_primary c.args.tree.now p) (case_calls p c.args.tree.now c.in-Case.operand c.in-Case.pairs c.in-Case.otherwise c.in-Case.is) first) c.maybe-in-Case.ensures

pub primary-returns-in-Some : goal.primary-returns-in-Some
primary-returns-in-Some t c =
    let p = place_of c.args.scope.now in
    let there = subst (λ (trees : List OrTree). OnOk c.add_call.result (Added c.args.calls.now c.add_call.new.calls (call_of_arguments c.in-Some.fun trees p))) c.as_slice-in-Some.ensures c.add_call.ensures in
    still c.add_call.result (same_calls c.args.calls.now c.add_call.new.calls _ _ (aggregate_calls p c.args.tree.now c.in-Call.name c.in-Call.arguments c.in-Some.fun c.in-Call.is (sym c.aggregate_named.ensures ∙ c.in-Some.is))) there

pub primary-returns-in-None : goal.primary-returns-in-None
primary-returns-in-None t c =
    let p = place_of c.args.scope.now in
    let there = subst (λ (trees : List OrTree). OnOk c.list.result (Added c.args.calls.now c.list.new.calls (calls_of_list trees p))) c.as_slice-in-None.ensures c.list.ensures in
    still c.list.result (same_calls c.args.calls.now c.list.new.calls _ _ (other_calls p c.args.tree.now c.in-Call.name c.in-Call.arguments c.in-Call.is (sym c.aggregate_named.ensures ∙ c.in-None.is))) there
