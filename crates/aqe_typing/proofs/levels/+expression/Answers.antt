use Rattle.std.proofs.Common.{ap, subst, ◌∙◌, List}
use Rattle.aqe_trees.specs.declared.expression.OrTree.{OrTree}
use Rattle.aqe_trees.specs.declared.expression.NotTree.{NotTree}
use Rattle.aqe_trees.specs.declared.expression.PredicateTree.{PredicateTree}
use Rattle.aqe_trees.specs.declared.expression.Test.{Test}
use Rattle.aqe_trees.specs.declared.expression.SignTree.{SignTree}
use Rattle.aqe_trees.specs.declared.expression.PrimaryTree.{PrimaryTree}
use Rattle.aqe_trees.specs.declared.expression.Arm.{Arm}
use Rattle.aqe_rules.specs.Outcomes.{upon}
use Rattle.aqe_rules.specs.Operations as operation
use Rattle.aqe_rules.specs.Readings.{Place, readings}
use Rattle.aqe_rules.specs.Trees.{made_of_comparison}
use Rattle.aqe_rules.specs.Faults.{Says}
use Rattle.aqe_typing.specs.Calls.{at_calls, arguments_at}
use Rattle.aqe_typing.specs.Values.{value_of_or, value_of_and, value_of_not, value_of_predicate, value_of_test, value_of_comparison, value_of_sum, value_of_product, value_of_sign, value_of_primary, value_of_arm, values_of, values_of_arms, value_if_any, on_two, on_three, SaysAll}
use Rattle.aqe_typing.proofs.Turns.{begun, turned, ended, said, given}
use Rattle.aqe_typing.proofs.LevelValues.{or_step, and_step, comparison_step, sum_step, product_step, or_value, and_value, not_value, predicate_value, is_comparison, comparison_value, sum_value, product_value, sign_value, arm_value, plain_value, between_value, one_of_value, like_value, is_value, number_value, literal_value, boolean_value, null_value, column_value, table_column_value, paren_value, cast_value, case_value, count_all_value, inner_place, called_value}
use Rattle.aqe_typing.proofs.levels.+expression.Goals as goal

pub or-more-init : goal.or-more-init
or-more-init g t c =
    let p = at_calls (g.N.Names.place c.args.names.now) c.args.calls.now in
    begun (or_step p) c.or_parts.result.1.now (value_of_and c.or_parts.result.0.now p) _ c.and-value.ensures (ap (λ (tree : _). value_of_or tree p) c.or_parts.ensures ∙ or_value c.or_parts.result.0.now c.or_parts.result.1.now p)

pub or-more-preserved : goal.or-more-preserved
or-more-preserved g t c =
    let p = at_calls (g.N.Names.place c.args.names.now) c.args.calls.now in
    turned (or_step p) c.or_parts.result.1.now c.more.next-index c.next-item.result _ _ c.more-test.true c.next-item.is c.more.invariant (λ o h. c.joined-value.ensures o (value_of_and c.next-item.result p) h c.and.ensures)

pub or-returns : goal.or-returns
or-returns g t c =
    let p = at_calls (g.N.Names.place c.args.names.now) c.args.calls.now in
    ended (or_step p) c.or_parts.result.1.now c.more.next-index _ c.more-test.false c.more.invariant

pub and-more-init : goal.and-more-init
and-more-init g t c =
    let p = at_calls (g.N.Names.place c.args.names.now) c.args.calls.now in
    begun (and_step p) c.and_parts.result.1.now (value_of_not c.and_parts.result.0.now p) _ c.negation-value.ensures (ap (λ (tree : _). value_of_and tree p) c.and_parts.ensures ∙ and_value c.and_parts.result.0.now c.and_parts.result.1.now p)

pub and-more-preserved : goal.and-more-preserved
and-more-preserved g t c =
    let p = at_calls (g.N.Names.place c.args.names.now) c.args.calls.now in
    turned (and_step p) c.and_parts.result.1.now c.more.next-index c.next-item.result _ _ c.more-test.true c.next-item.is c.more.invariant (λ o h. c.joined-value.ensures o (value_of_not c.next-item.result p) h c.negation.ensures)

pub and-returns : goal.and-returns
and-returns g t c =
    let p = at_calls (g.N.Names.place c.args.names.now) c.args.calls.now in
    ended (and_step p) c.and_parts.result.1.now c.more.next-index _ c.more-test.false c.more.invariant

pub comparison-more-init : goal.comparison-more-init
comparison-more-init g t c =
    let p = at_calls (g.N.Names.place c.args.names.now) c.args.calls.now in
    begun (comparison_step p) c.comparison_parts.result.1.now (value_of_sum c.comparison_parts.result.0.now p) _ c.sum-value.ensures (ap (λ (tree : _). value_of_comparison tree p) c.comparison_parts.ensures ∙ comparison_value c.comparison_parts.result.0.now c.comparison_parts.result.1.now p)

pub comparison-more-preserved : goal.comparison-more-preserved
comparison-more-preserved g t c =
    let p = at_calls (g.N.Names.place c.args.names.now) c.args.calls.now in
    turned (comparison_step p) c.comparison_parts.result.1.now c.more.next-index c.next-item.result _ _ c.more-test.true c.next-item.is c.more.invariant (λ o h. c.compared-value.ensures o (value_of_sum c.next-item.result.1 p) h c.sum.ensures)

pub comparison-returns : goal.comparison-returns
comparison-returns g t c =
    let p = at_calls (g.N.Names.place c.args.names.now) c.args.calls.now in
    ended (comparison_step p) c.comparison_parts.result.1.now c.more.next-index _ c.more-test.false c.more.invariant

pub sum-more-init : goal.sum-more-init
sum-more-init g t c =
    let p = at_calls (g.N.Names.place c.args.names.now) c.args.calls.now in
    begun (sum_step p) c.sum_parts.result.1.now (value_of_product c.sum_parts.result.0.now p) _ c.product-value.ensures (ap (λ (tree : _). value_of_sum tree p) c.sum_parts.ensures ∙ sum_value c.sum_parts.result.0.now c.sum_parts.result.1.now p)

pub sum-more-preserved : goal.sum-more-preserved
sum-more-preserved g t c =
    let p = at_calls (g.N.Names.place c.args.names.now) c.args.calls.now in
    turned (sum_step p) c.sum_parts.result.1.now c.more.next-index c.next-item.result _ _ c.more-test.true c.next-item.is c.more.invariant (λ o h. c.added-value.ensures o (value_of_product c.next-item.result.1 p) h c.product.ensures)

pub sum-returns : goal.sum-returns
sum-returns g t c =
    let p = at_calls (g.N.Names.place c.args.names.now) c.args.calls.now in
    ended (sum_step p) c.sum_parts.result.1.now c.more.next-index _ c.more-test.false c.more.invariant

pub product-more-init : goal.product-more-init
product-more-init g t c =
    let p = at_calls (g.N.Names.place c.args.names.now) c.args.calls.now in
    begun (product_step p) c.product_parts.result.1.now (value_of_sign c.product_parts.result.0.now p) _ c.sign-value.ensures (ap (λ (tree : _). value_of_product tree p) c.product_parts.ensures ∙ product_value c.product_parts.result.0.now c.product_parts.result.1.now p)

pub product-more-preserved : goal.product-more-preserved
product-more-preserved g t c =
    let p = at_calls (g.N.Names.place c.args.names.now) c.args.calls.now in
    turned (product_step p) c.product_parts.result.1.now c.more.next-index c.next-item.result _ _ c.more-test.true c.next-item.is c.more.invariant (λ o h. c.multiplied-value.ensures o (value_of_sign c.next-item.result.1 p) h c.sign.ensures)

pub product-returns : goal.product-returns
product-returns g t c =
    let p = at_calls (g.N.Names.place c.args.names.now) c.args.calls.now in
    ended (product_step p) c.product_parts.result.1.now c.more.next-index _ c.more-test.false c.more.invariant

pub negation-returns : goal.negation-returns
negation-returns g t c =
    let p = at_calls (g.N.Names.place c.args.names.now) c.args.calls.now in
    said c.negated_times.result _ _ (ap (λ (tree : NotTree). value_of_not tree p) c.not_parts-count.ensures ∙ not_value c.not_parts-count.result.0 c.not_parts-count.result.1.now p) (c.negated_times.ensures (value_of_predicate c.not_parts-count.result.1.now p) c.predicate.ensures)

pub sign-returns : goal.sign-returns
sign-returns g t c =
    let p = at_calls (g.N.Names.place c.args.names.now) c.args.calls.now in
    said c.under_signs.result _ _ (ap (λ (tree : SignTree). value_of_sign tree p) c.sign_parts.ensures ∙ sign_value c.sign_parts.result.0.now c.sign_parts.result.1.now p) (c.under_signs.ensures (value_of_primary c.sign_parts.result.1.now p) c.primary.ensures)

pub predicate-returns : goal.predicate-returns
predicate-returns g t c =
    let p = at_calls (g.N.Names.place c.args.names.now) c.args.calls.now in
    said c.test.result _ _ (ap (λ (tree : PredicateTree). value_of_predicate tree p) c.predicate_parts.ensures ∙ predicate_value c.predicate_parts.result.0.now c.predicate_parts.result.1.now p) (c.test.ensures (made_of_comparison readings c.predicate_parts.result.0.now) (subst (λ (o : _). Says c.comparison.result o) (is_comparison c.predicate_parts.result.0.now p) c.comparison.ensures))

pub arm-returns : goal.arm-returns
arm-returns g t c =
    let p = at_calls (g.N.Names.place c.args.names.now) c.args.calls.now in
    said c.arm_of.result _ _ (ap (λ (tree : Arm). value_of_arm tree p) c.arm_parts.ensures ∙ arm_value p c.arm_parts.result.0.now c.arm_parts.result.1.now) (c.arm_of.ensures (value_of_or c.arm_parts.result.0.now p) (value_of_or c.arm_parts.result.1.now p) c.or-when.ensures c.or.ensures)

pub test-returns-in-Plain : goal.test-returns-in-Plain
test-returns-in-Plain g t c = λ a h.
    let p = at_calls (g.N.Names.place c.args.names.now) c.args.calls.now in
    said c.args.value _ _ (ap (λ (tree : Test). value_of_test tree a p) c.in-Plain.is ∙ plain_value a p) (h)

pub test-returns-in-Between : goal.test-returns-in-Between
test-returns-in-Between g t c = λ a h.
    let p = at_calls (g.N.Names.place c.args.names.now) c.args.calls.now in
    said c.negated_if.result _ _ (ap (λ (tree : Test). value_of_test tree a p) c.in-Between.is ∙ between_value c.in-Between.negated c.in-Between.low c.in-Between.high a p) (c.negated_if.ensures (on_three operation.between (a p).value (value_of_comparison c.in-Between.low p) (value_of_comparison c.in-Between.high p)) (c.within.ensures (a p).value (value_of_comparison c.in-Between.low p) (value_of_comparison c.in-Between.high p) h c.comparison-low.ensures c.comparison-high.ensures))

pub test-returns-in-OneOf : goal.test-returns-in-OneOf
test-returns-in-OneOf g t c = λ a h.
    let p = at_calls (g.N.Names.place c.args.names.now) c.args.calls.now in
    said c.negated_if-in-OneOf.result _ _ (ap (λ (tree : Test). value_of_test tree a p) c.in-OneOf.is ∙ one_of_value c.in-OneOf.negated c.in-OneOf.list a p) (c.negated_if-in-OneOf.ensures (upon (a p).value (λ x. upon (values_of c.in-OneOf.list p) (operation.in_list x))) (c.one_of.ensures (a p).value (values_of c.in-OneOf.list p) h (subst (λ (trees : List OrTree). SaysAll c.several-all.result (values_of trees p)) c.as_slice.ensures c.several-all.ensures)))

pub test-returns-in-Like : goal.test-returns-in-Like
test-returns-in-Like g t c = λ a h.
    let p = at_calls (g.N.Names.place c.args.names.now) c.args.calls.now in
    said c.negated_if-in-Like.result _ _ (ap (λ (tree : Test). value_of_test tree a p) c.in-Like.is ∙ like_value c.in-Like.negated c.in-Like.pattern a p) (c.negated_if-in-Like.ensures (on_two operation.like (a p).value (value_of_comparison c.in-Like.pattern p)) (c.matched.ensures (a p).value (value_of_comparison c.in-Like.pattern p) h c.comparison-pattern.ensures))

pub test-returns-in-Is : goal.test-returns-in-Is
test-returns-in-Is g t c = λ a h.
    let p = at_calls (g.N.Names.place c.args.names.now) c.args.calls.now in
    said c.negated_if-in-Is.result _ _ (ap (λ (tree : Test). value_of_test tree a p) c.in-Is.is ∙ is_value c.in-Is.negated c.in-Is.truth a p) (c.negated_if-in-Is.ensures (upon (a p).value (operation.is_operation c.in-Is.truth)) (c.asked.ensures (a p).value h))

pub primary-returns-in-Number : goal.primary-returns-in-Number
primary-returns-in-Number g t c =
    let p = at_calls (g.N.Names.place c.args.names.now) c.args.calls.now in
    given c.number.result _ (ap (λ (tree : PrimaryTree). value_of_primary tree p) c.in-Number.is ∙ number_value p c.in-Number.negative c.in-Number.value c.in-Number.long) c.number.ensures

pub primary-returns-in-Literal : goal.primary-returns-in-Literal
primary-returns-in-Literal g t c =
    let p = at_calls (g.N.Names.place c.args.names.now) c.args.calls.now in
    said c.text.result _ _ (ap (λ (tree : PrimaryTree). value_of_primary tree p) c.in-Literal.is ∙ literal_value p c.in-Literal.content) (c.text.ensures)

pub primary-returns-in-Boolean : goal.primary-returns-in-Boolean
primary-returns-in-Boolean g t c =
    let p = at_calls (g.N.Names.place c.args.names.now) c.args.calls.now in
    given c.boolean.result _ (ap (λ (tree : PrimaryTree). value_of_primary tree p) c.in-Boolean.is ∙ boolean_value p c.in-Boolean.value) c.boolean.ensures

pub primary-returns-in-Null : goal.primary-returns-in-Null
primary-returns-in-Null g t c =
    let p = at_calls (g.N.Names.place c.args.names.now) c.args.calls.now in
    given c.null.result _ (ap (λ (tree : PrimaryTree). value_of_primary tree p) c.in-Null.is ∙ null_value p) c.null.ensures

pub primary-returns-in-Column : goal.primary-returns-in-Column
primary-returns-in-Column g t c =
    let p = at_calls (g.N.Names.place c.args.names.now) c.args.calls.now in
    said c.column.result _ _ (ap (λ (tree : PrimaryTree). value_of_primary tree p) c.in-Column.is ∙ column_value p c.in-Column.name) (c.column.ensures)

pub primary-returns-in-TableColumn : goal.primary-returns-in-TableColumn
primary-returns-in-TableColumn g t c =
    let p = at_calls (g.N.Names.place c.args.names.now) c.args.calls.now in
    said c.column_of.result _ _ (ap (λ (tree : PrimaryTree). value_of_primary tree p) c.in-TableColumn.is ∙ table_column_value p c.in-TableColumn.table c.in-TableColumn.name) (c.column_of.ensures)

pub primary-returns-in-Paren : goal.primary-returns-in-Paren
primary-returns-in-Paren g t c =
    let p = at_calls (g.N.Names.place c.args.names.now) c.args.calls.now in
    said c.or.result _ _ (ap (λ (tree : PrimaryTree). value_of_primary tree p) c.in-Paren.is ∙ paren_value p c.in-Paren.value) (subst (λ (tree : OrTree). Says c.or.result (value_of_or tree p)) c.get.ensures c.or.ensures)

pub primary-returns-in-Cast : goal.primary-returns-in-Cast
primary-returns-in-Cast g t c =
    let p = at_calls (g.N.Names.place c.args.names.now) c.args.calls.now in
    said c.cast.result _ _ (ap (λ (tree : PrimaryTree). value_of_primary tree p) c.in-Cast.is ∙ cast_value p c.in-Cast.value c.in-Cast.kind) (c.cast.ensures (value_of_or c.in-Cast.value p) (subst (λ (tree : OrTree). Says c.or-in-Cast.result (value_of_or tree p)) c.get-in-Cast.ensures c.or-in-Cast.ensures))

pub primary-returns-in-Case : goal.primary-returns-in-Case
primary-returns-in-Case g t c =
    let p = at_calls (g.N.Names.place c.args.names.now) c.args.calls.now in
    said c.case.result _ _ (ap (λ (tree : PrimaryTree). value_of_primary tree p) c.in-Case.is ∙ case_value p c.in-Case.operand c.in-Case.arms c.in-Case.otherwise) (c.case.ensures (value_if_any c.in-Case.operand p) (values_of_arms c.in-Case.arms p) (value_if_any c.in-Case.otherwise p) c.maybe-operand.ensures (subst (λ (trees : List Arm). SaysAll c.arms_of-arms.result (values_of_arms trees p)) c.as_slice.ensures c.arms_of-arms.ensures) c.maybe.ensures)

pub primary-returns-in-CountAll : goal.primary-returns-in-CountAll
primary-returns-in-CountAll g t c =
    let p = at_calls (g.N.Names.place c.args.names.now) c.args.calls.now in
    said c.counted_rows.result _ _ (ap (λ (tree : PrimaryTree). value_of_primary tree p) c.in-CountAll.is ∙ count_all_value p _ c.width.ensures) c.counted_rows.ensures

pub primary-returns-in-Call : goal.primary-returns-in-Call
primary-returns-in-Call g t c =
    let place = g.N.Names.place c.args.names.now in
    let p = at_calls place c.args.calls.now in
    let name = c.in-Call.name in
    said c.called.result _ _ (ap (λ (tree : PrimaryTree). value_of_primary tree p) c.in-Call.is ∙ called_value name c.in-Call.arguments p _ _ c.aggregate_named-fun.ensures c.width-in-Call.ensures)
    (c.called.ensures (values_of c.in-Call.arguments (arguments_at c.aggregate_named-fun.result p))
    (subst (λ (q : Place). SaysAll c.several-arguments.result (values_of c.in-Call.arguments q)) (inner_place c.aggregate_named-fun.result place c.args.calls.now _ c.calls_within-inner.ensures)
    (subst (λ (trees : List OrTree). SaysAll c.several-arguments.result (values_of trees (at_calls place c.calls_within-inner.result.now))) c.as_slice-in-Call.ensures c.several-arguments.ensures)))
