use Rattle.std.proofs.Common.{◌∙◌, ap, sym, map, List, Bool, false}
use Rattle.std.specs.Prelude.{◌||◌}
use Rattle.std.specs.List.{list_any}
use Rattle.aqe_trees.specs.declared.expression.OrTree.{OrTree}
use Rattle.aqe_trees.specs.declared.expression.Test.{Test}
use Rattle.aqe_rules.specs.Expressions as spec
use Rattle.aqe_rules.specs.Looks.{aggregates}
use Rattle.aqe_rules.specs.Trees.{made_of_and, made_of_not, made_of_predicate, made_of_test, made_of_comparison, made_of_sum, made_of_product, made_of_sign, made_of_primary, made_of_arm}
use Rattle.aqe_rules.proofs.Levels.{of_or, of_and, of_not, of_comparison, of_sum, of_product, of_sign, of_one_of, of_call}
use Rattle.aqe_looks.proofs.Chains.{one_settled, one_left, pairs_settled, pairs_left, any_of_mapped, under_nots, under_all_signs, either_way}
use Rattle.aqe_looks.proofs.aggregates.+expression.Goals as goal

pub has_aggregate-returns-then-and : goal.has_aggregate-returns-then-and
has_aggregate-returns-then-and t c = one_settled (made_of_and aggregates) c.or_parts.result.1.now (ap spec.has_aggregate c.or_parts.ensures ∙ of_or aggregates c.or_parts.result.0.now c.or_parts.result.1.now) c.and.ensures c.if-and.true

pub has_aggregate-more-init : goal.has_aggregate-more-init
has_aggregate-more-init t c = one_left (made_of_and aggregates) c.or_parts.result.1.now (ap spec.has_aggregate c.or_parts.ensures ∙ of_or aggregates c.or_parts.result.0.now c.or_parts.result.1.now) c.and.ensures c.if-and.false

pub and-returns-then-negation : goal.and-returns-then-negation
and-returns-then-negation t c = one_settled (made_of_not aggregates) c.and_parts.result.1.now (ap (made_of_and aggregates) c.and_parts.ensures ∙ of_and aggregates c.and_parts.result.0.now c.and_parts.result.1.now) c.negation.ensures c.if-negation.true

pub and-more-init : goal.and-more-init
and-more-init t c = one_left (made_of_not aggregates) c.and_parts.result.1.now (ap (made_of_and aggregates) c.and_parts.ensures ∙ of_and aggregates c.and_parts.result.0.now c.and_parts.result.1.now) c.negation.ensures c.if-negation.false

pub comparison-returns-then-sum : goal.comparison-returns-then-sum
comparison-returns-then-sum t c = pairs_settled (made_of_sum aggregates) c.comparison_parts.result.1.now (ap (made_of_comparison aggregates) c.comparison_parts.ensures ∙ of_comparison aggregates c.comparison_parts.result.0.now c.comparison_parts.result.1.now) c.sum.ensures c.if-sum.true

pub comparison-more-init : goal.comparison-more-init
comparison-more-init t c = pairs_left (made_of_sum aggregates) c.comparison_parts.result.1.now (ap (made_of_comparison aggregates) c.comparison_parts.ensures ∙ of_comparison aggregates c.comparison_parts.result.0.now c.comparison_parts.result.1.now) c.sum.ensures c.if-sum.false

pub sum-returns-then-product : goal.sum-returns-then-product
sum-returns-then-product t c = pairs_settled (made_of_product aggregates) c.sum_parts.result.1.now (ap (made_of_sum aggregates) c.sum_parts.ensures ∙ of_sum aggregates c.sum_parts.result.0.now c.sum_parts.result.1.now) c.product.ensures c.if-product.true

pub sum-more-init : goal.sum-more-init
sum-more-init t c = pairs_left (made_of_product aggregates) c.sum_parts.result.1.now (ap (made_of_sum aggregates) c.sum_parts.ensures ∙ of_sum aggregates c.sum_parts.result.0.now c.sum_parts.result.1.now) c.product.ensures c.if-product.false

pub product-returns-then-sign : goal.product-returns-then-sign
product-returns-then-sign t c = pairs_settled (made_of_sign aggregates) c.product_parts.result.1.now (ap (made_of_product aggregates) c.product_parts.ensures ∙ of_product aggregates c.product_parts.result.0.now c.product_parts.result.1.now) c.sign.ensures c.if-sign.true

pub product-more-init : goal.product-more-init
product-more-init t c = pairs_left (made_of_sign aggregates) c.product_parts.result.1.now (ap (made_of_product aggregates) c.product_parts.ensures ∙ of_product aggregates c.product_parts.result.0.now c.product_parts.result.1.now) c.sign.ensures c.if-sign.false

pub negation-returns : goal.negation-returns
negation-returns t c = c.predicate.ensures ∙ sym (ap (made_of_not aggregates) c.not_parts.ensures ∙ of_not aggregates c.not_parts.result.0 c.not_parts.result.1.now ∙ under_nots c.not_parts.result.0 (made_of_predicate aggregates c.not_parts.result.1.now))

pub sign-returns : goal.sign-returns
sign-returns t c = c.primary.ensures ∙ sym (ap (made_of_sign aggregates) c.sign_parts.ensures ∙ of_sign aggregates c.sign_parts.result.0.now c.sign_parts.result.1.now ∙ under_all_signs c.sign_parts.result.0.now (made_of_primary aggregates c.sign_parts.result.1.now))

pub arms-arms-init : goal.arms-arms-init
arms-arms-init t c = sym (any_of_mapped (λ arm. arm.0 || arm.1) (made_of_arm aggregates) c.args.pairs.now)

pub asked-returns-in-OneOf : goal.asked-returns-in-OneOf
asked-returns-in-OneOf t c = c.list.ensures ∙ ap {B = Bool} (λ (items : List OrTree). list_any spec.has_aggregate items) c.as_slice.ensures ∙
    sym (ap (λ (test : Test). made_of_test aggregates test false) c.in-OneOf.is ∙ of_one_of aggregates c.in-OneOf.negated c.in-OneOf.items false ∙
    either_way c.in-OneOf.negated (list_any (λ b. b) (map spec.has_aggregate c.in-OneOf.items)) ∙ any_of_mapped (λ b. b) spec.has_aggregate c.in-OneOf.items)

pub primary-returns-else-is_aggregate : goal.primary-returns-else-is_aggregate
primary-returns-else-is_aggregate t c = c.list.ensures ∙ ap {B = Bool} (λ (items : List OrTree). list_any spec.has_aggregate items) c.as_slice-in-Call.ensures ∙
    sym (ap (made_of_primary aggregates) c.in-Call.is ∙ of_call aggregates c.in-Call.name c.in-Call.arguments ∙
    ap (λ (b : Bool). b || list_any (λ b. b) (map spec.has_aggregate c.in-Call.arguments)) (sym c.is_aggregate.ensures ∙ c.if-is_aggregate.false) ∙
    any_of_mapped (λ b. b) spec.has_aggregate c.in-Call.arguments)
