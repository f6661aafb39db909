use Rattle.std.proofs.Common.{rules}
use Rattle.aqe_looks.proofs.MissingLevels.{comparison_left, sum_left, product_left, sign_same, case_found, arms_found}
use Rattle.aqe_looks.proofs.missing.+missing.Goals as goal

pub comparison-more-init : goal.comparison-more-init
comparison-more-init t c =
    comparison_left c.args.columns.now c.args.tree.now c.comparison_parts.result.0.now c.comparison_parts.result.1.now c.sum.result c.comparison_parts.ensures c.sum.ensures (search rules)

pub sum-more-init : goal.sum-more-init
sum-more-init t c = sum_left c.args.columns.now c.args.tree.now c.sum_parts.result.0.now c.sum_parts.result.1.now c.product.result c.sum_parts.ensures c.product.ensures (search rules)

pub product-more-init : goal.product-more-init
product-more-init t c = product_left c.args.columns.now c.args.tree.now c.product_parts.result.0.now c.product_parts.result.1.now c.sign.result c.product_parts.ensures c.sign.ensures (search rules)

pub sign-returns : goal.sign-returns
sign-returns t c = sign_same c.args.columns.now c.args.tree.now c.sign_parts.result.0.now c.sign_parts.result.1.now c.primary.result c.sign_parts.ensures c.primary.ensures

pub primary-returns-in-Some : goal.primary-returns-in-Some
primary-returns-in-Some t c = case_found c.args.columns.now c.args.tree.now c.in-Case.operand c.in-Case.pairs c.in-Case.otherwise c.maybe.result c.in-Some.found c.in-Case.is c.maybe.ensures (search rules)

pub primary-returns-in-Some-arms : goal.primary-returns-in-Some-arms
primary-returns-in-Some-arms t c =
    arms_found c.args.columns.now c.args.tree.now c.in-Case.operand c.in-Case.pairs c.in-Case.otherwise c.maybe.result c.arms.result c.in-Some-arms.found c.in-Case.is c.maybe.ensures (search rules) (search rules) (search rules)
