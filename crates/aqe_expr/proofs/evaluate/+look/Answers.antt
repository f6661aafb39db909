use Rattle.std.proofs.Common.{rules, ◌∙◌, sym}
use Rattle.aqe_expr.specs.declared.expr.Expr.{the_lemmas}
use Rattle.aqe_expr.proofs.Steps.{val_unary, val_binary, val_between, val_one_of, val_case, val_switch, first_true_here, first_true_past, first_equal_here, first_equal_past, first_present_here, first_present_past, in_list_here, in_list_past}
use Rattle.aqe_expr.proofs.evaluate.+look.Goals as goal

pub look-returns-in-Unary : goal.look-returns-in-Unary
look-returns-in-Unary t c = rw (c.in-Unary.is, val_unary c.args.row.now c.in-Unary.op c.in-Unary.arg) (search rules)

pub look-returns-in-Binary : goal.look-returns-in-Binary
look-returns-in-Binary t c = rw (c.in-Binary.is, val_binary c.args.row.now c.in-Binary.op c.in-Binary.left c.in-Binary.right) (search rules)

pub look-returns-in-Between : goal.look-returns-in-Between
look-returns-in-Between t c = rw (c.in-Between.is, val_between c.args.row.now c.in-Between.value c.in-Between.low c.in-Between.high) (search rules)

pub look-returns-in-OneOf : goal.look-returns-in-OneOf
look-returns-in-OneOf t c = rw (c.in-OneOf.is, val_one_of c.args.row.now c.in-OneOf.value c.in-OneOf.list) (search rules)

pub look-returns-in-Some : goal.look-returns-in-Some
look-returns-in-Some t c = rw (c.in-Case.is, val_case c.args.row.now c.in-Case.pairs c.in-Case.otherwise) (search rules)

pub look-returns-in-Case : goal.look-returns-in-Case
look-returns-in-Case t c = rw (c.in-Case.is, val_case c.args.row.now c.in-Case.pairs c.in-Case.otherwise) (search rules)

pub look-returns-in-Some-2 : goal.look-returns-in-Some-2
look-returns-in-Some-2 t c = rw (c.in-Switch.is, val_switch c.args.row.now c.in-Switch.operand c.in-Switch.pairs c.in-Switch.otherwise) (search rules)

pub look-returns-in-Switch : goal.look-returns-in-Switch
look-returns-in-Switch t c = rw (c.in-Switch.is, val_switch c.args.row.now c.in-Switch.operand c.in-Switch.pairs c.in-Switch.otherwise) (search rules)

pub first_equal-returns-then-is_known_true : goal.first_equal-returns-then-is_known_true
first_equal-returns-then-is_known_true t c = rw (c.pairs.invariant.1, first_equal_here c.args.row.now c.args.value.now c.pairs.rest.now c.in-More.test c.in-More.gives c.in-More.more c.in-More.is (search rules)) (search rules)

pub first_equal-pairs-preserved : goal.first_equal-pairs-preserved
first_equal-pairs-preserved t c = (search (rules, the_lemmas), rw (c.pairs.invariant.1, first_equal_past c.args.row.now c.args.value.now c.pairs.rest.now c.in-More.test c.in-More.gives c.in-More.more c.in-More.is (search rules)) (search rules))

pub first_true-returns-then-is_true : goal.first_true-returns-then-is_true
first_true-returns-then-is_true t c = rw (c.pairs.invariant.1, first_true_here c.args.row.now c.pairs.rest.now c.in-More.test c.in-More.gives c.in-More.more c.in-More.is (search rules)) (search rules)

pub first_true-pairs-preserved : goal.first_true-pairs-preserved
first_true-pairs-preserved t c = (search (rules, the_lemmas), rw (c.pairs.invariant.1, first_true_past c.args.row.now c.pairs.rest.now c.in-More.test c.in-More.gives c.in-More.more c.in-More.is (search rules)) (search rules))

pub first_present-returns-then-not-is_null : goal.first_present-returns-then-not-is_null
first_present-returns-then-not-is_null t c = rw (c.items.invariant.1, first_present_here c.args.row.now c.items.rest.now c.in-More.item c.in-More.more c.in-More.is (search rules)) (search rules)

pub first_present-items-preserved-else-not-is_null-2 :
    goal.first_present-items-preserved-else-not-is_null-2
first_present-items-preserved-else-not-is_null-2 t c = (search (rules, the_lemmas), rw (c.items.invariant.1, first_present_past c.args.row.now c.items.rest.now c.in-More.item c.in-More.more c.in-More.is (search rules)) (search rules))

pub first_present-items-preserved : goal.first_present-items-preserved
first_present-items-preserved t c = (search (rules, the_lemmas), rw (c.items.invariant.1, first_present_past c.args.row.now c.items.rest.now c.in-More.item c.in-More.more c.in-More.is (search rules)) (search rules))

pub in_list-returns-then-is_known_true : goal.in_list-returns-then-is_known_true
in_list-returns-then-is_known_true t c = sym (c.items.invariant.1 ∙ in_list_here c.args.row.now c.args.value.now c.items.rest.now c.in-More.item c.in-More.more c.items.found c.either-found.result c.in-More.is (search rules) (search rules))

pub in_list-items-preserved : goal.in_list-items-preserved
in_list-items-preserved t c = (search (rules, the_lemmas), c.items.invariant.1 ∙ (in_list_past c.args.row.now c.args.value.now c.items.rest.now c.in-More.item c.in-More.more c.items.found c.either-found.result c.in-More.is (search rules) ∙ (search rules)))
