use Rattle.std.proofs.Common.{rules, refl, sym, ◌∙◌}
use Rattle.aqe_expr.specs.declared.expr.Expr.{the_lemmas}
use Rattle.aqe_expr.specs.contracts.expr.UnaryOpPartialEq.TheImpl as unary_eq
use Rattle.aqe_expr.specs.contracts.expr.BinaryOpPartialEq.TheImpl as binary_eq
use Rattle.aqe_rules.specs.Equality.{same_expr, same_list, same_pairs}
use Rattle.aqe_same.proofs.Forms.{both_unary, both_binary, both_between, both_one_of, both_case, both_switch, no_binary, no_between, no_switch, both_more, no_more, both_pairs, no_pairs, then_second, not_first, then_third, not_first_of_three, not_second}
use Rattle.aqe_same.proofs.exprs.+same.Goals as goal

pub same_expr-returns-then-eq : goal.same_expr-returns-then-eq
same_expr-returns-then-eq t c = then_second ((unary_eq.ghosts).eq c.in-Unary.op c.in-Unary-b.other) (same_expr c.in-Unary.arg c.in-Unary-b.second) _ _ (both_unary c.args.a.now c.args.b.now c.in-Unary.op c.in-Unary.arg c.in-Unary-b.other c.in-Unary-b.second c.in-Unary.is c.in-Unary-b.is) (search rules) (search rules)

pub same_expr-returns-else-eq : goal.same_expr-returns-else-eq
same_expr-returns-else-eq t c = not_first ((unary_eq.ghosts).eq c.in-Unary.op c.in-Unary-b.other) (same_expr c.in-Unary.arg c.in-Unary-b.second) _ _ (both_unary c.args.a.now c.args.b.now c.in-Unary.op c.in-Unary.arg c.in-Unary-b.other c.in-Unary-b.second c.in-Unary.is c.in-Unary-b.is) (search rules) (search rules)

pub same_expr-returns-then-same_expr : goal.same_expr-returns-then-same_expr
same_expr-returns-then-same_expr t c = then_third ((binary_eq.ghosts).eq c.in-Binary.op c.in-Binary-b.other) (same_expr c.in-Binary.left c.in-Binary-b.first) (same_expr c.in-Binary.right c.in-Binary-b.second) _ _ (both_binary c.args.a.now c.args.b.now c.in-Binary.op c.in-Binary.left c.in-Binary.right c.in-Binary-b.other c.in-Binary-b.first c.in-Binary-b.second c.in-Binary.is c.in-Binary-b.is) (search rules) (search rules) (search rules)

pub same_expr-returns-else-same_expr : goal.same_expr-returns-else-same_expr
same_expr-returns-else-same_expr t c = not_second ((binary_eq.ghosts).eq c.in-Binary.op c.in-Binary-b.other) (same_expr c.in-Binary.left c.in-Binary-b.first) (same_expr c.in-Binary.right c.in-Binary-b.second) _ _ (both_binary c.args.a.now c.args.b.now c.in-Binary.op c.in-Binary.left c.in-Binary.right c.in-Binary-b.other c.in-Binary-b.first c.in-Binary-b.second c.in-Binary.is c.in-Binary-b.is) (search rules) (search rules) (search rules)

pub same_expr-returns-else-eq-2 : goal.same_expr-returns-else-eq-2
same_expr-returns-else-eq-2 t c = not_first_of_three ((binary_eq.ghosts).eq c.in-Binary.op c.in-Binary-b.other) (same_expr c.in-Binary.left c.in-Binary-b.first) (same_expr c.in-Binary.right c.in-Binary-b.second) _ _ (both_binary c.args.a.now c.args.b.now c.in-Binary.op c.in-Binary.left c.in-Binary.right c.in-Binary-b.other c.in-Binary-b.first c.in-Binary-b.second c.in-Binary.is c.in-Binary-b.is) (search rules) (search rules)

pub same_expr-returns-in_default-b-3 : goal.same_expr-returns-in_default-b-3
same_expr-returns-in_default-b-3 t c = sym (no_binary c.args.a.now c.args.b.now c.in-Binary.op c.in-Binary.left c.in-Binary.right c.in-Binary.is c.in_default-b-3.not-Binary)

pub same_expr-returns-then-same_expr-3 : goal.same_expr-returns-then-same_expr-3
same_expr-returns-then-same_expr-3 t c = then_third (same_expr c.in-Between.value c.in-Between-b.other) (same_expr c.in-Between.low c.in-Between-b.from) (same_expr c.in-Between.high c.in-Between-b.to) _ _ (both_between c.args.a.now c.args.b.now c.in-Between.value c.in-Between.low c.in-Between.high c.in-Between-b.other c.in-Between-b.from c.in-Between-b.to c.in-Between.is c.in-Between-b.is) (search rules) (search rules) (search rules)

pub same_expr-returns-else-same_expr-3 : goal.same_expr-returns-else-same_expr-3
same_expr-returns-else-same_expr-3 t c = not_second (same_expr c.in-Between.value c.in-Between-b.other) (same_expr c.in-Between.low c.in-Between-b.from) (same_expr c.in-Between.high c.in-Between-b.to) _ _ (both_between c.args.a.now c.args.b.now c.in-Between.value c.in-Between.low c.in-Between.high c.in-Between-b.other c.in-Between-b.from c.in-Between-b.to c.in-Between.is c.in-Between-b.is) (search rules) (search rules) (search rules)

pub same_expr-returns-else-same_expr-2 : goal.same_expr-returns-else-same_expr-2
same_expr-returns-else-same_expr-2 t c = not_first_of_three (same_expr c.in-Between.value c.in-Between-b.other) (same_expr c.in-Between.low c.in-Between-b.from) (same_expr c.in-Between.high c.in-Between-b.to) _ _ (both_between c.args.a.now c.args.b.now c.in-Between.value c.in-Between.low c.in-Between.high c.in-Between-b.other c.in-Between-b.from c.in-Between-b.to c.in-Between.is c.in-Between-b.is) (search rules) (search rules)

pub same_expr-returns-in_default-b-4 : goal.same_expr-returns-in_default-b-4
same_expr-returns-in_default-b-4 t c = sym (no_between c.args.a.now c.args.b.now c.in-Between.value c.in-Between.low c.in-Between.high c.in-Between.is c.in_default-b-4.not-Between)

pub same_expr-returns-then-same_expr-4 : goal.same_expr-returns-then-same_expr-4
same_expr-returns-then-same_expr-4 t c = then_second (same_expr c.in-OneOf.value c.in-OneOf-b.other) (same_list c.in-OneOf.list c.in-OneOf-b.more) _ _ (both_one_of c.args.a.now c.args.b.now c.in-OneOf.value c.in-OneOf.list c.in-OneOf-b.other c.in-OneOf-b.more c.in-OneOf.is c.in-OneOf-b.is) (search rules) (search rules)

pub same_expr-returns-else-same_expr-4 : goal.same_expr-returns-else-same_expr-4
same_expr-returns-else-same_expr-4 t c = not_first (same_expr c.in-OneOf.value c.in-OneOf-b.other) (same_list c.in-OneOf.list c.in-OneOf-b.more) _ _ (both_one_of c.args.a.now c.args.b.now c.in-OneOf.value c.in-OneOf.list c.in-OneOf-b.other c.in-OneOf-b.more c.in-OneOf.is c.in-OneOf-b.is) (search rules) (search rules)

pub same_expr-returns-then-same_pairs : goal.same_expr-returns-then-same_pairs
same_expr-returns-then-same_pairs t c = then_second (same_pairs c.in-Case.pairs c.in-Case-b.more) (same_expr c.in-Case.otherwise c.in-Case-b.other) _ _ (both_case c.args.a.now c.args.b.now c.in-Case.pairs c.in-Case.otherwise c.in-Case-b.more c.in-Case-b.other c.in-Case.is c.in-Case-b.is) (search rules) (search rules)

pub same_expr-returns-else-same_pairs : goal.same_expr-returns-else-same_pairs
same_expr-returns-else-same_pairs t c = not_first (same_pairs c.in-Case.pairs c.in-Case-b.more) (same_expr c.in-Case.otherwise c.in-Case-b.other) _ _ (both_case c.args.a.now c.args.b.now c.in-Case.pairs c.in-Case.otherwise c.in-Case-b.more c.in-Case-b.other c.in-Case.is c.in-Case-b.is) (search rules) (search rules)

pub same_expr-returns-then-same_pairs-2 : goal.same_expr-returns-then-same_pairs-2
same_expr-returns-then-same_pairs-2 t c = then_third (same_expr c.in-Switch.operand c.in-Switch-b.asked) (same_pairs c.in-Switch.pairs c.in-Switch-b.more) (same_expr c.in-Switch.otherwise c.in-Switch-b.other) _ _ (both_switch c.args.a.now c.args.b.now c.in-Switch.operand c.in-Switch.pairs c.in-Switch.otherwise c.in-Switch-b.asked c.in-Switch-b.more c.in-Switch-b.other c.in-Switch.is c.in-Switch-b.is) (search rules) (search rules) (search rules)

pub same_expr-returns-else-same_pairs-2 : goal.same_expr-returns-else-same_pairs-2
same_expr-returns-else-same_pairs-2 t c = not_second (same_expr c.in-Switch.operand c.in-Switch-b.asked) (same_pairs c.in-Switch.pairs c.in-Switch-b.more) (same_expr c.in-Switch.otherwise c.in-Switch-b.other) _ _ (both_switch c.args.a.now c.args.b.now c.in-Switch.operand c.in-Switch.pairs c.in-Switch.otherwise c.in-Switch-b.asked c.in-Switch-b.more c.in-Switch-b.other c.in-Switch.is c.in-Switch-b.is) (search rules) (search rules) (search rules)

pub same_expr-returns-else-same_expr-5 : goal.same_expr-returns-else-same_expr-5
same_expr-returns-else-same_expr-5 t c = not_first_of_three (same_expr c.in-Switch.operand c.in-Switch-b.asked) (same_pairs c.in-Switch.pairs c.in-Switch-b.more) (same_expr c.in-Switch.otherwise c.in-Switch-b.other) _ _ (both_switch c.args.a.now c.args.b.now c.in-Switch.operand c.in-Switch.pairs c.in-Switch.otherwise c.in-Switch-b.asked c.in-Switch-b.more c.in-Switch-b.other c.in-Switch.is c.in-Switch-b.is) (search rules) (search rules)

pub same_expr-returns-in_default-b-7 : goal.same_expr-returns-in_default-b-7
same_expr-returns-in_default-b-7 t c = sym (no_switch c.args.a.now c.args.b.now c.in-Switch.operand c.in-Switch.pairs c.in-Switch.otherwise c.in-Switch.is c.in_default-b-7.not-Switch)

pub same_list-returns-in_default-right : goal.same_list-returns-in_default-right
same_list-returns-in_default-right t c = sym (no_more c.items.left.now c.items.right.now c.in-More.item c.in-More.rest c.in-More.is c.in_default-right.not-More) ∙ c.items.invariant.1

pub same_list-returns-then-not-same_expr : goal.same_list-returns-then-not-same_expr
same_list-returns-then-not-same_expr t c = not_first (same_expr c.in-More.item c.in-More-right.other) (same_list c.in-More.rest c.in-More-right.more) _ _ (both_more c.items.left.now c.items.right.now c.in-More.item c.in-More-right.other c.in-More.rest c.in-More-right.more c.in-More.is c.in-More-right.is) (search rules) refl ∙ c.items.invariant.1

pub same_list-items-preserved : goal.same_list-items-preserved
same_list-items-preserved t c = (search (rules, the_lemmas), then_second (same_expr c.in-More.item c.in-More-right.other) (same_list c.in-More.rest c.in-More-right.more) _ _ (both_more c.items.left.now c.items.right.now c.in-More.item c.in-More-right.other c.in-More.rest c.in-More-right.more c.in-More.is c.in-More-right.is) (search rules) (search rules) ∙ c.items.invariant.1)

pub same_pairs-returns-in_default-right : goal.same_pairs-returns-in_default-right
same_pairs-returns-in_default-right t c = sym (no_pairs c.pairs.left.now c.pairs.right.now c.in-More.test c.in-More.gives c.in-More.rest c.in-More.is c.in_default-right.not-More) ∙ c.pairs.invariant.1

pub same_pairs-returns-then-not-same_expr : goal.same_pairs-returns-then-not-same_expr
same_pairs-returns-then-not-same_expr t c = not_first_of_three (same_expr c.in-More.test c.in-More-right.asked) (same_expr c.in-More.gives c.in-More-right.given) (same_pairs c.in-More.rest c.in-More-right.more) _ _ (both_pairs c.pairs.left.now c.pairs.right.now c.in-More.test c.in-More.gives c.in-More-right.asked c.in-More-right.given c.in-More.rest c.in-More-right.more c.in-More.is c.in-More-right.is) (search rules) refl ∙ c.pairs.invariant.1

pub same_pairs-returns-then-not-same_expr-2 : goal.same_pairs-returns-then-not-same_expr-2
same_pairs-returns-then-not-same_expr-2 t c = not_second (same_expr c.in-More.test c.in-More-right.asked) (same_expr c.in-More.gives c.in-More-right.given) (same_pairs c.in-More.rest c.in-More-right.more) _ _ (both_pairs c.pairs.left.now c.pairs.right.now c.in-More.test c.in-More.gives c.in-More-right.asked c.in-More-right.given c.in-More.rest c.in-More-right.more c.in-More.is c.in-More-right.is) (search rules) (search rules) refl ∙ c.pairs.invariant.1

pub same_pairs-pairs-preserved : goal.same_pairs-pairs-preserved
same_pairs-pairs-preserved t c = (search (rules, the_lemmas), then_third (same_expr c.in-More.test c.in-More-right.asked) (same_expr c.in-More.gives c.in-More-right.given) (same_pairs c.in-More.rest c.in-More-right.more) _ _ (both_pairs c.pairs.left.now c.pairs.right.now c.in-More.test c.in-More.gives c.in-More-right.asked c.in-More-right.given c.in-More.rest c.in-More-right.more c.in-More.is c.in-More-right.is) (search rules) (search rules) (search rules) ∙ c.pairs.invariant.1)
