use Rattle.std.proofs.Common.{rules, subst}
use Rattle.aqe_expr.specs.declared.expr.Expr.{Expr, the_lemmas}
use Rattle.aqe_rules.specs.Faults.{Says}
use Rattle.aqe_rules.specs.Grouping.{grouped}
use Rattle.aqe_grouping.specs.Keys.{exprs_of, names_of}
use Rattle.aqe_grouping.proofs.FormSteps.{key_said, unary_said, binary_said, between_said, one_of_said, case_said, switch_said}
use Rattle.aqe_grouping.proofs.ChainSteps.{list_turned, pairs_turned}
use Rattle.aqe_grouping.proofs.rewriting.+grouped.Goals as goal

pub grouped-returns-in-Some : goal.grouped-returns-in-Some
grouped-returns-in-Some t c =
    let keys = exprs_of c.args.groups.now.keys.now in
    let names = names_of c.args.groups.now.columns.now in
    key_said keys names c.args.expr.now c.key_place.result c.key_place.ensures c.in-Some.place c.group_column.result c.in-Some.is c.group_column.ensures

pub grouped-returns-in-Unary : goal.grouped-returns-in-Unary
grouped-returns-in-Unary t c =
    let keys = exprs_of c.args.groups.now.keys.now in
    let names = names_of c.args.groups.now.columns.now in
    unary_said keys names c.args.expr.now c.key_place.result c.key_place.ensures c.in_default.not-Some c.unary.result c.in-Unary.op c.in-Unary.arg c.grouped.result c.in-Unary.is
    (subst (λ (e : Expr). Says c.grouped.result (grouped keys names e)) c.get.ensures c.grouped.ensures) c.unary.ensures

pub grouped-returns-in-Binary : goal.grouped-returns-in-Binary
grouped-returns-in-Binary t c =
    let keys = exprs_of c.args.groups.now.keys.now in
    let names = names_of c.args.groups.now.columns.now in
    binary_said keys names c.args.expr.now c.key_place.result c.key_place.ensures c.in_default.not-Some c.binary.result c.in-Binary.op c.in-Binary.left c.in-Binary.right c.grouped-left.result c.grouped-right.result c.both_of.result c.in-Binary.is
    (subst (λ (e : Expr). Says c.grouped-left.result (grouped keys names e)) c.get-in-Binary.ensures c.grouped-left.ensures)
    (subst (λ (e : Expr). Says c.grouped-right.result (grouped keys names e)) c.get-in-Binary-2.ensures c.grouped-right.ensures)
    c.both_of.ensures c.binary.ensures

pub grouped-returns-in-Between : goal.grouped-returns-in-Between
grouped-returns-in-Between t c =
    let keys = exprs_of c.args.groups.now.keys.now in
    let names = names_of c.args.groups.now.columns.now in
    between_said keys names c.args.expr.now c.key_place.result c.key_place.ensures c.in_default.not-Some c.between.result c.in-Between.value c.in-Between.low c.in-Between.high c.grouped-value.result c.grouped-low.result c.grouped-high.result
    c.both_of-in-Between.result c.both_of-in-Between-2.result c.in-Between.is
    (subst (λ (e : Expr). Says c.grouped-value.result (grouped keys names e)) c.get-in-Between.ensures c.grouped-value.ensures)
    (subst (λ (e : Expr). Says c.grouped-low.result (grouped keys names e)) c.get-in-Between-2.ensures c.grouped-low.ensures)
    (subst (λ (e : Expr). Says c.grouped-high.result (grouped keys names e)) c.get-in-Between-3.ensures c.grouped-high.ensures)
    c.both_of-in-Between.ensures c.both_of-in-Between-2.ensures c.between.ensures

pub grouped-returns-in-OneOf : goal.grouped-returns-in-OneOf
grouped-returns-in-OneOf t c =
    let keys = exprs_of c.args.groups.now.keys.now in
    let names = names_of c.args.groups.now.columns.now in
    one_of_said keys names c.args.expr.now c.key_place.result c.key_place.ensures c.in_default.not-Some c.one_of.result c.in-OneOf.value c.in-OneOf.list c.grouped-value-in-OneOf.result c.grouped_list-list.result c.both_of-in-OneOf.result c.in-OneOf.is
    (subst (λ (e : Expr). Says c.grouped-value-in-OneOf.result (grouped keys names e)) c.get-in-OneOf.ensures c.grouped-value-in-OneOf.ensures)
    c.grouped_list-list.ensures c.both_of-in-OneOf.ensures c.one_of.ensures

pub grouped-returns-in-Case : goal.grouped-returns-in-Case
grouped-returns-in-Case t c =
    let keys = exprs_of c.args.groups.now.keys.now in
    let names = names_of c.args.groups.now.columns.now in
    case_said keys names c.args.expr.now c.key_place.result c.key_place.ensures c.in_default.not-Some c.case_of.result c.in-Case.pairs c.in-Case.otherwise c.grouped_pairs-pairs.result c.grouped-otherwise.result c.both_of-in-Case.result c.in-Case.is
    c.grouped_pairs-pairs.ensures (subst (λ (e : Expr). Says c.grouped-otherwise.result (grouped keys names e)) c.get-in-Case.ensures c.grouped-otherwise.ensures)
    c.both_of-in-Case.ensures c.case_of.ensures

pub grouped-returns-in-Switch : goal.grouped-returns-in-Switch
grouped-returns-in-Switch t c =
    let keys = exprs_of c.args.groups.now.keys.now in
    let names = names_of c.args.groups.now.columns.now in
    switch_said keys names c.args.expr.now c.key_place.result c.key_place.ensures c.in_default.not-Some c.switch.result c.in-Switch.operand c.in-Switch.pairs c.in-Switch.otherwise c.grouped-operand.result c.grouped_pairs-pairs-in-Switch.result c.grouped-otherwise-in-Switch.result
    c.both_of-in-Switch.result c.both_of-in-Switch-2.result c.in-Switch.is
    (subst (λ (e : Expr). Says c.grouped-operand.result (grouped keys names e)) c.get-in-Switch.ensures c.grouped-operand.ensures)
    c.grouped_pairs-pairs-in-Switch.ensures
    (subst (λ (e : Expr). Says c.grouped-otherwise-in-Switch.result (grouped keys names e)) c.get-in-Switch-2.ensures c.grouped-otherwise-in-Switch.ensures)
    c.both_of-in-Switch.ensures c.both_of-in-Switch-2.ensures c.switch.ensures

pub grouped_list-walk-preserved : goal.grouped_list-walk-preserved
grouped_list-walk-preserved t c =
    let keys = exprs_of c.args.groups.now.keys.now in
    let names = names_of c.args.groups.now.columns.now in (
      search (rules, the_lemmas),
      list_turned keys names c.walk.rest.now c.get.result.now c.get-rest.result.now c.walk.made c.with_one-made.result c.grouped.result (search rules) c.walk.invariant.1 c.with_one-made.ensures c.grouped.ensures,
    )

pub grouped_pairs-walk-preserved : goal.grouped_pairs-walk-preserved
grouped_pairs-walk-preserved t c =
    let keys = exprs_of c.args.groups.now.keys.now in
    let names = names_of c.args.groups.now.columns.now in (
      search (rules, the_lemmas),
      pairs_turned keys names c.walk.rest.now c.get.result.now c.get-in-More.result.now c.get-rest.result.now c.walk.made c.with_one-made.result c.grouped-test.result c.grouped-gives.result c.both_of.result (search rules) c.walk.invariant.1
          c.with_one-made.ensures c.both_of.ensures c.grouped-test.ensures c.grouped-gives.ensures,
    )
