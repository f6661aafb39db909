use Rattle.std.proofs.Common.{◌≤◌}
use Rattle.aqe_expr.specs.declared.expr.Operands.{size-Operands}
use Rattle.aqe_expr.specs.declared.expr.CasePairs.{size-CasePairs}
use Rattle.aqe_rules.specs.Grouping.{grouped_list, grouped_pairs}
use Rattle.aqe_grouping.specs.Keys.{exprs_of, names_of}
use Rattle.aqe_grouping.proofs.ChainSteps.{ListLeft, PairsLeft}
use Rattle.aqe_grouping.proofs.rewriting.+grouped.Given as goal

abbrev pub invariant-grouped_list-walk : goal.invariant-grouped_list-walk
invariant-grouped_list-walk l =
    (size-Operands l.rest ≤ size-Operands l.initial.rest) × ListLeft (exprs_of l.groups.keys.now) (names_of l.groups.columns.now) l.made l.rest (grouped_list (exprs_of l.groups.keys.now) (names_of l.groups.columns.now) l.list)

abbrev pub invariant-grouped_pairs-walk : goal.invariant-grouped_pairs-walk
invariant-grouped_pairs-walk l =
    (size-CasePairs l.rest ≤ size-CasePairs l.initial.rest) × PairsLeft (exprs_of l.groups.keys.now) (names_of l.groups.columns.now) l.made l.rest (grouped_pairs (exprs_of l.groups.keys.now) (names_of l.groups.columns.now) l.pairs)
