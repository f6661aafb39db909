use Rattle.std.proofs.Common.{◌≡◌, ◌+◌, ◌-◌, ◌≤◌, ◌<◌, ◌^◌, length, unwrap_or, arith, subst, sym, rules}
use Rattle.aqe_blocks.specs.Cells.{size_of_cells, rows_of_cells}
use Rattle.std.specs.Option.{option_map}
use Rattle.aqe_blocks.specs.Kept.{HaveCells, of_map}
use Rattle.aqe_blocks.proofs.Totals.{size_fits, rows_fit, within, totalled_more}
use Rattle.aqe_blocks.proofs.stage_outputs.StageOutputs.keep.Goals as goal

pub overflow_add-size : goal.overflow_add-size
overflow_add-size c =
    let few : length c.self.inside.outputs.entries < 2 ^ 63 = search rules in
    let fits = size_fits c.self.inside.outputs.entries c.self.inside.size c.self.inside.rows c.size.result c.self.invariant few (search rules) in
    search rules

pub overflow_add-rows : goal.overflow_add-rows
overflow_add-rows c =
    let few : length c.self.inside.outputs.entries < 2 ^ 63 = search rules in
    let fits = rows_fit c.self.inside.outputs.entries c.self.inside.size c.self.inside.rows c.count.result c.self.invariant few (search rules) in
    search rules

pub overflow_sub-self : goal.overflow_sub-self
overflow_sub-self c =
    let part = within size_of_cells c.self.inside.outputs.entries c.args.map in
    let kept : c.size_if_any.result ≤ c.self.inside.size = rw (c.self.invariant.all, c.size_if_any.ensures, c.in_ok-replaced.ensures.old) part in
    omega (arith, kept)

pub overflow_sub-self-2 : goal.overflow_sub-self-2
overflow_sub-self-2 c =
    let part = within rows_of_cells c.self.inside.outputs.entries c.args.map in
    let kept : c.rows_if_any.result ≤ c.self.inside.rows = rw (c.self.invariant.count, c.rows_if_any.ensures, c.in_ok-replaced.ensures.old) part in
    omega (arith, kept)

pub invariant_of-self-2 : goal.invariant_of-self-2
invariant_of-self-2 c =
    let stage = c.self.inside.outputs.entries in
    let gone : c.size_if_any.result ≡ unwrap_or (option_map size_of_cells (of_map stage c.args.map)) 0 = rw c.in_ok-replaced.ensures.old at c.size_if_any.ensures in
    let fewer : c.rows_if_any.result ≡ unwrap_or (option_map rows_of_cells (of_map stage c.args.map)) 0 = rw c.in_ok-replaced.ensures.old at c.rows_if_any.ensures in
    let sizes : c.self.inside.size + c.size.result - c.size_if_any.result + unwrap_or (option_map size_of_cells (of_map stage c.args.map)) 0 ≡ c.self.inside.size + size_of_cells c.args.output =
    let part = within size_of_cells stage c.args.map in let all = c.self.invariant.all in let size = c.size.ensures in omega (arith, gone, part, all, size) in
    let counts : c.self.inside.rows + c.count.result - c.rows_if_any.result + unwrap_or (option_map rows_of_cells (of_map stage c.args.map)) 0 ≡ c.self.inside.rows + rows_of_cells c.args.output =
    let part = within rows_of_cells stage c.args.map in let all = c.self.invariant.count in let count = c.count.ensures in omega (arith, fewer, part, all, count) in
    rw c.in_ok-replaced.ensures.entries (totalled_more stage c.args.map c.args.output c.self.inside.size c.self.inside.rows _ _ c.self.invariant c.len.ensures.ordered
    (subst (HaveCells (length c.args.output)) (sym c.self.view_is) c.requires)
    (rw c.size.ensures at c.size.type_inv) (rw c.count.ensures at c.count.type_inv) sizes counts)
