use Rattle.std.proofs.Common.{◌≡◌, ◌+◌, ◌-◌, length, Some, arith, subst, rules}
use Rattle.aqe_blocks.specs.Cells.{size_of_cells, rows_of_cells}
use Rattle.aqe_blocks.specs.Kept.{HaveCells, of_map}
use Rattle.aqe_blocks.proofs.Totals.{within_found, alike_at, totalled_less}
use Rattle.aqe_blocks.proofs.stage_outputs.StageOutputs.release.Goals as goal

pub overflow_sub-self : goal.overflow_sub-self
overflow_sub-self c =
    let found : of_map c.self.inside.outputs.entries c.args.map ≡ Some c.in-Some.output = search rules in
    rw (c.self.invariant.all, c.size.ensures) (within_found size_of_cells c.self.inside.outputs.entries c.args.map c.in-Some.output found)

pub overflow_sub-self-2 : goal.overflow_sub-self-2
overflow_sub-self-2 c =
    let found : of_map c.self.inside.outputs.entries c.args.map ≡ Some c.in-Some.output = search rules in
    rw (c.self.invariant.count, c.count.ensures) (within_found rows_of_cells c.self.inside.outputs.entries c.args.map c.in-Some.output found)

pub invariant_of-self : goal.invariant_of-self
invariant_of-self c =
    let stage = c.self.inside.outputs.entries in
    let found : of_map stage c.args.map ≡ Some c.in-Some.output = search rules in
    let sizes : c.self.inside.size - c.size.result + size_of_cells c.in-Some.output ≡ c.self.inside.size =
    let part = within_found size_of_cells stage c.args.map c.in-Some.output found in let all = c.self.invariant.all in let size = c.size.ensures in omega (arith, part, all, size) in
    let counts : c.self.inside.rows - c.count.result + rows_of_cells c.in-Some.output ≡ c.self.inside.rows =
    let part = within_found rows_of_cells stage c.args.map c.in-Some.output found in let all = c.self.invariant.count in let count = c.count.ensures in omega (arith, part, all, count) in
    rw c.remove.ensures.entries (totalled_less stage c.args.map c.in-Some.output c.self.inside.size c.self.inside.rows _ _ c.self.invariant found sizes counts)

pub returns-clause-alike : goal.returns-clause-alike
returns-clause-alike c =
    let found : of_map c.self.inside.outputs.entries c.args.map ≡ Some c.in-Some.output = search rules in
    subst (HaveCells (length c.in-Some.output)) c.self.view_is (alike_at c.self.inside.outputs.entries c.args.map c.in-Some.output c.self.invariant.alike found)
