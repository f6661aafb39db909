use Rattle.std.proofs.Common.{◌≡◌, length, Some, subst, rules}
use Rattle.aqe_blocks.specs.Kept.{HaveCells, of_map}
use Rattle.aqe_blocks.proofs.Totals.{alike_at}
use Rattle.aqe_blocks.proofs.stage_outputs.StageOutputs.output.Goals as goal

pub returns-clause-alike : goal.returns-clause-alike
returns-clause-alike c =
    let found : of_map c.self.inside.outputs.entries c.args.map ≡ Some c.index.result.now = search rules in
    subst (HaveCells (length c.index.result.now)) c.self.view_is (alike_at c.self.inside.outputs.entries c.args.map c.index.result.now c.self.invariant.alike found)
