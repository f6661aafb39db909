use Rattle.std.proofs.Common.{◌≡◌, length, Some, ap, ◌∙◌, subst, rules}
use Rattle.std.proofs.lemmas.Map.Steps.{set_value_same}
use Rattle.std.proofs.lemmas.Result.{on_err_weaker}
use Rattle.std.specs.BTreeMap.{is_at}
use Rattle.std.specs.Map.{lookup, set_value}
use Rattle.std.specs.Ordering.{nat_cmp}
use Rattle.aqe_blocks.specs.Kept.{HaveCells, kept_of}
use Rattle.aqe_blocks.proofs.outputs.Outputs.keep.Goals as goal

pub keep-requires : goal.keep-requires
keep-requires c =
    let here : kept_of c.args.self.now c.args.stage.0 ≡ c.in-Some.kept.now = search rules in
    subst (HaveCells (length c.args.output)) here c.requires

pub returns-in-Some-clause-memory : goal.returns-in-Some-clause-memory
returns-in-Some-clause-memory c =
    let test = is_at (nat_cmp c.args.stage.0) in
    let kept = c.self.inside.stages.entries in
    let here : lookup test kept ≡ Some c.in-Some.kept.now = search rules in
    on_err_weaker c.keep.result
    (λ same. (c.get_mut.follows.holds c.keep.new.self).0 ∙ ap (set_value test kept) same ∙ set_value_same test kept c.in-Some.kept.now here ∙ c.self.view_is)
    c.keep.ensures.memory
