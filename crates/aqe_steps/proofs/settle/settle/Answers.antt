use Rattle.std.proofs.Common.{◌∙◌}
use Rattle.aqe_steps.proofs.Settling.{nothing_left, settled_none, can_make_next, settled_more, settled_end, settled_steady}
use Rattle.aqe_steps.proofs.settle.settle.Goals as goal

pub makings-init : goal.makings-init
makings-init c =
    settled_none c.args.run.now c.in_ok-makings.makings c.into_iter-making-iterator.result.rest.items c.requires c.in_ok-makings.ensures (c.into_iter-making-iterator.ensures.into_iter_gives.0 ∙ c.into_vec-making-items.ensures)

pub make-requires : goal.make-requires
make-requires c = can_make_next c.args.run.now c.makings.run c.makings.making-iterator.rest.items c.next.new.self.rest.items c.in-Some.making c.makings.invariant c.in-Some.ensures.steps.0

pub makings-preserved : goal.makings-preserved
makings-preserved c =
    settled_more c.args.run.now c.makings.run c.make.new.run c.makings.making-iterator.rest.items c.next.new.self.rest.items c.in-Some.making c.makings.invariant c.in-Some.ensures.steps.0 c.in_ok-make.ensures

pub returns-clause-steady : goal.returns-clause-steady
returns-clause-steady c = settled_steady c.args.run.now c.makings.run c.makings.making-iterator.rest.items c.makings.invariant

pub returns-clause-made : goal.returns-clause-made
returns-clause-made c =
    settled_end c.args.run.now c.makings.run c.makings.making-iterator.rest.items c.makings.invariant
    (nothing_left c.makings.making-iterator.rest.items c.makings.making-iterator.rest.len c.makings.making-iterator.rest.ok.0 c.in-None.ensures.steps.0)
