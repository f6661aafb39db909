use Rattle.aqe_sources.specs.Seen.{items_seen}
use Rattle.aqe_grouping.proofs.SpreadSteps.{all_passed}
use Rattle.aqe_grouping.proofs.spreading.list_spread.Goals as goal

pub returns : goal.returns
returns c = all_passed c.args.has_from (items_seen c.args.items.now) c.list.rest.now c.args.list.now c.in_default.ensures.cases c.list.invariant
