use Rattle.std.proofs.Common.{rules}
use Rattle.aqe_rules.specs.Selects.{is_named}
use Rattle.aqe_sources.specs.Seen.{item_seen}
use Rattle.aqe_outputs.proofs.OutputSteps.{any-seen}
use Rattle.aqe_outputs.proofs.outputs.with_all_of.Goals as goal

pub returns-then-not-is_any_named : goal.returns-then-not-is_any_named
returns-then-not-is_any_named c = rw (any-seen (is_named c.args.name.now) item_seen c.args.shown.now.items) (search rules)

pub returns : goal.returns
returns c = rw (any-seen (is_named c.args.name.now) item_seen c.args.shown.now.items) (search rules)
