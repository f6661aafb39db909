use Rattle.std.proofs.Common.{rules, ◌∙◌}
use Rattle.aqe_estimates.proofs.Filling.{all_reached_in, estimates_are}
use Rattle.aqe_estimates.proofs.estimates.estimates_of.Goals as goal

pub fill-requires-clause-reached : goal.fill-requires-clause-reached
fill-requires-clause-reached c = all_reached_in c.in_ok-scanned.scanned.items c.as_slice-2.result.now c.in_ok-known.known.items (search rules) (search rules)

pub returns : goal.returns
returns c =
    c.from_vec.ensures ∙ estimates_are c.args.tables.now c.args.query.now c.in_ok-scanned.scanned.items c.as_slice-2.result.now c.in_ok-known.known.items c.fill.new.known.items
    (search rules) (search rules) (search rules) c.fill.ensures
