use Rattle.std.proofs.Common.{rules}
use Rattle.aqe_logical.specs.Order.{key_of}
use Rattle.aqe_ranges.proofs.Picked.{key_more}
use Rattle.aqe_ranges.proofs.sampling.sample.Goals as goal

pub sampled-preserved : goal.sampled-preserved
sampled-preserved c =
    key_more (key_of c.args.keys.now) c.args.rows.now c.min-size.result c.sampled.i c.even_place.result c.at-row.result.now c.sampled.sampled c.push_key.new.sampled
    (search rules) (search rules) c.at-row.ensures c.sampled.invariant (search rules)
