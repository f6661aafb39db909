use Rattle.std.proofs.Common.{rules, Bool}
use Rattle.std.proofs.lemmas.Fn.{always_returns_same}
use Rattle.aqe_logical.specs.Answers.{Row}
use Rattle.aqe_ranges.specs.Order.{key_less}
use Rattle.aqe_ranges.proofs.Counted.{parted, counted}
use Rattle.aqe_ranges.proofs.place.bounds_before.Goals as goal

pub returns-clause-value : goal.returns-clause-value
returns-clause-value c =
    let before : Row → Bool = λ bound. key_less c.args.keys.now bound c.args.key.now in
    let answers = always_returns_same _ _ _ (λ a r f k. search rules) in
    let point = c.partition_point.ensures.partitioned before answers (parted c.args.keys.now c.args.bounds.now c.args.key.now c.requires) in
    counted before c.args.bounds.now c.partition_point.result c.partition_point.ensures.bound point
