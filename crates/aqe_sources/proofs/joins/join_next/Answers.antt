use Rattle.std.proofs.Common.{subst}
use Rattle.std.specs.Prelude.{MatchResult, Err, ◌≡◌}
use Rattle.aqe_rules.specs.Sources as spec
use Rattle.aqe_sources.specs.Seen.{from_seen, SaysSeen}
use Rattle.aqe_sources.proofs.JoinSteps.{next_says}
use Rattle.aqe_sources.proofs.joins.join_next.Goals as goal

pub returns : goal.returns
returns c = λ o p h k.
    next_says (spec.join c.args.kind c.args.on.now) o p c.args.left c.args.right c.joined_sides.result h k
    (subst (λ (sides : _). MatchResult sides (λ s. SaysSeen from_seen c.joined_sides.result (spec.join c.args.kind c.args.on.now (from_seen s.0) (from_seen s.1)))
    (λ f. c.joined_sides.result ≡ Err f)) c.both_of.ensures c.joined_sides.ensures)
