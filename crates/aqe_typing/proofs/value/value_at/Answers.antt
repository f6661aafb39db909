use Rattle.std.proofs.Common.{subst}
use Rattle.aqe_rules.specs.Outcomes.{Outcome}
use Rattle.aqe_rules.specs.Faults.{Says}
use Rattle.aqe_typing.specs.Places.{place_seen}
use Rattle.aqe_typing.proofs.LevelValues.{is_read}
use Rattle.aqe_typing.proofs.value.value_at.Goals as goal

pub returns : goal.returns
returns c = subst (λ (o : Outcome _). Says c.or.result o) (is_read c.args.tree.now (place_seen c.args.place.now)) c.or.ensures
