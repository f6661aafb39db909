use Rattle.std.proofs.Common.{subst}
use Rattle.std.specs.Prelude.{MatchResult, Err, ◌≡◌}
use Rattle.aqe_rules.specs.Faults.{Says}
use Rattle.aqe_rules.specs.Unions.{union_of}
use Rattle.aqe_analysis.proofs.StepLemmas.{sides_say}
use Rattle.aqe_analysis.proofs.steps.united_next.Goals as goal

pub returns : goal.returns
returns c = λ o p h k.
    sides_say (union_of c.args.distinct) o p c.args.left c.args.right c.united.result h k
    (subst (λ (sides : _). MatchResult sides (λ s. Says c.united.result (union_of c.args.distinct s.0 s.1)) (λ f. c.united.result ≡ Err f)) c.both_of.ensures c.united.ensures)
