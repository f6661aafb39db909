use Rattle.std.proofs.Common.{subst}
use Rattle.std.specs.Prelude.{MatchResult, Err, ◌≡◌, ◌++◌, ◌∷◌, []}
use Rattle.aqe_sources.specs.Given.{Gives}
use Rattle.aqe_outputs.proofs.OutputSteps.{column_more}
use Rattle.aqe_outputs.proofs.outputs.with_column.Goals as goal

pub returns : goal.returns
returns c = λ before os o h k.
    column_more before os o c.args.so_far c.args.next c.pushed.result h k
    (subst (λ (both : _). MatchResult both (λ b. Gives c.pushed.result (λ all. all ≡ b.0 ++ b.1 ∷ [])) (λ f. c.pushed.result ≡ Err f)) c.both_of.ensures c.pushed.ensures)
