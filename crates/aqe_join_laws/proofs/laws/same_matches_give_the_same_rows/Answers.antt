use Rattle.aqe_join_laws.proofs.Agreeing.{same_matches}
use Rattle.aqe_join_laws.proofs.laws.same_matches_give_the_same_rows.Goals as goal

pub returns : goal.returns
returns c = same_matches
