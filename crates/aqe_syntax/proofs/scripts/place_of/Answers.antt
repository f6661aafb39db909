use Rattle.aqe_syntax.proofs.SentenceReadings.{token_place, end_place}
use Rattle.aqe_syntax.proofs.scripts.place_of.Goals as goal

pub returns-in-Some : goal.returns-in-Some
returns-in-Some c = token_place c.args.source.now c.args.tokens.now c.args.index _ _ c.requires c.get.ensures.lookup c.in-Some.is

pub returns-in-None : goal.returns-in-None
returns-in-None c = end_place c.args.source.now c.args.tokens.now
