use Rattle.std.proofs.Common.{rules}
use Rattle.aqe_like.proofs.Matching.{not_anywhere}
use Rattle.aqe_like.proofs.Searching.{fits_characters, fits_found}
use Rattle.aqe_like.proofs.search.next_place.Goals as goal

pub returns-in_err-behind-in-None : goal.returns-in_err-behind-in-None
returns-in_err-behind-in-None c = search (rules, not_anywhere)

pub returns-in-Some : goal.returns-in-Some
returns-in-Some c = fits_characters c.args.place.now c.args.pattern.now c.in-Some.count _ (search rules) (search rules) (search rules)

pub returns-in_ok-behind-in-None : goal.returns-in_ok-behind-in-None
returns-in_ok-behind-in-None c = fits_found c.args.place.now c.args.pattern.now c.in_ok-behind-in-None.behind.now c.plain_front.result.now c.in_ok-behind-in-None.field-0-0 _ (search rules) (search rules) (search rules) (search rules) (search rules) (search rules)
