use Rattle.std.proofs.Common.{rules, sym, ◌∙◌, chars}
use Rattle.aqe_like.specs.Patterns.{items}
use Rattle.aqe_like.proofs.Matching.{run_now}
use Rattle.aqe_like.proofs.pattern.likes.Goals as goal

pub returns-in-Whole-laid : goal.returns-in-Whole-laid
returns-in-Whole-laid c = sym (c.places.invariant.decides ∙ run_now (items (chars c.places.left.now)) (chars c.places.place.now) (search rules))

pub places-preserved : goal.places-preserved
places-preserved c = record { place_utf8 = search rules; left_utf8 = search rules; decides = c.places.invariant.decides ∙ (search rules) }

pub returns-in-None : goal.returns-in-None
returns-in-None c = sym (c.places.invariant.decides ∙ (search rules))
