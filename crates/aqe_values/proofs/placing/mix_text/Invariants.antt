-- the words that were walked are mixed in
use Rattle.std.proofs.Common.{◌≡◌, length}
use Rattle.aqe_values.specs.Murmur.{text_mixed}
use Rattle.aqe_values.proofs.placing.mix_text.Given as goal

abbrev pub invariant-words : goal.invariant-words
invariant-words l = text_mixed l.mixed l.rest ≡ text_mixed l.hash l.bytes

abbrev pub decreases-words : goal.decreases-words
decreases-words l = length l.rest
