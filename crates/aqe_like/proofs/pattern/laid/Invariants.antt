use Rattle.std.proofs.Common.{◌≤◌, length, chars}
use denote.Text.{Utf8}
use denote.Shadow.{shadow}
use Rattle.aqe_like.specs.Patterns.{items}
use Rattle.aqe_like.proofs.Matching.{GoesOn}
use Rattle.aqe_like.proofs.pattern.laid.Given as goal

abbrev pub invariant-items : goal.invariant-items
invariant-items l = record {
  place_utf8 : shadow (Utf8 l.place);
  left_utf8 : shadow (Utf8 l.left);
  goes_on : GoesOn (items (chars l.fn.pattern)) (chars l.fn.text) (items (chars l.left)) (chars l.place);
  shorter : length l.left ≤ length l.fn.pattern;
  behind : length l.place ≤ length l.fn.text;
}

abbrev pub decreases-items : goal.decreases-items
decreases-items l = length l.left
