use Rattle.std.proofs.Common.{◌≡◌, ◌+◌, ◌<◌, ◌≤◌, List, ℕ, ◌++◌, length, chars}
use denote.Text.{Utf8}
use denote.Shadow.{shadow}
use Rattle.aqe_like.proofs.search.with_characters.Given as goal

abbrev pub invariant-skipped : goal.invariant-skipped
invariant-skipped l = record {
  left_utf8 : shadow (Utf8 l.left);
  characters : length (chars l.left) ≡ l.fn.count + l.more;
  front : (front : List ℕ) × (chars l.fn.text ≡ front ++ chars l.left);
  shorter : length l.left ≤ length l.fn.text;
  passed : l.more < l.initial.more → length l.left < length l.fn.text;
}

abbrev pub decreases-skipped : goal.decreases-skipped
decreases-skipped l = l.more
