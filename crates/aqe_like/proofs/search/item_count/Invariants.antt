use Rattle.std.proofs.Common.{◌≡◌, ◌+◌, ◌≤◌, length, chars}
use Rattle.std.specs.Prelude.{option_map}
use denote.Text.{Utf8}
use denote.Shadow.{shadow}
use Rattle.aqe_like.specs.Patterns.{items, span}
use Rattle.aqe_like.proofs.search.item_count.Given as goal

abbrev pub invariant-items : goal.invariant-items
invariant-items l = record {
  left_utf8 : shadow (Utf8 l.left);
  counted : span (items (chars l.fn.pattern)) ≡ option_map (λ n. l.count + n) (span (items (chars l.left)));
  shorter : l.count + length l.left ≤ length l.fn.pattern;
}

abbrev pub decreases-items : goal.decreases-items
decreases-items l = length l.left
