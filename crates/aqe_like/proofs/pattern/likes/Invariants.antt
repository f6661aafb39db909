use Rattle.std.proofs.Common.{◌≡◌, ◌+◌, ◌∷◌, length, chars}
use denote.Text.{Utf8}
use denote.Shadow.{shadow}
use Rattle.aqe_like.specs.declared.pattern.Item.TheVariants.{Run}
use Rattle.aqe_like.specs.Patterns.{items, like, matches}
use Rattle.aqe_like.proofs.pattern.likes.Given as goal

abbrev pub invariant-places : goal.invariant-places
invariant-places l = record {
  place_utf8 : shadow (Utf8 l.place);
  left_utf8 : shadow (Utf8 l.left);
  decides : like l.fn.text l.fn.pattern ≡ matches (Run ∷ items (chars l.left)) (chars l.place);
}

abbrev pub decreases-places : goal.decreases-places
decreases-places l = length l.place + length l.left
