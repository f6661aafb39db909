use Rattle.std.proofs.Common.{length}
use denote.Text.{Utf8}
use denote.Shadow.{shadow}
use Rattle.aqe_like.specs.Laying.{PlainFront}
use Rattle.aqe_like.proofs.search.behind_plain.Given as goal

abbrev pub invariant-plain : goal.invariant-plain
invariant-plain l = record {
  left_utf8 : shadow (Utf8 l.left);
  plain : PlainFront l.fn.pattern l.left;
}

abbrev pub decreases-plain : goal.decreases-plain
decreases-plain l = length l.left
