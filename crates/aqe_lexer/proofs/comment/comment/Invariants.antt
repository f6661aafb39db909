use Rattle.std.proofs.Common.{◌≤◌, ◌<◌, ◌+◌, length}
use Rattle.aqe_lexer.specs.Parts.{Passes, comment_step}
use Rattle.aqe_lexer.proofs.comment.comment.Given as goal

abbrev pub invariant-parts : goal.invariant-parts
invariant-parts l = record {
  passed : Passes comment_step (1, l.bytes) (l.depth, l.rest);
  counted : 0 < l.depth;
  within : l.depth + length l.rest ≤ 1 + length l.bytes;
  shorter : length l.rest ≤ length l.bytes;
}

abbrev pub decreases-parts : goal.decreases-parts
decreases-parts l = length l.rest
