use Rattle.std.proofs.Common.{◌≡◌, ◌+◌, length}
use Rattle.aqe_lexer.proofs.Progress.{Going}
use Rattle.aqe_lexer.proofs.lexer.read.Given as goal

abbrev pub invariant-pieces : goal.invariant-pieces
invariant-pieces l = record {
  going : Going l.text l.tokens l.at l.rest;
  place : l.at + length l.rest ≡ length l.text;
}

abbrev pub decreases-pieces : goal.decreases-pieces
decreases-pieces l = length l.rest
