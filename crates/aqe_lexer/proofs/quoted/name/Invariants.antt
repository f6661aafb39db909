use Rattle.std.proofs.Common.{◌≤◌, length}
use Rattle.aqe_lexer.specs.Parts.{Passes, step_by, name_part}
use Rattle.aqe_lexer.proofs.quoted.name.Given as goal

abbrev pub invariant-parts : goal.invariant-parts
invariant-parts l = record {
  passed : Passes (step_by name_part) l.bytes l.rest;
  within : length l.rest ≤ length l.bytes;
}

abbrev pub decreases-parts : goal.decreases-parts
decreases-parts l = length l.rest
