use Rattle.std.proofs.Common.{◌≤◌}
use Rattle.std.specs.List.{position_or_len}
use Rattle.aqe_script.specs.Statements as spec
use Rattle.aqe_script.proofs.part.part_len.Given as goal

abbrev pub invariant-loop-i : goal.invariant-loop-i
invariant-loop-i l = l.i ≤ position_or_len (spec.is_semicolon l.source) l.tokens
