use Rattle.std.proofs.Common.{◌↔◌, All, length}
use Rattle.aqe_lexer.specs.Spans.{StandsIn}
use Rattle.aqe_script.specs.Depth as spec
use Rattle.aqe_script.proofs.depth.is_too_open.Given as goal

abbrev pub invariant-parts : goal.invariant-parts
invariant-parts l = All (StandsIn l.source) l.rest × (spec.IsTooOpen l.source l.rest ↔ spec.IsTooOpen l.source l.tokens)

abbrev pub decreases-parts : goal.decreases-parts
decreases-parts l = length l.rest
