use Rattle.std.proofs.Common.{length, All}
use Rattle.aqe_lexer.specs.Spans.{StandsIn, InOrder}
use Rattle.aqe_script.specs.Statements.{parts_of}
use Rattle.aqe_syntax.proofs.SentenceReadings.{ScriptSoFar}
use Rattle.aqe_syntax.proofs.scripts.read_script.Given as goal

abbrev pub invariant-parts : goal.invariant-parts
invariant-parts l = ScriptSoFar l.source (parts_of l.source l.tokens) l.script (parts_of l.source l.rest) × All (StandsIn l.source) l.rest × InOrder 0 l.rest

abbrev pub decreases-parts : goal.decreases-parts
decreases-parts l = length l.rest
