use Rattle.std.proofs.Common.{◌≡◌, map, take}
use Rattle.aqe_script.specs.Terminals as spec
use Rattle.aqe_script.proofs.terminal.terminals_of.Given as goal

abbrev pub invariant-loop-token : goal.invariant-loop-token
invariant-loop-token l = l.terminals.items ≡ map (spec.terminal_of l.source) (take l.token-index l.tokens)
