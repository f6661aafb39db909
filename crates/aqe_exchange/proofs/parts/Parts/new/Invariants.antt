-- so many cells without rows were made
use Rattle.std.proofs.Common.{◌≡◌, replicate, []}
use Rattle.aqe_exchange.proofs.parts.Parts.new.Given as goal

abbrev pub invariant-cells : goal.invariant-cells
invariant-cells l = l.cells.items ≡ replicate l.counter []
