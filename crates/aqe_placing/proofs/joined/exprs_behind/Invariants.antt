use Rattle.std.proofs.Common.{◌≡◌, map, take}
use Rattle.aqe_columns.specs.Replacing.{replaced}
use Rattle.aqe_placing.proofs.joined.exprs_behind.Given as goal

abbrev pub invariant-exprs : goal.invariant-exprs
invariant-exprs l = l.made ≡ map (replaced l.columns) (take l.expr-index l.exprs)
