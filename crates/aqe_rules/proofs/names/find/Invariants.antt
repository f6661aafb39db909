use Rattle.std.proofs.Common.{take, filter, option_map}
use Rattle.aqe_rules.specs.Found as found
use Rattle.aqe_rules.proofs.names.find.Given as goal

abbrev pub invariant-columns : goal.invariant-columns
invariant-columns l = found.IsFound l.so_far (filter (found.fits (option_map (λ t. t.now) l.table) l.name) (take l.column-index l.columns))
