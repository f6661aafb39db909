-- no option that was passed is bad
use Rattle.std.proofs.Common.{◌≡◌, take, drop, []}
use Rattle.aqe_tables.specs.Options.{bad_key}
use Rattle.aqe_tables.proofs.options.bad_key.Given as goal

abbrev pub invariant-options : goal.invariant-options
invariant-options l = bad_key (take l.i l.options) (drop l.i l.options) ≡ bad_key [] l.options
