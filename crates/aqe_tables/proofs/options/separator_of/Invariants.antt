-- no option that was passed chooses a separator
use Rattle.std.proofs.Common.{◌≡◌, drop}
use Rattle.aqe_tables.specs.Options.{separator_of}
use Rattle.aqe_tables.proofs.options.separator_of.Given as goal

abbrev pub invariant-options : goal.invariant-options
invariant-options l = separator_of (drop l.option-index l.options) ≡ separator_of l.options
