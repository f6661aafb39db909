use Rattle.std.proofs.Common.{◌≡◌, drop}
use Rattle.aqe_rules.specs.Unions.{common_kinds}
use Rattle.aqe_unions.proofs.KindSteps.{behind}
use Rattle.aqe_unions.proofs.kinds.common_kinds.Given as goal

abbrev pub invariant-columns : goal.invariant-columns
invariant-columns l = behind l.kinds (common_kinds (drop l.field-index l.left) l.others) ≡ common_kinds l.left l.right
