use Rattle.std.proofs.Common.{◌≡◌, ◌++◌, take}
use Rattle.aqe_logical.proofs.parts.append_fields.Given as goal

abbrev pub invariant-items : goal.invariant-items
invariant-items l = l.schema ≡ l.fn.schema ++ take l.field-index l.field-items
