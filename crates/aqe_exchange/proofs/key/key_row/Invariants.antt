-- the keys that were walked have their values
use Rattle.std.proofs.Common.{◌≡◌, take}
use Rattle.aqe_logical.specs.Groups.{row_of}
use Rattle.aqe_exchange.proofs.key.key_row.Given as goal

abbrev pub invariant-keys : goal.invariant-keys
invariant-keys l = l.key ≡ row_of (take l.expr-index l.keys) l.row
