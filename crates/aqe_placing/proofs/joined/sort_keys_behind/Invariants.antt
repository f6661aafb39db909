use Rattle.std.proofs.Common.{◌≡◌, map, take}
use Rattle.aqe_columns.specs.Replacing.{replaced}
use Rattle.aqe_placing.specs.Columns.{key_by}
use Rattle.aqe_placing.proofs.joined.sort_keys_behind.Given as goal

abbrev pub invariant-keys : goal.invariant-keys
invariant-keys l = l.made ≡ map (key_by (replaced l.columns)) (take l.key-index l.keys)
