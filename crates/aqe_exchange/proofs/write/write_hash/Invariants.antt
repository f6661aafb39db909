-- the rows that were walked stand in their parts
use Rattle.std.proofs.Common.{◌≡◌, take}
use Rattle.aqe_places.specs.Places.{by_hash, exchanged}
use Rattle.aqe_exchange.proofs.write.write_hash.Given as goal

abbrev pub invariant-rows : goal.invariant-rows
invariant-rows l = l.parts ≡ exchanged (by_hash l.n l.keys) l.n (take l.row-index l.row-items)
