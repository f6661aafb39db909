use Rattle.std.proofs.Common.{take}
use Rattle.aqe_store.specs.Shelf.{IsGathered}
use Rattle.aqe_store.proofs.shelf.names_of.Given as goal

abbrev pub invariant-entries : goal.invariant-entries
invariant-entries l = IsGathered (take l.entry-index l.files) l.folder l.is_there l.names
