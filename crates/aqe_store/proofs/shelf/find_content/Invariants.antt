use Rattle.std.proofs.Common.{◌≡◌, drop}
use Rattle.aqe_store.specs.Files.{content_of}
use Rattle.aqe_store.proofs.shelf.find_content.Given as goal

-- the entries so far have other paths
abbrev pub invariant-entries : goal.invariant-entries
invariant-entries l = content_of l.files l.path ≡ content_of (drop l.entry-index l.files) l.path
