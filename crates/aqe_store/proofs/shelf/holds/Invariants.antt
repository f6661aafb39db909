use Rattle.std.proofs.Common.{◌≢◌, ℕ, List, ◌<◌, get_or}
use Rattle.aqe_store.proofs.shelf.holds.Given as goal

-- the names so far are other names
abbrev pub invariant-held : goal.invariant-held
invariant-held l = (k : ℕ) (d : List ℕ) → k < l.held-index → get_or l.names k d ≢ l.name
