-- what the tables that are left come to is what all come to, and the store is as it was
use Rattle.std.proofs.Common.{◌≡◌, ◌<◌, ℕ, length}
use Rattle.std.specs.Prelude.{All}
use Rattle.aqe_store.specs.Told.{KeepsFiles, WhereTold}
use Rattle.aqe_tables.specs.Loaded.{AreShaped, IsLoaded}
use Rattle.aqe_run.proofs.LoadFacts.{Behind, Covers}
use Rattle.aqe_run.proofs.loading.load_all.Given as goal

abbrev pub invariant-tables : goal.invariant-tables
invariant-tables g l = record {
  keeps : KeepsFiles (g.S.Store.files l.fn.store) (g.S.Store.files l.store);
  faults : g.S.Store.faults l.store ≡ g.S.Store.faults l.fn.store;
  misses : g.S.Store.misses l.store ≡ g.S.Store.misses l.fn.store;
  behind : WhereTold (g.S.Store.files l.fn.store) (λ files. Behind files l.catalog l.fn.tables l.numbers l.tables l.left);
  covers : Covers l.tables l.left l.numbers;
  stays : (n : ℕ) → IsLoaded l.fn.tables n → IsLoaded l.tables n;
  left : All (λ n. IsLoaded l.fn.tables n) l.numbers → All (λ n. IsLoaded l.fn.tables n) l.left;
  shaped : AreShaped l.catalog l.tables;
  within : All (λ n. n < length l.catalog) l.left;
}

abbrev pub decreases-tables : goal.decreases-tables
decreases-tables g l = length l.left
