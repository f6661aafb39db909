-- the files that were passed are read, and the store is as it was but for its counts
use Rattle.std.proofs.Common.{◌≡◌, ◌≤◌, length}
use Rattle.std.specs.Prelude.{All}
use Rattle.aqe_store.specs.Told.{KeepsFiles, WhereTold}
use Rattle.aqe_tables.specs.Load.{AreWide, bytes_limit}
use Rattle.aqe_tables.specs.Reading.{ReadUpTo}
use Rattle.aqe_tables.proofs.load.read_files.Given as goal

abbrev pub invariant-files : goal.invariant-files
invariant-files g l = record {
  keeps : KeepsFiles (g.S.Store.files l.fn.store) (g.S.Store.files l.store);
  faults : g.S.Store.faults l.store ≡ g.S.Store.faults l.fn.store;
  misses : g.S.Store.misses l.store ≡ g.S.Store.misses l.fn.store;
  read : WhereTold (g.S.Store.files l.fn.store) (λ told. ReadUpTo told l.table l.names l.before l.name-index l.files l.total);
  count : length l.files ≡ l.name-index;
  wide : All (AreWide (length l.table.form.schema)) l.files;
  begun : l.before ≤ l.total;
  room : l.total ≤ bytes_limit;
}
