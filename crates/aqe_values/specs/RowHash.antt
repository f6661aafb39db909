-- What a row writes into a hasher: its number of values, and then what each of them writes.
use Rattle.std.specs.Prelude.{List, true, ◌≡◌}
use Rattle.std.specs.Hash.{HashWrites, items_Alike}
use Rattle.std.specs.Hash as fed
use Rattle.aqe_values.specs.declared.value.Value.{Value}
use Rattle.aqe_values.specs.Equality.{row_eq}
use Rattle.aqe_values.specs.contracts.value.ValueHash.TheImpl as hash
use Rattle.aqe_values.specs.contracts.value.ValueHash.TheImpl.Laws.{respects_eq-law}

-- what a value writes: which type it has, and its content
abbrev pub value_writes : Value → HashWrites
value_writes = (hash.ghosts).hash_input

-- what a row writes
abbrev pub row_writes : List Value → HashWrites
row_writes = fed.slice value_writes

pub rows_alike : (a b : List Value) → row_eq a b ≡ true → row_writes a ≡ row_writes b
rows_alike = (items_Alike (record { fed = respects_eq-law })).fed
