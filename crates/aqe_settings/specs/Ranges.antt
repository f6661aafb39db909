-- Which values each setting takes.
use Rattle.std.specs.Prelude.{◌≡◌, ℕ, ◌≤◌, ◌≤ℤ◌, negsuc, pos, List}
use Rattle.aqe_settings.specs.declared.entry.Kind.{Kind}
use Rattle.aqe_settings.specs.declared.entry.Kind.TheVariants as kind
use Rattle.aqe_settings.specs.declared.entry.Value.{Value}
use Rattle.aqe_settings.specs.declared.entry.Value.TheVariants as value
use Rattle.aqe_settings.specs.declared.key.SettingKey.{SettingKey}
use Rattle.aqe_settings.specs.Table.{Row, row_of}
use Rattle.aqe_settings.specs.Values.{value_of, partitions}

-- a number of bytes goes up to 9223372036854775807
abbrev pub greatest_size : ℕ
greatest_size = 9223372036854775807

-- a value is of a kind, and lies in its range
abbrev pub Fits : Kind → Value → Type 0
Fits kind.Flag (value.Flag on) = Unit {0}
Fits (kind.Count least most) (value.Number n) = least ≤ n × n ≤ most
Fits (kind.Size least) (value.Number n) = least ≤ n × n ≤ greatest_size
Fits kind.Threshold (value.Threshold n) = negsuc 0 ≤ℤ n × n ≤ℤ pos greatest_size
Fits (kind.Decimal most) (value.Number n) = n ≤ most
Fits _ _ = ⊥

-- a row takes a value: unset only where that is the default, else of the row's kind and in its range
abbrev pub Takes : Row → Value → Type 0
Takes row value.Unset = row.default ≡ value.Unset
Takes row (value.Flag on) = Fits row.kind (value.Flag on)
Takes row (value.Number n) = Fits row.kind (value.Number n)
Takes row (value.Threshold n) = Fits row.kind (value.Threshold n)

-- each value lies in the range of its key
abbrev pub InRange : List Value → Type 0
InRange values = (k : SettingKey) → Takes (row_of k) (value_of k values)

-- an exchange has 1 to 10000 partitions
abbrev pub PartitionsInRange : Type 0
PartitionsInRange = (values : List Value) → InRange values → 1 ≤ partitions values × partitions values ≤ 10000
