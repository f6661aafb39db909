-- What a lent value is.
use Rattle.aqe_values.specs.declared.value.Value.{Value}
use Rattle.aqe_values.specs.declared.value.Value.TheVariants as value
use Rattle.aqe_blocks.specs.declared.row_ref.ValueRef.{ValueRef}
use Rattle.aqe_blocks.specs.declared.row_ref.ValueRef.TheVariants as lent

-- the value that is lent
abbrev pub seen : ValueRef → Value
seen lent.Null = value.Null
seen (lent.Boolean b) = value.Boolean b
seen (lent.Int n) = value.Int n
seen (lent.BigInt n) = value.BigInt n
seen (lent.Text bytes) = value.Text bytes.now
