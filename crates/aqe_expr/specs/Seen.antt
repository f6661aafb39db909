-- A value that is lent, or made.
use Rattle.aqe_values.specs.declared.value.Value.{Value}
use Rattle.aqe_expr.specs.declared.seen.Seen.{Seen}
use Rattle.aqe_expr.specs.declared.seen.Seen.TheVariants.{Lent, Made}

abbrev pub value_of : Seen → Value
value_of (Lent v) = v.now
value_of (Made v) = v
