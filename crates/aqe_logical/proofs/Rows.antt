-- Rows and values: equality as data, and rows in another order.
use Rattle.std.proofs.Common.{rules}
use Rattle.std.specs.Cmp.Lexicographic.{pointwise_decides}
use Rattle.aqe_values.specs.Equality.{ValuesEqualAsData, RowsEqualAsData}

pub values_same : ValuesEqualAsData
values_same a b = search rules

pub rows_same : RowsEqualAsData
rows_same a b = pointwise_decides values_same a b
