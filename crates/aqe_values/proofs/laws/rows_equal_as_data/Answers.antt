-- Where the test of the values tells sameness, so does the test of the lists.
use Rattle.std.specs.Cmp.Lexicographic.{pointwise_decides}
use Rattle.std.proofs.Common.{rules}
use Rattle.aqe_values.specs.Equality.{ValuesEqualAsData}
use Rattle.aqe_values.proofs.laws.rows_equal_as_data.Goals as goal

values : ValuesEqualAsData
values a b = search rules

pub returns : goal.returns
returns c a b = pointwise_decides values a b
