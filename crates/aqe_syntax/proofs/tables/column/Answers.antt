use Rattle.aqe_syntax.proofs.TableReadings.{column_read, column_name_refused, column_type_refused}
use Rattle.aqe_syntax.proofs.tables.column.Goals as goal

pub returns-in_default : goal.returns-in_default
returns-in_default c = λ r. column_name_refused c.in_default.ensures

pub returns-in_default-type_at : goal.returns-in_default-type_at
returns-in_default-type_at c = λ r. column_type_refused c.in-Some.ensures c.in_default-type_at.ensures

pub returns : goal.returns
returns c = rw c.in_ok-copied.ensures (column_read c.in-Some.ensures c.in-Some-type_at.ensures)
