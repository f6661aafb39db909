use Rattle.aqe_spell.proofs.Scripts.{query_text, table_text}
use Rattle.aqe_spell.proofs.statement.statement.Goals as goal

pub returns-in_ok-table-in-CreateTable : goal.returns-in_ok-table-in-CreateTable
returns-in_ok-table-in-CreateTable c = rw c.in-CreateTable.is (table_text c.in-CreateTable.form _ _ c.in_ok-table-in-CreateTable.ensures)

pub returns-in_ok-set-in-Set : goal.returns-in_ok-set-in-Set
returns-in_ok-set-in-Set c = rw c.in-Set.is c.in_ok-set-in-Set.ensures

pub returns-in_ok-query-in-Query : goal.returns-in_ok-query-in-Query
returns-in_ok-query-in-Query c = rw c.in-Query.is (query_text c.in-Query.tree _ _ c.in_ok-query-in-Query.ensures)
