use Rattle.aqe_tables.proofs.NameFacts.{found_again, one_more}
use Rattle.aqe_tables.proofs.columns.repeated_name.Goals as goal

pub returns-in-Ok-false : goal.returns-in-Ok-false
returns-in-Ok-false c =
    found_again c.args.columns.now c.columns.column-index c.column-item.result c.columns.names.keys c.in_ok-name.name c.in-Ok-false.field-0
    c.columns-test.true c.column-item.is c.columns.invariant.0 c.columns.invariant.1 c.in_ok-name.ensures c.in-Ok-false.ensures.added c.in-Ok-false.field-0-test

pub columns-preserved : goal.columns-preserved
columns-preserved c =
    one_more c.args.columns.now c.columns.column-index c.column-item.result c.columns.names.keys c.insert.new.self.keys c.in_ok-name.name c.in-Ok-true.field-0
    c.columns-test.true c.column-item.is c.columns.invariant.0 c.columns.invariant.1 c.in_ok-name.ensures c.in-Ok-true.ensures.added c.in-Ok-true.field-0-test
    c.in-Ok-true.ensures.keys
