use Rattle.std.proofs.Common.{rules}
use Rattle.aqe_logical.proofs.Schemas.{left_alone, both_sides}
use Rattle.aqe_logical.proofs.schema.+schema_of.Goals as goal

pub returns-then-not-shows_right : goal.returns-then-not-shows_right
returns-then-not-shows_right t c = left_alone c.args.logical.now c.in-Join.kind c.in-Join.cond c.in-Join.left c.in-Join.right c.in_ok-schema-in-Join.schema c.in-Join.is (search rules) (search rules)

pub returns-in_ok-both-in-Join : goal.returns-in_ok-both-in-Join
returns-in_ok-both-in-Join t c = both_sides c.args.logical.now c.in-Join.kind c.in-Join.cond c.in-Join.left c.in-Join.right c.in_ok-both-in-Join.both c.in-Join.is (search rules) (search rules)
