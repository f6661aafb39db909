use Rattle.std.proofs.Common.{arith, rules}
use Rattle.aqe_tables.proofs.IndexFacts.{indexed}
use Rattle.aqe_tables.proofs.catalog.Catalog.put.Goals as goal

pub invariant_of-self-in-Ok : goal.invariant_of-self-in-Ok
invariant_of-self-in-Ok c = (
  search (rules, arith),
  search rules,
  indexed c.self.inside.names.numbers c.add.new.self.numbers c.self.inside.tables.items c.args.table c.push.new.self.items c.len-number.result c.name_hash-hash.result
      (c.self.invariant.2) (search rules) (search rules) (search rules) (search rules),
)
