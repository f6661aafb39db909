use Rattle.std.proofs.Common.{rules}
use Rattle.aqe_tables.proofs.IndexFacts.{found}
use Rattle.aqe_tables.proofs.catalog.Catalog.find.Goals as goal

pub returns : goal.returns
returns c =
    let is = found c.self.inside.names.numbers c.self.inside.tables.items c.args.name.now (c.self.invariant.2) in
    search (rules, is)
