use Rattle.std.proofs.Common.{rules}
use Rattle.aqe_sources.proofs.TableSteps.{found_source, no_source}
use Rattle.aqe_sources.proofs.source.table_source.Goals as goal

pub returns-in-Some : goal.returns-in-Some
returns-in-Some c =
    rw (found_source c.args.catalog.now c.args.name.now c.args.alias.now c.in-Some.table c.schema.result.now (search rules) (search rules)) (search rules)

pub returns-in-None : goal.returns-in-None
returns-in-None c = rw (no_source c.args.catalog.now c.args.name.now c.args.alias.now (search rules)) (search rules)
