use Rattle.std.proofs.Common.{rules}
use Rattle.aqe_unions.proofs.UnionSteps.{all_rows}
use Rattle.aqe_unions.proofs.unions.united.Goals as goal

pub returns-else-distinct : goal.returns-else-distinct
returns-else-distinct c = all_rows c.args.distinct c.args.left c.args.right c.union.result (search rules) c.union.ensures
