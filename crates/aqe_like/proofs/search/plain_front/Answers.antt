use Rattle.std.proofs.Common.{rules}
use Rattle.aqe_like.proofs.Searching.{seam, front_begins}
use Rattle.aqe_like.proofs.search.plain_front.Goals as goal

pub range-requires-clause-end_boundary : goal.range-requires-clause-end_boundary
range-requires-clause-end_boundary c = seam c.args.pattern.now c.behind_plain-rest.result.now (search rules) (search rules)

pub returns : goal.returns
returns c = front_begins c.args.pattern.now c.behind_plain-rest.result.now c.range.result.now (search rules) (search rules)
