use Rattle.aqe_replan.proofs.Steps.{read-sampled}
use Rattle.aqe_replan.proofs.replacing.read.Goals as goal

pub returns-in-None : goal.returns-in-None
returns-in-None c =
    read-sampled c.args.newest.stage c.args.newest.maps c.in-Range.n c.sampled.result c.args.to.now c.in-Range.keys c.in-Range.sample c.args.child.now c.in-Range.is c.in-None.is c.sampled.ensures
