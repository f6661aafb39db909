use Rattle.std.proofs.Common.{arith}
use Rattle.aqe_run.proofs.statement.printed.Goals as goal

pub answer-requires : goal.answer-requires
answer-requires g c =
    let few = c.requires.few in
    let same = c.requires.counted in
    record { query = c.requires.query; range = c.requires.range; few = omega (arith, few, same) }

pub returns-in-Ok-clause-text : goal.returns-in-Ok-clause-text
returns-in-Ok-clause-text g c = rw c.requires.counted c.in-Ok.ensures.text

pub returns-in-Err-clause-behind : goal.returns-in-Err-clause-behind
returns-in-Err-clause-behind g c = rw c.requires.counted c.in-Err.ensures.memory
