use Rattle.aqe_script.proofs.DepthLemmas.{counted_on, deep_here}
use Rattle.aqe_script.proofs.depth.is_part_too_open.Goals as goal

pub returns-then-opened-closed : goal.returns-then-opened-closed
returns-then-opened-closed c = (λ t. deep_here _ c.loop-token.invariant c.loop-token-test.true c.key_of-key.ensures c.opens-opened.ensures c.closes-closed.ensures c.if-opened-closed.true, λ d. cc)

pub loop-token-preserved : goal.loop-token-preserved
loop-token-preserved c = counted_on _ c.loop-token.invariant c.loop-token-test.true c.key_of-key.ensures c.opens-opened.ensures c.closes-closed.ensures c.if-opened-closed.false
