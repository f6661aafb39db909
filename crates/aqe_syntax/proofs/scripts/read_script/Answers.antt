use Rattle.aqe_syntax.proofs.SentenceReadings.{script_begin, script_step, script_done, script_fault}
use Rattle.aqe_syntax.proofs.scripts.read_script.Goals as goal

pub parts-init : goal.parts-init
parts-init c = (script_begin c.new-script.ensures, c.requires.stand, c.requires.order)

pub cut-requires : goal.cut-requires
cut-requires c = c.parts.invariant.1

pub add-requires : goal.add-requires
add-requires c = record { stand = c.cut.ensures.part; order = (c.cut.ensures.order c.parts.invariant.2).0; size = c.requires.size }

pub placed-requires : goal.placed-requires
placed-requires c = c.requires.stand

pub returns-in-Err : goal.returns-in-Err
returns-in-Err c = script_fault c.args.source.now c.args.tokens.now c.placed.result c.in-Err.fault c.cut.result.1 c.parts.invariant.0 c.cut.ensures.parts c.in-Err.ensures c.placed.ensures

pub parts-preserved : goal.parts-preserved
parts-preserved c = (script_step c.parts.invariant.0 (rw c.in-Some.is at c.cut.ensures.parts) c.in_default.ensures, rw c.in-Some.is at c.cut.ensures.rest, rw c.in-Some.is at (c.cut.ensures.order c.parts.invariant.2).1)

pub returns-in-None : goal.returns-in-None
returns-in-None c = script_done c.parts.invariant.0 (rw c.in-None.is at c.cut.ensures.parts) c.in_default.ensures
