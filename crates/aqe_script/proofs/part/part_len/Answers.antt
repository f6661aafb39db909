use Rattle.std.proofs.Common.{sym, ◌∙◌, arith}
use Rattle.aqe_script.specs.Statements as spec
use Rattle.aqe_script.proofs.PartLemmas.{first_here, first_later, first_none}
use Rattle.aqe_script.proofs.part.part_len.Goals as goal

pub returns-then-is_semicolon-clause-value : goal.returns-then-is_semicolon-clause-value
returns-then-is_semicolon-clause-value c =
    first_here (spec.is_semicolon c.args.source.now) c.args.tokens.now c.loop-i.i _ c.loop-i.invariant (sym c.is_semicolon.ensures ∙ c.if-is_semicolon.true)

pub loop-i-preserved : goal.loop-i-preserved
loop-i-preserved c =
    first_later (spec.is_semicolon c.args.source.now) c.args.tokens.now c.loop-i.i _ c.loop-i.invariant c.loop-i-test.true (sym c.is_semicolon.ensures ∙ c.if-is_semicolon.false)

pub returns-clause-value : goal.returns-clause-value
returns-clause-value c = first_none (spec.is_semicolon c.args.source.now) c.args.tokens.now c.loop-i.i c.loop-i.invariant (omega (arith, c.loop-i-test.false))
