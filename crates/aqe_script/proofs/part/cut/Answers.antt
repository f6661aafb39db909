use Rattle.std.proofs.Common.{sym, ◌∙◌, arith, length, ◌-◌, ◌+◌}
use Rattle.aqe_lexer.specs.declared.token.TokenKind.TheVariants as kind
use Rattle.aqe_script.specs.Statements as spec
use Rattle.aqe_script.proofs.PartLemmas.{one_part, two_parts, parts_in_order}
use Rattle.aqe_script.proofs.part.cut.Goals as goal

pub returns-then-len-tokens-clause-parts : goal.returns-then-len-tokens-clause-parts
returns-then-len-tokens-clause-parts c =
    one_part (spec.is_semicolon c.args.source.now) c.args.tokens.now (record { kind = kind.Word; start = 0; end = 0 })
    (sym c.part_len-len.ensures.value ∙ c.if-len-tokens.true)

pub returns-clause-parts : goal.returns-clause-parts
returns-clause-parts c =
    two_parts (spec.is_semicolon c.args.source.now) c.args.tokens.now c.part_len-len.result (record { kind = kind.Word; start = 0; end = 0 })
    c.part_len-len.ensures.value (omega (arith, c.part_len-len.ensures.bound, c.if-len-tokens.false))

pub returns-clause-order : goal.returns-clause-order
returns-clause-order c = λ o. parts_in_order c.part_len-len.result (length c.args.tokens.now - (c.part_len-len.result + 1)) c.args.tokens.now o
