use Rattle.std.proofs.Common.{sym}
use Rattle.std.proofs.lemmas.List.{drop_all}
use Rattle.aqe_phrases.proofs.Chains.{going_begin, going_step, going_all}
use Rattle.aqe_spell.proofs.Tables.{option_step, options_spelled}
use Rattle.aqe_spell.proofs.table.options.Goals as goal

pub more-init : goal.more-init
more-init c = going_begin

pub more-preserved : goal.more-preserved
more-preserved c = going_step c.in-Some.rest.now c.more.next-index c.next-item.result c.more-test.true (sym c.next-item.is) c.more.invariant (option_step c.in_ok-fixed.ensures c.in_ok-option-2.ensures)

pub returns : goal.returns
returns c = rw c.in-Some.ensures.cases.0 (options_spelled c.in_ok-option.ensures (going_all (drop_all c.more.next-index c.in-Some.rest.now c.more-test.false) c.more.invariant))
