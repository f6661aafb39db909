use Rattle.std.proofs.Common.{sym}
use Rattle.aqe_trees.specs.Keywords as spec
use Rattle.aqe_trees.proofs.KeywordLemmas.{found_here, found_later}
use Rattle.aqe_trees.proofs.keyword.spelled_among.Goals as goal

pub returns-then-spells : goal.returns-then-spells
returns-then-spells c = found_here (λ key. spec.spells c.args.text.now key) c.args.keys.now c.keys.key-index _ c.keys-test.true
    (sym c.if-spells.ensures) c.keys.invariant

pub keys-preserved : goal.keys-preserved
keys-preserved c = found_later (λ key. spec.spells c.args.text.now key) c.args.keys.now c.keys.key-index _ c.keys-test.true
    (sym c.if-spells.ensures) c.keys.invariant
