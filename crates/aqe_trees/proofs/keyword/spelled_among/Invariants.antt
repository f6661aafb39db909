use Rattle.std.proofs.Common.{◌≡◌, drop, find}
use Rattle.aqe_trees.specs.Keywords as spec
use Rattle.aqe_trees.proofs.keyword.spelled_among.Given as goal

-- what is found behind is what is found in all
abbrev pub invariant-keys : goal.invariant-keys
invariant-keys l = find (λ key. spec.spells l.text key) (drop l.key-index l.keys) ≡ find (λ key. spec.spells l.text key) l.keys
