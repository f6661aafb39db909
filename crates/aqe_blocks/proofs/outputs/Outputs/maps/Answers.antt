use Rattle.std.proofs.Common.{◌≡◌, [], subst, sym, rules}
use Rattle.std.specs.List.Sorted.{IsStrictlySortedBy}
use Rattle.std.specs.Map.{keys_of}
use Rattle.std.specs.Ordering.{nat_cmp}
use Rattle.aqe_blocks.specs.Kept.{kept_of}
use Rattle.aqe_blocks.proofs.outputs.Outputs.maps.Goals as goal

pub returns-in-None-clause-order : goal.returns-in-None-clause-order
unfolding IsStrictlySortedBy
returns-in-None-clause-order c =
    let none : kept_of c.args.self.now c.args.stage.0 ≡ [] = search rules in
    subst (λ kept. IsStrictlySortedBy nat_cmp (keys_of kept)) (sym none) tt
