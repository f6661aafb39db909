use Rattle.std.proofs.Common.{◌≡◌, take, fold, Some}
use Rattle.aqe_rules.specs.Kinds.{common_with}
use Rattle.aqe_rules.proofs.operations.common_with_list.Given as goal

abbrev pub invariant-all : goal.invariant-all
invariant-all l = l.so_far ≡ fold (λ so_far a. common_with so_far a.kind) (Some l.fn.a.kind) (take l.b-index l.all)
