use Rattle.std.proofs.Common.{◌≡◌, take, fold, Some}
use Rattle.aqe_values.specs.declared.sql_type.SqlType.TheVariants as sql
use Rattle.aqe_rules.specs.Kinds.{common_with}
use Rattle.aqe_rules.proofs.cases.common_of_results.Given as goal

abbrev pub invariant-arms : goal.invariant-arms
invariant-arms l = l.so_far ≡ fold (λ so_far arm. common_with so_far arm.1.kind) (Some sql.NullType) (take l.arm-index l.arms)
