use Rattle.std.proofs.Common.{◌≡◌, take, fold, Some}
use Rattle.aqe_values.specs.declared.sql_type.SqlType.TheVariants as sql
use Rattle.aqe_rules.specs.Kinds.{common_with}
use Rattle.aqe_rules.proofs.typed.common_of_all.Given as goal

abbrev pub invariant-all : goal.invariant-all
invariant-all l = l.so_far ≡ fold (λ so_far a. common_with so_far a.kind) (Some sql.NullType) (take l.a-index l.all)
