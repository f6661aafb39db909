-- Positions among the output columns, as the code reads them.
use Rattle.std.specs.Prelude.{ℕ, zero, suc, Bool, true, false, List, Option, None, slice_get, Ok}
use Rattle.aqe_expr.specs.declared.expr.Expr.{Expr}
use Rattle.aqe_rules.specs.Outcomes.{Outcome}
use Rattle.aqe_rules.specs.declared.names.Named.{Named}

-- what stands at a position, which counts from 1
abbrev pub found : {A : Type 0} → Bool → ℕ → List A → Option A
found true n all = None
found false zero all = None
found false (suc n) all = slice_get all n

-- the value of an output column
abbrev pub value_of : Named → Outcome Expr
value_of column = Ok column.value.expr
