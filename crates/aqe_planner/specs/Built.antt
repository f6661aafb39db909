-- What is planned so far, and what the planner has to know.
use Rattle.std.specs.Prelude.{ℕ, ◌<◌, Bool, true, false, ◌&&◌, IsTrue, All}
use Rattle.aqe_logical.specs.declared.plan.Logical.{Logical, OneRow, Scan, Empty, Held, HeldPartial}
use Rattle.aqe_logical.specs.Shapes.{filtered, projected, joined, aggregated, united, sorted, limited, sampled}
use Rattle.aqe_logical.specs.Nodes.{nodes}
use Rattle.aqe_logical.specs.WellFormed.{IsLimitNumber, IsLimitCount}

-- the forms of a query are planned; those that only planning again makes are not yet, and stand here with false
abbrev pub is_built : Logical → Bool
is_built OneRow = true
is_built (Scan table schema) = true
is_built (filtered condition child) = is_built child
is_built (projected items schema child) = is_built child
is_built (joined kind condition left right) = is_built left && is_built right
is_built (aggregated keys calls schema child) = is_built child
is_built (united left right) = is_built left && is_built right
is_built (sorted keys child) = is_built child
is_built (limited count skip child) = is_built child
is_built (Empty schema) = false
is_built (Held stage place schema) = false
is_built (HeldPartial stage calls schema) = false
is_built (sampled stage child) = false

abbrev pub IsBuilt : Logical → Type 0
IsBuilt plan = IsTrue (is_built plan)

-- there are estimates of so many tables, and each table that a plan scans is among them
abbrev pub IsReached : ℕ → Logical → Type 0
IsReached n (Scan table schema) = table < n
IsReached n node = Unit {0}

abbrev pub Reaches : ℕ → Logical → Type 0
Reaches n plan = All (IsReached n) (nodes plan)

-- the numbers of each limit of a plan are those of a literal of BIGINT, as in each plan that is well formed
abbrev pub HasLimitNumbers : Logical → Type 0
HasLimitNumbers (limited count skip child) = IsLimitCount count × IsLimitNumber skip
HasLimitNumbers node = Unit {0}

abbrev pub LimitsFit : Logical → Type 0
LimitsFit plan = All HasLimitNumbers (nodes plan)
