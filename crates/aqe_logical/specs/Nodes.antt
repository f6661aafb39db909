-- The plans within a plan, and what is said of each of them.
use Rattle.std.specs.Prelude.{ℕ, Bool, true, false, List, [], ◌∷◌, ◌++◌, filter, flat_map, length}
use Rattle.aqe_logical.specs.declared.plan.Logical.{Logical, OneRow, Scan, Empty, Held, HeldPartial}
use Rattle.aqe_logical.specs.Shapes.{filtered, projected, joined, aggregated, united, sorted, limited, sampled}

-- a plan and each plan within it, from the top down, the left side before the right one
abbrev pub nodes : Logical → List Logical
nodes (filtered condition child) = filtered condition child ∷ nodes child
nodes (projected items schema child) = projected items schema child ∷ nodes child
nodes (joined kind condition left right) = joined kind condition left right ∷ (nodes left ++ nodes right)
nodes (aggregated keys calls schema child) = aggregated keys calls schema child ∷ nodes child
nodes (united left right) = united left right ∷ (nodes left ++ nodes right)
nodes (sorted keys child) = sorted keys child ∷ nodes child
nodes (limited count skip child) = limited count skip child ∷ nodes child
nodes (sampled stage child) = sampled stage child ∷ nodes child
nodes leaf = leaf ∷ []

-- a leaf has no plan within it
abbrev pub is_leaf : Logical → Bool
is_leaf OneRow = true
is_leaf (Scan table schema) = true
is_leaf (Empty schema) = true
is_leaf (Held stage place schema) = true
is_leaf (HeldPartial stage calls schema) = true
is_leaf node = false

abbrev pub leaf_count : Logical → ℕ
leaf_count plan = length (filter is_leaf (nodes plan))

-- the tables that a plan scans, by number, from left to right
abbrev pub scanned : Logical → List ℕ
scanned (Scan table schema) = table ∷ []
scanned node = []

abbrev pub scans : Logical → List ℕ
scans plan = flat_map scanned (nodes plan)
