-- The plans within a plan.
use Rattle.std.specs.Prelude.{List, [], ◌∷◌, ◌++◌}
use Rattle.aqe_physical.specs.declared.plan.Plan.{Plan}
use Rattle.aqe_physical.specs.Shapes.{kept, mapped, moved, matched, grouped, finished, ordered, cut_locally, cut_globally, both_of}

-- a plan and each plan within it, from the top down, the left side before the right one
abbrev pub nodes : Plan → List Plan
nodes (kept cond child) = kept cond child ∷ nodes child
nodes (mapped items child) = mapped items child ∷ nodes child
nodes (moved target child) = moved target child ∷ nodes child
nodes (matched way kind keys v w left right) = matched way kind keys v w left right ∷ (nodes left ++ nodes right)
nodes (grouped keys calls child) = grouped keys calls child ∷ nodes child
nodes (finished keys calls child) = finished keys calls child ∷ nodes child
nodes (ordered keys child) = ordered keys child ∷ nodes child
nodes (cut_locally count child) = cut_locally count child ∷ nodes child
nodes (cut_globally count skip child) = cut_globally count skip child ∷ nodes child
nodes (both_of left right) = both_of left right ∷ (nodes left ++ nodes right)
nodes leaf = leaf ∷ []
