-- The checks of the analysis, and what a walk over a tree comes to.
use Rattle.std.specs.Prelude.{ℕ, List, [], ◌∷◌, Bool, true, false, Option, Some, None, Result, Ok, Err}
use Rattle.aqe_base.specs.declared.status.AnalysisKind.{AnalysisKind}
use Rattle.aqe_base.specs.declared.status.AnalysisKind.TheVariants.{NoSuchColumn, Ambiguous}

-- a check that fails: a refusal with the name that it tells, or one of the two limits of a plan
pub data Check : Type 0 where
  refused : AnalysisKind → List ℕ → Check
  too_many_operators : Check
  too_many_columns : Check

-- a value, or the first check that fails
abbrev pub Outcome : Type 0 → Type 0
Outcome T = Result T Check

-- one step of the walk, and then the next
abbrev pub upon : {T U : Type 0} → Outcome T → (T → Outcome U) → Outcome U
upon (Ok t) next = next t
upon (Err check) next = Err check

-- steps of the walk in order
abbrev pub each : {T : Type 0} → List (Outcome T) → Outcome (List T)
each [] = Ok []
each (first ∷ rest) = upon first (λ t. upon (each rest) (λ ts. Ok (t ∷ ts)))

-- a step that may be left out
abbrev pub if_any : {T : Type 0} → Option (Outcome T) → Outcome (Option T)
if_any None = Ok None
if_any (Some step) = upon step (λ t. Ok (Some t))

-- the walk goes on where a condition holds; else this check fails
abbrev pub provided : {T : Type 0} → Bool → Check → Outcome T → Outcome T
provided true check next = next
provided false check next = Err check

-- the value of an option; this check fails where there is none
abbrev pub present : {T : Type 0} → Option T → Check → Outcome T
present (Some t) check = Ok t
present None check = Err check

-- what a name means, from all that bear it: none is no such column, and several are ambiguous
abbrev pub the_only : {T : Type 0} → List ℕ → List T → Outcome T
the_only name [] = Err (refused NoSuchColumn name)
the_only name (t ∷ []) = Ok t
the_only name (t ∷ u ∷ more) = Err (refused Ambiguous name)
