-- What stands before or behind the parts of a query, and the whole of a CREATE TABLE.
use Rattle.std.specs.Prelude.{ℕ, Bool, true, false, codes, List, [], ◌∷◌, ◌≡◌}
use Rattle.aqe_trees.specs.declared.terminal.Key.TheVariants as k
use Rattle.aqe_trees.specs.declared.terminal.Terminal.{Terminal}
use Rattle.aqe_trees.specs.declared.terminal.Terminal.TheVariants.{Fixed, Name}
use Rattle.aqe_trees.specs.Words.{is_word}
use Rattle.aqe_trees.specs.Lists.{Listed}
use Rattle.aqe_trees.specs.Tables.{IsOption}
use Rattle.aqe_phrases.specs.Written.{Adds, AllStand}

-- [ALL] behind UNION
abbrev pub all_before : Bool → List Terminal → List Terminal
all_before false us = Fixed k.All ∷ us
all_before true us = us

-- [DISTINCT] behind SELECT
abbrev pub distinct_before : Bool → List Terminal → List Terminal
distinct_before false us = us
distinct_before true us = Fixed k.Distinct ∷ us

-- [DESC]
abbrev pub way_before : Bool → List Terminal → List Terminal
way_before false us = us
way_before true us = Fixed k.Desc ∷ us

-- [NULLS (FIRST | LAST)]
abbrev pub nulls_before : Bool → Bool → List Terminal → List Terminal
nulls_before false true us = Fixed k.Nulls ∷ Name (codes "LAST") false ∷ us
nulls_before true false us = Fixed k.Nulls ∷ Name (codes "FIRST") false ∷ us
nulls_before _ _ us = us

-- the text grew by words that are the whole of what is asked
pub record SpellsWhole (Is : List Terminal → Type 0) (old new : List ℕ) : Type 0 where
  pub words : List Terminal → List Terminal
  pub adds : Adds words old new
  pub reads : Is (words [])

-- so it did where terminals of a source are such a whole
abbrev pub SpelledWhole : (List Terminal → Type 0) → List ℕ → List ℕ → Type 0
SpelledWhole Is old new = (ts : List Terminal) → Is ts → AllStand ts → SpellsWhole Is old new

-- [OPTIONS ( option {, option} )]
pub data IsOptions : List (List ℕ × List ℕ) → List Terminal → List Terminal → Type 0 where
  no_options : {us : List Terminal} → IsOptions [] us us
  options : {pairs : List (List ℕ × List ℕ)} {word : List ℕ} {ts us : List Terminal} → is_word (codes "options") word ≡ true →
      Listed IsOption pairs ts (Fixed k.Close ∷ us) → IsOptions pairs (Name word false ∷ Fixed k.Open ∷ ts) us
