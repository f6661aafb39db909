-- What a search for a name comes to.
use Rattle.std.specs.Prelude.{◌≡◌, ℕ, Bool, ◌&&◌, List, [], ◌∷◌, Option, Some, None}
use Rattle.aqe_rules.specs.declared.names.Named.{Named}
use Rattle.aqe_rules.specs.declared.names.Found.{Found}
use Rattle.aqe_rules.specs.declared.names.Found.TheVariants as search
use Rattle.aqe_rules.specs.Readings.{bears, is_of}

-- a column has the name, and is one of the item where one is told
abbrev pub fits : Option (List ℕ) → List ℕ → Named → Bool
fits None name column = bears name column
fits (Some table) name column = is_of table column && bears name column

-- none of the columns, the only one, or several
abbrev pub IsFound : Found → List Named → Type 0
IsFound search.Nothing all = all ≡ []
IsFound (search.One c) all = all ≡ c.now ∷ []
IsFound search.Several all = (c : Named) × (d : Named) × (more : List Named) × (all ≡ c ∷ d ∷ more)
