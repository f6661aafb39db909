-- What the words of the command line say, those after the program's name.
use Rattle.std.specs.Prelude.{◌≡◌, ℕ, List, [], ◌∷◌, codes}

-- a command to run a script: its path
pub record Command : Type 0 where
  pub path : List ℕ

abbrev pub command : List ℕ → Command
command path = record { path = path }

-- the words are `run` and the path
abbrev pub AreWordsOf : List (List ℕ) → Command → Type 0
AreWordsOf words said = words ≡ codes "run" ∷ said.path ∷ []

-- the words say no command
abbrev pub IsMisused : List (List ℕ) → Type 0
IsMisused words = (said : Command) → AreWordsOf words said → ⊥
