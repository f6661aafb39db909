-- Several steps of a walk, and one more.
use Rattle.std.specs.Prelude.{List, [], ◌∷◌, ◌++◌, Ok}
use Rattle.aqe_rules.specs.Outcomes.{Outcome, upon}

-- the values so far with the next one behind them
abbrev pub with_next : {T : Type 0} → Outcome (List T) → Outcome T → Outcome (List T)
with_next all next = upon all (λ ts. upon next (λ t. Ok (ts ++ t ∷ [])))
