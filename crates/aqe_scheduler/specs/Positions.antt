-- Positions in a history: position k is just behind the k-th event and what follows it before the next one.
use Rattle.std.specs.Prelude.{ℕ, zero, suc, List, [], ◌∷◌}
use Rattle.aqe_scheduler.specs.History.{Step, Added, Marked, Happened}

-- The history up to position k: the first k events, and the births and marks up to the next one. What was needed, available, done or
-- whole at position k is what this part of the history says.
abbrev pub upto : ℕ → List Step → List Step
upto k [] = []
upto k (Added birth ∷ h) = Added birth ∷ upto k h
upto k (Marked stage is_needed ∷ h) = Marked stage is_needed ∷ upto k h
upto zero (Happened event f ∷ h) = []
upto (suc k) (Happened event f ∷ h) = Happened event f ∷ upto k h
