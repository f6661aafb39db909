-- Facts on steps.
use Rattle.std.proofs.Common.{◌≡◌, Option, Some, None, refl}
use Rattle.aqe_lexer.specs.Parts.{Passes, Stops, EndsIn}
use Rattle.aqe_lexer.specs.Parts.Passes.{here, next}

-- one more step at the end
pub passes_more : {S : Type 0} (step : S → Option S) (s t u : S)
    → Passes step s t → step t ≡ Some u → Passes step s u
passes_more step _ _ u (here s) e = next s u u e (here u)
passes_more step _ _ u (next s m t f p) e = next s m u f (passes_more step m t u p e)

-- the value where the steps stop
pub ends : {S X : Type 0} (step : S → Option S) (start stop : S) (end : S → X)
    → Passes step start stop → step stop ≡ None → EndsIn step start end (end stop)
ends step start stop end passed stuck = record {
  stop = stop;
  stops = record { passes = passed; stuck = stuck };
  value = refl;
}

pub ruleset going = (here, passes_more, ends)
