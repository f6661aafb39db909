-- A mark that says what stands already changes nothing of the board.
use Rattle.std.proofs.Common.{◌≡◌, refl, ap, sym, subst, zero, suc, ℕ, Bool, true, List, [], ◌∷◌, ◌++◌, is_some, slice_get}
use Rattle.aqe_scheduler.specs.declared.stage.Stage.{Stage}
use Rattle.aqe_scheduler.specs.History.{Entry, Marks}
use Rattle.aqe_scheduler.specs.Tables.{edited, needed_on}
use Rattle.aqe_scheduler.specs.Changes.{marking}
use Rattle.aqe_scheduler.specs.Stands.{StandsFor}
use Rattle.aqe_scheduler.proofs.Born.{needed_behind}

same_edit : (board : List Stage) (s : ℕ) (b : Bool) → needed_on board s ≡ b → edited s (marking b) board ≡ board
same_edit [] s b is = refl
same_edit (x ∷ xs) zero b is = ap (λ n. record x { needed = n } ∷ xs) (sym is)
same_edit (x ∷ xs) (suc s) b is = ap (λ ys. x ∷ ys) (same_edit xs s b is)

pub mark_again : (board : List Stage) (entries : List Entry) (s : ℕ) (b : Bool) → is_some (slice_get board s) ≡ true → needed_on board s ≡ b →
    StandsFor board entries → StandsFor board (entries ++ Marks s b ∷ [])
mark_again board entries s b there is stands =
    subst (λ after. StandsFor after (entries ++ Marks s b ∷ [])) (same_edit board s b is) (needed_behind board s b there entries stands)
