-- What is known of a result, once it is told which it is.
use Rattle.std.proofs.Common.{◌≡◌, Result, Ok, Err, MatchResult}
use Rattle.std.proofs.lemmas.Result.{MatchResult-at_ok, MatchResult-at_err}

pub ok_of : {A E : Type 0} (P : A → Type 0) (Q : E → Type 0) {r : Result A E} {x : A} → MatchResult r P Q → r ≡ Ok x → P x
ok_of P Q {x = x} m h = MatchResult-at_ok P Q x h m

pub err_of : {A E : Type 0} (P : A → Type 0) (Q : E → Type 0) {r : Result A E} {d : E} → MatchResult r P Q → r ≡ Err d → Q d
err_of P Q {d = d} m h = MatchResult-at_err P Q d h m
