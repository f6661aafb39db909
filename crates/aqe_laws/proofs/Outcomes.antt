-- A walk comes to one plan, or to a check.
use Rattle.std.proofs.Common.{◌≡◌, ◌↔◌, None, Ok, Err, refl}
use Rattle.std.specs.Result.{result_err}
use Rattle.aqe_rules.specs.Outcomes.{Outcome}
use Rattle.aqe_rules.specs.Analysis.{walk}
use Rattle.aqe_laws.specs.Laws.{OnePlan, PlanOrCheck}

pub given_once : {T : Type 0} (o : Outcome T) (p q : T) → o ≡ Ok p → o ≡ Ok q → p ≡ q
given_once o p q h k = cc

pub given_or_refused : {T : Type 0} (o : Outcome T) → ((p : T) × (o ≡ Ok p)) ↔ (result_err o ≡ None)
given_or_refused (Ok p) = (λ h. refl, λ h. (p, refl))
given_or_refused (Err check) = (λ h. cc, λ h. cc)

pub one : OnePlan
one tree catalog p q h k = given_once (walk tree catalog) p q h k

pub either : PlanOrCheck
either tree catalog = given_or_refused (walk tree catalog)
