-- Positions, as the code reads them.
use Rattle.std.proofs.Common.{◌≡◌, ℕ, zero, suc, ◌+◌, ◌<◌, arith, List, [], ◌∷◌, ◌++◌, Bool, true, false, cond, codes, Option, Some, None, Ok, Err, refl, ap, sym, ◌∙◌}
use Rattle.std.specs.Prelude.{option_map, slice_get}
use Rattle.std.specs.Fmt.{decimal}
use denote.Ref.{Bor}
use Rattle.aqe_base.specs.declared.status.AnalysisKind.TheVariants.{BadPosition}
use Rattle.aqe_expr.specs.declared.expr.Expr.{Expr}
use Rattle.aqe_rules.specs.declared.fault.AnalysisFault.{AnalysisFault}
use Rattle.aqe_rules.specs.declared.names.Named.{Named}
use Rattle.aqe_rules.specs.Faults.{Fails, Tells}
use Rattle.aqe_rules.specs.Outcomes.{Outcome, refused, upon, present}
use Rattle.aqe_rules.specs.Selects.{nth, at_position, written}
use Rattle.aqe_rules.proofs.Steps.{memory_fails}
use Rattle.aqe_ordered.specs.Positions.{found, value_of}

pub sign_written : (negative : Bool) (n : ℕ) (sign text : List ℕ) → sign ≡ cond negative (codes "-") [] → text ≡ sign ++ decimal n → text ≡ written negative n
sign_written true n sign text e h = rw (h, e) refl
sign_written false n sign text e h = rw (h, e) refl

nth_found : {A : Type 0} (told : List ℕ) (n : ℕ) (all : List A) → nth told n all ≡ present (found false n all) (refused BadPosition told)
nth_found told zero [] = refl
nth_found told (suc n) [] = refl
nth_found told zero (a ∷ all) = refl
nth_found told (suc zero) (a ∷ all) = refl
nth_found told (suc (suc n)) (a ∷ all) = nth_found told (suc n) all

position_found : {A : Type 0} (negative : Bool) (n : ℕ) (all : List A) → at_position negative n all ≡ present (found negative n all) (refused BadPosition (written negative n))
position_found true n all = refl
position_found false n all = nth_found (written false n) n all

module _ (negative : Bool) (n : ℕ) (all : List Named) (o : Option (Bor Named)) (h : option_map (λ c. c.now) o ≡ found negative n all) where
  pub column_there : (c : Bor Named) (e : Expr) → o ≡ Some c → e ≡ c.now.value.expr → upon (at_position negative n all) value_of ≡ Ok e
  column_there c e is made =
      let there : found negative n all ≡ Some c.now = sym h ∙ ap (option_map (λ (x : Bor Named). x.now)) is in
      rw (position_found negative n all, there, made) refl

  pub nothing_there : (f : AnalysisFault) → o ≡ None → Tells f (refused BadPosition (written negative n)) → Fails f (upon (at_position negative n all) value_of)
  nothing_there f is t =
      let there : found negative n all ≡ None = sym h ∙ ap (option_map (λ (x : Bor Named). x.now)) is in
      rw (position_found negative n all, there) t

-- what stands at a position, as the code looks for it
pub no_negative : (negative : Bool) (n : ℕ) (all : List Named) → negative ≡ true → None ≡ found negative n all
no_negative negative n all e = rw e refl

pub no_zero : (negative : Bool) (n : ℕ) (all : List Named) → negative ≡ false → n < 1 → None ≡ found negative n all
no_zero negative zero all e lt = rw e refl
no_zero negative (suc n) all e lt = absurd (let no : ⊥ = omega (arith, lt) in no)

pub found_from_0 : (negative : Bool) (n m : ℕ) (all : List Named) (o : Option Named) → negative ≡ false → m + 1 ≡ n → o ≡ slice_get all m → o ≡ found negative n all
found_from_0 negative n m all o e h is =
    let next : n ≡ suc m = omega (arith, h) in
    rw (e, next) is

pub ruleset place_steps = (no_negative, no_zero, found_from_0)

pub ruleset position_steps = (memory_fails, column_there, nothing_there)
