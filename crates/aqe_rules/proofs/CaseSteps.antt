-- CASE, as the code makes it.
use Rattle.std.proofs.Common.{◌≡◌, List, [], ◌∷◌, ◌++◌, map, true, false, Option, Some, None, Ok, refl, ap, ◌∙◌}
use Rattle.std.specs.List.{list_all}
use Rattle.aqe_values.specs.declared.sql_type.SqlType.{SqlType}
use Rattle.aqe_expr.specs.declared.expr.Expr.{Expr}
use Rattle.aqe_expr.specs.declared.expr.Expr.TheVariants.{Case, Switch}
use Rattle.aqe_expr.specs.declared.expr.CasePairs as pairs
use Rattle.aqe_expr.specs.declared.expr.CasePairs.TheVariants as made
use Rattle.aqe_expr.specs.Chains.{pairs_in_front}
use Rattle.aqe_expr.proofs.Shapes.{is_case, is_switch, is_pair}
use Rattle.aqe_rules.specs.declared.fault.AnalysisFault.{AnalysisFault}
use Rattle.aqe_rules.specs.Kinds.{is_truth}
use Rattle.aqe_rules.specs.Operations.{Typed, typed, mismatch, converted, tested_as, otherwise_of, common_of_gives, common_of_tests, case_pairs, case}
use Rattle.aqe_rules.specs.Faults.{Tells, Fails}
use Rattle.aqe_rules.proofs.Steps.{memory_fails}

-- an arm as the code makes it, and the chain of arms with what stands behind them
abbrev pub arm_made : Option SqlType → SqlType → (Typed × Typed) → Expr × Expr
arm_made tested gives arm = (tested_as tested arm.0, converted gives arm.1)

abbrev pub arms_behind : Option SqlType → SqlType → List (Typed × Typed) → pairs.CasePairs → pairs.CasePairs
arms_behind tested gives arms rest = pairs_in_front (map (arm_made tested gives) arms) rest

pub all_arms : (tested : Option SqlType) (gives : SqlType) (arms : List (Typed × Typed)) → arms_behind tested gives arms pairs.End ≡ case_pairs tested gives arms
all_arms tested gives [] = refl
all_arms tested gives (arm ∷ arms) =
    ap (λ p. made.More (tested_as tested arm.0) (converted gives arm.1) p) (all_arms tested gives arms) ∙ is_pair (tested_as tested arm.0) (converted gives arm.1) (case_pairs tested gives arms)

pub arms_push : (tested : Option SqlType) (gives : SqlType) (xs : List (Typed × Typed)) (arm : Typed × Typed) (rest : pairs.CasePairs) →
    arms_behind tested gives (xs ++ arm ∷ []) rest ≡ arms_behind tested gives xs (made.More (tested_as tested arm.0) (converted gives arm.1) rest)
arms_push tested gives [] arm rest = refl
arms_push tested gives (y ∷ xs) arm rest = ap (λ p. made.More (tested_as tested y.0) (converted gives y.1) p) (arms_push tested gives xs arm rest)

pub made_case : (arms : List (Typed × Typed)) (otherwise : Option Typed) (gives : SqlType) (p : pairs.CasePairs) (o e : Expr) →
    list_all (λ arm. is_truth arm.0.kind) arms ≡ true → common_of_gives arms otherwise ≡ Some gives → p ≡ case_pairs None gives arms → o ≡ otherwise_of gives otherwise → e ≡ Case p o →
    case None arms otherwise ≡ Ok (typed e gives)
made_case arms otherwise gives p o e t h k l m = rw (t, h, m, k, l, is_case (case_pairs None gives arms) (otherwise_of gives otherwise)) refl

pub no_truths : (arms : List (Typed × Typed)) (otherwise : Option Typed) (f : AnalysisFault) → list_all (λ arm. is_truth arm.0.kind) arms ≡ false → Tells f mismatch → Fails f (case None arms otherwise)
no_truths arms otherwise f t h = rw t h

pub no_gives : (arms : List (Typed × Typed)) (otherwise : Option Typed) (f : AnalysisFault) → list_all (λ arm. is_truth arm.0.kind) arms ≡ true → common_of_gives arms otherwise ≡ None → Tells f mismatch →
    Fails f (case None arms otherwise)
no_gives arms otherwise f t k h = rw (t, k) h

pub made_switch : (a : Typed) (arms : List (Typed × Typed)) (otherwise : Option Typed) (tested gives : SqlType) (v : Expr) (p : pairs.CasePairs) (o e : Expr) →
    common_of_tests a.kind arms ≡ Some tested → common_of_gives arms otherwise ≡ Some gives → v ≡ converted tested a → p ≡ case_pairs (Some tested) gives arms → o ≡ otherwise_of gives otherwise → e ≡ Switch v p o →
    case (Some a) arms otherwise ≡ Ok (typed e gives)
made_switch a arms otherwise tested gives v p o e t h j k l m = rw (t, h, m, j, k, l, is_switch (converted tested a) (case_pairs (Some tested) gives arms) (otherwise_of gives otherwise)) refl

pub no_tests : (a : Typed) (arms : List (Typed × Typed)) (otherwise : Option Typed) (f : AnalysisFault) → common_of_tests a.kind arms ≡ None → Tells f mismatch → Fails f (case (Some a) arms otherwise)
no_tests a arms otherwise f t h = rw t h

pub no_results : (a : Typed) (arms : List (Typed × Typed)) (otherwise : Option Typed) (tested : SqlType) (f : AnalysisFault) → common_of_tests a.kind arms ≡ Some tested → common_of_gives arms otherwise ≡ None → Tells f mismatch →
    Fails f (case (Some a) arms otherwise)
no_results a arms otherwise tested f t k h = rw (t, k) h

pub ruleset case_steps = (memory_fails, no_truths, no_gives, no_tests, no_results)
