-- CASE, where its parts have values and where one has none.
use Rattle.std.proofs.Common.{◌≡◌, List, Option, Result, Ok, Err, subst}
use Rattle.std.specs.Prelude.{Vec}
use Rattle.aqe_rules.specs.declared.fault.AnalysisFault.{AnalysisFault}
use Rattle.aqe_rules.specs.declared.typed.Typed.{Typed}
use Rattle.aqe_rules.specs.Outcomes.{Outcome, upon}
use Rattle.aqe_rules.specs.Operations as operation
use Rattle.aqe_rules.specs.Faults.{Says, Fails}
use Rattle.aqe_rules.proofs.Steps.{memory_fails}
use Rattle.aqe_typing.specs.Values.{SaysAll, case}
use Rattle.aqe_typing.proofs.StepLemmas.{upon_fails}

module _ {Z : Type 0} (a : Result (Option Typed) AnalysisFault) (b : Result (Vec (Typed × Typed) Z) AnalysisFault) (c : Result (Option Typed) AnalysisFault)
    (o : Outcome (Option Typed)) (p : Outcome (List (Typed × Typed))) (q : Outcome (Option Typed)) where
  pub operand_fails : (f : AnalysisFault) → a ≡ Err f → Says a o → Fails f (case o p q)
  operand_fails f e h = upon_fails f o (λ x. upon p (λ all. upon q (λ y. operation.case x all y))) (subst (λ (r : Result (Option Typed) AnalysisFault). Says r o) e h)

  pub arms_fail : (x : Option Typed) (f : AnalysisFault) → a ≡ Ok x → b ≡ Err f → Says a o → SaysAll b p → Fails f (case o p q)
  arms_fail x f d e h k =
      let is : o ≡ Ok x = subst (λ (r : Result (Option Typed) AnalysisFault). Says r o) d h in
      rw is (upon_fails f p (λ all. upon q (λ y. operation.case x all y)) (subst (λ (r : Result (Vec (Typed × Typed) Z) AnalysisFault). SaysAll r p) e k))

  pub otherwise_fails : (x : Option Typed) (v : Vec (Typed × Typed) Z) (f : AnalysisFault) → a ≡ Ok x → b ≡ Ok v → c ≡ Err f → Says a o → SaysAll b p → Says c q → Fails f (case o p q)
  otherwise_fails x v f d e g h k l =
      let is : o ≡ Ok x = subst (λ (r : Result (Option Typed) AnalysisFault). Says r o) d h in
      let are : p ≡ Ok v.items = subst (λ (r : Result (Vec (Typed × Typed) Z) AnalysisFault). SaysAll r p) e k in
      rw (is, are) (upon_fails f q (λ y. operation.case x v.items y) (subst (λ (r : Result (Option Typed) AnalysisFault). Says r q) g l))

  pub case_there : (x : Option Typed) (v : Vec (Typed × Typed) Z) (y : Option Typed) (r : Result Typed AnalysisFault) → a ≡ Ok x → b ≡ Ok v → c ≡ Ok y → Says a o → SaysAll b p → Says c q →
      Says r (operation.case x v.items y) → Says r (case o p q)
  case_there x v y r d e g h k l s =
      let is : o ≡ Ok x = subst (λ (r : Result (Option Typed) AnalysisFault). Says r o) d h in
      let are : p ≡ Ok v.items = subst (λ (r : Result (Vec (Typed × Typed) Z) AnalysisFault). SaysAll r p) e k in
      let is_other : q ≡ Ok y = subst (λ (r : Result (Option Typed) AnalysisFault). Says r q) g l in
      rw (is, are, is_other) s

pub ruleset case_steps = (memory_fails, operand_fails, arms_fail, otherwise_fails, case_there)
