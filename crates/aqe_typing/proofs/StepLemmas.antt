-- A step over what its operands came to.
use Rattle.std.proofs.Common.{◌≡◌, Result, Ok, Err, subst}
use Rattle.aqe_rules.specs.declared.fault.AnalysisFault.{AnalysisFault}
use Rattle.aqe_rules.specs.Outcomes.{Outcome, upon}
use Rattle.aqe_rules.specs.declared.typed.Typed.{Typed}
use Rattle.aqe_rules.specs.Faults.{Says, Fails}
use Rattle.aqe_typing.specs.Values.{on_three}
use Rattle.aqe_rules.proofs.Steps.{memory_fails}

-- where an operand has no value, neither has what stands on it
pub upon_fails : {T U : Type 0} (f : AnalysisFault) (o : Outcome T) (next : T → Outcome U) → Fails f o → Fails f (upon o next)
upon_fails f (Ok t) next h = memory_fails f (next t) h
upon_fails f (Err check) next h = h

module _ {T U : Type 0} where
  pub first_fails : (rule : T → Outcome U) (a : Result T AnalysisFault) (o : Outcome T) (f : AnalysisFault) → a ≡ Err f → Says a o → Fails f (upon o rule)
  first_fails rule a o f e h = upon_fails f o rule (subst (λ (r : Result T AnalysisFault). Says r o) e h)

  pub one_there : (rule : T → Outcome U) (a : Result T AnalysisFault) (r : Result U AnalysisFault) (o : Outcome T) (x : T) → a ≡ Ok x → Says a o → Says r (rule x) → Says r (upon o rule)
  one_there rule a r o x d h s =
      let is : o ≡ Ok x = subst (λ (r : Result T AnalysisFault). Says r o) d h in
      rw is s

module _ {S T U : Type 0} where
  pub second_fails : (rule : S → T → Outcome U) (a : Result S AnalysisFault) (b : Result T AnalysisFault) (o : Outcome S) (p : Outcome T) (x : S) (f : AnalysisFault) →
      a ≡ Ok x → b ≡ Err f → Says a o → Says b p → Fails f (upon o (λ y. upon p (rule y)))
  second_fails rule a b o p x f d e h k =
      let is : o ≡ Ok x = subst (λ (r : Result S AnalysisFault). Says r o) d h in
      let fails : Fails f p = subst (λ (r : Result T AnalysisFault). Says r p) e k in
      rw is (upon_fails f p (rule x) fails)

  pub both_there : (rule : S → T → Outcome U) (a : Result S AnalysisFault) (b : Result T AnalysisFault) (r : Result U AnalysisFault) (o : Outcome S) (p : Outcome T) (x : S) (y : T) →
      a ≡ Ok x → b ≡ Ok y → Says a o → Says b p → Says r (rule x y) → Says r (upon o (λ z. upon p (rule z)))
  both_there rule a b r o p x y d e h k s =
      let is : o ≡ Ok x = subst (λ (r : Result S AnalysisFault). Says r o) d h in
      let is_second : p ≡ Ok y = subst (λ (r : Result T AnalysisFault). Says r p) e k in
      rw (is, is_second) s

pub third_fails : (rule : Typed → Typed → Typed → Outcome Typed) (a b c : Result Typed AnalysisFault) (o p q : Outcome Typed) (x y : Typed) (f : AnalysisFault) →
    a ≡ Ok x → b ≡ Ok y → c ≡ Err f → Says a o → Says b p → Says c q → Fails f (on_three rule o p q)
third_fails rule a b c o p q x y f d e g h k l =
    let is : o ≡ Ok x = subst (λ (r : Result Typed AnalysisFault). Says r o) d h in
    let is_second : p ≡ Ok y = subst (λ (r : Result Typed AnalysisFault). Says r p) e k in
    let fails : Fails f q = subst (λ (r : Result Typed AnalysisFault). Says r q) g l in
    rw (is, is_second) (upon_fails f q (rule x y) fails)

pub all_there : (rule : Typed → Typed → Typed → Outcome Typed) (a b c r : Result Typed AnalysisFault) (o p q : Outcome Typed) (x y z : Typed) →
    a ≡ Ok x → b ≡ Ok y → c ≡ Ok z → Says a o → Says b p → Says c q → Says r (rule x y z) → Says r (on_three rule o p q)
all_there rule a b c r o p q x y z d e g h k l s =
    let is : o ≡ Ok x = subst (λ (r : Result Typed AnalysisFault). Says r o) d h in
    let is_second : p ≡ Ok y = subst (λ (r : Result Typed AnalysisFault). Says r p) e k in
    let is_third : q ≡ Ok z = subst (λ (r : Result Typed AnalysisFault). Says r q) g l in
    rw (is, is_second, is_third) s

pub ruleset steps = (memory_fails, first_fails, second_fails, third_fails, one_there, both_there, all_there)
