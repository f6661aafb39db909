-- One more behind several, as far as each of them has a value.
use Rattle.std.proofs.Common.{◌≡◌, List, [], ◌∷◌, ◌++◌, Result, Ok, Err, refl, ap, subst, ◌∙◌}
use Rattle.std.specs.Prelude.{Vec}
use Rattle.aqe_rules.specs.declared.fault.AnalysisFault.{AnalysisFault}
use Rattle.aqe_rules.specs.Outcomes.{Outcome, upon, each}
use Rattle.aqe_rules.specs.Faults.{Says, Fails}
use Rattle.aqe_rules.proofs.Steps.{memory_fails}
use Rattle.aqe_typing.specs.Values.{SaysAll}
use Rattle.aqe_typing.proofs.StepLemmas.{upon_fails}

module _ {T : Type 0} where
  -- all those, and one more
  abbrev pub behind : Outcome (List T) → Outcome T → Outcome (List T)
  behind all o = upon all (λ ts. upon o (λ t. Ok (ts ++ t ∷ [])))

  first_off : (t : T) (all : Outcome (List T)) (o : Outcome T) → upon (behind all o) (λ ts. Ok (t ∷ ts)) ≡ behind (upon all (λ ts. Ok (t ∷ ts))) o
  first_off t (Ok ts) (Ok u) = refl
  first_off t (Ok ts) (Err check) = refl
  first_off t (Err check) o = refl

  pub each_behind : (os : List (Outcome T)) (o : Outcome T) → each (os ++ o ∷ []) ≡ behind (each os) o
  each_behind [] o = refl
  each_behind (Ok t ∷ os) o = ap (λ (all : Outcome (List T)). upon all (λ ts. Ok (t ∷ ts))) (each_behind os o) ∙ first_off t (each os) o
  each_behind (Err check ∷ os) o = refl

module _ {T Z : Type 0} where
  pub list_fails : (os : List (Outcome T)) (o : Outcome T) (a : Result (Vec T Z) AnalysisFault) (f : AnalysisFault) → a ≡ Err f → SaysAll a (each os) → Fails f (each (os ++ o ∷ []))
  list_fails os o a f e h =
      let fails : Fails f (each os) = subst (λ (r : Result (Vec T Z) AnalysisFault). SaysAll r (each os)) e h in
      rw (each_behind os o) (upon_fails f (each os) (λ ts. upon o (λ t. Ok (ts ++ t ∷ []))) fails)

  pub item_fails : (os : List (Outcome T)) (o : Outcome T) (a : Result (Vec T Z) AnalysisFault) (b : Result T AnalysisFault) (v : Vec T Z) (f : AnalysisFault) → a ≡ Ok v → b ≡ Err f →
      SaysAll a (each os) → Says b o → Fails f (each (os ++ o ∷ []))
  item_fails os o a b v f d e h k =
      let is : each os ≡ Ok v.items = subst (λ (r : Result (Vec T Z) AnalysisFault). SaysAll r (each os)) d h in
      let fails : Fails f o = subst (λ (r : Result T AnalysisFault). Says r o) e k in
      rw (each_behind os o, is) (upon_fails f o (λ t. Ok (v.items ++ t ∷ [])) fails)

  pub one_more : (os : List (Outcome T)) (o : Outcome T) (a : Result (Vec T Z) AnalysisFault) (b : Result T AnalysisFault) (v w : Vec T Z) (x : T) → a ≡ Ok v → b ≡ Ok x →
      w.items ≡ v.items ++ x ∷ [] → SaysAll a (each os) → Says b o → each (os ++ o ∷ []) ≡ Ok w.items
  one_more os o a b v w x d e m h k =
      let is : each os ≡ Ok v.items = subst (λ (r : Result (Vec T Z) AnalysisFault). SaysAll r (each os)) d h in
      let is_next : o ≡ Ok x = subst (λ (r : Result T AnalysisFault). Says r o) e k in
      rw (each_behind os o, is, is_next, m) refl

pub ruleset list_steps = (memory_fails, list_fails, item_fails, one_more)
