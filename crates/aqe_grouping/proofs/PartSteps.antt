-- What is made of one value, of two and of three, as far as they are there.
use Rattle.std.proofs.Common.{◌≡◌, Result, Ok, Err, refl}
use Rattle.std.specs.Prelude.{MatchResult}
use Rattle.aqe_rules.specs.declared.fault.AnalysisFault.{AnalysisFault}
use Rattle.aqe_rules.specs.Faults.{Says}
use Rattle.aqe_rules.specs.Outcomes.{Outcome, upon}
use Rattle.aqe_rules.proofs.Steps.{memory_fails}
use Rattle.aqe_typing.proofs.StepLemmas.{upon_fails}
use Rattle.aqe_sources.specs.Given.{Gives}
use Rattle.aqe_sources.specs.Pairs.{both_of}

-- what is made of a value, as far as that is there
pub given : {T : Type 0} (r : Result T AnalysisFault) (o : Outcome T) (x : T) → o ≡ Ok x → Gives r (λ e. e ≡ x) → Says r o
given (Ok e) o x is h = rw (is, h) refl
given (Err f) o x is h = memory_fails f o h

module _ {X Z : Type 0} where
  pub on_one : (a : Result X AnalysisFault) (r : Result Z AnalysisFault) (o : Outcome X) (f : X → Z) → Says a o →
      MatchResult a (λ x. Gives r (λ e. e ≡ f x)) (λ g. r ≡ Err g) → Says r (upon o (λ x. Ok (f x)))
  on_one (Ok x) r o f h k = given r (upon o (λ x. Ok (f x))) (f x) (rw h refl) k
  on_one (Err g) r o f h k = rw k (upon_fails g o (λ x. Ok (f x)) h)

-- several values together
module _ {X Y : Type 0} where
  abbrev pub both_outcomes : Outcome X → Outcome Y → Outcome (X × Y)
  both_outcomes o p = upon o (λ x. upon p (λ y. Ok (x, y)))

  pub both_say : (a : Result X AnalysisFault) (b : Result Y AnalysisFault) (o : Outcome X) (p : Outcome Y) → Says a o → Says b p → Says (both_of a b) (both_outcomes o p)
  both_say (Ok x) (Ok y) o p h k = rw (h, k) refl
  both_say (Ok x) (Err f) o p h k = rw h (upon_fails f p (λ y. Ok (x, y)) k)
  both_say (Err f) b o p h k = upon_fails f o (λ x. upon p (λ y. Ok (x, y))) h

module _ {X Y Z : Type 0} where
  in_two : (o : Outcome X) (p : Outcome Y) (f : X → Y → Z) → upon (both_outcomes o p) (λ q. Ok (f q.0 q.1)) ≡ upon o (λ x. upon p (λ y. Ok (f x y)))
  in_two (Ok x) (Ok y) f = refl
  in_two (Ok x) (Err check) f = refl
  in_two (Err check) p f = refl

  pub on_two : (a : Result X AnalysisFault) (b : Result Y AnalysisFault) (r : Result Z AnalysisFault) (o : Outcome X) (p : Outcome Y) (f : X → Y → Z) → Says a o → Says b p →
      MatchResult (both_of a b) (λ q. Gives r (λ e. e ≡ f q.0 q.1)) (λ g. r ≡ Err g) → Says r (upon o (λ x. upon p (λ y. Ok (f x y))))
  on_two a b r o p f h k m = rw (← in_two o p f) (on_one (both_of a b) r (both_outcomes o p) (λ q. f q.0 q.1) (both_say a b o p h k) m)

module _ {X Y W Z : Type 0} where
  in_three : (o : Outcome X) (p : Outcome Y) (q : Outcome W) (f : X → Y → W → Z) →
      upon (both_outcomes o (both_outcomes p q)) (λ t. Ok (f t.0 t.1.0 t.1.1)) ≡ upon o (λ x. upon p (λ y. upon q (λ z. Ok (f x y z))))
  in_three (Ok x) (Ok y) (Ok z) f = refl
  in_three (Ok x) (Ok y) (Err check) f = refl
  in_three (Ok x) (Err check) q f = refl
  in_three (Err check) p q f = refl

  pub on_three : (a : Result X AnalysisFault) (b : Result Y AnalysisFault) (c : Result W AnalysisFault) (r : Result Z AnalysisFault) (o : Outcome X) (p : Outcome Y) (q : Outcome W)
      (f : X → Y → W → Z) → Says a o → Says b p → Says c q → MatchResult (both_of a (both_of b c)) (λ t. Gives r (λ e. e ≡ f t.0 t.1.0 t.1.1)) (λ g. r ≡ Err g) →
      Says r (upon o (λ x. upon p (λ y. upon q (λ z. Ok (f x y z)))))
  on_three a b c r o p q f h k l m =
      rw (← in_three o p q f)
      (on_one (both_of a (both_of b c)) r (both_outcomes o (both_outcomes p q)) (λ t. f t.0 t.1.0 t.1.1) (both_say a (both_of b c) o (both_outcomes p q) h (both_say b c p q k l)) m)
