-- What holds of the value that a step of the walk gives, where it gives one.
use Rattle.std.proofs.Common.{ℕ, Bool, true, false, List, [], ◌∷◌, Option, Some, None, Ok, Err}
use Rattle.std.specs.Prelude.{All}
use Rattle.std.proofs.lemmas.List.Elements.{All-nil, All-cons, All-head, All-tail}
use Rattle.aqe_rules.specs.Outcomes.{Check, Outcome, upon, each, if_any, provided, the_only}

abbrev pub Gives : {T : Type 0} → (T → Type 0) → Outcome T → Type 0
Gives P (Ok t) = P t
Gives P (Err check) = Unit {0}

abbrev pub IfAny : {T : Type 0} → (T → Type 0) → Option T → Type 0
IfAny P (Some t) = P t
IfAny P None = Unit {0}

pub gives_upon : {T U : Type 0} (P : T → Type 0) (Q : U → Type 0) (o : Outcome T) (next : T → Outcome U) →
    Gives P o → ((t : T) → P t → Gives Q (next t)) → Gives Q (upon o next)
gives_upon P Q (Ok t) next h k = k t h
gives_upon P Q (Err check) next h k = tt

pub gives_all : {T : Type 0} (P : T → Type 0) → ((t : T) → P t) → (o : Outcome T) → Gives P o
gives_all P h (Ok t) = h t
gives_all P h (Err check) = tt

pub gives_weaker : {T : Type 0} (P Q : T → Type 0) → ((t : T) → P t → Q t) → (o : Outcome T) → Gives P o → Gives Q o
gives_weaker P Q h (Ok t) k = h t k
gives_weaker P Q h (Err check) k = tt

pub gives_provided : {T : Type 0} (Q : T → Type 0) (b : Bool) (check : Check) (o : Outcome T) → Gives Q o → Gives Q (provided b check o)
gives_provided Q true check o h = h
gives_provided Q false check o h = tt

pub gives_each : {T : Type 0} (P : T → Type 0) (os : List (Outcome T)) → All (Gives P) os → Gives (All P) (each os)
gives_each P [] h = All-nil P
gives_each P (o ∷ os) h =
    gives_upon P (All P) o (λ t. upon (each os) (λ ts. Ok (t ∷ ts))) (All-head (Gives P) o os h) (λ t p.
    gives_upon (All P) (All P) (each os) (λ ts. Ok (t ∷ ts)) (gives_each P os (All-tail (Gives P) o os h)) (λ ts ps. All-cons P t ts p ps))

pub gives_if_any : {T : Type 0} (P : T → Type 0) (step : Option (Outcome T)) → IfAny (Gives P) step → Gives (IfAny P) (if_any step)
gives_if_any P None h = tt
gives_if_any P (Some step) h = gives_upon P (IfAny P) step (λ t. Ok (Some t)) h (λ t p. p)

pub gives_only : {T : Type 0} (P : T → Type 0) (name : List ℕ) (all : List T) → All P all → Gives P (the_only name all)
gives_only P name [] h = tt
gives_only P name (t ∷ []) h = All-head P t [] h
gives_only P name (t ∷ u ∷ more) h = tt
