-- What one expression sorts by, as the code finds it.
use Rattle.std.proofs.Common.{◌≡◌, ℕ, List, Bool, true, false, cond, Option, Some, None, Result, Ok, Err, refl, ap, sym, subst, ◌∙◌}
use Rattle.std.specs.Option.{unwrap_or}
use Rattle.aqe_expr.specs.declared.expr.Expr.{Expr}
use Rattle.aqe_trees.specs.declared.expression.OrTree.{OrTree}
use Rattle.aqe_rules.specs.declared.fault.AnalysisFault.{AnalysisFault}
use Rattle.aqe_rules.specs.declared.names.Named.{Named}
use Rattle.aqe_rules.specs.declared.typed.Typed.{Typed}
use Rattle.aqe_rules.specs.Faults.{Says, Fails}
use Rattle.aqe_rules.specs.Looks.{Alone, a_number, a_column, something}
use Rattle.aqe_rules.specs.Outcomes.{Outcome, upon}
use Rattle.aqe_rules.specs.Selects.{at_position}
use Rattle.aqe_rules.specs.Plans as plans
use Rattle.aqe_rules.specs.Plans.{is_over, shown, hidden, shown_value, hidden_value}
use Rattle.aqe_rules.proofs.Steps.{memory_fails}
use Rattle.aqe_looks.specs.Numbers.{number_of}
use Rattle.aqe_sources.specs.Seen.{SaysSeen}
use Rattle.aqe_ordered.specs.declared.sorting.Sorting.{Sorting}
use Rattle.aqe_ordered.specs.Positions.{value_of}
use Rattle.aqe_ordered.specs.Orders.{sorting_seen, sorting_at, sorting_by}

pub step_fails : {T U : Type 0} (f : AnalysisFault) (o : Outcome T) (next : T → Outcome U) → Fails f o → Fails f (upon o next)
step_fails f (Ok t) next h = memory_fails f (next t) h
step_fails f (Err check) next h = h

said : {T : Type 0} (a : Result T AnalysisFault) (o : Outcome T) (x : T) → a ≡ Ok x → Says a o → o ≡ Ok x
said a o x e h = subst (λ (r : Result _ AnalysisFault). Says r o) e h

failed : {T : Type 0} (a : Result T AnalysisFault) (o : Outcome T) (f : AnalysisFault) → a ≡ Err f → Says a o → Fails f o
failed a o f e h = subst (λ (r : Result _ AnalysisFault). Says r o) e h

-- a position
value_there : (o : Outcome Named) (e : Expr) → upon o value_of ≡ Ok e → upon o (λ c. Ok (shown c.value.expr)) ≡ Ok (shown e)
value_there (Ok c) e h = ap (λ (x : Expr). Ok (shown x)) (cc h)
value_there (Err check) e h = absurd (cc h)

no_value : (o : Outcome Named) (f : AnalysisFault) → Fails f (upon o value_of) → Fails f (upon o (λ c. Ok (shown c.value.expr)))
no_value (Ok c) f h = h
no_value (Err check) f h = h

module _ (negative : Bool) (n : ℕ) (outputs : List Named) (a : Result Expr AnalysisFault) (h : Says a (upon (at_position negative n outputs) value_of)) where
  pub position_there : (e : Expr) → a ≡ Ok e → sorting_at negative n outputs ≡ Ok (shown e)
  position_there e is = value_there (at_position negative n outputs) e (said a (upon (at_position negative n outputs) value_of) e is h)

  pub no_position : (f : AnalysisFault) → a ≡ Err f → Fails f (sorting_at negative n outputs)
  no_position f is = no_value (at_position negative n outputs) f (failed a (upon (at_position negative n outputs) value_of) f is h)

-- an expression over the output columns, and one that is not
module _ (a : Result Typed AnalysisFault) (o : Outcome Typed) (h : Says a o) where
  pub shown_there : (t : Typed) → a ≡ Ok t → shown_value o ≡ Ok (shown t.expr)
  shown_there t is = rw (said a o t is h) refl

  pub shown_fails : (f : AnalysisFault) → a ≡ Err f → Fails f (shown_value o)
  shown_fails f is = step_fails f o (λ t. Ok (shown t.expr)) (failed a o f is h)

  pub hidden_there : (t : Typed) → a ≡ Ok t → hidden_value o ≡ Ok (hidden t)
  hidden_there t is = rw (said a o t is h) refl

  pub hidden_fails : (f : AnalysisFault) → a ≡ Err f → Fails f (hidden_value o)
  hidden_fails f is = step_fails f o (λ t. Ok (hidden t)) (failed a o f is h)

module _ (r : Result Sorting AnalysisFault) where
  pub by_outputs : (b : Bool) (o p : Outcome plans.Sorting) → b ≡ true → SaysSeen sorting_seen r o → SaysSeen sorting_seen r (cond b o p)
  by_outputs b o p e s = rw e s

  pub by_hidden : (b : Bool) (o p : Outcome plans.Sorting) → b ≡ false → SaysSeen sorting_seen r p → SaysSeen sorting_seen r (cond b o p)
  by_hidden b o p e s = rw e s

-- a number alone, and what is none
numbered_so : (hide : OrTree → Outcome Typed) (outputs : List Named) (value : OrTree) (alone : Alone) (negative : Bool) (n : ℕ) → number_of alone ≡ Some (negative, n) → plans.sorting hide outputs value alone ≡ sorting_at negative n outputs
numbered_so hide outputs value (a_number b m) negative n e =
    let both : (b, m) ≡ (negative, n) = ap (λ (x : Option (Bool × ℕ)). unwrap_or x (b, m)) e in
    let first : b ≡ negative = ap (λ (x : Bool × ℕ). x.0) both in
    let second : m ≡ n = ap (λ (x : Bool × ℕ). x.1) both in
    rw (first, second) refl
numbered_so hide outputs value a_column negative n e = absurd (cc e)
numbered_so hide outputs value something negative n e = absurd (cc e)

unnumbered : (hide : OrTree → Outcome Typed) (outputs : List Named) (value : OrTree) (alone : Alone) → number_of alone ≡ None → plans.sorting hide outputs value alone ≡ sorting_by hide outputs value
unnumbered hide outputs value (a_number b m) e = absurd (cc e)
unnumbered hide outputs value a_column e = refl
unnumbered hide outputs value something e = refl

module _ (hide : OrTree → Outcome Typed) (outputs : List Named) (value : OrTree) (alone : Alone) (o : Option (Bool × ℕ)) (r : Result Sorting AnalysisFault) (h : o ≡ number_of alone) where
  pub number_sorts : (p : Bool × ℕ) → o ≡ Some p → SaysSeen sorting_seen r (sorting_at p.0 p.1 outputs) → SaysSeen sorting_seen r (plans.sorting hide outputs value alone)
  number_sorts p is s = rw (numbered_so hide outputs value alone p.0 p.1 (sym h ∙ is)) s

  pub value_sorts : o ≡ None → SaysSeen sorting_seen r (sorting_by hide outputs value) → SaysSeen sorting_seen r (plans.sorting hide outputs value alone)
  value_sorts is s = rw (unnumbered hide outputs value alone (sym h ∙ is)) s

pub ruleset sorting_steps = (memory_fails, position_there, no_position, shown_there, shown_fails, hidden_there, hidden_fails, by_outputs, by_hidden, number_sorts, value_sorts)
