-- What is refused where no hidden column may stand.
use Rattle.std.proofs.Common.{◌≡◌, ℕ, List, [], ◌∷◌, Bool, true, false, cond, not, Option, Some, None, Result, Ok, Err, refl, ap, sym, subst, ◌∙◌}
use Rattle.std.specs.Prelude.{option_map}
use Rattle.std.specs.List.{list_all}
use Rattle.std.specs.Option.{is_some, is_none}
use Rattle.aqe_base.specs.declared.status.AnalysisKind.TheVariants.{NoSuchColumn}
use Rattle.aqe_trees.specs.declared.expression.OrTree.{OrTree}
use Rattle.aqe_rules.specs.declared.fault.AnalysisFault.{AnalysisFault}
use Rattle.aqe_rules.specs.declared.names.Named.{Named}
use Rattle.aqe_rules.specs.declared.typed.Typed.{Typed}
use Rattle.aqe_rules.specs.Expressions.{mentions_of}
use Rattle.aqe_rules.specs.Faults.{Says, Fails, Tells}
use Rattle.aqe_rules.specs.Looks as looks
use Rattle.aqe_rules.specs.Outcomes.{Outcome, refused}
use Rattle.aqe_rules.specs.Plans.{is_shown, is_over, first_not_shown, name_of, no_hidden}
use Rattle.aqe_rules.proofs.Steps.{memory_fails}
use denote.Ref.{Bor}
use Rattle.aqe_rules.specs.Readings.{column_named, column_of_item}
use Rattle.aqe_rules.specs.Sources.{over}
use Rattle.aqe_looks.specs.declared.missing.Mention.{Mention}
use Rattle.aqe_looks.specs.declared.missing.Mention.TheVariants as found
use Rattle.aqe_looks.specs.Missing.{mention_seen, seen, first_missing, told_name}
use Rattle.aqe_ordered.specs.Refusals.{unknown}

-- a name that no column has, among none
pub plain_unknown : (m : Mention) (name : Bor (List ℕ)) (r : Result Typed AnalysisFault) → m ≡ found.Plain name → Says r (column_named name.now (over [])) → Says r (unknown m)
plain_unknown m name r e s = rw e s

pub item_unknown : (m : Mention) (table name : Bor (List ℕ)) (r : Result Typed AnalysisFault) → m ≡ found.OfItem table name → Says r (column_of_item table.now name.now (over [])) → Says r (unknown m)
item_unknown m table name r e s = rw e s

pub call_unknown : (m : Mention) (name : Bor (List ℕ)) (f : AnalysisFault) → m ≡ found.Aggregate name → Tells f (refused NoSuchColumn name.now) → Fails f (unknown m)
call_unknown m name f e t = rw e t

pub ruleset unknown_steps = (memory_fails, plain_unknown, item_unknown, call_unknown)

-- the name that is told
told_first : (outputs : List Named) (ms : List looks.Mention) → first_not_shown outputs ms ≡ told_name (first_missing outputs ms)
told_first outputs [] = refl
told_first outputs (m ∷ ms) =
    elim (is_shown outputs m) as (λ b. cond b (first_not_shown outputs ms) (name_of m) ≡ told_name (cond b (first_missing outputs ms) (Some m)))
    [ true ↦ told_first outputs ms | false ↦ refl ]

refusal_is : (outputs : List Named) (value : OrTree) (m : Option Mention) → seen m ≡ first_missing outputs (mentions_of value) → no_hidden outputs value ≡ Err (refused NoSuchColumn (told_name (seen m)))
refusal_is outputs value m e = ap (λ (name : List ℕ). Err (refused NoSuchColumn name)) (told_first outputs (mentions_of value) ∙ ap told_name (sym e))

module _ (outputs : List Named) (value : OrTree) (m : Option Mention) (e : seen m ≡ first_missing outputs (mentions_of value)) where
  told_as : (k : Option Mention) → m ≡ k → no_hidden outputs value ≡ Err (refused NoSuchColumn (told_name (seen k)))
  told_as k is = refusal_is outputs value m e ∙ ap (λ (x : Option Mention). Err (refused NoSuchColumn (told_name (seen x)))) is

  pub missing_told : (x : Mention) (r : Result Typed AnalysisFault) → m ≡ Some x → Says r (unknown x) → Says r (no_hidden outputs value)
  missing_told x r is s = subst (λ (o : Outcome Typed). Says r o) (sym (told_as (Some x) is)) s

  pub nothing_told : (f : AnalysisFault) → m ≡ None → Tells f (refused NoSuchColumn []) → Fails f (no_hidden outputs value)
  nothing_told f is t = subst (λ (o : Outcome Typed). Fails f o) (sym (told_as None is)) t

pub ruleset refusal_steps = (memory_fails, missing_told, nothing_told)

-- an expression is over the output columns where nothing is missing
shown_step : (outputs : List Named) (m : looks.Mention) (ms : List looks.Mention) (b : Bool) → is_shown outputs m ≡ b → is_none (first_missing outputs ms) ≡ list_all (is_shown outputs) ms →
    is_none (first_missing outputs (m ∷ ms)) ≡ list_all (is_shown outputs) (m ∷ ms)
shown_step outputs m ms true e h = rw e h
shown_step outputs m ms false e h = rw e refl

none_missing : (outputs : List Named) (ms : List looks.Mention) → is_none (first_missing outputs ms) ≡ list_all (is_shown outputs) ms
none_missing outputs [] = refl
none_missing outputs (m ∷ ms) = shown_step outputs m ms (is_shown outputs m) refl (none_missing outputs ms)

none_seen : (m : Option Mention) → is_none (seen m) ≡ is_none m
none_seen None = refl
none_seen (Some x) = refl

pub over_steps : (outputs : List Named) (value : OrTree) (m : Option Mention) → seen m ≡ first_missing outputs (mentions_of value) → is_none m ≡ is_over outputs value
over_steps outputs value m e = sym (none_seen m) ∙ ap is_none e ∙ none_missing outputs (mentions_of value)

pub not_some : (m : Option Mention) → not (is_some m) ≡ is_none m
not_some None = refl
not_some (Some x) = refl

pub turned : (a b : Bool) → a ≡ not b → b ≡ not a
turned a true e = rw e refl
turned a false e = rw e refl
