-- The keys of an ORDER BY, one more at a time.
use Rattle.std.proofs.Common.{◌≡◌, ℕ, ◌+◌, List, [], ◌∷◌, ◌++◌, map, length, fold, Result, Ok, Err, refl, ap, sym, subst, ◌∙◌, arith, append_assoc, append-nil, length-append, None}
use Rattle.aqe_logical.specs.declared.plan.SortKey.{SortKey}
use Rattle.aqe_logical.specs.declared.plan.Logical.{Logical}
use Rattle.aqe_logical.specs.Columns.{schema_of}
use Rattle.aqe_expr.specs.declared.expr.Expr.{Expr, Column}
use Rattle.aqe_trees.specs.declared.expression.OrTree.{OrTree}
use Rattle.aqe_trees.specs.declared.query.SortTree.{SortTree}
use Rattle.aqe_rules.specs.declared.fault.AnalysisFault.{AnalysisFault}
use Rattle.aqe_rules.specs.declared.names.Named.{Named}
use Rattle.aqe_rules.specs.declared.typed.Typed.{Typed}
use Rattle.aqe_rules.specs.Expressions.{alone_of}
use Rattle.aqe_rules.specs.Faults.{Says, Fails}
use Rattle.aqe_rules.specs.Outcomes.{Outcome, Check, upon}
use Rattle.aqe_rules.specs.Sources.{numbered}
use Rattle.aqe_rules.specs.Plans as plans
use Rattle.aqe_rules.specs.Plans.{shown, hidden, key, keys_of, hidden_columns, sortings, sorted_by, no_hidden, ordered}
use Rattle.aqe_rules.proofs.Steps.{memory_fails}
use Rattle.aqe_sources.specs.Seen.{SaysSeen}
use Rattle.aqe_ordered.specs.declared.sorting.Sorting.{Sorting}
use Rattle.aqe_ordered.specs.declared.order.Order.{Order}
use Rattle.aqe_ordered.specs.Orders.{Keys, sorting_seen, order_seen, order_of, with_key, with_sorting, with_next, keys_over}
use Rattle.aqe_ordered.proofs.SortingSteps.{step_fails}

-- one key more, where it is there
module _ (n : ℕ) (order : Order) (a : Result Sorting AnalysisFault) (o : Outcome plans.Sorting) (s : SortTree) (h : SaysSeen sorting_seen a o) where
  pub key_there : (x : Sorting) (now : Order) → a ≡ Ok x → order_seen now ≡ with_key n (order_seen order) (sorting_seen x) s → with_sorting n (order_seen order) o s ≡ Ok (order_seen now)
  key_there x now is made =
      let there : o ≡ Ok (sorting_seen x) = subst (λ (r : Result Sorting AnalysisFault). SaysSeen sorting_seen r o) is h in
      rw (there, made) refl

  pub key_fails : (f : AnalysisFault) → a ≡ Err f → Fails f (with_sorting n (order_seen order) o s)
  key_fails f is =
      step_fails f o (λ sorting. Ok (with_key n (order_seen order) sorting s)) (subst (λ (r : Result Sorting AnalysisFault). SaysSeen sorting_seen r o) is h)

pub ruleset order_steps = (memory_fails, key_there, key_fails)

-- all of them
module _ (hide : OrTree → Outcome Typed) (n : ℕ) (outputs : List Named) where
  refused_stays : (check : Check) (sorts : List SortTree) → fold (with_next hide n outputs) (Err check) sorts ≡ Err check
  refused_stays check [] = refl
  refused_stays check (s ∷ sorts) = refused_stays check sorts

  -- these keys and hidden columns, and those of the rest behind them
  abbrev behind : List SortKey → List Typed → ℕ → List SortTree → Outcome (List plans.Sorting) → Outcome Keys
  behind ks hs m sorts rest = upon rest (λ all. Ok (ks ++ keys_of m all sorts, hs ++ hidden_columns all))

  shown_behind : (ks : List SortKey) (hs : List Typed) (m : ℕ) (e : Expr) (s : SortTree) (sorts : List SortTree) (rest : Outcome (List plans.Sorting)) →
      behind (ks ++ key e s ∷ []) hs m sorts rest ≡ upon (upon rest (λ all. Ok (shown e ∷ all))) (λ all. Ok (ks ++ keys_of m all (s ∷ sorts), hs ++ hidden_columns all))
  shown_behind ks hs m e s sorts (Ok all) = ap (λ (keys : List SortKey). Ok (keys, hs ++ hidden_columns all)) (append_assoc ks (key e s ∷ []) (keys_of m all sorts))
  shown_behind ks hs m e s sorts (Err check) = refl

  hidden_behind : (ks : List SortKey) (hs : List Typed) (m : ℕ) (a : Typed) (s : SortTree) (sorts : List SortTree) (rest : Outcome (List plans.Sorting)) →
      behind (ks ++ key (Column m) s ∷ []) (hs ++ a ∷ []) (m + 1) sorts rest ≡ upon (upon rest (λ all. Ok (hidden a ∷ all))) (λ all. Ok (ks ++ keys_of m all (s ∷ sorts), hs ++ hidden_columns all))
  hidden_behind ks hs m a s sorts (Ok all) =
      ap (λ (keys : List SortKey). Ok (keys, (hs ++ a ∷ []) ++ hidden_columns all)) (append_assoc ks (key (Column m) s ∷ []) (keys_of (m + 1) all sorts)) ∙
      ap (λ (columns : List Typed). Ok (ks ++ keys_of m (hidden a ∷ all) (s ∷ sorts), columns)) (append_assoc hs (a ∷ []) (hidden_columns all))
  hidden_behind ks hs m a s sorts (Err check) = refl

  -- that all of some stand behind any others
  abbrev AllBehind : List SortTree → Type 0
  AllBehind sorts = (ks : List SortKey) (hs : List Typed) → fold (with_next hide n outputs) (Ok (ks, hs)) sorts ≡ behind ks hs (n + length hs) sorts (sortings hide outputs sorts)

  one_behind : (ks : List SortKey) (hs : List Typed) (s : SortTree) (sorts : List SortTree) (rest : AllBehind sorts) (g : plans.Sorting) → fold (with_next hide n outputs) (Ok (with_key n (ks, hs) g s)) sorts ≡
      behind ks hs (n + length hs) (s ∷ sorts) (upon (sortings hide outputs sorts) (λ ts. Ok (g ∷ ts)))
  one_behind ks hs s sorts rest (shown e) = rest (ks ++ key e s ∷ []) hs ∙ shown_behind ks hs (n + length hs) e s sorts (sortings hide outputs sorts)
  one_behind ks hs s sorts rest (hidden a) =
      let more : length (hs ++ a ∷ []) ≡ length hs + 1 = length-append hs (a ∷ []) in
      let place : n + length (hs ++ a ∷ []) ≡ n + length hs + 1 = omega (arith, more) in
      rest (ks ++ key (Column (n + length hs)) s ∷ []) (hs ++ a ∷ []) ∙
      ap (λ (m : ℕ). behind (ks ++ key (Column (n + length hs)) s ∷ []) (hs ++ a ∷ []) m sorts (sortings hide outputs sorts)) place ∙
      hidden_behind ks hs (n + length hs) a s sorts (sortings hide outputs sorts)

  all_behind : (sorts : List SortTree) → AllBehind sorts
  all_behind [] ks hs = ap (λ (keys : List SortKey). Ok (keys, hs)) (sym (append-nil ks)) ∙ ap (λ (columns : List Typed). Ok (ks ++ [], columns)) (sym (append-nil hs))
  all_behind (s ∷ sorts) ks hs =
      elim (plans.sorting hide outputs s.value (alone_of s.value)) as (λ o. fold (with_next hide n outputs) (with_sorting n (ks, hs) o s) sorts ≡
      behind ks hs (n + length hs) (s ∷ sorts) (upon o (λ t. upon (sortings hide outputs sorts) (λ ts. Ok (t ∷ ts))))) [
        | Ok g ↦ one_behind ks hs s sorts (all_behind sorts) g
        | Err check ↦ refused_stays check sorts
      ]

  pub order_all : (sorts : List SortTree) → fold (with_next hide n outputs) (Ok ([], [])) sorts ≡ order_of hide n outputs sorts
  order_all sorts =
      let place : n + 0 ≡ n = omega arith in
      all_behind sorts [] [] ∙ ap (λ (m : ℕ). behind [] [] m sorts (sortings hide outputs sorts)) place

-- a plan that shows its own columns alone
module _ (sorts : List SortTree) (plan : Logical) where
  keys_then : (o : Outcome (List plans.Sorting)) → upon (upon {T = Keys} (upon o (λ all. Ok (keys_of 0 all sorts, hidden_columns all))) (λ order. Ok order.0)) (λ keys. Ok (sorted_by keys plan)) ≡
      upon o (λ all. Ok (sorted_by (keys_of 0 all sorts) plan))
  keys_then (Ok all) = refl
  keys_then (Err check) = refl

  in_steps : upon (keys_over sorts plan) (λ keys. Ok (sorted_by keys plan)) ≡ ordered sorts plan
  in_steps = keys_then (sortings (no_hidden (numbered None 0 (schema_of plan))) (numbered None 0 (schema_of plan)) sorts)

  module _ (a : Result (List SortKey) AnalysisFault) (h : Says a (keys_over sorts plan)) where
    pub plan_ordered : (keys : List SortKey) (p : Logical) → a ≡ Ok keys → p ≡ sorted_by keys plan → ordered sorts plan ≡ Ok p
    plan_ordered keys p is made =
        let there : keys_over sorts plan ≡ Ok keys = subst (λ (r : Result (List SortKey) AnalysisFault). Says r (keys_over sorts plan)) is h in
        rw (← in_steps, there, made) refl

    pub keys_fail : (f : AnalysisFault) → a ≡ Err f → Fails f (ordered sorts plan)
    keys_fail f is =
        rw (← in_steps) (step_fails f (keys_over sorts plan) (λ keys. Ok (sorted_by keys plan)) (subst (λ (r : Result (List SortKey) AnalysisFault). Says r (keys_over sorts plan)) is h))

-- the keys over it
module _ (sorts : List SortTree) (plan : Logical) (columns : List Named) (a : Result Order AnalysisFault) (is : columns ≡ numbered None 0 (schema_of plan))
    (h : SaysSeen order_seen a (order_of (no_hidden columns) 0 columns sorts)) where
  pub keys_there : (order : Order) → a ≡ Ok order → keys_over sorts plan ≡ Ok order.keys
  keys_there order e =
      let there : order_of (no_hidden columns) 0 columns sorts ≡ Ok (order_seen order) = subst (λ (r : Result Order AnalysisFault). SaysSeen order_seen r (order_of (no_hidden columns) 0 columns sorts)) e h in
      ap (λ (cs : List Named). upon (order_of (no_hidden cs) 0 cs sorts) (λ order. Ok order.0)) (sym is) ∙ ap (λ (o : Outcome Keys). upon o (λ order. Ok order.0)) there

  pub keys_missing : (f : AnalysisFault) → a ≡ Err f → Fails f (keys_over sorts plan)
  keys_missing f e =
      let fails : Fails f (order_of (no_hidden columns) 0 columns sorts) = subst (λ (r : Result Order AnalysisFault). SaysSeen order_seen r (order_of (no_hidden columns) 0 columns sorts)) e h in
      subst (λ (cs : List Named). Fails f (upon (order_of (no_hidden cs) 0 cs sorts) (λ order. Ok order.0))) is
      (step_fails f (order_of (no_hidden columns) 0 columns sorts) (λ order. Ok order.0) fails)

pub ruleset alone_steps = (memory_fails, plan_ordered, keys_fail, keys_there, keys_missing)
