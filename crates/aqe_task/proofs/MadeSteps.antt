-- The forms that are made of the plan below, as the code makes them: what they make of rows, and what they ask of them.
use Rattle.std.proofs.Common.{◌≡◌, ℕ, ◌+◌, List, length, map, filter, take, drop, ap, sym, subst, ◌∙◌, Option, ◌⊎◌, inl, inr}
use Rattle.aqe_expr.specs.declared.expr.Expr.{Expr}
use Rattle.aqe_expr.specs.Meaning.{holds}
use Rattle.aqe_logical.specs.declared.plan.AggCall.{AggCall}
use Rattle.aqe_logical.specs.declared.plan.SortKey.{SortKey}
use Rattle.aqe_logical.specs.Answers.{Row, at_most_rows}
use Rattle.aqe_logical.specs.Groups.{row_of, group_rows, finish_rows}
use Rattle.aqe_logical.specs.Order.{before}
use Rattle.aqe_logical.specs.WellFormed.{HaveWidth}
use Rattle.aqe_places.specs.Sorting.{stable_sort}
use Rattle.aqe_physical.specs.declared.target.Target.{Target}
use Rattle.aqe_physical.specs.declared.plan.Plan.{Plan}
use Rattle.aqe_physical.specs.declared.plan.Plan.TheVariants.{Filter, Project, Exchange, PartialAgg, FinalAgg, Sort, LocalLimit, GlobalLimit}
use Rattle.aqe_physical.proofs.Shapes.{is_kept, is_mapped, is_moved, is_grouped, is_finished, is_ordered, is_cut_locally, is_cut_globally}
use Rattle.aqe_stages.specs.Runnable.{Narrow}
use Rattle.aqe_task.specs.Below.{IsBelow, CanMake, made_by}
use Rattle.aqe_task.specs.Built.{IsBuiltBody}

pub made-filter : (p : Plan) (c : Expr) (q : Plan) (rows : List Row) → p ≡ Filter c q → made_by p rows ≡ filter (holds c) rows
made-filter p c q rows e = ap (λ (x : Plan). made_by x rows) (e ∙ is_kept c q)

pub made-project : (p : Plan) (i : List Expr) (q : Plan) (rows : List Row) → p ≡ Project i q → made_by p rows ≡ map (row_of i) rows
made-project p i q rows e = ap (λ (x : Plan). made_by x rows) (e ∙ is_mapped i q)

pub made-partial : (p : Plan) (ks : List Expr) (cs : List AggCall) (q : Plan) (rows : List Row) → p ≡ PartialAgg ks cs q → made_by p rows ≡ group_rows (length ks) (row_of ks) cs rows
made-partial p ks cs q rows e = ap (λ (x : Plan). made_by x rows) (e ∙ is_grouped ks cs q)

pub made-final : (p : Plan) (n : ℕ) (cs : List AggCall) (q : Plan) (rows : List Row) → p ≡ FinalAgg n cs q → made_by p rows ≡ finish_rows n cs rows
made-final p n cs q rows e = ap (λ (x : Plan). made_by x rows) (e ∙ is_finished n cs q)

pub made-sort : (p : Plan) (ks : List SortKey) (q : Plan) (rows : List Row) → p ≡ Sort ks q → made_by p rows ≡ stable_sort (before ks) rows
made-sort p ks q rows e = ap (λ (x : Plan). made_by x rows) (e ∙ is_ordered ks q)

pub made-local : (p : Plan) (n : ℕ) (q : Plan) (rows : List Row) → p ≡ LocalLimit n q → made_by p rows ≡ take n rows
made-local p n q rows e = ap (λ (x : Plan). made_by x rows) (e ∙ is_cut_locally n q)

pub made-global : (p : Plan) (n : Option ℕ) (s : ℕ) (q : Plan) (rows : List Row) → p ≡ GlobalLimit n s q → made_by p rows ≡ at_most_rows n (drop s rows)
made-global p n s q rows e = ap (λ (x : Plan). made_by x rows) (e ∙ is_cut_globally n s q)

pub ruleset made_steps = (made-filter, made-project, made-partial, made-final, made-sort, made-local, made-global)

pub can-project : (p : Plan) (i : List Expr) (q : Plan) (rows : List Row) → p ≡ Project i q → CanMake p rows → Narrow (map (row_of i) rows)
can-project p i q rows e h = subst (λ (x : Plan). CanMake x rows) (e ∙ is_mapped i q) h

pub can-partial : (p : Plan) (ks : List Expr) (cs : List AggCall) (q : Plan) (rows : List Row) → p ≡ PartialAgg ks cs q → CanMake p rows → Narrow (group_rows (length ks) (row_of ks) cs rows)
can-partial p ks cs q rows e h = subst (λ (x : Plan). CanMake x rows) (e ∙ is_grouped ks cs q) h

pub can-final : (p : Plan) (n : ℕ) (cs : List AggCall) (q : Plan) (rows : List Row) → p ≡ FinalAgg n cs q → CanMake p rows
    → HaveWidth (n + length cs) rows × Narrow rows × Narrow (finish_rows n cs rows)
can-final p n cs q rows e h = subst (λ (x : Plan). CanMake x rows) (e ∙ is_finished n cs q) h

-- one of these forms, and the plan below
abbrev pub IsMadeOf : Plan → Plan → Type 0
IsMadeOf p q =
    ((c : Expr) × (p ≡ Filter c q)) ⊎ (((i : List Expr) × (p ≡ Project i q)) ⊎ (((ks : List Expr) × (cs : List AggCall) × (p ≡ PartialAgg ks cs q)) ⊎
    (((n : ℕ) × (cs : List AggCall) × (p ≡ FinalAgg n cs q)) ⊎ (((ks : List SortKey) × (p ≡ Sort ks q)) ⊎ (((n : ℕ) × (p ≡ LocalLimit n q)) ⊎
    ((n : Option ℕ) × (s : ℕ) × (p ≡ GlobalLimit n s q)))))))

pub is_below : (p q z : Plan) → IsMadeOf p q → z ≡ q → IsBelow p z
is_below p q z (inl (c, e)) f = subst (λ (x : Plan). IsBelow x z) (sym (e ∙ is_kept c q)) f
is_below p q z (inr (inl (i, e))) f = subst (λ (x : Plan). IsBelow x z) (sym (e ∙ is_mapped i q)) f
is_below p q z (inr (inr (inl (ks, cs, e)))) f = subst (λ (x : Plan). IsBelow x z) (sym (e ∙ is_grouped ks cs q)) f
is_below p q z (inr (inr (inr (inl (n, cs, e))))) f = subst (λ (x : Plan). IsBelow x z) (sym (e ∙ is_finished n cs q)) f
is_below p q z (inr (inr (inr (inr (inl (ks, e)))))) f = subst (λ (x : Plan). IsBelow x z) (sym (e ∙ is_ordered ks q)) f
is_below p q z (inr (inr (inr (inr (inr (inl (n, e))))))) f = subst (λ (x : Plan). IsBelow x z) (sym (e ∙ is_cut_locally n q)) f
is_below p q z (inr (inr (inr (inr (inr (inr (n, s, e))))))) f = subst (λ (x : Plan). IsBelow x z) (sym (e ∙ is_cut_globally n s q)) f

-- an exchange is not carried out
pub not_built : (p : Plan) (t : Target) (q : Plan) → p ≡ Exchange t q → IsBuiltBody p → ⊥
not_built p t q e h = let no = subst IsBuiltBody (e ∙ is_moved t q) h in cc no
