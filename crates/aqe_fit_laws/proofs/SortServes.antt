-- Sorts serve, where their child does.
use Rattle.std.proofs.Common.{◌≡◌, ℕ, ◌≤◌, true, false, List, length, sym, arith, subst, Option}
use Rattle.std.specs.Prelude.{Contains, IsPermutation}
use Rattle.std.proofs.lemmas.List.{length-map}
use Rattle.std.proofs.lemmas.List.Elements.{All-contains_itself}
use Rattle.std.proofs.lemmas.List.Sorted.{All-permutation}
use Rattle.aqe_base.specs.declared.stage_id.StageId.{StageId}
use Rattle.aqe_values.specs.Bounds.{row_limit}
use Rattle.aqe_values.specs.KeyOrder.{InOrder}
use Rattle.aqe_expr.specs.Meaning.{val}
use Rattle.aqe_logical.specs.declared.plan.Placement.{Placement}
use Rattle.aqe_logical.specs.declared.plan.Placement.TheVariants as place
use Rattle.aqe_logical.specs.declared.plan.SortKey.{SortKey}
use Rattle.aqe_logical.specs.declared.plan.Logical.{Logical}
use Rattle.aqe_logical.specs.Shapes.{sorted}
use Rattle.aqe_logical.specs.Answers.{Row, Tables, Answer}
use Rattle.aqe_logical.specs.Columns.{width}
use Rattle.aqe_logical.specs.Order.{before, key_of}
use Rattle.aqe_logical.specs.WellFormed.{column_limit}
use Rattle.aqe_places.specs.Sorting.{stable_sort}
use Rattle.aqe_places.proofs.Sorted.{keep, order}
use Rattle.aqe_places.proofs.Ordered.{orders}
use Rattle.aqe_physical.specs.declared.target.Target.TheVariants as target
use Rattle.aqe_physical.specs.declared.plan.Plan.{Plan}
use Rattle.aqe_physical.specs.Shapes.{moved, ordered}
use Rattle.aqe_physical.proofs.Nodes as physical
use Rattle.aqe_stages.specs.Stages.{Stages}
use Rattle.aqe_stages.specs.Places.{samples}
use Rattle.aqe_stages.specs.Parts.{parts, given_by, all}
use Rattle.aqe_stages.specs.Runnable.{NarrowKeys}
use Rattle.aqe_fitting.specs.Placing.{order_of, is_nothing, serves}
use Rattle.aqe_fit_laws.specs.Standing.{Stands, plainly}
use Rattle.aqe_fit_laws.specs.Leaves.{held_rows}
use Rattle.aqe_fit_laws.specs.Laws.{LeavesOnlyRows}
use Rattle.aqe_fit_laws.specs.Serving.{KeysOver, RunsAt}
use Rattle.aqe_fit_laws.proofs.Within.{within}
use Rattle.aqe_fit_laws.proofs.ReadPlainly.{stands_as}
use Rattle.aqe_fit_laws.proofs.Widths.{every}
use Rattle.aqe_fit_laws.proofs.NodeServes.{Fine, Served, narrow_answer}
use Rattle.aqe_fit_laws.proofs.JoinSides.{given}
use Rattle.aqe_fit_laws.proofs.PartsTogether.{sorts_over, sorts_moved}

narrow_sort_keys : (keys : List SortKey) (rows : List Row) → length keys ≤ column_limit → NarrowKeys (key_of keys) rows
narrow_sort_keys keys rows few =
    every (λ row. length (key_of keys row) ≤ row_limit) (λ row. let e = length-map keys (λ (key : SortKey). val row key.expr) in omega (arith, e, few)) rows

-- a sort leaves only rows of what it sorts
sort_leaves : (keys : List SortKey) → LeavesOnlyRows (stable_sort (before keys))
sort_leaves keys rows = All-permutation (Contains rows) rows (stable_sort (before keys) rows) (keep (before keys) rows) (All-contains_itself rows)

module _ (tables : Tables) (stages : Stages) (n : ℕ) (files : ℕ → ℕ) (some : 1 ≤ n) (keys : List SortKey) (x : Logical) (fine : Fine tables stages n files some (sorted keys x)) where
  abbrev PartsOf : Plan → List (List Row)
  PartsOf p = parts tables (given_by tables stages) p

  abbrev Child : Plan → Placement → Type 0
  Child p w = Served tables stages n files some x p w

  abbrev Sort : Plan → Placement → Type 0
  Sort p w = Served tables stages n files some (sorted keys x) (ordered keys p) w

  pub sort_child : Fine tables stages n files some x
  sort_child = record { sound = fine.sound.1; few = fine.few; fits = fine.fits.1; right = fine.right.1 }

  -- a sort of parts serves where these, each sorted, are an answer of the child, sorted
  sort_serves : (q : Plan) (w : Placement) (rows : List Row) → Answer tables (held_rows tables stages) x rows →
      all tables stages (ordered keys q) ≡ stable_sort (before keys) rows → Stands n (plainly n) w (PartsOf q) → KeysOver (width x) w →
      physical.Each (RunsAt tables stages) q → Sort q w
  sort_serves q w rows answers is stands over runs =
      let a : Answer tables (held_rows tables stages) (sorted keys x) (all tables stages (ordered keys q)) = (
        rows,
        answers,
        subst (λ (l : List Row). IsPermutation rows l) (sym is) (keep (before keys) rows),
        subst (λ (l : List Row). InOrder (before keys) l) (sym is) (order (before keys) (orders keys) rows),
      ) in
      record {
        answers = a;
        stands = within n (plainly n) w (stable_sort (before keys)) (PartsOf q) (sort_leaves keys) stands;
        over = over;
        runs = (
          (narrow_sort_keys keys (all tables stages q) fine.sound.0.0, narrow_answer tables stages n files some (sorted keys x) (all tables stages (ordered keys q)) fine a),
          runs,
        );
      }

  -- over parts that are in order end to end
  pub sort_here_serves : (p : Plan) (w : Placement) → is_nothing p ≡ false → serves (order_of keys) p w ≡ true → Child p w → Sort p w
  sort_here_serves p w some_row s child =
      let is = sorts_over n (plainly n) keys w (PartsOf p) (given (order_of keys) p w some_row s) child.stands in
      sort_serves p w (all tables stages p) child.answers is child.stands child.over child.runs

  -- over an exchange by ranges, wherever its samples come from
  pub sort_moved_serves : (sample : Option StageId) (p : Plan) (w : Placement) → Child p w → Sort (moved (target.Range keys n sample) p) (place.Range keys)
  sort_moved_serves sample p w child =
      sort_serves (moved (target.Range keys n sample) p) (place.Range keys) (all tables stages p) child.answers
      (sorts_moved n keys (samples (given_by tables stages) keys sample (PartsOf p)) (all tables stages p) some)
      (stands_as (given_by tables stages) (PartsOf p) n some (target.Range keys n sample) some (all tables stages p))
      fine.sound.0.1 ((some, narrow_sort_keys keys (all tables stages p) fine.sound.0.0), child.runs)
