-- Limits and unions serve, where their children do.
use Rattle.std.proofs.Common.{◌≡◌, ℕ, ◌+◌, ◌≤◌, true, false, List, ◌++◌, take, drop, length, refl, ap, sym, ◌∙◌, arith, append-nil, subst, Option, Some, None}
use Rattle.std.specs.Prelude.{Contains, IsPermutation}
use Rattle.std.proofs.lemmas.List.Elements.{All-take, All-drop, All-contains_itself}
use Rattle.std.proofs.lemmas.List.Sorted.{IsPermutation-refl}
use Rattle.aqe_values.specs.Bounds.{row_limit}
use Rattle.aqe_logical.specs.declared.plan.Placement.{Placement}
use Rattle.aqe_logical.specs.declared.plan.Placement.TheVariants as place
use Rattle.aqe_logical.specs.declared.plan.Logical.{Logical}
use Rattle.aqe_logical.specs.Shapes.{limited, united}
use Rattle.aqe_logical.specs.Answers.{Row, Tables, Answer, at_most_rows}
use Rattle.aqe_logical.specs.Columns.{width}
use Rattle.aqe_logical.specs.Nodes.{is_leaf}
use Rattle.aqe_logical.proofs.Nodes.{count_two}
use Rattle.aqe_partial.specs.PartialRows.{joined_parts}
use Rattle.aqe_places.proofs.Bounds.{one_part as in_one_part}
use Rattle.aqe_physical.specs.declared.target.Target.TheVariants as target
use Rattle.aqe_physical.specs.declared.plan.Plan.{Plan}
use Rattle.aqe_physical.specs.Shapes.{moved, cut_locally, cut_globally, both_of}
use Rattle.aqe_physical.proofs.Nodes as physical
use Rattle.aqe_stages.specs.Stages.{Stages}
use Rattle.aqe_stages.specs.Parts.{parts, given_by, all}
use Rattle.aqe_fitting.specs.Placing.{one_part, is_nothing, serves}
use Rattle.aqe_fit_laws.specs.Standing.{Stands, plainly}
use Rattle.aqe_fit_laws.specs.Leaves.{held_rows}
use Rattle.aqe_fit_laws.specs.Laws.{LeavesOnlyRows}
use Rattle.aqe_fit_laws.specs.Serving.{KeysOver, RunsAt}
use Rattle.aqe_fit_laws.proofs.Within.{within, later_within}
use Rattle.aqe_fit_laws.proofs.NodeServes.{Fine, Served, narrow_answer}
use Rattle.aqe_fit_laws.proofs.JoinSides.{given, in_one}
use Rattle.aqe_fit_laws.proofs.PartsTogether.{one_part_limited, limits_are, ends}

-- the first rows of a part, and a limit of it, are rows of the part
first_leave : (first : ℕ) → LeavesOnlyRows (take first)
first_leave first rows = All-take (Contains rows) first rows (All-contains_itself rows)

limit_leaves : (count : Option ℕ) (skip : ℕ) → LeavesOnlyRows (λ part. at_most_rows count (drop skip part))
limit_leaves None skip rows = All-drop (Contains rows) skip rows (All-contains_itself rows)
limit_leaves (Some count) skip rows = All-take (Contains rows) count (drop skip rows) (All-drop (Contains rows) skip rows (All-contains_itself rows))

module _ (tables : Tables) (stages : Stages) (n : ℕ) (files : ℕ → ℕ) (some : 1 ≤ n) where
  abbrev PartsOf : Plan → List (List Row)
  PartsOf p = parts tables (given_by tables stages) p

  abbrev rows_of : Plan → List Row
  rows_of p = all tables stages p

  abbrev Answers : Logical → List Row → Type 0
  Answers x rows = Answer tables (held_rows tables stages) x rows

  abbrev Runs : Plan → Type 0
  Runs p = physical.Each (RunsAt tables stages) p

  abbrev FineAt : Logical → Type 0
  FineAt x = Fine tables stages n files some x

  abbrev ServedAt : Logical → Plan → Placement → Type 0
  ServedAt x p w = Served tables stages n files some x p w

  module _ (count : Option ℕ) (skip : ℕ) (x : Logical) (fine : FineAt (limited count skip x)) where
    abbrev cut : List Row → List Row
    cut rows = at_most_rows count (drop skip rows)

    abbrev Limit : Plan → Placement → Type 0
    Limit q w = ServedAt (limited count skip x) (cut_globally count skip q) w

    pub limit_child : FineAt x
    limit_child = record { sound = fine.sound.1; few = fine.few; fits = fine.fits.1; right = fine.right.1 }

    -- a limit serves where what it leaves is an answer of the child, cut
    limit_serves : (q : Plan) (w : Placement) (rows : List Row) → Answers x rows → rows_of (cut_globally count skip q) ≡ cut rows → Stands n (plainly n) w (PartsOf q) → KeysOver (width x) w → Runs q →
        Limit q w
    limit_serves q w rows answers is stands over runs =
        let a : Answers (limited count skip x) (rows_of (cut_globally count skip q)) = (rows, answers, is) in
        record {
          answers = a;
          stands = within n (plainly n) w cut (PartsOf q) (limit_leaves count skip) stands;
          over = over;
          runs = ((tt, narrow_answer tables stages n files some (limited count skip x) (rows_of (cut_globally count skip q)) fine a), runs);
        }

    pub limit_here_serves : (p : Plan) (w : Placement) → is_nothing p ≡ false → serves one_part p w ≡ true → ServedAt x p w → Limit p w
    limit_here_serves p w some_row s child =
        let one : length (PartsOf p) ≡ 1 = in_one n w (PartsOf p) (given one_part p w some_row s) child.stands in
        limit_serves p w (rows_of p) child.answers (one_part_limited count skip (PartsOf p) one) child.stands child.over child.runs

    -- behind an exchange to one part, in which all rows are in their order
    single_serves : (q : Plan) (rows : List Row) → Answers x rows → cut (rows_of q) ≡ cut rows → Runs q → Limit (moved target.Single q) place.Single
    single_serves q rows answers is runs =
        let whole : rows_of (moved target.Single q) ≡ rows_of q = ap joined_parts (in_one_part (rows_of q)) ∙ append-nil (rows_of q) in
        limit_serves (moved target.Single q) place.Single rows answers
        (one_part_limited count skip (PartsOf (moved target.Single q)) refl ∙ (ap cut whole ∙ is)) refl tt (tt, runs)

  pub skip_moved_serves : (skip : ℕ) (x : Logical) (p : Plan) (w : Placement) → FineAt (limited None skip x) → ServedAt x p w →
      ServedAt (limited None skip x) (cut_globally None skip (moved target.Single p)) place.Single
  skip_moved_serves skip x p w fine child = single_serves None skip x fine p (rows_of p) child.answers refl child.runs

  pub limit_moved_serves : (count skip : ℕ) (x : Logical) (p : Plan) (w : Placement) → FineAt (limited (Some count) skip x) → ServedAt x p w →
      ServedAt (limited (Some count) skip x) (cut_globally (Some count) skip (moved target.Single (cut_locally (count + skip) p))) place.Single
  limit_moved_serves count skip x p w fine child =
      let child_rows = narrow_answer tables stages n files some x (rows_of p) (limit_child (Some count) skip x fine) child.answers in
      let first_rows = later_within (take (count + skip)) (first_leave (count + skip)) (λ row. length row ≤ row_limit) (PartsOf p) child_rows in
      single_serves (Some count) skip x fine (cut_locally (count + skip) p) (rows_of p) child.answers (limits_are count skip (PartsOf p)) ((tt, first_rows), child.runs)

  module _ (x y : Logical) (fine : FineAt (united x y)) where
    pub union_left : FineAt x
    union_left = record { sound = fine.sound.1; few = let both = count_two is_leaf x y in omega (arith, both, fine.few); fits = fine.fits.1; right = fine.right.1 }

    pub union_right : FineAt y
    union_right = record { sound = fine.sound.2; few = let both = count_two is_leaf x y in omega (arith, both, fine.few); fits = fine.fits.2; right = fine.right.2 }

    pub union_serves : (p q : Plan) (u t : Placement) → ServedAt x p u → ServedAt y q t → ServedAt (united x y) (both_of p q) place.Any
    union_serves p q u t left right =
        let both : List Row = rows_of p ++ rows_of q in
        let same : IsPermutation both (rows_of (both_of p q)) = subst (λ (l : List Row). IsPermutation both l) (sym (ends (PartsOf p) (PartsOf q))) (IsPermutation-refl both) in
        let a : Answers (united x y) (rows_of (both_of p q)) = (rows_of p, rows_of q, left.answers, right.answers, same) in
        record {
          answers = a;
          stands = tt;
          over = tt;
          runs = ((tt, narrow_answer tables stages n files some (united x y) (rows_of (both_of p q)) fine a), left.runs, right.runs);
        }
