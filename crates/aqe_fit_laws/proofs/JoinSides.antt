-- What the sides of a join bring, as they are planned or behind an exchange.
use Rattle.std.proofs.Common.{◌≡◌, ℕ, ◌≤◌, true, false, cond, List, [], length, refl, ap, sym, ◌∙◌, arith, append-nil, subst}
use Rattle.std.specs.Prelude.{IsPermutation}
use Rattle.std.specs.Cmp.Lexicographic.{pointwise_decides}
use Rattle.std.proofs.lemmas.List.Sorted.{IsPermutation-refl, All-permutation}
use Rattle.aqe_base.specs.declared.join_kind.JoinKind.{JoinKind}
use Rattle.aqe_laws.proofs.Same.{same_is_equal}
use Rattle.aqe_expr.specs.declared.expr.Expr.{Expr}
use Rattle.aqe_logical.specs.declared.plan.Placement.{Placement}
use Rattle.aqe_logical.specs.declared.plan.Placement.TheVariants as place
use Rattle.aqe_logical.specs.declared.plan.Logical.{Logical}
use Rattle.aqe_logical.specs.Shapes.{joined}
use Rattle.aqe_logical.specs.Answers.{Row, Tables, Answer}
use Rattle.aqe_logical.specs.Columns.{width}
use Rattle.aqe_logical.specs.Nodes.{is_leaf}
use Rattle.aqe_logical.specs.WellFormed.{HaveWidth, column_limit}
use Rattle.aqe_logical.proofs.Nodes.{count_two}
use Rattle.aqe_places.specs.Places.{by_hash, single}
use Rattle.aqe_places.proofs.Exchanged.{keep_the_rows, are_hash_parts}
use Rattle.aqe_physical.specs.declared.target.Target.{Target}
use Rattle.aqe_physical.specs.declared.target.Target.TheVariants as target
use Rattle.aqe_physical.specs.declared.plan.Plan.{Plan, ReadBroadcast}
use Rattle.aqe_physical.specs.Shapes.{moved}
use Rattle.aqe_physical.proofs.Nodes as physical
use Rattle.aqe_stages.specs.Stages.{Stages}
use Rattle.aqe_stages.specs.Parts.{parts, given_by, all}
use Rattle.aqe_fitting.specs.Placing.{Asks, one_part, hash_of, whole, is_single, is_hash_of, is_kept_whole, is_nothing, gives, serves}
use Rattle.aqe_fitting.specs.Planning.{Brought, stays, goes}
use Rattle.aqe_fit_laws.specs.Standing.{Stands, plainly}
use Rattle.aqe_fit_laws.specs.Leaves.{held_rows}
use Rattle.aqe_fit_laws.specs.Serving.{CanMove, RunsAt}
use Rattle.aqe_fit_laws.proofs.ReadPlainly.{stands_as}
use Rattle.aqe_fit_laws.proofs.Widths.{narrow_keys}
use Rattle.aqe_fit_laws.proofs.NodeServes.{Fine, Served, wide_answer}

-- rows that stand by the hash of just these keys
by_these : (n : ℕ) (keys : List Expr) (w : Placement) (ps : List (List Row)) → is_hash_of keys w ≡ true → Stands n (plainly n) w ps → Stands n (plainly n) (place.Hash keys) ps
by_these n keys (place.Hash others) ps h s = subst (λ (es : List Expr). Stands n (plainly n) (place.Hash es) ps) ((pointwise_decides same_is_equal others keys).0 h) s
by_these n keys place.Any ps h s = absurd (cc)
by_these n keys place.Single ps h s = absurd (cc)
by_these n keys (place.Range others) ps h s = absurd (cc)
by_these n keys place.Broadcast ps h s = absurd (cc)

pub in_one : (n : ℕ) (w : Placement) (ps : List (List Row)) → is_single w ≡ true → Stands n (plainly n) w ps → length ps ≡ 1
in_one n place.Single ps h s = s
in_one n place.Any ps h s = absurd (cc)
in_one n (place.Hash keys) ps h s = absurd (cc)
in_one n (place.Range keys) ps h s = absurd (cc)
in_one n place.Broadcast ps h s = absurd (cc)

pub given : (asks : Asks) (p : Plan) (w : Placement) → is_nothing p ≡ false → serves asks p w ≡ true → gives asks p w ≡ true
given asks p w some_row s = sym (ap (λ b. cond b true (gives asks p w)) some_row) ∙ s

module _ (tables : Tables) (stages : Stages) (n : ℕ) (files : ℕ → ℕ) (some : 1 ≤ n) where
  abbrev PartsOf : Plan → List (List Row)
  PartsOf p = parts tables (given_by tables stages) p

  kept_in_one : (p : Plan) → is_kept_whole p ≡ true → length (PartsOf p) ≡ 1
  kept_in_one (ReadBroadcast stage) h = refl
  kept_in_one p h = absurd (cc)

  -- what is known of the two sides of a join
  pub left_side : (kind : JoinKind) (condition : Expr) (x y : Logical) → Fine tables stages n files some (joined kind condition x y) → Fine tables stages n files some x
  left_side kind condition x y fine = record { sound = fine.sound.1; few = let both = count_two is_leaf x y in omega (arith, both, fine.few); fits = fine.fits.1; right = fine.right.1 }

  pub right_side : (kind : JoinKind) (condition : Expr) (x y : Logical) → Fine tables stages n files some (joined kind condition x y) → Fine tables stages n files some y
  right_side kind condition x y fine = record { sound = fine.sound.2; few = let both = count_two is_leaf x y in omega (arith, both, fine.few); fits = fine.fits.2; right = fine.right.2 }

  -- a side brings the rows of an answer, in some order
  pub record Brings (x : Logical) (p : Plan) : Type 0 where
    pub rows : List Row
    pub answers : Answer tables (held_rows tables stages) x rows
    pub has : IsPermutation rows (all tables stages p)
    pub wide : HaveWidth (width x) (all tables stages p)
    pub runs : physical.Each (RunsAt tables stages) p

  module _ (x : Logical) (fine : Fine tables stages n files some x) where
    abbrev Child : Plan → Placement → Type 0
    Child p w = Served tables stages n files some x p w

    pub as_planned : (p : Plan) (w : Placement) → Child p w → Brings x p
    as_planned p w child = record {
      rows = all tables stages p;
      answers = child.answers;
      has = IsPermutation-refl (all tables stages p);
      wide = wide_answer tables stages n files some x (all tables stages p) fine child.answers;
      runs = child.runs;
    }

    exchanged_over : (to : Target) (p : Plan) (w : Placement) → CanMove to (all tables stages p) → IsPermutation (all tables stages p) (all tables stages (moved to p)) → Child p w → Brings x (moved to p)
    exchanged_over to p w can same child = record {
      rows = all tables stages p;
      answers = child.answers;
      has = same;
      wide = All-permutation (λ row. length row ≡ width x) (all tables stages p) (all tables stages (moved to p)) same (wide_answer tables stages n files some x (all tables stages p) fine child.answers);
      runs = (can, child.runs);
    }

    -- by the hash of keys
    pub brought_by_keys : (keys : List Expr) → length keys ≤ column_limit → (p : Plan) (w : Placement) (p1 : Plan) → Brought (hash_of keys) (target.Hash keys n) p w p1 → is_nothing p ≡ false → Child p w →
        Brings x p1 × Stands n (plainly n) (place.Hash keys) (PartsOf p1)
    brought_by_keys keys few _ _ _ (stays p w s) some_row child = (as_planned p w child, by_these n keys w (PartsOf p) (given (hash_of keys) p w some_row s) child.stands)
    brought_by_keys keys few _ _ _ (goes p w s) some_row child = (
      exchanged_over (target.Hash keys n) p w (some, narrow_keys keys (all tables stages p) few) (keep_the_rows (by_hash n keys) n (all tables stages p) (λ row. are_hash_parts n keys row some)) child,
      stands_as [] [] n some (target.Hash keys n) refl (all tables stages p),
    )

    -- whole, for each part of the other side
    pub brought_whole : (p : Plan) (w : Placement) (p1 : Plan) → Brought whole target.Broadcast p w p1 → is_nothing p ≡ false → Child p w → Brings x p1 × (length (PartsOf p1) ≡ 1)
    brought_whole _ _ _ (stays p w s) some_row child = (as_planned p w child, kept_in_one p (given whole p w some_row s))
    brought_whole _ _ _ (goes p w s) some_row child = (
      exchanged_over target.Broadcast p w tt (subst (IsPermutation (all tables stages p)) (sym (append-nil (all tables stages p))) (IsPermutation-refl (all tables stages p))) child,
      refl,
    )

    -- in one part
    pub brought_to_one : (p : Plan) (w : Placement) (p1 : Plan) → Brought one_part target.Single p w p1 → is_nothing p ≡ false → Child p w → Brings x p1 × (length (PartsOf p1) ≡ 1)
    brought_to_one _ _ _ (stays p w s) some_row child = (as_planned p w child, in_one n w (PartsOf p) (given one_part p w some_row s) child.stands)
    brought_to_one _ _ _ (goes p w s) some_row child = (exchanged_over target.Single p w tt (keep_the_rows single 1 (all tables stages p) (λ row. omega arith)) child, refl)
