-- What runs over stages runs over others where its parts are the same.
use Rattle.std.proofs.Common.{◌+◌, ◌≡◌, refl, ap, sym, subst, ◌∙◌, zero, suc, ℕ, List, [], ◌∷◌, ◌++◌, length, Option}
use Rattle.aqe_base.specs.declared.join_kind.JoinKind.{JoinKind}
use Rattle.aqe_expr.specs.declared.expr.Expr.{Expr}
use Rattle.aqe_logical.specs.declared.plan.AggCall.{AggCall}
use Rattle.aqe_logical.specs.declared.plan.SortKey.{SortKey}
use Rattle.aqe_logical.specs.Answers.{Row, Tables}
use Rattle.aqe_logical.specs.Groups.{row_of}
use Rattle.aqe_logical.specs.Order.{key_of}
use Rattle.aqe_logical.specs.WellFormed.{HaveWidth}
use Rattle.aqe_partial.specs.PartialRows.{joined_parts}
use Rattle.aqe_join_rows.specs.declared.join_keys.JoinKeys.{JoinKeys}
use Rattle.aqe_physical.specs.declared.target.Target.{Target}
use Rattle.aqe_physical.specs.declared.target.JoinWay.{JoinWay}
use Rattle.aqe_physical.specs.declared.plan.Plan.{Plan, OneRow, Scan, Nothing, Read, ReadBroadcast}
use Rattle.aqe_physical.specs.Shapes.{kept, mapped, moved, matched, grouped, finished, ordered, cut_locally, cut_globally, both_of}
use Rattle.aqe_physical.specs.Counts.{part_count}
use Rattle.aqe_physical.proofs.Nodes.{Each, each, all_nodes}
use Rattle.aqe_stages.specs.Stages.{Stage, Stages}
use Rattle.aqe_stages.specs.Parts.{parts, given_by, all}
use Rattle.aqe_stages.specs.Reads.{ReadsBelowAt}
use Rattle.aqe_stages.specs.Runnable.{OfStage, Narrow, NarrowKeys, NarrowPairs, SidesServe}
use Rattle.aqe_stages.proofs.Counted.{counted}
use Rattle.aqe_stages.proofs.Later.{parts_stay}
use Rattle.aqe_fit_laws.specs.Serving.{RunsAt, CanMove}
use Rattle.aqe_bodies.specs.Laws.{LaterStagesKeepRunning}

-- what holds of a stage that is there holds of it where there are more
pub of_more : (stages more : Stages) (s : ℕ) (P : Stage → Type 0) → OfStage stages s P → OfStage (stages ++ more) s P
of_more [] more s P h = absurd h
of_more (stage ∷ stages) more zero P h = h
of_more (stage ∷ stages) more (suc s) P h = of_more stages more s P h

-- what a join asks of the counts of parts and the rows of its sides
abbrev Joins : JoinWay → JoinKind → JoinKeys → ℕ → ℕ → ℕ × ℕ × List Row × List Row → Type 0
Joins how kind keys v w z =
    SidesServe how kind z.0 z.1 × (length keys.left ≡ length keys.right) × HaveWidth v z.2 × HaveWidth w z.3 ×
    NarrowKeys (row_of keys.left) z.2 × NarrowKeys (row_of keys.right) z.3 × NarrowPairs z.2 z.3

module _ (tables : Tables) (a b : Stages) where
  -- the same parts, of two plans over two lists of stages
  abbrev pub Same : Plan → Plan → Type 0
  Same p q = parts tables (given_by tables a) p ≡ parts tables (given_by tables b) q

  abbrev Runs : Stages → Plan → Type 0
  Runs stages p = RunsAt tables stages p

  pub same_narrow : (p q : Plan) → Same p q → Narrow (all tables a p) → Narrow (all tables b q)
  same_narrow p q e h = subst Narrow (ap joined_parts e) h

  same_count : (p q : Plan) → Same p q → part_count p ≡ part_count q
  same_count p q e = sym (counted tables (given_by tables a) p) ∙ (ap (λ (ps : List (List Row)). length ps) e ∙ counted tables (given_by tables b) q)

  pub carry_kept : (c : Expr) (p q : Plan) → Same (kept c p) (kept c q) → Runs a (kept c p) → Runs b (kept c q)
  carry_kept c p q e h = (tt, same_narrow (kept c p) (kept c q) e h.1)

  pub carry_mapped : (items : List Expr) (p q : Plan) → Same (mapped items p) (mapped items q) → Runs a (mapped items p) → Runs b (mapped items q)
  carry_mapped items p q e h = (tt, same_narrow (mapped items p) (mapped items q) e h.1)

  pub carry_moved : (to : Target) (p q : Plan) → Same p q → Runs a (moved to p) → Runs b (moved to q)
  carry_moved to p q e h = subst (CanMove to) (ap joined_parts e) h

  pub carry_matched : (how : JoinWay) (kind : JoinKind) (keys : JoinKeys) (v w : ℕ) (p q r s : Plan) → Same p r → Same q s →
      Same (matched how kind keys v w p q) (matched how kind keys v w r s) → Runs a (matched how kind keys v w p q) → Runs b (matched how kind keys v w r s)
  carry_matched how kind keys v w p q r s e f g h = (
    subst (Joins how kind keys v w) (λ i. (same_count p r e i, same_count q s f i, joined_parts (e i), joined_parts (f i))) h.0,
    same_narrow (matched how kind keys v w p q) (matched how kind keys v w r s) g h.1,
  )

  pub carry_grouped : (keys : List Expr) (calls : List AggCall) (p q : Plan) → Same p q → Same (grouped keys calls p) (grouped keys calls q) → Runs a (grouped keys calls p) → Runs b (grouped keys calls q)
  carry_grouped keys calls p q e g h = (subst (NarrowKeys (row_of keys)) (ap joined_parts e) h.0, same_narrow (grouped keys calls p) (grouped keys calls q) g h.1)

  pub carry_finished : (n : ℕ) (calls : List AggCall) (p q : Plan) → Same p q → Same (finished n calls p) (finished n calls q) → Runs a (finished n calls p) → Runs b (finished n calls q)
  carry_finished n calls p q e g h = (subst (HaveWidth (n + length calls)) (ap joined_parts e) h.0, same_narrow (finished n calls p) (finished n calls q) g h.1)

  pub carry_ordered : (keys : List SortKey) (p q : Plan) → Same p q → Same (ordered keys p) (ordered keys q) → Runs a (ordered keys p) → Runs b (ordered keys q)
  carry_ordered keys p q e g h = (subst (NarrowKeys (key_of keys)) (ap joined_parts e) h.0, same_narrow (ordered keys p) (ordered keys q) g h.1)

  pub carry_cut_locally : (n : ℕ) (p q : Plan) → Same (cut_locally n p) (cut_locally n q) → Runs a (cut_locally n p) → Runs b (cut_locally n q)
  carry_cut_locally n p q e h = (tt, same_narrow (cut_locally n p) (cut_locally n q) e h.1)

  pub carry_cut_globally : (n : Option ℕ) (s : ℕ) (p q : Plan) → Same (cut_globally n s p) (cut_globally n s q) → Runs a (cut_globally n s p) → Runs b (cut_globally n s q)
  carry_cut_globally n s p q e h = (tt, same_narrow (cut_globally n s p) (cut_globally n s q) e h.1)

  pub carry_both_of : (p q r s : Plan) → Same (both_of p q) (both_of r s) → Runs a (both_of p q) → Runs b (both_of r s)
  carry_both_of p q r s e h = (tt, same_narrow (both_of p q) (both_of r s) e h.1)

-- over more stages
module _ (tables : Tables) (a more : Stages) where
  abbrev Below : Plan → Type 0
  Below p = Each (ReadsBelowAt (length a)) p

  pub same_later : (p : Plan) → Below p → Same tables a (a ++ more) p p
  same_later p h = sym (parts_stay tables a more p (all_nodes (ReadsBelowAt (length a)) p h))

  pub later : (p : Plan) → Below p → Each (RunsAt tables a) p → Each (RunsAt tables (a ++ more)) p
  later OneRow b h = (tt, same_narrow tables a (a ++ more) OneRow OneRow refl h.1)
  later (Scan table files) b h = (h.0, same_narrow tables a (a ++ more) (Scan table files) (Scan table files) refl h.1)
  later (Nothing count width) b h = (tt, same_narrow tables a (a ++ more) (Nothing count width) (Nothing count width) refl h.1)
  later (Read stage maps reducers rects) b h =
      (of_more a more stage.0 _ h.0, same_narrow tables a (a ++ more) (Read stage maps reducers rects) (Read stage maps reducers rects) (same_later (Read stage maps reducers rects) b) h.1)
  later (ReadBroadcast stage) b h =
      (of_more a more stage.0 _ h.0, same_narrow tables a (a ++ more) (ReadBroadcast stage) (ReadBroadcast stage) (same_later (ReadBroadcast stage) b) h.1)
  later (kept c p) b h = (carry_kept tables a (a ++ more) c p p (same_later (kept c p) b) h.0, later p b.1 h.1)
  later (mapped items p) b h = (carry_mapped tables a (a ++ more) items p p (same_later (mapped items p) b) h.0, later p b.1 h.1)
  later (moved to p) b h = (carry_moved tables a (a ++ more) to p p (same_later p b.1) h.0, later p b.1 h.1)
  later (matched how kind keys v w p q) b h =
      (carry_matched tables a (a ++ more) how kind keys v w p q p q (same_later p b.1) (same_later q b.2) (same_later (matched how kind keys v w p q) b) h.0, later p b.1 h.1, later q b.2 h.2)
  later (grouped keys calls p) b h = (carry_grouped tables a (a ++ more) keys calls p p (same_later p b.1) (same_later (grouped keys calls p) b) h.0, later p b.1 h.1)
  later (finished n calls p) b h = (carry_finished tables a (a ++ more) n calls p p (same_later p b.1) (same_later (finished n calls p) b) h.0, later p b.1 h.1)
  later (ordered keys p) b h = (carry_ordered tables a (a ++ more) keys p p (same_later p b.1) (same_later (ordered keys p) b) h.0, later p b.1 h.1)
  later (cut_locally n p) b h = (carry_cut_locally tables a (a ++ more) n p p (same_later (cut_locally n p) b) h.0, later p b.1 h.1)
  later (cut_globally n s p) b h = (carry_cut_globally tables a (a ++ more) n s p p (same_later (cut_globally n s p) b) h.0, later p b.1 h.1)
  later (both_of p q) b h = (carry_both_of tables a (a ++ more) p q p q (same_later (both_of p q) b) h.0, later p b.1 h.1, later q b.2 h.2)

pub later_runs : LaterStagesKeepRunning
later_runs tables stages more plan below h =
    all_nodes (RunsAt tables (stages ++ more)) plan
    (later tables stages more plan (each (ReadsBelowAt (length stages)) plan below) (each (RunsAt tables stages) plan h))
