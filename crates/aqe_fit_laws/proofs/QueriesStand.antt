-- The plan of a query stands for it.
use Rattle.std.proofs.Common.{ℕ}
use Rattle.aqe_base.specs.declared.join_kind.JoinKind.{JoinKind}
use Rattle.aqe_logical.specs.declared.plan.Placement.{Placement}
use Rattle.aqe_logical.specs.declared.plan.Logical.{Logical, OneRow, Scan, Empty, Held, HeldPartial}
use Rattle.aqe_logical.specs.Shapes.{filtered, projected, joined, aggregated, united, sorted, limited, sampled}
use Rattle.aqe_logical.specs.Answers.{Tables, Stages as HeldRows, no_stage}
use Rattle.aqe_logical.specs.WellFormed.{IsOfAQuery, Fits}
use Rattle.aqe_logical.proofs.Nodes.{Each, each, all_nodes}
use Rattle.aqe_logical.proofs.Agree.{closed_alike}
use Rattle.aqe_physical.specs.declared.target.JoinWay.{JoinWay}
use Rattle.aqe_physical.specs.declared.plan.Plan.{Plan}
use Rattle.aqe_physical.proofs.Nodes as physical
use Rattle.aqe_stages.specs.Stages.{Stages}
use Rattle.aqe_stages.specs.Parts.{all}
use Rattle.aqe_fitting.specs.Planning.{Planned, Brought, stays, goes, a_row, a_scan, a_nothing, a_read, a_whole_read, a_filter, a_project, by_parts, by_whole_right, by_whole_left, by_loop, groups_here, groups_moved, groups_read, a_union, sort_here, sort_moved, limit_here, limit_moved, skip_moved, a_sampled}
use Rattle.aqe_fitting.specs.Placing.{Asks}
use Rattle.aqe_physical.specs.declared.target.Target.{Target}
use Rattle.aqe_fit_laws.specs.Leaves.{held_rows, ScanIsRight, LeafIsRight, IsPlainRead}
use Rattle.aqe_fitting.specs.Laws.{may_be_built}
use Rattle.aqe_fit_laws.specs.Laws.{PlansOfQueriesStand}
use Rattle.aqe_fit_laws.proofs.PlansServe.{plans_serve}

module _ (tables : Tables) where
  -- nothing is asked of the stages by a plan that reads none
  fit_still : (held other : HeldRows) (x : Logical) → Each IsOfAQuery x → Each (Fits tables held) x → Each (Fits tables other) x
  fit_still a b OneRow q h = h
  fit_still a b (Scan table schema) q h = h
  fit_still a b (filtered condition x) q h = (h.0, fit_still a b x q.1 h.1)
  fit_still a b (projected items schema x) q h = (h.0, fit_still a b x q.1 h.1)
  fit_still a b (joined kind condition x y) q h = (h.0, fit_still a b x q.1 h.1, fit_still a b y q.2 h.2)
  fit_still a b (aggregated keys calls schema x) q h = (h.0, fit_still a b x q.1 h.1)
  fit_still a b (united x y) q h = (h.0, fit_still a b x q.1 h.1, fit_still a b y q.2 h.2)
  fit_still a b (sorted keys x) q h = (h.0, fit_still a b x q.1 h.1)
  fit_still a b (limited count skip x) q h = (h.0, fit_still a b x q.1 h.1)
  fit_still a b (Empty schema) q h = h
  fit_still a b (Held stage place schema) q h = absurd q
  fit_still a b (HeldPartial stage calls schema) q h = absurd q
  fit_still a b (sampled stage x) q h = (h.0, fit_still a b x q.1 h.1)

  module _ (stages : Stages) (n : ℕ) (files : ℕ → ℕ) where
    leaves_right : (x : Logical) → Each IsOfAQuery x → Each (ScanIsRight tables files) x → Each (LeafIsRight tables stages n files) x
    leaves_right OneRow q h = tt
    leaves_right (Scan table schema) q h = h
    leaves_right (filtered condition x) q h = (tt, leaves_right x q.1 h.1)
    leaves_right (projected items schema x) q h = (tt, leaves_right x q.1 h.1)
    leaves_right (joined kind condition x y) q h = (tt, leaves_right x q.1 h.1, leaves_right y q.2 h.2)
    leaves_right (aggregated keys calls schema x) q h = (tt, leaves_right x q.1 h.1)
    leaves_right (united x y) q h = (tt, leaves_right x q.1 h.1, leaves_right y q.2 h.2)
    leaves_right (sorted keys x) q h = (tt, leaves_right x q.1 h.1)
    leaves_right (limited count skip x) q h = (tt, leaves_right x q.1 h.1)
    leaves_right (Empty schema) q h = tt
    leaves_right (Held stage place schema) q h = absurd q
    leaves_right (HeldPartial stage calls schema) q h = absurd q
    leaves_right (sampled stage x) q h = (tt, leaves_right x q.1 h.1)

    abbrev Plain : Plan → Type 0
    Plain p = physical.Each (IsPlainRead stages) p

    brought : (asks : Asks) (to : Target) (p : Plan) (w : Placement) (q : Plan) → Brought asks to p w q → Plain p → Plain q
    brought asks to _ _ _ (stays p w s) h = h
    brought asks to _ _ _ (goes p w s) h = (tt, h)

    -- the plan of a query reads no stage
    no_reads : (ways : JoinKind → Logical → Logical → JoinWay → Type 0) (x : Logical) (p : Plan) (w : Placement) → Planned ways n files x p w → Each IsOfAQuery x → Plain p
    no_reads ways _ _ _ a_row q = tt
    no_reads ways _ _ _ (a_scan table schema count e) q = tt
    no_reads ways _ _ _ (a_nothing schema parts size e) q = tt
    no_reads ways _ _ _ (a_read stage w schema maps reducers rects e) q = absurd q
    no_reads ways _ _ _ (a_whole_read stage schema) q = absurd q
    no_reads ways _ _ _ (a_filter condition x p w d) q = (tt, no_reads ways x p w d q.1)
    no_reads ways _ _ _ (a_project items schema x p w out d e) q = (tt, no_reads ways x p w d q.1)
    no_reads ways _ _ _ (by_parts how kind condition keys v w x y p p1 q q1 u t out d e cut k h m b c o) z =
        (tt, brought _ _ p u p1 b (no_reads ways x p u d z.1), brought _ _ q t q1 c (no_reads ways y q t e z.2))
    no_reads ways _ _ _ (by_whole_right kind condition keys v w x y p q q1 u t d e cut k m b) z =
        (tt, no_reads ways x p u d z.1, brought _ _ q t q1 b (no_reads ways y q t e z.2))
    no_reads ways _ _ _ (by_whole_left kind condition keys v w x y p p1 q u t out d e cut k m b o) z =
        (tt, brought _ _ p u p1 b (no_reads ways x p u d z.1), no_reads ways y q t e z.2)
    no_reads ways _ _ _ (by_loop kind condition keys v w x y p p1 q q1 u t d e cut k b c) z =
        (tt, brought _ _ p u p1 b (no_reads ways x p u d z.1), brought _ _ q t q1 c (no_reads ways y q t e z.2))
    no_reads ways _ _ _ (groups_here keys calls schema count x p w out d s c o) q = (tt, (tt, no_reads ways x p w d q.1))
    no_reads ways _ _ _ (groups_moved keys calls schema count to x p w out d s c t o) q = (tt, (tt, (tt, no_reads ways x p w d q.1)))
    no_reads ways _ _ _ (groups_read stage calls schema count maps reducers rects out c o) q = absurd q
    no_reads ways _ _ _ (a_union x y p q u t d e) z = (tt, no_reads ways x p u d z.1, no_reads ways y q t e z.2)
    no_reads ways _ _ _ (sort_here keys x p w d s) q = (tt, no_reads ways x p w d q.1)
    no_reads ways _ _ _ (sort_moved keys sample x p w d s m) q = (tt, (tt, no_reads ways x p w d q.1))
    no_reads ways _ _ _ (limit_here count skip x p w d s) q = (tt, no_reads ways x p w d q.1)
    no_reads ways _ _ _ (limit_moved count skip first x p w d s e) q = (tt, (tt, (tt, no_reads ways x p w d q.1)))
    no_reads ways _ _ _ (skip_moved skip x p w d s) q = (tt, (tt, no_reads ways x p w d q.1))
    no_reads ways _ _ _ (a_sampled stage x p w d) q = no_reads ways x p w d q.1

pub queries_stand : PlansOfQueriesStand
queries_stand tables stages n files x p w some formed closed yet fits right planned =
    let query : Each IsOfAQuery x = each IsOfAQuery x closed in
    let served = plans_serve tables stages n files x p w some formed yet
    (all_nodes (Fits tables (held_rows tables stages)) x (fit_still tables no_stage (held_rows tables stages) x query (each (Fits tables no_stage) x fits)))
    (all_nodes (LeafIsRight tables stages n files) x (leaves_right tables stages n files x query (each (ScanIsRight tables files) x right)))
    (physical.all_nodes (IsPlainRead stages) p (no_reads tables stages n files may_be_built x p w planned query)) planned in
    (closed_alike tables (held_rows tables stages) no_stage x (all tables stages p) closed served.answers, served.runs)
