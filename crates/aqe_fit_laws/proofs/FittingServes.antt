-- Plans that fit serve.
use Rattle.std.proofs.Common.{◌≡◌, ℕ, Bool, true, false, not, ◌&&◌, refl, sym, ◌∙◌, subst, List}
use Rattle.aqe_base.specs.declared.cells.Rect.{Rect}
use Rattle.aqe_base.specs.declared.join_kind.JoinKind.{JoinKind}
use Rattle.aqe_base.specs.declared.stage_id.StageId.{StageId}
use Rattle.aqe_settings.specs.declared.key.SettingKey.TheVariants as key
use Rattle.aqe_settings.specs.Values.{value_of, is_on, partitions}
use Rattle.aqe_logical.specs.declared.plan.Placement.{Placement}
use Rattle.aqe_logical.specs.declared.plan.Logical.{Logical}
use Rattle.aqe_logical.proofs.Nodes.{Each, each}
use Rattle.aqe_physical.specs.declared.target.JoinWay.{JoinWay}
use Rattle.aqe_physical.specs.declared.target.JoinWay.TheVariants as way
use Rattle.aqe_physical.specs.declared.target.Target.{Target}
use Rattle.aqe_physical.specs.declared.plan.Plan.{Plan, Read}
use Rattle.aqe_physical.specs.Counts.{part_count}
use Rattle.aqe_physical.specs.Shapes.{grouped, cut_locally}
use Rattle.aqe_physical.proofs.Nodes as physical
use Rattle.aqe_stages.specs.Stages.{Stages}
use Rattle.aqe_stages.specs.Runnable.{reducers_of}
use Rattle.aqe_fitting.specs.Known.{files_of, entry_of, maps_in, reducers_in}
use Rattle.aqe_fitting.specs.Strands.{Strand, strand}
use Rattle.aqe_fitting.specs.ReadsFit.{Cut, uncut, CutOf, stays_uncut, goes_local, goes_skewed, goes_together, goes_plain, Facts, JoinReads, ReadsFit, all_made, may_cut}
use Rattle.aqe_fitting.specs.Planning.{Planned, Brought, stays, goes, is_by_parts, a_row, a_scan, a_nothing, a_read, a_whole_read, a_filter, a_project, by_parts, by_whole_right, by_whole_left, by_loop, groups_here, groups_moved, groups_read, a_union, sort_here, sort_moved, limit_here, limit_moved, skip_moved, a_sampled}
use Rattle.aqe_fitting.specs.Placing.{Asks}
use Rattle.aqe_fitting.specs.Fits.{facts_of}
use Rattle.aqe_fitting.specs.Laws.{may_be_built}
use Rattle.aqe_fitting.proofs.OnePlan.{buildable}
use Rattle.aqe_fit_laws.specs.Leaves.{SizeIsRight, LeafSizeIsRight, IsPlainRead, IsPlannedYet}
use Rattle.aqe_fit_laws.specs.Laws.{FittingPlansServe, FittingPlansStand}
use Rattle.aqe_fit_laws.proofs.ReadPlainly.{of_weaker}
use Rattle.aqe_fit_laws.proofs.PlansServe.{plans_serve}
use Rattle.aqe_fit_laws.proofs.QueriesStand.{queries_stand}

no_and : (a b : Bool) → a ≡ false → (a && b) ≡ false
no_and false b e = refl
no_and true b e = absurd (cc)

-- where nothing is planned again, no strand is cut
module _ (stages : Stages) (facts : Facts) (still : is_on (value_of key.Enabled facts.settings) ≡ false) where
  not_cut : (s : Strand) → may_cut facts s ≡ false
  not_cut s = no_and (is_on (value_of key.Enabled facts.settings)) (not s.has_exchange && all_made facts.sizes s.reads) still

  uncut_only : (s : Strand) (cut : Cut) → CutOf facts s cut → cut ≡ uncut
  uncut_only s _ (stays_uncut e) = refl
  uncut_only s _ (goes_local e l) = absurd (let no : true ≡ false = sym e ∙ not_cut s in cc)
  uncut_only s _ (goes_skewed e l sides p some pairs q) = absurd (let no : true ≡ false = sym e ∙ not_cut s in cc)
  uncut_only s _ (goes_together e l n c groups g) = absurd (let no : true ≡ false = sym e ∙ not_cut s in cc)
  uncut_only s _ (goes_plain e l n c) = refl

  plain_read : (stage : StageId) (maps reducers : ℕ) (rects : List Rect) → SizeIsRight stages facts.sizes stage → ReadsFit facts uncut (Read stage maps reducers rects) → IsPlainRead stages (Read stage maps reducers rects)
  plain_read stage maps reducers rects right fit = (
    of_weaker stages stage.0 (λ made. (maps_in (entry_of facts.sizes stage) ≡ part_count made.body) × (reducers_in (entry_of facts.sizes stage) ≡ reducers_of made.kind))
        (λ made. (maps ≡ part_count made.body) × (reducers ≡ reducers_of made.kind)) (λ made e. (fit.0 ∙ e.0, fit.1 ∙ e.1)) right,
    fit.2,
  )

  abbrev Plain : Plan → Type 0
  Plain p = physical.Each (IsPlainRead stages) p

  module _ (ways : JoinKind → Logical → Logical → JoinWay → Type 0) (n : ℕ) (files : ℕ → ℕ) where
    -- the reads of a strand that begins below an exchange, or on a side of a union
    below_plain : (p : Plan) → (ReadsFit facts uncut p → Plain p) → (below : Cut) × CutOf facts (strand p) below × ReadsFit facts below p → Plain p
    below_plain p plain (below, c, f) = plain (subst (λ (cut : Cut). ReadsFit facts cut p) (uncut_only (strand p) below c) f)

    -- the reads of a side of a join, beneath the exchange that may stand over it
    beneath : (asks : Asks) (to : Target) (p : Plan) (w : Placement) (p1 : Plan) → Brought asks to p w p1 → (ReadsFit facts uncut p → Plain p) → ReadsFit facts uncut p1 → Plain p1
    beneath asks to _ _ _ (stays p w s) plain f = plain f
    beneath asks to _ _ _ (goes p w s) plain f = (tt, below_plain p plain f.0)

    -- the sides of a join part by part are cut as it is
    both_uncut : (how : JoinWay) (p q : Plan) → is_by_parts how ≡ true → JoinReads how uncut (λ c. ReadsFit facts c p) (λ c. ReadsFit facts c q) → ReadsFit facts uncut p × ReadsFit facts uncut q
    both_uncut way.SortMerge p q h f = f
    both_uncut (way.ShuffledHash side) p q h f = f
    both_uncut (way.Broadcast side) p q h f = absurd (cc)
    both_uncut way.NestedLoop p q h f = absurd (cc)

    plain_reads : (x : Logical) (p : Plan) (w : Placement) → Planned ways n files x p w → Each IsPlannedYet x → Each (LeafSizeIsRight stages facts.sizes) x → ReadsFit facts uncut p → Plain p
    plain_reads _ _ _ a_row y s f = tt
    plain_reads _ _ _ (a_scan table schema count e) y s f = tt
    plain_reads _ _ _ (a_nothing schema parts size e) y s f = tt
    plain_reads _ _ _ (a_read stage w schema maps reducers rects e) y s f = plain_read stage maps reducers rects s f
    plain_reads _ _ _ (a_whole_read stage schema) y s f = tt
    plain_reads _ _ _ (a_filter condition x p w d) y s f = (tt, plain_reads x p w d y.1 s.1 f.0)
    plain_reads _ _ _ (a_project items schema x p w out d e) y s f = (tt, plain_reads x p w d y.1 s.1 f.0)
    plain_reads _ _ _ (by_parts how kind condition keys v w x y p p1 q q1 u t out d e cut k h m b c o) z s f =
        let reads = both_uncut how p1 q1 h f.0 in
        (tt, beneath _ _ p u p1 b (λ g. plain_reads x p u d z.1 s.1 g) reads.0, beneath _ _ q t q1 c (λ g. plain_reads y q t e z.2 s.2 g) reads.1)
    plain_reads _ _ _ (by_whole_right kind condition keys v w x y p q q1 u t d e cut k m b) z s f =
        (tt, plain_reads x p u d z.1 s.1 f.0.0, beneath _ _ q t q1 b (λ g. plain_reads y q t e z.2 s.2 g) f.0.1)
    plain_reads _ _ _ (by_whole_left kind condition keys v w x y p p1 q u t out d e cut k m b o) z s f =
        (tt, beneath _ _ p u p1 b (λ g. plain_reads x p u d z.1 s.1 g) f.0.0, plain_reads y q t e z.2 s.2 f.0.1)
    plain_reads _ _ _ (by_loop kind condition keys v w x y p p1 q q1 u t d e cut k b c) z s f =
        (tt, beneath _ _ p u p1 b (λ g. plain_reads x p u d z.1 s.1 g) f.0.0, beneath _ _ q t q1 c (λ g. plain_reads y q t e z.2 s.2 g) f.0.1)
    plain_reads _ _ _ (groups_here keys calls schema count x p w out d serves c o) y s f = (tt, (tt, plain_reads x p w d y.1 s.1 f.0.0))
    plain_reads _ _ _ (groups_moved keys calls schema count to x p w out d serves c t o) y s f =
        (tt, (tt, below_plain (grouped keys calls p) (λ g. (tt, plain_reads x p w d y.1 s.1 g.0)) f.0.0))
    plain_reads _ _ _ (groups_read stage calls schema count maps reducers rects out c o) y s f = (tt, plain_read stage maps reducers rects s f.0)
    plain_reads _ _ _ (a_union x y p q u t d e) z s f =
        (tt, below_plain p (λ g. plain_reads x p u d z.1 s.1 g) f.0, below_plain q (λ g. plain_reads y q t e z.2 s.2 g) f.1)
    plain_reads _ _ _ (sort_here keys x p w d serves) y s f = (tt, plain_reads x p w d y.1 s.1 f.0)
    plain_reads _ _ _ (sort_moved keys sample x p w d serves m) y s f = (tt, (tt, below_plain p (λ g. plain_reads x p w d y.1 s.1 g) f.0.0))
    plain_reads _ _ _ (limit_here count skip x p w d serves) y s f = (tt, plain_reads x p w d y.1 s.1 f.0)
    plain_reads _ _ _ (limit_moved count skip first x p w d serves e) y s f =
        (tt, (tt, below_plain (cut_locally first p) (λ g. (tt, plain_reads x p w d y.1 s.1 g.0)) f.0.0))
    plain_reads _ _ _ (skip_moved skip x p w d serves) y s f = (tt, (tt, below_plain p (λ g. plain_reads x p w d y.1 s.1 g) f.0.0))
    plain_reads _ _ _ (a_sampled stage x p w d) y s f = absurd y.0

pub fitting_serve : FittingPlansServe
fitting_serve tables stages p x estimates sizes settings some still formed yet fit right known fits =
    let facts : Facts = facts_of x sizes settings in
    let planned = buildable p x estimates sizes settings fits.0.0 fits.0.1 in
    let reads : ReadsFit facts uncut p = subst (λ (cut : Cut). ReadsFit facts cut p) (uncut_only stages facts still (strand p) fits.1.0 fits.1.1) fits.1.2 in
    let plain = plain_reads stages facts still may_be_built (partitions settings) (files_of estimates) x p fits.0.0 planned (each IsPlannedYet x yet) (each (LeafSizeIsRight stages sizes) x known) reads in
    (fits.0.0, plans_serve tables stages (partitions settings) (files_of estimates) x p fits.0.0 some formed yet fit right (physical.all_nodes (IsPlainRead stages) p plain) planned)

pub fitting_stand : FittingPlansStand
fitting_stand tables stages p x estimates sizes settings some formed closed yet fit right fits =
    queries_stand tables stages (partitions settings) (files_of estimates) x p fits.0.0 some formed closed yet fit right (buildable p x estimates sizes settings fits.0.0 fits.0.1)
