-- The plans that are built read no stage.
use Rattle.std.proofs.Common.{◌≡◌, ℕ, Some, None, [], ◌∷◌, ◌++◌, false, true}
use Rattle.std.specs.Prelude.{All}
use Rattle.std.proofs.lemmas.List.Elements.{All-nil, All-cons, All-append}
use Rattle.aqe_base.specs.declared.join_kind.JoinKind.{JoinKind}
use Rattle.aqe_base.specs.declared.join_kind.Side.TheVariants.{Left, Right}
use Rattle.aqe_join_rows.specs.declared.join_keys.JoinKeys.{JoinKeys}
use Rattle.aqe_logical.specs.declared.plan.Placement.{Placement}
use Rattle.aqe_logical.specs.declared.plan.Logical.{Logical}
use Rattle.aqe_physical.specs.declared.plan.Plan as plan
use Rattle.aqe_physical.specs.declared.plan.Plan.{Plan}
use Rattle.aqe_physical.specs.declared.target.JoinWay.{JoinWay}
use Rattle.aqe_physical.specs.declared.target.JoinWay.TheVariants as way
use Rattle.aqe_physical.specs.declared.target.Target.{Target}
use Rattle.aqe_physical.specs.declared.target.Target.TheVariants as target
use Rattle.aqe_physical.specs.Shapes.{kept, mapped, moved, matched, grouped, finished, ordered, cut_locally, cut_globally, both_of}
use Rattle.aqe_physical.specs.Nodes.{nodes}
use Rattle.aqe_fitting.specs.Planning as table
use Rattle.aqe_fitting.specs.Planning.{Planned, Brought, stays, goes}
use Rattle.aqe_fitting.specs.Placing.{Asks}
use Rattle.aqe_fitting.specs.Laws.{IsNoRead, ReadsNothing}
use Rattle.aqe_planner.specs.Built.{is_built, IsBuilt}
use Rattle.aqe_planner.proofs.Below.{left_built, right_built}

reads-more : (node p : Plan) → IsNoRead node → ReadsNothing p → All IsNoRead (node ∷ nodes p)
reads-more node p h k = All-cons IsNoRead node (nodes p) h k

not_built : false ≡ true → ⊥
not_built h = cc (h)

-- what is brought of a side that reads nothing reads nothing
brought_reads : (asks : Asks) (to : Target) (p : Plan) (w : Placement) (q : Plan) → Brought asks to p w q → ReadsNothing p → ReadsNothing q
brought_reads asks to a u q (stays p w s) h = h
brought_reads asks to a u q (goes p w s) h = reads-more (moved to p) p tt h

both_read : (how : JoinWay) (kind : JoinKind) (keys : JoinKeys) (v w : ℕ) (p q : Plan) → ReadsNothing p → ReadsNothing q → ReadsNothing (matched how kind keys v w p q)
both_read how kind keys v w p q h k = All-cons IsNoRead (matched how kind keys v w p q) (nodes p ++ nodes q) tt (All-append IsNoRead (nodes p) (nodes q) h k)

module _ (ways : JoinKind → Logical → Logical → JoinWay → Type 0) (n : ℕ) (files : ℕ → ℕ) where
  pub reads_nothing : (x : Logical) (p : Plan) (w : Placement) → Planned ways n files x p w → IsBuilt x → ReadsNothing p
  reads_nothing x p w table.a_row h = All-cons IsNoRead plan.OneRow [] tt (All-nil IsNoRead)
  reads_nothing x p w (table.a_scan t schema count e) h = All-cons IsNoRead (plan.Scan t count) [] tt (All-nil IsNoRead)
  reads_nothing x q w (table.a_filter condition y p u d) h = reads-more (kept condition p) p tt (reads_nothing y p u d h)
  reads_nothing x q w (table.a_project items schema y p u out d e) h = reads-more (mapped items p) p tt (reads_nothing y p u d h)
  reads_nothing x q w (table.groups_here keys calls schema count y p u out d s e f) h =
      reads-more (finished count calls (grouped keys calls p)) (grouped keys calls p) tt (reads-more (grouped keys calls p) p tt (reads_nothing y p u d h))
  reads_nothing x q w (table.groups_moved keys calls schema count to y p u out d s e f g) h =
      reads-more (finished count calls (moved to (grouped keys calls p))) (moved to (grouped keys calls p)) tt
      (reads-more (moved to (grouped keys calls p)) (grouped keys calls p) tt (reads-more (grouped keys calls p) p tt (reads_nothing y p u d h)))
  reads_nothing x r o (table.by_parts how kind c keys v w y z p p1 q q1 u t out d e cut has parts by b1 b2 at) h =
      both_read how kind keys v w p1 q1
      (brought_reads _ _ p u p1 b1 (reads_nothing y p u d (left_built (is_built y) (is_built z) h)))
      (brought_reads _ _ q t q1 b2 (reads_nothing z q t e (right_built (is_built y) (is_built z) h)))
  reads_nothing x r o (table.by_whole_right kind c keys v w y z p q q1 u t d e cut has by b2) h =
      both_read (way.Broadcast Right) kind keys v w p q1 (reads_nothing y p u d (left_built (is_built y) (is_built z) h))
      (brought_reads _ _ q t q1 b2 (reads_nothing z q t e (right_built (is_built y) (is_built z) h)))
  reads_nothing x r o (table.by_whole_left kind c keys v w y z p p1 q u t out d e cut has by b1 at) h =
      both_read (way.Broadcast Left) kind keys v w p1 q (brought_reads _ _ p u p1 b1 (reads_nothing y p u d (left_built (is_built y) (is_built z) h)))
      (reads_nothing z q t e (right_built (is_built y) (is_built z) h))
  reads_nothing x r o (table.by_loop kind c keys v w y z p p1 q q1 u t d e cut none b1 b2) h =
      both_read way.NestedLoop kind keys v w p1 q1
      (brought_reads _ _ p u p1 b1 (reads_nothing y p u d (left_built (is_built y) (is_built z) h)))
      (brought_reads _ _ q t q1 b2 (reads_nothing z q t e (right_built (is_built y) (is_built z) h)))
  reads_nothing x r w (table.a_union y z p q u t d e) h =
      All-cons IsNoRead (both_of p q) (nodes p ++ nodes q) tt
      (All-append IsNoRead (nodes p) (nodes q) (reads_nothing y p u d (left_built (is_built y) (is_built z) h)) (reads_nothing z q t e (right_built (is_built y) (is_built z) h)))
  reads_nothing x q w (table.sort_here keys y p u d s) h = reads-more (ordered keys p) p tt (reads_nothing y p u d h)
  reads_nothing x q w (table.sort_moved keys sample y p u d s e) h =
      reads-more (ordered keys (moved (target.Range keys n sample) p)) (moved (target.Range keys n sample) p) tt
      (reads-more (moved (target.Range keys n sample) p) p tt (reads_nothing y p u d h))
  reads_nothing x q w (table.limit_here count skip y p u d s) h = reads-more (cut_globally count skip p) p tt (reads_nothing y p u d h)
  reads_nothing x q w (table.limit_moved count skip first y p u d s e) h =
      reads-more (cut_globally (Some count) skip (moved target.Single (cut_locally first p))) (moved target.Single (cut_locally first p)) tt
      (reads-more (moved target.Single (cut_locally first p)) (cut_locally first p) tt (reads-more (cut_locally first p) p tt (reads_nothing y p u d h)))
  reads_nothing x q w (table.skip_moved skip y p u d s) h =
      reads-more (cut_globally None skip (moved target.Single p)) (moved target.Single p) tt (reads-more (moved target.Single p) p tt (reads_nothing y p u d h))
  reads_nothing x p w d h = absurd (not_built h)
