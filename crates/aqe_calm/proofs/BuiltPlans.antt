-- The plans of a run are of the forms that tasks carry out, and each of them has a part.
use Rattle.std.proofs.Common.{refl, sym, subst, ◌≤◌, zero, suc, ℕ, Bool, true, false, ◌&&◌, length, arith}
use Rattle.std.specs.Prelude.{IsTrue}
use Rattle.aqe_base.specs.declared.stage_id.StageId.{StageId}
use Rattle.aqe_base.specs.declared.join_kind.JoinKind.{JoinKind}
use Rattle.aqe_base.specs.declared.join_kind.Side.TheVariants.{Left, Right}
use Rattle.aqe_logical.specs.declared.plan.Logical.{Logical}
use Rattle.aqe_logical.specs.declared.plan.Placement.{Placement}
use Rattle.aqe_rects.specs.Rectangles.{plain_rect, plain_rects}
use Rattle.aqe_physical.specs.declared.target.Target.{Target}
use Rattle.aqe_physical.specs.declared.target.Target.TheVariants as target
use Rattle.aqe_physical.specs.declared.target.JoinWay.{JoinWay}
use Rattle.aqe_physical.specs.declared.target.JoinWay.TheVariants as way
use Rattle.aqe_physical.specs.declared.plan.Plan.{Plan, OneRow, Scan, Nothing, Read, ReadBroadcast}
use Rattle.aqe_physical.specs.Shapes.{kept, mapped, moved, matched, grouped, finished, ordered, cut_locally, cut_globally, both_of}
use Rattle.aqe_physical.specs.Counts.{part_count, target_count, join_count}
use Rattle.aqe_physical.proofs.Nodes.{Each}
use Rattle.aqe_calm.specs.Forms.{IsBuiltTo, IsBuiltNode}
use Rattle.aqe_stages.specs.Stages.{Stage}
use Rattle.aqe_stages.specs.Making.{Made, shuffled, broadcasted, sampled, in_kept, in_mapped, in_moved, in_left, in_right, in_grouped, in_finished, in_ordered, in_cut_locally, in_cut_globally, in_first, in_second}
use Rattle.aqe_fitting.specs.Planning as table
use Rattle.aqe_fitting.specs.Planning.{Planned, Brought, stays, goes}
use Rattle.aqe_fitting.specs.Placing.{Asks, groups_target}
use Rattle.aqe_logical.specs.WellFormed.{IsOfAQuery}
use Rattle.aqe_logical.proofs.Nodes as logical_walk
use Rattle.aqe_fit_laws.specs.Leaves.{IsPlannedYet}
use Rattle.aqe_fit_laws.specs.Serving.{IsNoExchange}
use Rattle.aqe_task.specs.Built.{is_built, IsBuiltBody}
use Rattle.std.proofs.lemmas.List.FromFn.{length-map-range_with_len}

-- such a plan has a part
to_count : (to : Target) → IsBuiltTo to → 1 ≤ target_count to
to_count (target.Hash keys n) h = h
to_count (target.Range keys n sample) h = h
to_count target.Single h = omega arith
to_count target.Broadcast h = omega arith

join_parts : (how : JoinWay) (m n : ℕ) → 1 ≤ m → 1 ≤ n → 1 ≤ join_count how m n
join_parts way.SortMerge m n a b = a
join_parts (way.ShuffledHash side) m n a b = a
join_parts (way.Broadcast Left) m n a b = b
join_parts (way.Broadcast Right) m n a b = a
join_parts way.NestedLoop m n a b = omega arith

pub some_part : (p : Plan) → Each IsBuiltNode p → 1 ≤ part_count p
some_part OneRow h = omega arith
some_part (Scan table files) h = omega arith
some_part (Nothing count width) h = absurd h
some_part (Read stage maps reducers rects) h = h
some_part (ReadBroadcast stage) h = omega arith
some_part (kept test p) h = some_part p h.1
some_part (mapped items p) h = some_part p h.1
some_part (moved to p) h = to_count to h.0
some_part (matched how kind keys v w p q) h = join_parts how (part_count p) (part_count q) (some_part p h.1) (some_part q h.2)
some_part (grouped keys calls p) h = some_part p h.1
some_part (finished keys calls p) h = some_part p h.1
some_part (ordered keys p) h = some_part p h.1
some_part (cut_locally count p) h = some_part p h.1
some_part (cut_globally count skip p) h = some_part p h.1
some_part (both_of p q) h = let some = some_part p h.1 in omega (arith, some)

both_built : (a b : Bool) → IsTrue a → IsTrue b → IsTrue (a && b)
both_built true b h k = k
both_built false b h k = h

-- where it has no exchange, tasks carry it out
pub built_body : (p : Plan) → Each IsBuiltNode p → Each IsNoExchange p → IsBuiltBody p
built_body OneRow h e = refl
built_body (Scan table files) h e = refl
built_body (Nothing count width) h e = absurd h
built_body (Read stage maps reducers rects) h e = refl
built_body (ReadBroadcast stage) h e = refl
built_body (kept test p) h e = built_body p h.1 e.1
built_body (mapped items p) h e = built_body p h.1 e.1
built_body (moved to p) h e = absurd e.0
built_body (matched how kind keys v w p q) h e = both_built (is_built p) (is_built q) (built_body p h.1 e.1) (built_body q h.2 e.2)
built_body (grouped keys calls p) h e = built_body p h.1 e.1
built_body (finished keys calls p) h e = built_body p h.1 e.1
built_body (ordered keys p) h e = built_body p h.1 e.1
built_body (cut_locally count p) h e = built_body p h.1 e.1
built_body (cut_globally count skip p) h e = built_body p h.1 e.1
built_body (both_of p q) h e = both_built (is_built p) (is_built q) (built_body p h.1 e.1) (built_body q h.2 e.2)

read_part : (number : StageId) (to : Target) (child : Plan) → IsBuiltTo to → 1 ≤ length (plain_rects (part_count child) (target_count to))
read_part number to child h = let many = length-map-range_with_len (plain_rect (part_count child)) 0 (target_count to) in let some = to_count to h in omega (arith, many, some)

-- making keeps the forms
pub built_stays : (number : StageId) (p q : Plan) (stage : Stage) → Made number p stage q → Each IsBuiltNode p → Each IsBuiltNode q
built_stays number p q stage (shuffled to child s) h = read_part number to child h.0
built_stays number p q stage (broadcasted child) h = tt
built_stays number p q stage (sampled keys n child) h = h
built_stays number p q stage (in_kept c x y st m) h = (tt, built_stays number x y st m h.1)
built_stays number p q stage (in_mapped items x y st m) h = (tt, built_stays number x y st m h.1)
built_stays number p q stage (in_moved to x y st m) h = (h.0, built_stays number x y st m h.1)
built_stays number p q stage (in_left how k keys v w x y other st m) h = (tt, built_stays number x y st m h.1, h.2)
built_stays number p q stage (in_right how k keys v w other x y st m) h = (tt, h.1, built_stays number x y st m h.2)
built_stays number p q stage (in_grouped keys calls x y st m) h = (tt, built_stays number x y st m h.1)
built_stays number p q stage (in_finished n calls x y st m) h = (tt, built_stays number x y st m h.1)
built_stays number p q stage (in_ordered keys x y st m) h = (tt, built_stays number x y st m h.1)
built_stays number p q stage (in_cut_locally n x y st m) h = (tt, built_stays number x y st m h.1)
built_stays number p q stage (in_cut_globally n k x y st m) h = (tt, built_stays number x y st m h.1)
built_stays number p q stage (in_first x y other st m) h = (tt, built_stays number x y st m h.1, h.2)
built_stays number p q stage (in_second other x y st m) h = (tt, h.1, built_stays number x y st m h.2)

-- the first plan is of these forms
module _ (ways : JoinKind → Logical → Logical → JoinWay → Type 0) (n : ℕ) (files : ℕ → ℕ) (some : 1 ≤ n) where
  -- an exchange that is brought is of these forms where its target is
  brought_built : (asks : Asks) (to : Target) (p : Plan) (w : Placement) (q : Plan) → IsBuiltTo to → Brought asks to p w q → Each IsBuiltNode p → Each IsBuiltNode q
  brought_built asks to p w q sent (stays r u s) h = h
  brought_built asks to p w q sent (goes r u s) h = (sent, h)

  sends : (k : ℕ) → IsBuiltTo (groups_target n k)
  sends zero = tt
  sends (suc k) = some

  pub built_first : (x : Logical) (p : Plan) (w : Placement) → Planned ways n files x p w → logical_walk.Each IsPlannedYet x → logical_walk.Each IsOfAQuery x → Each IsBuiltNode p
  built_first x p w table.a_row y q = tt
  built_first x p w (table.a_scan t schema count e) y q = tt
  built_first x p w (table.a_nothing schema parts size e) y q = absurd y
  built_first x p w (table.a_read stage u schema maps reducers rects e) y q = absurd q
  built_first x p w (table.a_whole_read stage schema) y q = absurd q
  built_first x p w (table.a_filter c z r u d) y q = (tt, built_first z r u d y.1 q.1)
  built_first x p w (table.a_project items schema z r u out d e) y q = (tt, built_first z r u d y.1 q.1)
  built_first x p w (table.by_parts how k c keys v l a b r r1 t t1 u z out d e cut h m o b1 b2 f) y q =
      (tt, brought_built _ _ r u r1 some b1 (built_first a r u d y.1 q.1), brought_built _ _ t z t1 some b2 (built_first b t z e y.2 q.2))
  built_first x p w (table.by_whole_right k c keys v l a b r t t1 u z d e cut h m b1) y q =
      (tt, built_first a r u d y.1 q.1, brought_built _ _ t z t1 tt b1 (built_first b t z e y.2 q.2))
  built_first x p w (table.by_whole_left k c keys v l a b r r1 t u z out d e cut h m b1 o) y q =
      (tt, brought_built _ _ r u r1 tt b1 (built_first a r u d y.1 q.1), built_first b t z e y.2 q.2)
  built_first x p w (table.by_loop k c keys v l a b r r1 t t1 u z d e cut h b1 b2) y q =
      (tt, brought_built _ _ r u r1 tt b1 (built_first a r u d y.1 q.1), brought_built _ _ t z t1 tt b2 (built_first b t z e y.2 q.2))
  built_first x p w (table.groups_here keys calls schema count z r u out d s c o) y q = (tt, (tt, built_first z r u d y.1 q.1))
  built_first x p w (table.groups_moved keys calls schema count to z r u out d s c t o) y q =
      (tt, (subst IsBuiltTo (sym t) (sends count), (tt, built_first z r u d y.1 q.1)))
  built_first x p w (table.groups_read stage calls schema count maps reducers rects out c o) y q = absurd q
  built_first x p w (table.a_union a b r t u z d e) y q = (tt, built_first a r u d y.1 q.1, built_first b t z e y.2 q.2)
  built_first x p w (table.sort_here keys z r u d s) y q = (tt, built_first z r u d y.1 q.1)
  built_first x p w (table.sort_moved keys sample z r u d s m) y q = (tt, (some, built_first z r u d y.1 q.1))
  built_first x p w (table.limit_here count skip z r u d s) y q = (tt, built_first z r u d y.1 q.1)
  built_first x p w (table.limit_moved count skip first z r u d s e) y q = (tt, (tt, (tt, built_first z r u d y.1 q.1)))
  built_first x p w (table.skip_moved skip z r u d s) y q = (tt, (tt, built_first z r u d y.1 q.1))
  built_first x p w (table.a_sampled stage z r u d) y q = absurd y.0
