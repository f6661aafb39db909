-- The logical plan after a stage was made has the columns of the plan before.
use Rattle.std.proofs.Common.{◌≡◌, List, [], ◌∷◌, ◌++◌, refl, ap, None}
use Rattle.std.specs.Prelude.{cond}
use Rattle.aqe_base.specs.declared.stage_id.StageId.{StageId}
use Rattle.aqe_base.specs.declared.join_kind.Side.TheVariants.{Left, Right}
use Rattle.aqe_values.specs.declared.schema.Field.{Field}
use Rattle.aqe_expr.specs.declared.expr.Expr.{Expr}
use Rattle.aqe_logical.specs.declared.plan.AggCall.{AggCall}
use Rattle.aqe_logical.specs.declared.plan.Logical.{Logical}
use Rattle.aqe_logical.specs.Shapes.{filtered, projected, joined, aggregated, united, sorted, limited, sampled}
use Rattle.aqe_logical.specs.Columns.{schema_of, shows_right}
use Rattle.aqe_physical.specs.declared.target.Target.TheVariants as target
use Rattle.aqe_physical.specs.declared.plan.Plan.{Plan}
use Rattle.aqe_physical.specs.Shapes.{kept, mapped, moved, matched, grouped, finished, ordered, cut_locally, cut_globally, both_of}
use Rattle.aqe_making.specs.Makings.{Place}
use Rattle.aqe_making.specs.Held.{Change, side_after, sort_after, limit_after, groups_after, logical_after}
use Rattle.aqe_making.specs.Laws.{ColumnsStay}

abbrev Stay : Logical → Change → Type 0
Stay x deeper = (place : Place) (p : Plan) → schema_of (deeper place p) ≡ schema_of x

side_stays : (number : StageId) (x : Logical) (deeper : Change) → Stay x deeper → Stay x (side_after number x deeper)
side_stays number x deeper h [] (moved to p) = refl
side_stays number x deeper h (Left ∷ place) (moved to p) = h place p
side_stays number x deeper h place p = h place p

sort_stays : (number : StageId) (x : Logical) (deeper : Change) → Stay x deeper → Stay x (sort_after number x deeper)
sort_stays number x deeper h [] (moved (target.Range keys n None) p) = refl
sort_stays number x deeper h place p = side_stays number x deeper h place p

limit_stays : (number : StageId) (x : Logical) (deeper : Change) → Stay x deeper → Stay x (limit_after number x deeper)
limit_stays number x deeper h (Left ∷ Left ∷ place) (moved to (cut_locally count p)) = h place p
limit_stays number x deeper h place p = side_stays number x deeper h place p

groups_stay : (number : StageId) (keys : List Expr) (calls : List AggCall) (schema : List Field) (x : Logical) (deeper : Change) (place : Place) (p : Plan) →
    schema_of (groups_after number (aggregated keys calls schema x) calls schema (aggregated keys calls schema) x deeper place p) ≡ schema
groups_stay number keys calls schema x deeper [] (moved to p) = refl
groups_stay number keys calls schema x deeper (Left ∷ Left ∷ place) (moved to (grouped keys2 calls2 p)) = refl
groups_stay number keys calls schema x deeper (Left ∷ place) (grouped keys2 calls2 p) = refl
groups_stay number keys calls schema x deeper place p = refl

pub columns_stay : ColumnsStay
columns_stay number (filtered test x) (Left ∷ place) (kept test2 p) = columns_stay number x place p
columns_stay number (projected items schema x) (Left ∷ place) (mapped items2 p) = refl
columns_stay number (joined kind test x y) (Left ∷ place) (matched how kind2 keys v w p q) =
    ap (λ (f : List Field). cond (shows_right kind) (f ++ schema_of y) f) (side_stays number x (logical_after number x) (λ at r. columns_stay number x at r) place p)
columns_stay number (joined kind test x y) (Right ∷ place) (matched how kind2 keys v w p q) =
    ap (λ (f : List Field). cond (shows_right kind) (schema_of x ++ f) (schema_of x)) (side_stays number y (logical_after number y) (λ at r. columns_stay number y at r) place q)
columns_stay number (aggregated keys calls schema x) (Left ∷ place) (finished n calls2 p) = groups_stay number keys calls schema x (logical_after number x) place p
columns_stay number (united x y) (Left ∷ place) (both_of p q) = columns_stay number x place p
columns_stay number (united x y) (Right ∷ place) (both_of p q) = refl
columns_stay number (sorted keys x) (Left ∷ place) (ordered keys2 p) = sort_stays number x (logical_after number x) (λ at r. columns_stay number x at r) place p
columns_stay number (limited count skip x) (Left ∷ place) (cut_globally count2 skip2 p) = limit_stays number x (logical_after number x) (λ at r. columns_stay number x at r) place p
columns_stay number (sampled stage x) place p = columns_stay number x place p
columns_stay number x place p = refl
