-- Small plans for each row of the table of planning, worked out by hand from the rules: a check of the definitions.
use Rattle.std.proofs.Common.{◌≡◌, refl, sym, ◌∙◌, ℕ, List, [], ◌∷◌, Some, None, true, false, pos}
use Rattle.aqe_base.specs.declared.join_kind.JoinKind.{JoinKind}
use Rattle.aqe_base.specs.declared.join_kind.JoinKind.TheVariants.{Inner, LeftOuter, RightOuter, FullOuter, LeftSemi}
use Rattle.aqe_base.specs.declared.join_kind.Side.TheVariants.{Right}
use Rattle.aqe_base.specs.declared.stage_id.StageId.{StageId}
use Rattle.aqe_values.specs.declared.value.Value.TheVariants.{Boolean, Int}
use Rattle.aqe_values.specs.declared.schema.Field.{Field}
use Rattle.aqe_values.specs.declared.sql_type.SqlType.TheVariants as type
use Rattle.aqe_expr.specs.declared.expr.Expr.{Expr, Column, Literal}
use Rattle.aqe_expr.specs.declared.expr.Expr.TheVariants as expr
use Rattle.aqe_expr.specs.declared.expr.BinaryOp.TheVariants as binary
use Rattle.aqe_expr.specs.Shapes.{binary_of}
use Rattle.aqe_logical.specs.declared.plan.AggCall.{AggCall}
use Rattle.aqe_logical.specs.declared.plan.AggFun.TheVariants.{Count}
use Rattle.aqe_logical.specs.declared.plan.Placement.{Placement}
use Rattle.aqe_logical.specs.declared.plan.Placement.TheVariants as place
use Rattle.aqe_logical.specs.declared.plan.SortKey.{SortKey}
use Rattle.aqe_logical.specs.declared.plan.Logical as logical
use Rattle.aqe_logical.specs.declared.plan.Logical.{Logical}
use Rattle.aqe_logical.specs.Shapes.{joined, aggregated, sorted, limited, sampled}
use Rattle.aqe_settings.specs.Values.{default_values}
use Rattle.aqe_join_rows.specs.declared.join_keys.JoinKeys.{JoinKeys}
use Rattle.aqe_physical.specs.declared.target.Target.TheVariants as target
use Rattle.aqe_physical.specs.declared.target.JoinWay.{JoinWay}
use Rattle.aqe_physical.specs.declared.target.JoinWay.TheVariants as way
use Rattle.aqe_physical.specs.declared.plan.Plan as plan
use Rattle.aqe_physical.specs.declared.plan.Plan.{Plan}
use Rattle.aqe_physical.specs.Shapes.{moved, matched, grouped, finished, ordered, cut_locally, cut_globally, both_of}
use Rattle.aqe_join_keys.specs.Keys.{keys_of}
use Rattle.aqe_fitting.specs.Placing.{after_project, after_groups, after_join, placed_behind, keeps_groups}
use Rattle.aqe_fitting.specs.Planning.{Planned, stays, goes, a_row, a_scan, a_nothing, a_read, by_parts, by_loop, groups_here, groups_moved, groups_read, sort_here, sort_moved, limit_moved, skip_moved, a_sampled}
use Rattle.aqe_physical.specs.declared.sizes.StageSize.{StageSize}
use Rattle.aqe_fitting.specs.Strands.{relies_on_place, strand}
use Rattle.aqe_fitting.specs.ReadsFit.{uncut, stays_uncut, Facts, may_cut, is_local, coalesces, strand_sizes, strand_target}
use Rattle.aqe_fitting.specs.Fits.{Fits}
use Rattle.aqe_fitting.proofs.Alike.{Alike, finals}
use Rattle.aqe_fitting.proofs.OneShape.{same}

-- a table with two columns and two files; an exchange has four parts; every join is merged
abbrev field : Field
field = record { name = []; kind = type.Int }

abbrev scan : Logical
scan = logical.Scan 0 (field ∷ field ∷ [])

abbrev files : ℕ → ℕ
files table = 2

abbrev merges : JoinKind → Logical → Logical → JoinWay → Type 0
merges kind x y how = how ≡ way.SortMerge

abbrev IsPlan : Logical → Plan → Placement → Type 0
IsPlan x p w = Planned merges 4 files x p w

abbrev first : List Expr
first = Column 0 ∷ []

abbrev second : List Expr
second = Column 1 ∷ []

abbrev both : List Expr
both = Column 0 ∷ Column 1 ∷ []

abbrev count : List AggCall
count = record { fun = Count; arg = Literal (Int (pos 1)) } ∷ []

abbrev key : Expr → SortKey
key e = record { expr = e; way = record { descending = false; nulls_last = false } }

abbrev id : ℕ → StageId
id n = record { 0 = n }

-- SELECT count(*): one row, grouped in one part
count_of_row : IsPlan (aggregated [] count (field ∷ []) logical.OneRow) (finished 0 count (grouped [] count plan.OneRow)) place.Single
count_of_row = groups_here [] count (field ∷ []) 0 logical.OneRow plan.OneRow place.Single place.Single a_row refl refl refl

-- SELECT count(*) FROM t: the partial rows go to one part
count_of_table : IsPlan (aggregated [] count (field ∷ []) scan) (finished 0 count (moved target.Single (grouped [] count (plan.Scan 0 2)))) place.Single
count_of_table = groups_moved [] count (field ∷ []) 0 target.Single scan (plan.Scan 0 2) place.Any place.Single (a_scan 0 (field ∷ field ∷ []) 2 refl) refl refl refl refl

-- SELECT b, count(*) FROM t GROUP BY b: the partial rows go by the hash of their first column
abbrev grouped_once : Logical
grouped_once = aggregated second count (field ∷ field ∷ []) scan

abbrev plan_once : Plan
plan_once = finished 1 count (moved (target.Hash first 4) (grouped second count (plan.Scan 0 2)))

groups_of_table : IsPlan grouped_once plan_once (place.Hash first)
groups_of_table = groups_moved second count (field ∷ field ∷ []) 1 (target.Hash first 4) scan (plan.Scan 0 2) place.Any (place.Hash first)
    (a_scan 0 (field ∷ field ∷ []) 2 refl) refl refl refl refl

-- grouped again by the same column, or by it and another one: no second exchange
grouped_by_the_same : IsPlan (aggregated first count (field ∷ field ∷ []) grouped_once) (finished 1 count (grouped first count plan_once)) (place.Hash first)
grouped_by_the_same = groups_here first count (field ∷ field ∷ []) 1 grouped_once plan_once (place.Hash first) (place.Hash first) groups_of_table refl refl refl

grouped_by_more : IsPlan (aggregated (Column 1 ∷ Column 0 ∷ []) count (field ∷ field ∷ field ∷ []) grouped_once)
    (finished 2 count (grouped (Column 1 ∷ Column 0 ∷ []) count plan_once)) (place.Hash second)
grouped_by_more = groups_here (Column 1 ∷ Column 0 ∷ []) count (field ∷ field ∷ field ∷ []) 2 grouped_once plan_once (place.Hash first) (place.Hash second) groups_of_table refl refl refl

-- grouped by both columns and then by one of them: a second exchange
abbrev grouped_twice : Logical
grouped_twice = aggregated both count (field ∷ field ∷ field ∷ []) scan

abbrev plan_twice : Plan
plan_twice = finished 2 count (moved (target.Hash both 4) (grouped both count (plan.Scan 0 2)))

groups_by_both : IsPlan grouped_twice plan_twice (place.Hash both)
groups_by_both = groups_moved both count (field ∷ field ∷ field ∷ []) 2 (target.Hash both 4) scan (plan.Scan 0 2) place.Any (place.Hash both)
    (a_scan 0 (field ∷ field ∷ []) 2 refl) refl refl refl refl

grouped_by_fewer : IsPlan (aggregated second count (field ∷ field ∷ []) grouped_twice)
    (finished 1 count (moved (target.Hash first 4) (grouped second count plan_twice))) (place.Hash first)
grouped_by_fewer = groups_moved second count (field ∷ field ∷ []) 1 (target.Hash first 4) grouped_twice plan_twice (place.Hash both) (place.Hash first)
    groups_by_both refl refl refl refl

-- over no row the groups are made in one part
groups_of_nothing : IsPlan (aggregated first count (field ∷ field ∷ []) (logical.Empty (field ∷ []))) (finished 1 count (grouped first count (plan.Nothing 1 1))) place.Single
groups_of_nothing = groups_here first count (field ∷ field ∷ []) 1 (logical.Empty (field ∷ [])) (plan.Nothing 1 1) place.Any place.Single (a_nothing (field ∷ []) 1 1 refl) refl refl refl

-- partial rows that a stage holds, by keys and without
groups_of_stage : IsPlan (logical.HeldPartial (id 3) count (field ∷ field ∷ [])) (finished 1 count (plan.Read (id 3) 2 4 [])) (place.Hash first)
groups_of_stage = groups_read (id 3) count (field ∷ field ∷ []) 1 2 4 [] (place.Hash first) refl refl

groups_of_single_stage : IsPlan (logical.HeldPartial (id 3) count (field ∷ [])) (finished 0 count (plan.Read (id 3) 2 1 [])) place.Single
groups_of_single_stage = groups_read (id 3) count (field ∷ []) 0 2 1 [] place.Single refl refl

-- a join by its keys: the left side is there already, the right one is moved
abbrev equal : Expr
equal = binary_of binary.Eq (Column 2) (Column 0)

abbrev equal_keys : JoinKeys
equal_keys = record { left = first; right = first; rest = Literal (Boolean true) }

join_by_keys : IsPlan (joined Inner equal grouped_once scan) (matched way.SortMerge Inner equal_keys 2 2 plan_once (moved (target.Hash first 4) (plan.Scan 0 2))) (place.Hash first)
join_by_keys = by_parts way.SortMerge Inner equal equal_keys 2 2 grouped_once scan plan_once plan_once (plan.Scan 0 2) (moved (target.Hash first 4) (plan.Scan 0 2))
    (place.Hash first) place.Any (place.Hash first) groups_of_table (a_scan 0 (field ∷ field ∷ []) 2 refl) (refl, refl, refl) refl refl refl
    (stays plan_once (place.Hash first) refl) (goes (plan.Scan 0 2) place.Any refl) refl

-- a join without keys is in one part
abbrev less : Expr
less = binary_of binary.Lt (Column 0) (Column 2)

join_without_keys : IsPlan (joined LeftSemi less logical.OneRow scan)
    (matched way.NestedLoop LeftSemi (record { left = []; right = []; rest = less }) 0 2 plan.OneRow (moved target.Single (plan.Scan 0 2))) place.Single
join_without_keys = by_loop LeftSemi less (record { left = []; right = []; rest = less }) 0 2 logical.OneRow scan plan.OneRow plan.OneRow (plan.Scan 0 2)
    (moved target.Single (plan.Scan 0 2)) place.Single place.Any a_row (a_scan 0 (field ∷ field ∷ []) 2 refl) (refl, refl, refl) refl
    (stays plan.OneRow place.Single refl) (goes (plan.Scan 0 2) place.Any refl)

-- a sort over one part, over ranges that a stage holds, and over parts; the sample that was taken is named
sort_of_ranges : IsPlan (sorted (key (Column 0) ∷ []) (logical.Held (id 2) (place.Range (key (Column 0) ∷ [])) (field ∷ [])))
    (ordered (key (Column 0) ∷ []) (plan.Read (id 2) 2 4 [])) (place.Range (key (Column 0) ∷ []))
sort_of_ranges = sort_here (key (Column 0) ∷ []) (logical.Held (id 2) (place.Range (key (Column 0) ∷ [])) (field ∷ [])) (plan.Read (id 2) 2 4 [])
    (place.Range (key (Column 0) ∷ [])) (a_read (id 2) (place.Range (key (Column 0) ∷ [])) (field ∷ []) 2 4 [] refl) refl

sort_of_sampled : IsPlan (sorted (key (Column 0) ∷ []) (sampled (id 1) scan)) (ordered (key (Column 0) ∷ []) (moved (target.Range (key (Column 0) ∷ []) 4 (Some (id 1))) (plan.Scan 0 2)))
    (place.Range (key (Column 0) ∷ []))
sort_of_sampled = sort_moved (key (Column 0) ∷ []) (Some (id 1)) (sampled (id 1) scan) (plan.Scan 0 2) place.Any
    (a_sampled (id 1) scan (plan.Scan 0 2) place.Any (a_scan 0 (field ∷ field ∷ []) 2 refl)) refl refl

-- a limit over parts, with and without a count
limit_of_table : IsPlan (limited (Some 3) 2 scan) (cut_globally (Some 3) 2 (moved target.Single (cut_locally 5 (plan.Scan 0 2)))) place.Single
limit_of_table = limit_moved 3 2 5 scan (plan.Scan 0 2) place.Any (a_scan 0 (field ∷ field ∷ []) 2 refl) refl refl

skip_of_table : IsPlan (limited None 2 scan) (cut_globally None 2 (moved target.Single (plan.Scan 0 2))) place.Single
skip_of_table = skip_moved 2 scan (plan.Scan 0 2) place.Any (a_scan 0 (field ∷ field ∷ []) 2 refl) refl

-- a project keeps a hash whose keys are kept, at their first places; a key that is an expression, or is not kept, ends it
kept_hash : after_project (Column 1 ∷ Column 0 ∷ Column 0 ∷ []) (place.Hash (Column 0 ∷ Column 1 ∷ [])) ≡ place.Hash (Column 1 ∷ Column 0 ∷ [])
kept_hash = refl

lost_hash : after_project (Column 1 ∷ []) (place.Hash (Column 0 ∷ Column 1 ∷ [])) ≡ place.Any
lost_hash = refl

computed_hash : after_project (binary_of binary.Add (Column 0) (Column 1) ∷ []) (place.Hash (binary_of binary.Add (Column 0) (Column 1) ∷ [])) ≡ place.Any
computed_hash = refl

kept_range : after_project (Column 2 ∷ Column 0 ∷ []) (place.Range (key (Column 0) ∷ [])) ≡ place.Range (key (Column 1) ∷ [])
kept_range = refl

-- partial groups keep a hash by any of their keys, an expression too
groups_keep : after_groups (binary_of binary.Add (Column 0) (Column 1) ∷ Column 3 ∷ []) (place.Hash (Column 3 ∷ [])) ≡ place.Hash (Column 1 ∷ [])
groups_keep = refl

groups_lose_ranges : after_groups first (place.Range (key (Column 0) ∷ [])) ≡ place.Any
groups_lose_ranges = refl

-- without grouping keys only one part serves
no_hash_for_no_keys : keeps_groups [] (place.Hash first) ≡ false
no_hash_for_no_keys = refl

-- rows of a right outer join stand by the right keys, behind the columns of the left side
right_outer : after_join RightOuter equal_keys 2 3 ≡ place.Hash (Column 2 ∷ [])
right_outer = refl

full_outer : after_join FullOuter equal_keys 2 3 ≡ place.Any
full_outer = refl

left_outer : after_join LeftOuter equal_keys 2 3 ≡ place.Hash first
left_outer = refl

behind_two : placed_behind 2 3 (place.Hash both) ≡ place.Hash (Column 2 ∷ Column 3 ∷ [])
behind_two = refl

-- l.k = r.k AND r.v > 7 over one left column; written the other way round it has the same keys
keys_and_rest : keys_of (binary_of binary.And (binary_of binary.Eq (Column 0) (Column 1)) (binary_of binary.Gt (Column 2) (Literal (Int (pos 7))))) 1 ≡
    record { left = first; right = first; rest = binary_of binary.Gt (Column 2) (Literal (Int (pos 7))) }
keys_and_rest = refl

keys_turned : keys_of (binary_of binary.Eq (Column 2) (Column 0)) 1 ≡ record { left = first; right = second; rest = Literal (Boolean true) }
keys_turned = refl

-- an equality of one side alone, or with a literal, is no key
no_keys : keys_of (binary_of binary.And (binary_of binary.Eq (Column 0) (Literal (Int (pos 7)))) (binary_of binary.Eq (Column 1) (Column 2))) 1 ≡
    record { left = []; right = []; rest = expr.Binary binary.And (binary_of binary.Eq (Column 0) (Literal (Int (pos 7)))) (binary_of binary.Eq (Column 1) (Column 2)) }
no_keys = refl

-- a read under groups that are finished relies on its place; one on the probe side of a broadcast join alone does not
relies : relies_on_place (finished 1 count (plan.Read (id 3) 2 4 [])) (id 3) ≡ true
relies = refl

does_not : relies_on_place (matched (way.Broadcast Right) Inner equal_keys 2 2 (plan.Read (id 3) 2 4 []) (plan.ReadBroadcast (id 4))) (id 3) ≡ false
does_not = refl

-- the sides of a union begin strands of their own
not_over_unions : relies_on_place (cut_globally None 0 (both_of (plan.Read (id 3) 2 4 []) plan.OneRow)) (id 3) ≡ false
not_over_unions = refl

-- SELECT count(*) fits whole
count_fits : Fits (finished 0 count (grouped [] count plan.OneRow)) (aggregated [] count (field ∷ []) logical.OneRow) [] [] default_values
count_fits = (
  (place.Single, groups_here [] count (field ∷ []) 0 logical.OneRow plan.OneRow place.Single place.Single a_row refl refl refl),
  (uncut, stays_uncut refl, ((tt, tt), tt)),
  tt,
)

-- a stage of one map and three reducers, by hash, all of it made
abbrev made : StageSize
made = record { stage = id 3; maps = 1; reducers = 3; held = Some (record { cells = 5 ∷ 0 ∷ 7 ∷ []; rows = 2 }) }

abbrev facts : Facts
facts = record { sizes = made ∷ []; place = λ stage. place.Hash first; settings = default_values }

abbrev probed : Plan
probed = matched (way.Broadcast Right) Inner equal_keys 2 2 (plan.Read (id 3) 1 3 []) (plan.ReadBroadcast (id 4))

-- the probe side of a broadcast join may be read locally; a sort over it relies on its place
local_probe : is_local facts (strand probed) ≡ true
local_probe = refl

no_local_sort : is_local facts (strand (ordered [] probed)) ≡ false
no_local_sort = refl

-- the partitions of the strand's reads are summed; what is to be put together is at least the least size
sums_of_two : strand_sizes facts (strand (matched way.SortMerge Inner equal_keys 2 2 (plan.Read (id 3) 1 3 []) (plan.Read (id 3) 1 3 []))) ≡ 10 ∷ 0 ∷ 14 ∷ []
sums_of_two = refl

target_of_small : strand_target facts (strand (plan.Read (id 3) 1 3 [])) ≡ 1048576
target_of_small = refl

may_be_put_together : coalesces facts (strand (plan.Read (id 3) 1 3 [])) ≡ true
may_be_put_together = refl

-- a strand with an exchange, or with a read of which not all was made, is not cut
may_be_cut : may_cut facts (strand (finished 1 count (plan.Read (id 3) 1 3 []))) ≡ true
may_be_cut = refl

not_all_made : may_cut facts (strand (matched way.SortMerge Inner equal_keys 2 2 (plan.Read (id 3) 1 3 []) (plan.Read (id 5) 1 3 []))) ≡ false
not_all_made = refl

beside_an_exchange : may_cut facts (strand (matched way.SortMerge Inner equal_keys 2 2 (plan.Read (id 3) 1 3 []) (moved target.Single plan.OneRow))) ≡ false
beside_an_exchange = refl

-- a second exchange, where the rows stand by the grouping keys already, is planned nowhere
not_alike : Alike (grouped first count plan_once) (moved (target.Hash first 4) (grouped first count plan_once)) → ⊥
not_alike h = elim h [ ]

not_finished : Alike (finished 1 count (grouped first count plan_once)) (finished 1 count (moved (target.Hash first 4) (grouped first count plan_once))) → ⊥
not_finished (finals _ _ _ _ h) = not_alike h

no_second_exchange : (w : Placement) →
    IsPlan (aggregated first count (field ∷ field ∷ []) grouped_once) (finished 1 count (moved (target.Hash first 4) (grouped first count plan_once))) w → ⊥
no_second_exchange w h = not_finished (same merges 4 files (λ kind x y how other e f. e ∙ sym f)
    (aggregated first count (field ∷ field ∷ []) grouped_once) (finished 1 count (grouped first count plan_once))
    (finished 1 count (moved (target.Hash first 4) (grouped first count plan_once))) (place.Hash first) w grouped_by_the_same h).0
