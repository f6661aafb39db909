-- Which cells the reads of a plan take: the first case that holds of their strand.
use Rattle.std.specs.Prelude.{ℕ, ◌+◌, ◌≡◌, Bool, true, false, ◌&&◌, not, cond, Option, Some, None, List, [], ◌∷◌, map, sum, fold}
use Rattle.std.specs.List.{list_all}
use Rattle.std.specs.Option.{is_some}
use Rattle.aqe_base.specs.declared.cells.Rect.{Rect}
use Rattle.aqe_base.specs.declared.join_kind.JoinKind.{JoinKind}
use Rattle.aqe_base.specs.declared.join_kind.Side.TheVariants.{Left, Right}
use Rattle.aqe_base.specs.declared.stage_id.StageId.{StageId}
use Rattle.aqe_logical.specs.declared.plan.Placement.{Placement}
use Rattle.aqe_logical.specs.declared.plan.Placement.TheVariants as place
use Rattle.aqe_settings.specs.declared.entry.Value.{Value}
use Rattle.aqe_settings.specs.declared.key.SettingKey.TheVariants as key
use Rattle.aqe_settings.specs.Values.{value_of, number_or, is_on}
use Rattle.aqe_rects.specs.Rectangles.{plain_rects}
use Rattle.aqe_rects.specs.Pairs.{RectPair}
use Rattle.aqe_coalesce.specs.Coalesced.{Group, Coalesced}
use Rattle.aqe_coalesce.specs.Target.{target_of}
use Rattle.aqe_local_read.specs.LocalRects.{local_rects}
use Rattle.aqe_skew.specs.declared.rule.SkewRule.{SkewRule}
use Rattle.aqe_skew.specs.Paired.{SideCells, partition_sizes, SomeSplit, NoneSplit, Paired}
use Rattle.aqe_physical.specs.declared.sizes.StageSize.{StageSize}
use Rattle.aqe_physical.specs.declared.target.JoinWay.{JoinWay}
use Rattle.aqe_physical.specs.declared.target.JoinWay.TheVariants as way
use Rattle.aqe_physical.specs.declared.plan.Plan.{Plan, Read, Nothing}
use Rattle.aqe_physical.specs.Shapes.{kept, mapped, moved, matched, grouped, finished, ordered, cut_locally, cut_globally, both_of}
use Rattle.aqe_physical.specs.Counts.{part_count}
use Rattle.aqe_fitting.specs.Known.{entry_of, maps_in, reducers_in, cells_of}
use Rattle.aqe_fitting.specs.Placing.{is_nothing}
use Rattle.aqe_fitting.specs.Strands.{Strand, strand}

-- How the reads of a strand are cut: one part for each reducer; runs of maps; groups of reducers; pairs of rectangles for the two reads of a
-- join; or given rectangles, which those of one side of the pairs are.
pub data Cut : Type 0 where
  uncut : Cut
  in_runs : Cut
  in_groups : List Group → Cut
  in_pairs : List RectPair → Cut
  as_given : List Rect → Cut

abbrev pub group_rect : ℕ → Group → Rect
group_rect maps group = record { m0 = 0; m1 = maps; r0 = group.0; r1 = group.1 }

-- the rectangles of a read of so many maps and reducers
abbrev pub rects_by : Cut → ℕ → ℕ → List Rect
rects_by uncut maps reducers = plain_rects maps reducers
rects_by in_runs maps reducers = local_rects maps reducers reducers
rects_by (in_groups groups) maps reducers = map (group_rect maps) groups
rects_by (in_pairs pairs) maps reducers = plain_rects maps reducers
rects_by (as_given rects) maps reducers = rects

-- the cut of the two sides of a join part by part
abbrev pub on_left : Cut → Cut
on_left (in_pairs pairs) = as_given (map (λ pair. pair.0) pairs)
on_left cut = cut

abbrev pub on_right : Cut → Cut
on_right (in_pairs pairs) = as_given (map (λ pair. pair.1) pairs)
on_right cut = cut

-- Settings that the cuts look at.
abbrev pub number_of_tasks : List Value → ℕ
number_of_tasks values = cond (is_on (value_of key.ParallelismFirst values)) (number_or 1 (value_of key.Parallelism values)) 1

abbrev pub skew_rule : List Value → SkewRule
skew_rule values = record {
  factor_thousandths = number_or 0 (value_of key.SkewFactor values);
  threshold = number_or 0 (value_of key.SkewThreshold values);
  advisory = number_or 0 (value_of key.Advisory values);
}

-- what is known: the sizes of stages, where their rows stand, and the settings
pub record Facts : Type 0 where
  pub sizes : List StageSize
  pub place : StageId → Placement
  pub settings : List Value

abbrev pub is_hash : Placement → Bool
is_hash (place.Hash keys) = true
is_hash w = false

abbrev pub is_split_by_keys : Placement → Bool
is_split_by_keys (place.Hash keys) = true
is_split_by_keys (place.Range keys) = true
is_split_by_keys w = false

-- A strand may be cut where plans are made again as sizes come in, where no exchange is in it, and all that it reads was made; one that
-- reads nothing has nothing to cut.
abbrev pub all_made : List StageSize → List StageId → Bool
all_made sizes [] = false
all_made sizes (stage ∷ stages) = list_all (λ read. is_some (cells_of sizes read)) (stage ∷ stages)

abbrev pub may_cut : Facts → Strand → Bool
may_cut facts s = is_on (value_of key.Enabled facts.settings) && (not s.has_exchange && all_made facts.sizes s.reads)

-- the read is local: its stage is a hash, and a broadcast join brings the other side to it
abbrev pub is_local_at : Facts → Option StageId → Bool
is_local_at facts None = false
is_local_at facts (Some stage) = is_hash (facts.place stage)

abbrev pub is_local : Facts → Strand → Bool
is_local facts s = is_on (value_of key.LocalReads facts.settings) && is_local_at facts s.probe

-- the sizes of partitions, summed over reads
abbrev pub added : List ℕ → List ℕ → List ℕ
added [] bs = bs
added (a ∷ as_) [] = a ∷ as_
added (a ∷ as_) (b ∷ bs) = (a + b) ∷ added as_ bs

abbrev pub sizes_at : Option SideCells → List ℕ
sizes_at None = []
sizes_at (Some cells) = partition_sizes cells

abbrev pub strand_sizes : Facts → Strand → List ℕ
strand_sizes facts s = fold (λ sizes stage. added sizes (sizes_at (cells_of facts.sizes stage))) [] s.reads

-- the size that partitions are put together to
abbrev pub strand_target : Facts → Strand → ℕ
strand_target facts s =
    target_of (sum (strand_sizes facts s)) (number_of_tasks facts.settings)
    (number_or 0 (value_of key.Advisory facts.settings)) (number_or 0 (value_of key.MinPartition facts.settings))

abbrev pub coalesces : Facts → Strand → Bool
coalesces facts s = is_on (value_of key.Coalesce facts.settings) && list_all (λ stage. is_split_by_keys (facts.place stage)) s.reads

-- the two sides of a join that may be cut for skew, with the kind of the join
pub record Sides : Type 0 where
  pub kind : JoinKind
  pub left : SideCells
  pub right : SideCells

abbrev pub both_cells : JoinKind → Option SideCells → Option SideCells → Option Sides
both_cells kind None right = None
both_cells kind (Some left) None = None
both_cells kind (Some left) (Some right) = Some (record { kind = kind; left = left; right = right })

abbrev pub sides_at : Facts → Option (JoinKind × (StageId × StageId)) → Option Sides
sides_at facts None = None
sides_at facts (Some pair) = both_cells pair.0 (cells_of facts.sizes pair.1.0) (cells_of facts.sizes pair.1.1)

abbrev pub skew_sides : Facts → Strand → Option Sides
skew_sides facts s = cond (is_on (value_of key.Skew facts.settings)) (sides_at facts s.pair) None

abbrev pub skew_target : Facts → Strand → Option ℕ
skew_target facts s = cond (is_on (value_of key.Coalesce facts.settings)) (Some (strand_target facts s)) None

-- no partition of the sides is split
abbrev pub NotSkewed : Facts → Option Sides → Type 0
NotSkewed facts None = Unit {0}
NotSkewed facts (Some sides) = NoneSplit sides.kind sides.left sides.right (skew_rule facts.settings)

-- The cut of a strand, the first case that holds: local, skewed, coalesced, else one part for each reducer.
pub data CutOf (facts : Facts) (s : Strand) : Cut → Type 0 where
  stays_uncut : may_cut facts s ≡ false → CutOf facts s uncut
  goes_local : may_cut facts s ≡ true → is_local facts s ≡ true → CutOf facts s in_runs
  goes_skewed : may_cut facts s ≡ true → is_local facts s ≡ false → (sides : Sides) → skew_sides facts s ≡ Some sides →
      SomeSplit sides.kind sides.left sides.right (skew_rule facts.settings) → (pairs : List RectPair) →
      Paired sides.kind sides.left sides.right (skew_rule facts.settings) (skew_target facts s) pairs → CutOf facts s (in_pairs pairs)
  goes_together : may_cut facts s ≡ true → is_local facts s ≡ false → NotSkewed facts (skew_sides facts s) → coalesces facts s ≡ true →
      (groups : List Group) → Coalesced (strand_sizes facts s) (strand_target facts s) groups → CutOf facts s (in_groups groups)
  goes_plain : may_cut facts s ≡ true → is_local facts s ≡ false → NotSkewed facts (skew_sides facts s) → coalesces facts s ≡ false →
      CutOf facts s uncut

-- the parts of no row beside a plan: as many as that has, or one where it has no row either
abbrev pub parts_beside : Plan → ℕ
parts_beside p = cond (is_nothing p) 1 (part_count p)

abbrev pub HasParts : ℕ → Plan → Type 0
HasParts n (Nothing parts width) = parts ≡ n
HasParts n p = Unit {0}

-- how the cut of a strand, and the parts of no row, go on at the two sides of a join
abbrev pub JoinReads : JoinWay → Cut → (Cut → Type 0) → (Cut → Type 0) → Type 0
JoinReads way.SortMerge cut left right = left (on_left cut) × right (on_right cut)
JoinReads (way.ShuffledHash side) cut left right = left (on_left cut) × right (on_right cut)
JoinReads (way.Broadcast Left) cut left right = left uncut × right cut
JoinReads (way.Broadcast Right) cut left right = left cut × right uncut
JoinReads way.NestedLoop cut left right = left cut × right cut

-- The reads of a plan in a strand that is cut in a way fit: each names the maps and reducers of its stage and takes the rectangles of its
-- strand's cut. Below an exchange, and on each side of a union, another strand begins. No row has one part, beside a sibling as many as that.
abbrev pub ReadsFit : Facts → Cut → Plan → Type 0
ReadsFit facts cut (Read stage maps reducers rects) =
    (maps ≡ maps_in (entry_of facts.sizes stage)) × (reducers ≡ reducers_in (entry_of facts.sizes stage)) × (rects ≡ rects_by cut maps reducers)
ReadsFit facts cut (kept condition child) = ReadsFit facts cut child × HasParts 1 child
ReadsFit facts cut (mapped items child) = ReadsFit facts cut child × HasParts 1 child
ReadsFit facts cut (moved target child) =
    ((below : Cut) × CutOf facts (strand child) below × ReadsFit facts below child) × HasParts 1 child
ReadsFit facts cut (matched how kind keys v w left right) =
    JoinReads how cut (λ c. ReadsFit facts c left) (λ c. ReadsFit facts c right) × HasParts (parts_beside right) left × HasParts (parts_beside left) right
ReadsFit facts cut (grouped keys calls child) = ReadsFit facts cut child × HasParts 1 child
ReadsFit facts cut (finished keys calls child) = ReadsFit facts cut child × HasParts 1 child
ReadsFit facts cut (ordered keys child) = ReadsFit facts cut child × HasParts 1 child
ReadsFit facts cut (cut_locally count child) = ReadsFit facts cut child × HasParts 1 child
ReadsFit facts cut (cut_globally count skip child) = ReadsFit facts cut child × HasParts 1 child
ReadsFit facts cut (both_of left right) =
    ((a : Cut) × CutOf facts (strand left) a × ReadsFit facts a left) × ((b : Cut) × CutOf facts (strand right) b × ReadsFit facts b right) ×
    HasParts 1 left × HasParts 1 right
ReadsFit facts cut p = Unit {0}
