-- The laws of plans that the table of planning gives.
use Rattle.std.specs.Prelude.{ℕ, suc, ◌+◌, ◌≡◌, ◌≤◌, ◌<◌, Bool, true, false, Option, Some, List, ◌++◌, map, take, drop, length, All, Contains, IsPermutation}
use Rattle.aqe_base.specs.declared.join_kind.JoinKind.{JoinKind}
use Rattle.aqe_base.specs.declared.join_kind.Side.TheVariants.{Left, Right}
use Rattle.aqe_base.specs.Joins.{may_build}
use Rattle.aqe_logical.specs.declared.plan.AggCall.{AggCall}
use Rattle.aqe_logical.specs.declared.plan.Logical.{Logical}
use Rattle.aqe_expr.specs.declared.expr.Expr.{Expr}
use Rattle.aqe_logical.specs.declared.plan.SortKey.{SortKey}
use Rattle.aqe_logical.specs.declared.plan.Placement.{Placement}
use Rattle.aqe_logical.specs.declared.plan.Placement.TheVariants as place
use Rattle.aqe_logical.specs.Answers.{Row, Tables, InItsOrder, at_most_rows, no_stage}
use Rattle.aqe_logical.specs.Groups.{row_of, group_rows, finish_rows}
use Rattle.aqe_logical.specs.Order.{key_of, before}
use Rattle.aqe_logical.specs.WellFormed.{HaveWidth, ItemsBelow, WellFormed, Closed, LeavesFit}
use Rattle.aqe_partial.specs.PartialRows.{joined_parts, partial_rows}
use Rattle.aqe_places.specs.Places.{by_hash, by_range, exchanged}
use Rattle.aqe_places.specs.Sorting.{stable_sort}
use Rattle.aqe_places.specs.Samples.{bounds}
use Rattle.aqe_places.specs.Laws.{Placed}
use Rattle.aqe_join_rows.specs.declared.join_keys.JoinKeys.{JoinKeys}
use Rattle.aqe_physical.specs.declared.target.JoinWay.{JoinWay}
use Rattle.aqe_physical.specs.declared.target.JoinWay.TheVariants as way
use Rattle.aqe_physical.specs.declared.plan.Plan.{Plan, Read}
use Rattle.aqe_physical.specs.Nodes.{nodes}
use Rattle.aqe_stages.specs.Stages.{Stages}
use Rattle.aqe_stages.specs.Stands.{StandsFor}
use Rattle.aqe_stages.specs.Places.{key_less}
use Rattle.aqe_stages.specs.Parts.{join_rows, joined_sides, parts, given_by, all}
use Rattle.aqe_stages.specs.Runnable.{OfStage, Runnable}
use Rattle.aqe_base.specs.declared.stage_id.StageId.{StageId}
use Rattle.aqe_base.specs.declared.cells.Rect.{Rect}
use Rattle.aqe_settings.specs.declared.entry.Value.{Value}
use Rattle.aqe_settings.specs.declared.key.SettingKey.TheVariants as key
use Rattle.aqe_settings.specs.Values.{value_of, is_on, partitions}
use Rattle.aqe_physical.specs.declared.sizes.Estimate.{Estimate}
use Rattle.aqe_physical.specs.declared.sizes.StageSize.{StageSize}
use Rattle.aqe_fitting.specs.InForce.{in_force}
use Rattle.aqe_fitting.specs.Known.{files_of}
use Rattle.aqe_fitting.specs.Fits.{Fits}
use Rattle.aqe_fitting.specs.Laws.{may_be_built}
use Rattle.aqe_fitting.specs.Planning.{Planned, is_by_parts}
use Rattle.aqe_join_keys.specs.Keys.{columns_from}
use Rattle.aqe_fitting.specs.Placing.{after_project, after_join, placed_behind, after_groups, keeps_groups, keeps_order}
use Rattle.aqe_fit_laws.specs.Standing.{Cut, Stands, plainly}
use Rattle.aqe_fit_laws.specs.Leaves.{held_rows, IsHeldAs, IsPlainRead, LeavesRight, ScansRight, SizesRight, ReadsPlain, PlannedYet}
use Rattle.aqe_fit_laws.specs.Serving.{KeysOver, RunsAt, WithoutExchange, Serves}

-- each row that a node leaves of a part is one of the part
abbrev pub LeavesOnlyRows : (List Row → List Row) → Type 0
LeavesOnlyRows g = (rows : List Row) → All (Contains rows) (g rows)

-- what is done to each part by itself, and makes no new row, keeps every placement
abbrev pub NodesWithinPartsKeepPlaces : Type 0
NodesWithinPartsKeepPlaces = (n : ℕ) (cut : Cut) (place : Placement) (g : List Row → List Row) (parts : List (List Row)) →
    LeavesOnlyRows g → Stands n cut place parts → Stands n cut place (map g parts)

-- a project moves every placement as the table of placements says
abbrev pub ProjectsMovePlaces : Type 0
ProjectsMovePlaces = (n : ℕ) (cut : Cut) (items : List Expr) (place : Placement) (parts : List (List Row)) →
    Stands n cut place parts → Stands n cut (after_project items place) (map (map (row_of items)) parts)

-- so do partial groups, over parts in which equal keys stand together
abbrev pub GroupsMovePlaces : Type 0
GroupsMovePlaces = (n : ℕ) (cut : Cut) (keys : List Expr) (calls : List AggCall) (place : Placement) (parts : List (List Row)) →
    keeps_groups keys place ≡ true → Stands n cut place parts →
    Stands n cut (after_groups keys place) (map (partial_rows (length keys) (row_of keys) calls) parts)

-- partial rows that are moved by the hash of their key columns stand so when they are finished
abbrev pub FinishedExchangesStand : Type 0
FinishedExchangesStand = (n k : ℕ) (calls : List AggCall) (rows : List Row) → HaveWidth (suc k + length calls) rows →
    Stands n (plainly n) (place.Hash (columns_from 0 (suc k))) (map (finish_rows (suc k) calls) (exchanged (by_hash n (columns_from 0 (suc k))) n rows))

-- A join part by part, of sides that stand by the hash of their keys, stands as the table of placements says: by the keys of the side all of whose
-- rows come out.
abbrev pub JoinsByPartsMovePlaces : Type 0
JoinsByPartsMovePlaces = (n : ℕ) (how : JoinWay) (kind : JoinKind) (keys : JoinKeys) (v w : ℕ) (as_ bs : List (List Row)) →
    is_by_parts how ≡ true → ItemsBelow v keys.left → HaveWidth v (joined_parts as_) → HaveWidth w (joined_parts bs) →
    Stands n (plainly n) (place.Hash keys.left) as_ → Stands n (plainly n) (place.Hash keys.right) bs →
    Stands n (plainly n) (after_join kind keys v w) (joined_sides how (join_rows how kind keys v w) as_ bs)

-- joined with the whole of the right side, where that may be built, left parts stand as they did
abbrev pub JoinsKeepTheLeftPlace : Type 0
JoinsKeepTheLeftPlace = (n : ℕ) (cut : Cut) (kind : JoinKind) (keys : JoinKeys) (v w : ℕ) (place : Placement) (as_ : List (List Row)) (b : List Row) →
    may_build kind Right ≡ true → KeysOver v place → HaveWidth v (joined_parts as_) → Stands n cut place as_ →
    Stands n cut place (map (λ a. join_rows (way.Broadcast Right) kind keys v w a b) as_)

-- joined with the whole of the left side, where that may be built, right parts stand as they did, with their keys spelled over joined rows
abbrev pub JoinsMoveTheRightPlace : Type 0
JoinsMoveTheRightPlace = (n : ℕ) (cut : Cut) (kind : JoinKind) (keys : JoinKeys) (v w : ℕ) (place : Placement) (a : List Row) (bs : List (List Row)) →
    may_build kind Left ≡ true → HaveWidth v a → HaveWidth w (joined_parts bs) → Stands n cut place bs →
    Stands n cut (placed_behind v w place) (map (λ b. join_rows (way.Broadcast Left) kind keys v w a b) bs)

-- where the part of a row is told by its key, partial rows of the parts, finished part by part, are the groups of the whole
abbrev pub GroupsOfPlacedParts : Type 0
GroupsOfPlacedParts = (n : ℕ) (key : Row → Row) (calls : List AggCall) (g : Row → ℕ) (parts : List (List Row)) →
    ((row : Row) → length (key row) ≡ suc n) → Placed (λ row. g (key row)) 0 parts →
    joined_parts (map (finish_rows (suc n) calls) (map (partial_rows (suc n) key calls) parts)) ≡ group_rows (suc n) key calls (joined_parts parts)

-- so they are over parts that stand in any way in which rows of equal grouping keys stand in one part; without keys it is one part
abbrev pub GroupsOverAPlace : Type 0
GroupsOverAPlace = (n : ℕ) (cut : Cut) (keys : List Expr) (calls : List AggCall) (place : Placement) (parts : List (List Row)) →
    keeps_groups keys place ≡ true → Stands n cut place parts →
    joined_parts (map (finish_rows (length keys) calls) (map (partial_rows (length keys) (row_of keys) calls) parts)) ≡
    group_rows (length keys) (row_of keys) calls (joined_parts parts)

-- partial rows moved by their keys to any number of parts, and finished there, are the groups of the whole
abbrev pub GroupsOfMovedParts : Type 0
GroupsOfMovedParts = (n : ℕ) (key : Row → Row) (calls : List AggCall) (g : Row → ℕ) (count : ℕ) (parts : List (List Row)) →
    ((row : Row) → length (key row) ≡ suc n) → ((k : Row) → g k < count) →
    IsPermutation (group_rows (suc n) key calls (joined_parts parts))
    (joined_parts (map (finish_rows (suc n) calls) (exchanged (λ row. g (take (suc n) row)) count (joined_parts (map (partial_rows (suc n) key calls) parts)))))

-- a limit of rows in one part is that of the part
abbrev pub LimitsOfOnePart : Type 0
LimitsOfOnePart = (count : Option ℕ) (skip : ℕ) (parts : List (List Row)) → length parts ≡ 1 →
    joined_parts (map (λ part. at_most_rows count (drop skip part)) parts) ≡ at_most_rows count (drop skip (joined_parts parts))

-- of each part its first rows, as many as a limit leaves and skips, and then the limit of these: it is the limit of all rows, in their order
abbrev pub LimitsOfPartsAreTheLimit : Type 0
LimitsOfPartsAreTheLimit = (count skip : ℕ) (parts : List (List Row)) →
    at_most_rows (Some count) (drop skip (joined_parts (map (take (count + skip)) parts))) ≡ at_most_rows (Some count) (drop skip (joined_parts parts))

-- over a place at which parts are in order end to end, the parts, each sorted, are their rows sorted
abbrev pub SortsOverAPlace : Type 0
SortsOverAPlace = (n : ℕ) (cut : Cut) (keys : List SortKey) (place : Placement) (parts : List (List Row)) →
    keeps_order keys place ≡ true → Stands n cut place parts →
    joined_parts (map (stable_sort (before keys)) parts) ≡ stable_sort (before keys) (joined_parts parts)

-- rows that are moved by ranges, whatever the samples that bounds come from, and then sorted part by part, are the rows sorted
abbrev pub SortsOfMovedParts : Type 0
SortsOfMovedParts = (n : ℕ) (keys : List SortKey) (samples rows : List Row) → 1 ≤ n →
    joined_parts (map (stable_sort (before keys)) (exchanged (by_range (key_less keys) (bounds (key_less keys) n samples) (key_of keys)) n rows)) ≡
    stable_sort (before keys) rows

-- the parts of one side and then those of another are the rows of the one and then those of the other
abbrev pub UnionsOfParts : Type 0
UnionsOfParts = (ps qs : List (List Row)) → joined_parts (ps ++ qs) ≡ joined_parts ps ++ joined_parts qs

-- the plain read of a stage that was made for a place has the rows that the stage holds, in their order where they are in one part, and its
-- parts stand at that place
abbrev pub PlainReadsServe : Type 0
PlainReadsServe = (tables : Tables) (stages : Stages) (n : ℕ) (stage : StageId) (maps reducers : ℕ) (rects : List Rect) (place : Placement) →
    1 ≤ n → OfStage stages stage.0 (IsHeldAs n place) → IsPlainRead stages (Read stage maps reducers rects) →
    IsPermutation (held_rows tables stages stage.0) (all tables stages (Read stage maps reducers rects)) ×
    InItsOrder place (held_rows tables stages stage.0) (all tables stages (Read stage maps reducers rects)) ×
    Stands n (plainly n) place (parts tables (given_by tables stages) (Read stage maps reducers rects))

-- where a plan runs apart from its exchanges, each part of it without an exchange is a body that a task can run
abbrev pub PartsWithoutExchangeRun : Type 0
PartsWithoutExchangeRun = (tables : Tables) (stages : Stages) (p : Plan) →
    All (RunsAt tables stages) (nodes p) → All (λ body. WithoutExchange body → Runnable tables stages body) (nodes p)

-- A plan that the table of planning gives for a well-formed logical plan serves it: where the leaves are right, their rows are as wide as their
-- fields, and reads are plain.
abbrev pub PlansServe : Type 0
PlansServe = (tables : Tables) (stages : Stages) (n : ℕ) (files : ℕ → ℕ) (x : Logical) (p : Plan) (w : Placement) →
    1 ≤ n → WellFormed x → PlannedYet x → LeavesFit tables (held_rows tables stages) x → LeavesRight tables stages n files x → ReadsPlain stages p →
    Planned may_be_built n files x p w → Serves tables stages n x p w

-- The plan of a query reads no stage: over whatever stages, its rows are an answer of the query. The rows of tables are as wide as the
-- fields of their scans, and each scan is told its table's number of files.
abbrev pub PlansOfQueriesStand : Type 0
PlansOfQueriesStand = (tables : Tables) (stages : Stages) (n : ℕ) (files : ℕ → ℕ) (x : Logical) (p : Plan) (w : Placement) →
    1 ≤ n → WellFormed x → Closed x → PlannedYet x → LeavesFit tables no_stage x → ScansRight tables files x →
    Planned may_be_built n files x p w → StandsFor tables stages p x × All (RunsAt tables stages) (nodes p)

-- whether the rest of a plan is planned again as sizes come in
abbrev pub plans_again : List Value → Bool
plans_again settings = is_on (value_of key.Enabled (in_force settings))

-- A plan that fits serves, where nothing is planned again, so that its reads are plain. What is known of tables and stages has to be right.
abbrev pub FittingPlansServe : Type 0
FittingPlansServe = (tables : Tables) (stages : Stages) (p : Plan) (x : Logical) (estimates : List Estimate) (sizes : List StageSize) (settings : List Value) →
    1 ≤ partitions settings → plans_again settings ≡ false → WellFormed x → PlannedYet x → LeavesFit tables (held_rows tables stages) x →
    LeavesRight tables stages (partitions settings) (files_of estimates) x → SizesRight stages sizes x → Fits p x estimates sizes settings →
    (place : Placement) × Serves tables stages (partitions settings) x p place

-- A plan that fits a query stands for it over whatever stages, and runs, whatever the settings are.
abbrev pub FittingPlansStand : Type 0
FittingPlansStand = (tables : Tables) (stages : Stages) (p : Plan) (x : Logical) (estimates : List Estimate) (sizes : List StageSize) (settings : List Value) →
    1 ≤ partitions settings → WellFormed x → Closed x → PlannedYet x → LeavesFit tables no_stage x → ScansRight tables (files_of estimates) x →
    Fits p x estimates sizes settings → StandsFor tables stages p x × All (RunsAt tables stages) (nodes p)
