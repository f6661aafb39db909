-- Where an exchange places each row of its child's parts, and what a stage keeps of a part.
use Rattle.std.specs.Prelude.{ℕ, Bool, Option, Some, None, List, [], ◌∷◌, map, flat_map}
use Rattle.std.specs.Ordering.{is_lt}
use Rattle.aqe_base.specs.declared.stage_id.StageId.{StageId}
use Rattle.aqe_values.specs.KeyOrder.{key_order}
use Rattle.aqe_logical.specs.declared.plan.SortKey.{SortKey}
use Rattle.aqe_logical.specs.Answers.{Row}
use Rattle.aqe_logical.specs.Order.{ways_of, key_of}
use Rattle.aqe_places.specs.Places.{by_hash, by_range, single, exchanged}
use Rattle.aqe_places.specs.Samples.{sample, bounds}
use Rattle.aqe_partial.specs.PartialRows.{joined_parts}
use Rattle.aqe_physical.specs.declared.target.Target.{Target}
use Rattle.aqe_physical.specs.declared.target.Target.TheVariants.{Hash, Range, Single, Broadcast}
use Rattle.aqe_physical.specs.declared.target.StageKind.{StageKind}
use Rattle.aqe_physical.specs.declared.target.StageKind.TheVariants as kind
use Rattle.aqe_physical.specs.Counts.{target_count}
use Rattle.aqe_stages.specs.Stages.{Given, output_of}
use Rattle.aqe_stages.specs.Cells.{all_rows}

-- whether a key row comes strictly before another under the ways of sort keys
abbrev pub key_less : List SortKey → Row → Row → Bool
key_less keys a b = is_lt (key_order (ways_of keys) a b)

-- a sample of the keys of a part
abbrev pub sample_of : List SortKey → List Row → List Row
sample_of keys part = sample (map (key_of keys) part)

-- the samples that bounds are taken from: those that a stage holds, or else those of the parts themselves
abbrev pub samples : Given → List SortKey → Option StageId → List (List Row) → List Row
samples given keys (Some stage) parts = all_rows (output_of given stage.0)
samples given keys None parts = flat_map (sample_of keys) parts

-- the place of a row among the parts that a target names
abbrev pub place : Given → Target → List (List Row) → Row → ℕ
place given (Hash keys n) parts = by_hash n keys
place given (Range keys n stage) parts = by_range (key_less keys) (bounds (key_less keys) n (samples given keys stage parts)) (key_of keys)
place given Single parts = single
place given Broadcast parts = single

-- the parts that an exchange makes of the parts of its child
abbrev pub exchanged_parts : Given → Target → List (List Row) → List (List Row)
exchanged_parts given Broadcast parts = joined_parts parts ∷ []
exchanged_parts given target parts = exchanged (place given target parts) (target_count target) (joined_parts parts)

-- the cells that a stage keeps of one part of its body, of which all parts are given
abbrev pub cells_of : Given → StageKind → List (List Row) → List Row → List (List Row)
cells_of given (kind.Shuffle target) parts part = exchanged (place given target parts) (target_count target) part
cells_of given kind.Broadcast parts part = part ∷ []
cells_of given (kind.Sample keys) parts part = sample_of keys part ∷ []
cells_of given kind.Result parts part = part ∷ []
