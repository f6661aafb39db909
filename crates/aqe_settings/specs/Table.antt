-- The table of settings: what each key is written as, which values it takes, and its default.
use Rattle.std.specs.Prelude.{ℕ, List, [], ◌∷◌, map, codes, true, pos}
use Rattle.aqe_settings.specs.declared.entry.Entry.{Entry}
use Rattle.aqe_settings.specs.declared.entry.Kind.{Kind}
use Rattle.aqe_settings.specs.declared.entry.Kind.TheVariants as kind
use Rattle.aqe_settings.specs.declared.entry.Value.{Value}
use Rattle.aqe_settings.specs.declared.entry.Value.TheVariants as value
use Rattle.aqe_settings.specs.declared.key.SettingKey.{SettingKey}
use Rattle.aqe_settings.specs.declared.key.SettingKey.TheVariants as key

-- what a row says of its key: the text, the kind with the range, and the default
pub record Row : Type 0 where
  pub key : SettingKey
  pub text : List ℕ
  pub kind : Kind
  pub default : Value

abbrev pub row : SettingKey → List ℕ → Kind → Value → Row
row k t f d = record { key = k; text = t; kind = f; default = d }

-- the row of each key; sizes are in bytes, decimals in thousandths
abbrev pub row_of : SettingKey → Row
row_of key.Enabled = row key.Enabled (codes "spark.sql.adaptive.enabled") kind.Flag (value.Flag true)
row_of key.ShufflePartitions = row key.ShufflePartitions (codes "spark.sql.shuffle.partitions") (kind.Count 1 10000) (value.Number 200)
row_of key.Advisory = row key.Advisory (codes "spark.sql.adaptive.advisoryPartitionSizeInBytes") (kind.Size 1) (value.Number 67108864)
row_of key.Coalesce = row key.Coalesce (codes "spark.sql.adaptive.coalescePartitions.enabled") kind.Flag (value.Flag true)
row_of key.ParallelismFirst = row key.ParallelismFirst (codes "spark.sql.adaptive.coalescePartitions.parallelismFirst") kind.Flag (value.Flag true)
row_of key.MinPartition = row key.MinPartition (codes "spark.sql.adaptive.coalescePartitions.minPartitionSize") (kind.Size 1) (value.Number 1048576)
row_of key.InitialPartitions = row key.InitialPartitions (codes "spark.sql.adaptive.coalescePartitions.initialPartitionNum") (kind.Count 1 10000) value.Unset
row_of key.Skew = row key.Skew (codes "spark.sql.adaptive.skewJoin.enabled") kind.Flag (value.Flag true)
row_of key.SkewFactor = row key.SkewFactor (codes "spark.sql.adaptive.skewJoin.skewedPartitionFactor") (kind.Decimal 1000000000) (value.Number 5000)
row_of key.SkewThreshold = row key.SkewThreshold (codes "spark.sql.adaptive.skewJoin.skewedPartitionThresholdInBytes") (kind.Size 0) (value.Number 268435456)
row_of key.LocalReads = row key.LocalReads (codes "spark.sql.adaptive.localShuffleReader.enabled") kind.Flag (value.Flag true)
row_of key.LocalMap = row key.LocalMap (codes "spark.sql.adaptive.maxShuffledHashJoinLocalMapThreshold") (kind.Size 0) (value.Number 0)
row_of key.FirstThreshold = row key.FirstThreshold (codes "spark.sql.autoBroadcastJoinThreshold") kind.Threshold (value.Threshold (pos 10485760))
row_of key.AdaptiveThreshold = row key.AdaptiveThreshold (codes "spark.sql.adaptive.autoBroadcastJoinThreshold") kind.Threshold value.Unset
row_of key.Ratio = row key.Ratio (codes "spark.sql.adaptive.nonEmptyPartitionRatioForBroadcastJoin") (kind.Decimal 1000) (value.Number 200)
row_of key.Parallelism = row key.Parallelism (codes "spark.default.parallelism") (kind.Count 1 10000) (value.Number 8)
row_of key.MaxFailures = row key.MaxFailures (codes "spark.task.maxFailures") (kind.Count 1 1000000) (value.Number 4)
row_of key.MaxAttempts = row key.MaxAttempts (codes "spark.stage.maxConsecutiveAttempts") (kind.Count 1 1000000) (value.Number 4)

-- all keys, in the order of the table
abbrev pub keys : List SettingKey
keys =
    key.Enabled ∷ key.ShufflePartitions ∷ key.Advisory ∷ key.Coalesce ∷ key.ParallelismFirst ∷ key.MinPartition ∷ key.InitialPartitions ∷
    key.Skew ∷ key.SkewFactor ∷ key.SkewThreshold ∷ key.LocalReads ∷ key.LocalMap ∷ key.FirstThreshold ∷ key.AdaptiveThreshold ∷
    key.Ratio ∷ key.Parallelism ∷ key.MaxFailures ∷ key.MaxAttempts ∷ []

abbrev pub rows : List Row
rows = map row_of keys

-- what an entry of the program's table says
abbrev pub row_in : Entry → Row
row_in entry = row entry.key entry.text.now entry.kind entry.default
