-- The first thing that an expression mentions and that no output column shows, level by level.
use Rattle.std.specs.Prelude.{ℕ, cond, List, [], ◌∷◌, Option, Some, None, option_map}
use Rattle.std.specs.Option.{option_or}
use Rattle.aqe_trees.specs.declared.expression.OrTree.{OrTree}
use Rattle.aqe_trees.specs.declared.expression.AndTree.{AndTree}
use Rattle.aqe_trees.specs.declared.expression.NotTree.{NotTree}
use Rattle.aqe_trees.specs.declared.expression.PredicateTree.{PredicateTree}
use Rattle.aqe_trees.specs.declared.expression.Test.{Test}
use Rattle.aqe_trees.specs.declared.expression.ComparisonTree.{ComparisonTree}
use Rattle.aqe_trees.specs.declared.expression.SumTree.{SumTree}
use Rattle.aqe_trees.specs.declared.expression.ProductTree.{ProductTree}
use Rattle.aqe_trees.specs.declared.expression.SignTree.{SignTree}
use Rattle.aqe_trees.specs.declared.expression.PrimaryTree.{PrimaryTree}
use Rattle.aqe_trees.specs.declared.expression.Arm.{Arm}
use Rattle.aqe_rules.specs.declared.names.Named.{Named}
use Rattle.aqe_rules.specs.Looks as looks
use Rattle.aqe_rules.specs.Looks.{mentions}
use Rattle.aqe_rules.specs.Plans.{is_shown, name_of}
use Rattle.aqe_rules.specs.Trees.{made_of, made_of_and, made_of_not, made_of_predicate, made_of_test, made_of_comparison, made_of_sum, made_of_product, made_of_sign, made_of_primary, made_of_arm}
use Rattle.aqe_looks.specs.declared.missing.Mention.{Mention}
use Rattle.aqe_looks.specs.declared.missing.Mention.TheVariants as found

-- a mention as the rules see it
abbrev pub mention_seen : Mention → looks.Mention
mention_seen (found.Plain name) = looks.plain name.now
mention_seen (found.OfItem table name) = looks.of_item table.now name.now
mention_seen (found.Aggregate name) = looks.aggregate name.now

abbrev pub seen : Option Mention → Option looks.Mention
seen m = option_map mention_seen m

-- the first of some mentions that no output column shows
abbrev pub first_missing : List Named → List looks.Mention → Option looks.Mention
first_missing columns [] = None
first_missing columns (m ∷ ms) = cond (is_shown columns m) (first_missing columns ms) (Some m)

-- its name; empty where there is none
abbrev pub told_name : Option looks.Mention → List ℕ
told_name None = []
told_name (Some m) = name_of m

-- the first that one of some parts has
abbrev pub missing_in : {X : Type 0} → (X → Option looks.Mention) → List X → Option looks.Mention
missing_in of [] = None
missing_in of (x ∷ xs) = option_or (of x) (missing_in of xs)

-- the trees of each level, over these output columns
unfoldable pub missing_of_or : List Named → OrTree → Option looks.Mention
missing_of_or columns tree = first_missing columns (made_of mentions tree)

unfoldable pub missing_of_and : List Named → AndTree → Option looks.Mention
missing_of_and columns tree = first_missing columns (made_of_and mentions tree)

unfoldable pub missing_of_not : List Named → NotTree → Option looks.Mention
missing_of_not columns tree = first_missing columns (made_of_not mentions tree)

unfoldable pub missing_of_predicate : List Named → PredicateTree → Option looks.Mention
missing_of_predicate columns tree = first_missing columns (made_of_predicate mentions tree)

unfoldable pub missing_of_comparison : List Named → ComparisonTree → Option looks.Mention
missing_of_comparison columns tree = first_missing columns (made_of_comparison mentions tree)

unfoldable pub missing_of_sum : List Named → SumTree → Option looks.Mention
missing_of_sum columns tree = first_missing columns (made_of_sum mentions tree)

unfoldable pub missing_of_product : List Named → ProductTree → Option looks.Mention
missing_of_product columns tree = first_missing columns (made_of_product mentions tree)

unfoldable pub missing_of_sign : List Named → SignTree → Option looks.Mention
missing_of_sign columns tree = first_missing columns (made_of_sign mentions tree)

unfoldable pub missing_of_primary : List Named → PrimaryTree → Option looks.Mention
missing_of_primary columns tree = first_missing columns (made_of_primary mentions tree)

-- a test, whatever stands before it
unfoldable pub missing_of_test : List Named → Test → Option looks.Mention
missing_of_test columns test = first_missing columns (made_of_test mentions test [])

unfoldable pub missing_of_arm : List Named → Arm → Option looks.Mention
missing_of_arm columns arm = option_or (first_missing columns (made_of_arm mentions arm).0) (first_missing columns (made_of_arm mentions arm).1)

-- an expression that may be left out
abbrev pub missing_if_any : List Named → Option OrTree → Option looks.Mention
missing_if_any columns None = None
missing_if_any columns (Some tree) = missing_of_or columns tree
