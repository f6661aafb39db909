-- The laws of skew.
use Rattle.std.specs.Prelude.{ℕ, ◌≡◌, List, Option}
use Rattle.aqe_base.specs.declared.join_kind.JoinKind.{JoinKind}
use Rattle.aqe_rects.specs.Pairs.{RectPair}
use Rattle.aqe_skew.specs.declared.rule.SkewRule.{SkewRule}
use Rattle.aqe_skew.specs.Paired.{SideCells, PairedWhereSplit}

-- whether pairs are read, and which, is determined by the sizes
abbrev pub OneListOfPairs : Type 0
OneListOfPairs = (kind : JoinKind) (left right : SideCells) (rule : SkewRule) (target : Option ℕ) (pairs others : Option (List RectPair)) →
    PairedWhereSplit kind left right rule target pairs → PairedWhereSplit kind left right rule target others → pairs ≡ others
