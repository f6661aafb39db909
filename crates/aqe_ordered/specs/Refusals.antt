-- What is told of a thing that no output column shows.
use Rattle.std.specs.Prelude.{Err}
use Rattle.aqe_base.specs.declared.status.AnalysisKind.TheVariants.{NoSuchColumn}
use Rattle.aqe_rules.specs.declared.typed.Typed.{Typed}
use Rattle.aqe_rules.specs.Outcomes.{Outcome, refused}
use Rattle.aqe_rules.specs.Plans.{name_of}
use Rattle.aqe_looks.specs.declared.missing.Mention.{Mention}
use Rattle.aqe_looks.specs.Missing.{mention_seen}

-- no column has its name
abbrev pub unknown : Mention → Outcome Typed
unknown m = Err (refused NoSuchColumn (name_of (mention_seen m)))
