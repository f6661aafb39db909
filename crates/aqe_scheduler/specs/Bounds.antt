-- How often a task runs.
use Rattle.std.specs.Prelude.{ℕ, Bool, true, false, List, count_by}
use Rattle.aqe_base.specs.declared.event.Event.TheVariants.{Lost, Fetch}
use Rattle.aqe_scheduler.specs.declared.fate.Fate.TheVariants as fate
use Rattle.aqe_scheduler.specs.History.{Step, Happened}
use Rattle.aqe_scheduler.specs.Looks.{counts}

-- a task runs at each of its counted endings
abbrev pub runs : List Step → ℕ → ℕ → ℕ
runs h s t = count_by (counts s t) h

-- the steps that take outputs away: losses of executors, and failed fetches that were counted
abbrev pub takes : Step → Bool
takes (Happened (Lost on) f) = true
takes (Happened (Fetch stage task on parent map) fate.FetchCounted) = true
takes other = false

abbrev pub takings : List Step → ℕ
takings h = count_by takes h
