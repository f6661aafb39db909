-- Histories in which nothing is lost and nothing fails, and when their stages were whole first.
use Rattle.std.specs.Prelude.{ℕ, suc, List, length, find, Option}
use Rattle.std.specs.List.{range_with_len}
use Rattle.aqe_base.specs.declared.event.Event.TheVariants.{Ended}
use Rattle.aqe_scheduler.specs.History.{Step, Added, Marked, Happened}
use Rattle.aqe_scheduler.specs.Looks.{whole}
use Rattle.aqe_scheduler.specs.Fates.{fates}
use Rattle.aqe_scheduler.specs.Positions.{upto}

-- a step that is no failure, no loss and no failed fetch
abbrev pub IsPeaceful : Step → Type 0
IsPeaceful (Added birth) = Unit {0}
IsPeaceful (Marked stage is_needed) = Unit {0}
IsPeaceful (Happened (Ended stage task on) f) = Unit {0}
IsPeaceful (Happened event f) = ⊥

-- the number of events in a history
abbrev pub happened : List Step → ℕ
happened h = length (fates h)

-- the first position at which a stage is whole, if there is one
abbrev pub first_whole : List Step → ℕ → Option ℕ
first_whole h s = find (λ k. whole (upto k h) s) (range_with_len 0 (suc (happened h)))
