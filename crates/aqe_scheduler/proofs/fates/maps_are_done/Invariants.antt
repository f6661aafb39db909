use Rattle.std.proofs.Common.{◌≡◌, ◌-◌}
use Rattle.std.specs.List.{list_all, range_with_len}
use Rattle.aqe_scheduler.specs.Tables.{done_on}
use Rattle.aqe_scheduler.specs.Fates.{maps_of}
use Rattle.aqe_scheduler.proofs.fates.maps_are_done.Given as goal

-- all maps are done where those from here on are
abbrev pub invariant-loop-map : goal.invariant-loop-map
invariant-loop-map l = list_all (done_on l.stages l.fn.need.stage.0) (maps_of l.fn.need) ≡ list_all (done_on l.stages l.fn.need.stage.0) (range_with_len l.map (l.fn.need.m1 - l.map))
