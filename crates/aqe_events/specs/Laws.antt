-- The law of events files.
use Rattle.std.specs.Prelude.{ℕ, ◌≡◌, List}
use Rattle.aqe_base.specs.declared.event.Event.{Event}
use Rattle.aqe_events.specs.Files.{FileSays}

-- an events file has at most one reading
abbrev pub OneReading : Type 0
OneReading = (bytes : List ℕ) (told other : List (ℕ × Event)) → FileSays bytes told → FileSays bytes other → told ≡ other
