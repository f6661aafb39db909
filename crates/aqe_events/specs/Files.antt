-- What an events file says.
use Rattle.std.specs.Prelude.{ℕ, ◌<◌, ◌≤◌, Bool, false, cond, ◌==◌, ◌&&◌, List, [], ◌∷◌, Option, Some, None, length, filter, map}
use Rattle.aqe_base.specs.declared.event.Event.{Event}
use Rattle.aqe_events.specs.Lines.{Blank, Begins, Tells, Says}

-- The lines of a file. Each ends with a line feed, which the last may lack; a carriage return right before a line feed is dropped.
abbrev pub begins_with_feed : List ℕ → Bool
begins_with_feed [] = false
begins_with_feed (byte ∷ bytes) = byte == 10

abbrev pub onto : ℕ → List (List ℕ) → List (List ℕ)
onto byte [] = (byte ∷ []) ∷ []
onto byte (line ∷ lines) = (byte ∷ line) ∷ lines

abbrev pub lines_of : List ℕ → List (List ℕ)
lines_of [] = []
lines_of (byte ∷ bytes) =
    cond (byte == 10) ([] ∷ lines_of bytes) (cond ((byte == 13) && begins_with_feed bytes) (lines_of bytes) (onto byte (lines_of bytes)))

-- a query line has a greater query than the query line before it, if there is one
abbrev pub IsAfter : Option ℕ → ℕ → Type 0
IsAfter None k = Unit {0}
IsAfter (Some before) k = before < k

-- lines before the first query line belong to query 0
abbrev pub query_of : Option ℕ → ℕ
query_of None = 0
query_of (Some k) = k

-- What lines say behind the last query line: the events in order, each with its query.
pub data AreRead : Option ℕ → List (List ℕ) → List (ℕ × Event) → Type 0 where
  over : {last : Option ℕ} → AreRead last [] []
  blank : {last : Option ℕ} {line : List ℕ} {lines : List (List ℕ)} {told : List (ℕ × Event)} → Says line Blank → AreRead last lines told → AreRead last (line ∷ lines) told
  begins : {last : Option ℕ} {line : List ℕ} {lines : List (List ℕ)} {told : List (ℕ × Event)} (k : ℕ) → Says line (Begins k) → IsAfter last k → AreRead (Some k) lines told →
      AreRead last (line ∷ lines) told
  tells : {last : Option ℕ} {line : List ℕ} {lines : List (List ℕ)} {told : List (ℕ × Event)} (event : Event) → Says line (Tells event) → AreRead last lines told →
      AreRead last (line ∷ lines) ((query_of last, event) ∷ told)

-- a file says events, of which it has at most a million
abbrev pub most_events : ℕ
most_events = 1000000

pub record FileSays (bytes : List ℕ) (told : List (ℕ × Event)) : Type 0 where
  pub read : AreRead None (lines_of bytes) told
  pub few : length told ≤ most_events

-- the events of one query
abbrev pub events_of : ℕ → List (ℕ × Event) → List Event
events_of query told = map (λ p. p.1) (filter (λ p. p.0 == query) told)
