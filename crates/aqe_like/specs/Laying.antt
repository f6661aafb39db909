-- What the search for a match finds at one place of a text.
use Rattle.std.specs.Prelude.{◌≡◌, ◌<◌, ◌≤◌, true, false, List, ◌∷◌, ◌++◌, ℕ, length, drop, map, chars, Option, Some, None}
use Rattle.std.specs.Borrow.{Bor}
use Rattle.std.specs.Str.{IsCharBoundary, encode_utf8_all}
use Rattle.std.specs.Str.Pattern.{LacksTextAt}
use Rattle.aqe_like.specs.declared.pattern.Item.{Item}
use Rattle.aqe_like.specs.declared.pattern.Item.TheVariants.{Run, Exactly}
use Rattle.aqe_like.specs.declared.pattern.Fit.{Fit}
use Rattle.aqe_like.specs.declared.pattern.Fit.TheVariants as fit
use Rattle.aqe_like.specs.Patterns.{items, matches}

-- The items in front of the first run were laid over the front of a text. Either that decides
-- whether the pattern matches; or the text from there on matches the pattern from the run on where
-- the text matches the pattern, and also where a part of the text from any place on does.
abbrev pub Laid : List ℕ → List ℕ → Fit → Type 0
Laid text pattern fit.Whole = matches (items (chars pattern)) (chars text) ≡ true
Laid text pattern fit.Apart = matches (items (chars pattern)) (chars text) ≡ false
Laid text pattern (fit.UpToRun behind rest) =
    (matches (items (chars pattern)) (chars text) ≡ matches (Run ∷ items (chars rest.now)) (chars behind.now)) ×
    (matches (Run ∷ items (chars pattern)) (chars text) ≡ matches (Run ∷ items (chars rest.now)) (chars behind.now)) ×
    (length rest.now < length pattern) × (length behind.now ≤ length text)

-- a pattern is characters that stand for themselves, and then the rest
abbrev pub PlainFront : List ℕ → List ℕ → Type 0
PlainFront pattern rest =
    (cs : List ℕ) × (pattern ≡ encode_utf8_all cs ++ rest) × (items (chars pattern) ≡ map (λ c. Exactly c) cs ++ items (chars rest))

-- a pattern begins with characters that stand for themselves
abbrev pub Begins : List ℕ → List ℕ → Type 0
Begins pattern front =
    (cs : List ℕ) × (front ≡ encode_utf8_all cs) × ((behind : List Item) × (items (chars pattern) ≡ map (λ c. Exactly c) cs ++ behind))

-- the part of a text from the first place on at which some bytes stand in it
abbrev pub FoundIn : List ℕ → List ℕ → Option (Bor (List ℕ)) → Type 0
FoundIn text part None = (i : ℕ) → i ≤ length text → LacksTextAt part text i
FoundIn text part (Some found) =
    (start : ℕ) × (start ≤ length text) × IsCharBoundary text start × (found.now ≡ drop start text) ×
    ((i : ℕ) → i < start → LacksTextAt part text i)

-- the end of a text that has so many characters, where the text has more
abbrev pub Shortened : List ℕ → ℕ → Option (Bor (List ℕ)) → Type 0
Shortened text count None = length (chars text) ≤ count
Shortened text count (Some end) =
    (length (chars end.now) ≡ count) × (length end.now < length text) ×
    ((front : List ℕ) × (chars text ≡ front ++ chars end.now))

-- where the items behind a run match somewhere behind the start of a text, they match at or behind the later place
abbrev pub FitsLater : List ℕ → List ℕ → Option (Bor (List ℕ)) → Type 0
FitsLater text pattern None = matches (Run ∷ items (chars pattern)) (chars text) ≡ false
FitsLater text pattern (Some later) =
    (matches (Run ∷ items (chars pattern)) (chars text) ≡ matches (Run ∷ items (chars pattern)) (chars later.now)) ×
    (length later.now < length text)
