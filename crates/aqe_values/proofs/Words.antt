-- Texts of four bytes or more, and shorter ones.
use Rattle.std.proofs.Common.{◌≡◌, ℕ, ◌≤◌, ◌<◌, List, [], ◌∷◌, length, drop, slice_index, arith, refl}
use Rattle.std.specs.List.{fold}
use Rattle.std.specs.Int.{w32, from_le_bytes}
use Rattle.aqe_values.specs.Murmur.{mixed, widened, text_mixed}

-- the word of the first four bytes
abbrev pub first_word : List ℕ → ℕ
first_word bytes = from_le_bytes w32 (slice_index bytes 0 ∷ slice_index bytes 1 ∷ slice_index bytes 2 ∷ slice_index bytes 3 ∷ [])

pub word_first : (hash : ℕ) (bytes : List ℕ) → 4 ≤ length bytes → text_mixed hash bytes ≡ text_mixed (mixed hash (first_word bytes)) (drop 4 bytes)
word_first hash [] h = absurd (let no : ⊥ = omega (arith, h) in no)
word_first hash (a ∷ []) h = absurd (let no : ⊥ = omega (arith, h) in no)
word_first hash (a ∷ b ∷ []) h = absurd (let no : ⊥ = omega (arith, h) in no)
word_first hash (a ∷ b ∷ c ∷ []) h = absurd (let no : ⊥ = omega (arith, h) in no)
word_first hash (a ∷ b ∷ c ∷ d ∷ rest) h = refl

pub bytes_left : (hash : ℕ) (bytes : List ℕ) → length bytes < 4 → text_mixed hash bytes ≡ fold (λ running byte. mixed running (widened byte)) hash bytes
bytes_left hash [] h = refl
bytes_left hash (a ∷ []) h = refl
bytes_left hash (a ∷ b ∷ []) h = refl
bytes_left hash (a ∷ b ∷ c ∷ []) h = refl
bytes_left hash (a ∷ b ∷ c ∷ d ∷ rest) h = absurd (let no : ⊥ = omega (arith, h) in no)
