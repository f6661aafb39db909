-- The hash of a key row by which rows are placed: Murmur3 in words of 32 bits, run on from value to value.
-- A word is a number below 2 ^ 32, and sums and products of words wrap.
use Rattle.std.specs.Prelude.{ℕ, ◌+◌, ◌-◌, ◌*◌, ◌/◌, ◌%◌, ◌^◌, nat_lt, cond, List, [], ◌∷◌, length, ℤ, pos, bit_xor, unsigned_abs}
use Rattle.std.specs.List.{fold}
use Rattle.std.specs.Int.{w32, w64, cast_signed, cast_unsigned, rotate_left, from_le_bytes, int_rem_euclid}
use Rattle.aqe_values.specs.declared.value.Value.{Value}
use Rattle.aqe_values.specs.declared.value.Value.TheVariants as value

-- the constants of the published algorithm: the factors that scramble a word, the step that mixes it in,
-- and the factors that finish a hash
abbrev pub first_factor : ℕ
first_factor = 0xcc9e2d51

abbrev pub second_factor : ℕ
second_factor = 0x1b873593

abbrev pub mix_factor : ℕ
mix_factor = 5

abbrev pub mix_addend : ℕ
mix_addend = 0xe6546b64

abbrev pub first_finisher : ℕ
first_finisher = 0x85ebca6b

abbrev pub second_finisher : ℕ
second_finisher = 0xc2b2ae35

-- the seed that places rows
abbrev pub place_seed : ℤ
place_seed = pos 42

abbrev pub plus : ℕ → ℕ → ℕ
plus a b = (a + b) % 2 ^ 32

abbrev pub times : ℕ → ℕ → ℕ
times a b = (a * b) % 2 ^ 32

-- a word is scrambled and mixed into the hash
abbrev pub mixed : ℕ → ℕ → ℕ
mixed hash word =
    let scrambled = times (rotate_left w32 (times word first_factor) 15) second_factor in
    plus (times (rotate_left w32 (bit_xor hash scrambled) 13) mix_factor) mix_addend

-- the upper bits of the hash are mixed into the lower ones
abbrev pub folded : ℕ → ℕ → ℕ
folded by hash = bit_xor hash (hash / 2 ^ by)

-- the hash once the number of bytes is in it
abbrev pub finished : ℕ → ℕ → ℕ
finished hash bytes =
    folded 16 (times (folded 13 (times (folded 16 (bit_xor hash bytes)) first_finisher)) second_finisher)

-- a byte as a word, with its sign: bytes from 128 on are negative
abbrev pub widened : ℕ → ℕ
widened byte = cond (nat_lt byte 128) byte (byte + (2 ^ 32 - 256))

-- the bytes of a text: each four are a word, the least first, and each that is left is a word of its own
abbrev pub text_mixed : ℕ → List ℕ → ℕ
text_mixed hash (a ∷ b ∷ c ∷ d ∷ rest) = text_mixed (mixed hash (from_le_bytes w32 (a ∷ b ∷ c ∷ d ∷ []))) rest
text_mixed hash rest = fold (λ running byte. mixed running (widened byte)) hash rest

-- The hash behind a value. NULL leaves it as it is; a BOOLEAN is the word 1 or 0, an INT is one word, and a
-- BIGINT two, the lower one first.
abbrev pub value_hash : ℕ → Value → ℕ
value_hash hash value.Null = hash
value_hash hash (value.Boolean b) = finished (mixed hash (cond b 1 0)) 4
value_hash hash (value.Int n) = finished (mixed hash (cast_unsigned w32 n)) 4
value_hash hash (value.BigInt n) = finished (mixed (mixed hash (cast_unsigned w64 n % 2 ^ 32)) (cast_unsigned w64 n / 2 ^ 32)) 8
value_hash hash (value.Text bytes) = finished (text_mixed hash bytes) (length bytes)

-- the hash of a key row: each value starts from the hash of those before it, the first from the seed
abbrev pub row_hash : List Value → ℤ → ℤ
row_hash key seed = cast_signed w32 (fold value_hash (cast_unsigned w32 seed) key)

-- the part of n that a key row belongs to: its hash modulo n, not negative
abbrev pub hash_place : ℕ → List Value → ℕ
hash_place n key = unsigned_abs (int_rem_euclid (row_hash key place_seed) (pos n))
