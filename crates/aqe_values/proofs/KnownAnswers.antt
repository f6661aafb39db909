-- Small answers that are known from elsewhere, computed by the definitions.
use Rattle.std.specs.Prelude.{◌≡◌, true, false, pos, negsuc, [], ◌∷◌, refl}
use Rattle.std.specs.declared.cmp.Ordering.TheVariants.{Less}
use Rattle.aqe_values.specs.declared.value.Value.TheVariants.{Null, Boolean, Int, BigInt, Text}
use Rattle.aqe_values.specs.Order.{way_cmp}
use Rattle.aqe_values.specs.Murmur.{row_hash, hash_place}
use Rattle.aqe_values.specs.Sizes.{row_size_of}

-- the row (INT 1, STRING a, NULL) is kept in twelve bytes
size_of_three : row_size_of (Int (pos 1) ∷ Text (97 ∷ []) ∷ Null ∷ []) ≡ 12
size_of_three = refl

-- descending, with NULLs as they stand: 2 before 1, and NULL before both
greater_first : way_cmp (record { descending = true; nulls_last = false }) (Int (pos 2)) (Int (pos 1)) ≡ Less
greater_first = refl

null_first : way_cmp (record { descending = true; nulls_last = false }) Null (Int (pos 2)) ≡ Less
null_first = refl

-- an INT comes before each BIGINT
types_first : way_cmp (record { descending = false; nulls_last = false }) (Int (pos 9)) (BigInt (pos 1)) ≡ Less
types_first = refl

-- The hashes below are those of a second program, written from the rules of Murmur3 as Spark publishes them.
int_one : row_hash (Int (pos 1) ∷ []) (pos 42) ≡ negsuc 559580956
int_one = refl

-- NULL leaves the hash as it is, so the seed comes out
null_alone : row_hash (Null ∷ []) (pos 42) ≡ pos 42
null_alone = refl

null_between : row_hash (Int (negsuc 0) ∷ Null ∷ Boolean true ∷ []) (pos 42) ≡ pos 1309382192
null_between = refl

no_values : row_hash [] (negsuc 6) ≡ negsuc 6
no_values = refl

-- the order of the values counts
two_ints : row_hash (Int (pos 2) ∷ Int (pos 1) ∷ []) (pos 42) ≡ pos 601480897
two_ints = refl

boolean_false : row_hash (Boolean false ∷ []) (pos 42) ≡ pos 933211791
boolean_false = refl

bigint_least : row_hash (BigInt (negsuc 9223372036854775807) ∷ []) (pos 42) ≡ negsuc 853646084
bigint_least = refl

bigint_greatest : row_hash (BigInt (pos 9223372036854775807) ∷ []) (pos 42) ≡ negsuc 1604625028
bigint_greatest = refl

-- texts of no byte, of one word and a byte, and of bytes from 128 on
text_empty : row_hash (Text [] ∷ []) (pos 42) ≡ pos 142593372
text_empty = refl

text_five : row_hash (Text (97 ∷ 98 ∷ 99 ∷ 100 ∷ 101 ∷ []) ∷ []) (pos 42) ≡ pos 814637928
text_five = refl

text_high : row_hash (Text (97 ∷ 98 ∷ 99 ∷ 100 ∷ 195 ∷ 169 ∷ []) ∷ []) (pos 42) ≡ pos 1633936390
text_high = refl

-- a place is never negative
place_of_one : hash_place 200 (Int (pos 1) ∷ []) ≡ 43
place_of_one = refl

place_of_null : hash_place 10 (Null ∷ []) ≡ 2
place_of_null = refl
