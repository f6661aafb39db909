-- CAST between the four types, and what a text says as a number or a BOOLEAN.
use Rattle.std.specs.Prelude.{ℕ, zero, ◌+◌, ◌-◌, ◌*◌, ◌^◌, ◌==◌, ℤ, pos, negsuc, neg_ℤ, Bool, true, false, not, cond, ◌&&◌, ◌||◌, List, [], ◌∷◌, map, fold, length, take, drop, reverse, take_while, Option, Some, None, nat_eq, nat_lt, chars, codes}
use Rattle.std.specs.Int.{w32, int_wrap}
use Rattle.std.specs.Fmt.{signed_decimal}
use Rattle.std.specs.Char.{to_ascii_lowercase, is_ascii_digit}
use Rattle.std.specs.List.{list_all}
use Rattle.std.specs.Option.{option_map_or}
use Rattle.std.specs.Cmp.Lexicographic.{pointwise}
use Rattle.aqe_values.specs.declared.value.Value.{Value}
use Rattle.aqe_values.specs.declared.value.Value.TheVariants.{Null, Boolean, Int, BigInt, Text}

abbrev pub is_empty : List ℕ → Bool
is_empty text = length text == 0

-- a text without the spaces (32) in front, at its end, and at both ends
abbrev pub is_space : ℕ → Bool
is_space c = c == 32

abbrev pub without_front : List ℕ → List ℕ
without_front text = drop (length (take_while is_space text)) text

abbrev pub without_end : List ℕ → List ℕ
without_end text = take (length text - length (take_while is_space (reverse text))) text

abbrev pub trimmed : List ℕ → List ℕ
trimmed text = without_end (without_front text)

-- whether a text has the letters of a word, in small or capital letters
abbrev pub spells : List ℕ → List ℕ → Bool
spells word text = pointwise ◌==◌ (map to_ascii_lowercase text) word

-- the texts that say true, and those that say false
abbrev pub says_true : List ℕ → Bool
says_true text = spells (codes "t") text || spells (codes "true") text || spells (codes "y") text || spells (codes "yes") text || spells (codes "1") text

abbrev pub says_false : List ℕ → Bool
says_false text = spells (codes "f") text || spells (codes "false") text || spells (codes "n") text || spells (codes "no") text || spells (codes "0") text

abbrev pub boolean_in : List ℕ → Value
boolean_in text = cond (says_true (trimmed text)) (Boolean true) (cond (says_false (trimmed text)) (Boolean false) Null)

-- A text says a number where, without the spaces at its ends, it is an optional sign (`+` is 43,
-- `-` is 45), one or more digits, and then nothing or a point (46) and one or more digits, which
-- are cut off.
abbrev pub is_negative : List ℕ → Bool
is_negative [] = false
is_negative (c ∷ cs) = c == 45

abbrev pub without_sign : List ℕ → List ℕ
without_sign [] = []
without_sign (c ∷ cs) = cond ((c == 43) || (c == 45)) cs (c ∷ cs)

abbrev pub whole_digits : List ℕ → List ℕ
whole_digits text = take_while is_ascii_digit text

abbrev pub after_whole : List ℕ → List ℕ
after_whole text = drop (length (whole_digits text)) text

abbrev pub are_digits : List ℕ → Bool
are_digits text = not (is_empty text) && list_all is_ascii_digit text

abbrev pub is_cut_off : List ℕ → Bool
is_cut_off [] = true
is_cut_off (c ∷ cs) = (c == 46) && are_digits cs

-- the number that digits stand for: each further digit (`0` is 48) counts ten times the number before it
abbrev pub number_of_digits : List ℕ → ℕ
number_of_digits digits = fold (λ n c. n * 10 + (c - 48)) 0 digits

abbrev pub signed : Bool → ℕ → ℤ
signed true n = neg_ℤ (pos n)
signed false n = pos n

abbrev pub unsigned_number_in : Bool → List ℕ → Option ℤ
unsigned_number_in negative text = cond (not (is_empty (whole_digits text)) && is_cut_off (after_whole text)) (Some (signed negative (number_of_digits (whole_digits text)))) None

abbrev pub number_in : List ℕ → Option ℤ
number_in text = unsigned_number_in (is_negative (trimmed text)) (without_sign (trimmed text))

-- the numbers of INT and of BIGINT: from -2^31 up to 2^31 - 1, and from -2^63 up to 2^63 - 1
abbrev pub fits_int : ℤ → Bool
fits_int (pos n) = nat_lt n (2 ^ 31)
fits_int (negsuc n) = nat_lt n (2 ^ 31)

abbrev pub fits_bigint : ℤ → Bool
fits_bigint (pos n) = nat_lt n (2 ^ 63)
fits_bigint (negsuc n) = nat_lt n (2 ^ 63)

-- a number, where it is one of the type
abbrev pub in_range : (ℤ → Bool) → Option ℤ → Option ℤ
in_range fits None = None
in_range fits (Some n) = cond (fits n) (Some n) None

abbrev pub is_nonzero : ℤ → Bool
is_nonzero (pos zero) = false
is_nonzero n = true

abbrev pub one_or_zero : Bool → ℤ
one_or_zero true = pos 1
one_or_zero false = pos 0

-- A BIGINT as an INT keeps its low 32 bits; a BOOLEAN as a number is 1 or 0.
abbrev pub as_int : Value → Value
as_int Null = Null
as_int (Boolean b) = Int (one_or_zero b)
as_int (Int n) = Int n
as_int (BigInt n) = Int (int_wrap w32 n)
as_int (Text text) = option_map_or (λ n. Int n) (in_range fits_int (number_in text)) Null

abbrev pub as_bigint : Value → Value
as_bigint Null = Null
as_bigint (Boolean b) = BigInt (one_or_zero b)
as_bigint (Int n) = BigInt n
as_bigint (BigInt n) = BigInt n
as_bigint (Text text) = option_map_or (λ n. BigInt n) (in_range fits_bigint (number_in text)) Null

-- a number as a BOOLEAN is whether it is not zero
abbrev pub as_boolean : Value → Value
as_boolean Null = Null
as_boolean (Boolean b) = Boolean b
as_boolean (Int n) = Boolean (is_nonzero n)
as_boolean (BigInt n) = Boolean (is_nonzero n)
as_boolean (Text text) = boolean_in text

abbrev pub word_of : Bool → List ℕ
word_of true = codes "true"
word_of false = codes "false"

-- a number as a text is its decimal digits, with a `-` before them where it is negative
abbrev pub as_text : Value → Value
as_text Null = Null
as_text (Boolean b) = Text (word_of b)
as_text (Int n) = Text (signed_decimal n)
as_text (BigInt n) = Text (signed_decimal n)
as_text (Text text) = Text text

-- the number of characters of a text; other values count as NULL
abbrev pub character_count : Value → Value
character_count (Text text) = Int (pos (length (chars text)))
character_count v = Null
