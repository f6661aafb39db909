-- What parsing a field tells of the value that the field is worth.
use Rattle.std.proofs.Common.{◌≡◌, ℕ, List, [], ◌∷◌, Bool, true, false, refl, ℤ, pos, negsuc, length, map, codes}
use Rattle.std.specs.Bool.{Decides}
use Rattle.std.specs.List.{list_all}
use Rattle.std.specs.Char.{digit_value, to_ascii_lowercase}
use Rattle.std.specs.Prelude.{nat_lt, FitsSigned}
use Rattle.std.specs.Int.{w32, w64}
use Rattle.std.specs.Str.{str_to_ascii_lowercase}
use Rattle.std.specs.Str.Parse.{AllDigits, IsNumeral, signed_digits_value, without_leading_sign}
use Rattle.std.proofs.lemmas.Bool.{ltb-true, lt-ltb}
use Rattle.std.proofs.lemmas.Bool.Decides.{Decides-and, Decides-ltb}
use Rattle.std.proofs.lemmas.Slice.Eq.{bytes_eq-Decides}
use Rattle.aqe_values.specs.declared.value.Value.TheVariants as value
use Rattle.aqe_records.specs.Fields.{big_int_value, boolean_value, int_value, is_big_int, is_int, is_whole_number}

-- a test whose fact fails is false
pub false_where_not : {P : Type 0} (r : Bool) → Decides r P → ¬ P → r ≡ false
false_where_not true h k = absurd (k (h.0 refl))
false_where_not false h k = refl

digits_decide : (ds : List ℕ) → Decides (list_all (λ c. nat_lt (digit_value c) 10) ds) (AllDigits 10 ds)
digits_decide [] = (λ _. tt, λ _. refl)
digits_decide (c ∷ cs) = Decides-and _ _ (Decides-ltb (digit_value c) 10) (digits_decide cs)

whole_decides : (field : List ℕ) → Decides (is_whole_number field) (IsNumeral 10 (without_leading_sign field))
whole_decides field =
    Decides-and _ _ (Decides-ltb 0 (length (without_leading_sign field))) (digits_decide (without_leading_sign field))

int_decides : (z : ℤ) → Decides (is_int z) (FitsSigned w32 z)
int_decides (pos n) = (λ e. record { sfits = ltb-true n 2147483648 e }, λ h. lt-ltb n 2147483648 h.sfits)
int_decides (negsuc n) = (λ e. record { sfits = ltb-true n 2147483648 e }, λ h. lt-ltb n 2147483648 h.sfits)

big_int_decides : (z : ℤ) → Decides (is_big_int z) (FitsSigned w64 z)
big_int_decides (pos n) = (λ e. record { sfits = ltb-true n 9223372036854775808 e }, λ h. lt-ltb n 9223372036854775808 h.sfits)
big_int_decides (negsuc n) = (λ e. record { sfits = ltb-true n 9223372036854775808 e }, λ h. lt-ltb n 9223372036854775808 h.sfits)

pub int_read : (field : List ℕ) (n : ℤ)
    → (IsNumeral 10 (without_leading_sign field) × FitsSigned w32 (signed_digits_value 10 field)) × (n ≡ signed_digits_value 10 field)
    → value.Int n ≡ int_value field
unfolding int_value
int_read field n h =
    let yes = (Decides-and _ _ (whole_decides field) (int_decides (signed_digits_value 10 field))).1 h.0 in
    rw (h.1, yes) refl

pub int_not_read : (field : List ℕ)
    → ¬ (IsNumeral 10 (without_leading_sign field) × FitsSigned w32 (signed_digits_value 10 field)) → value.Null ≡ int_value field
unfolding int_value
int_not_read field h =
    let no = false_where_not _ (Decides-and _ _ (whole_decides field) (int_decides (signed_digits_value 10 field))) h in
    rw no refl

pub big_int_read : (field : List ℕ) (n : ℤ)
    → (IsNumeral 10 (without_leading_sign field) × FitsSigned w64 (signed_digits_value 10 field)) × (n ≡ signed_digits_value 10 field)
    → value.BigInt n ≡ big_int_value field
unfolding big_int_value
big_int_read field n h =
    let yes = (Decides-and _ _ (whole_decides field) (big_int_decides (signed_digits_value 10 field))).1 h.0 in
    rw (h.1, yes) refl

pub big_int_not_read : (field : List ℕ)
    → ¬ (IsNumeral 10 (without_leading_sign field) × FitsSigned w64 (signed_digits_value 10 field)) → value.Null ≡ big_int_value field
unfolding big_int_value
big_int_not_read field h =
    let no = false_where_not _ (Decides-and _ _ (whole_decides field) (big_int_decides (signed_digits_value 10 field))) h in
    rw no refl

-- the field is the word, whatever its letters' cases
abbrev pub IsWord : List ℕ → List ℕ → Type 0
IsWord field word = map to_ascii_lowercase field ≡ map to_ascii_lowercase word

pub is_true : (field : List ℕ) → IsWord field (codes "true") → value.Boolean true ≡ boolean_value field
unfolding boolean_value
is_true field h =
    let yes = (bytes_eq-Decides (str_to_ascii_lowercase field) (str_to_ascii_lowercase (codes "true"))).1 h in
    rw yes refl

pub is_false : (field : List ℕ) → ¬ (IsWord field (codes "true")) → IsWord field (codes "false") → value.Boolean false ≡ boolean_value field
unfolding boolean_value
is_false field n h =
    let no = false_where_not _ (bytes_eq-Decides (str_to_ascii_lowercase field) (str_to_ascii_lowercase (codes "true"))) n in
    let yes = (bytes_eq-Decides (str_to_ascii_lowercase field) (str_to_ascii_lowercase (codes "false"))).1 h in
    rw (no, yes) refl

pub is_neither : (field : List ℕ) → ¬ (IsWord field (codes "true")) → ¬ (IsWord field (codes "false")) → value.Null ≡ boolean_value field
unfolding boolean_value
is_neither field n m =
    let no = false_where_not _ (bytes_eq-Decides (str_to_ascii_lowercase field) (str_to_ascii_lowercase (codes "true"))) n in
    let none = false_where_not _ (bytes_eq-Decides (str_to_ascii_lowercase field) (str_to_ascii_lowercase (codes "false"))) m in
    rw (no, none) refl
