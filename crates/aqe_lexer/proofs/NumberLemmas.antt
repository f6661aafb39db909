-- Facts on the number that digits write.
use Rattle.std.proofs.Common.{refl, ◌≡◌, ℕ, ◌+◌, ◌*◌, ◌^◌, ◌<◌, ◌≤◌, List, length, take, get_or, ap, ◌∙◌, sym, arith}
use Rattle.std.specs.Char.{digit_value}
use Rattle.std.specs.Str.Parse.{digits_value}
use Rattle.std.proofs.lemmas.Int.Digits.{digits_value_more}
use Rattle.std.proofs.lemmas.Str.Parse.{digits_value-take-le}

-- one more digit
pub with_next : (digits : List ℕ) (i value more : ℕ) → i < length digits
    → value ≡ digits_value 10 (take i digits)
    → more ≡ value * 10 + digit_value (get_or digits i 0)
    → more ≡ digits_value 10 (take (i + 1) digits)
with_next digits i value more below is next =
    next ∙ (ap (λ n. n * 10 + digit_value (get_or digits i 0)) is ∙ sym (digits_value_more 10 digits i below))

-- a number is not below that of its first digits
pub beyond : (digits : List ℕ) (i value : ℕ) → i < length digits
    → value ≡ digits_value 10 (take i digits)
    → 2 ^ 64 ≤ value * 10 + digit_value (get_or digits i 0)
    → 2 ^ 64 ≤ digits_value 10 digits
beyond digits i value below is over =
    let next = with_next digits i value (value * 10 + digit_value (get_or digits i 0)) below is refl in
    let front : digits_value 10 (take (i + 1) digits) ≤ digits_value 10 digits =
    digits_value-take-le 10 digits (i + 1) (omega arith) in
    omega (arith, next, front)

pub ruleset reading = (with_next, beyond)
