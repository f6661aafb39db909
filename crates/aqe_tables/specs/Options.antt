-- The options of a table, and what they say of its files.
use Rattle.std.specs.Prelude.{ℕ, Bool, false, not, List, [], ◌∷◌, ◌++◌, ◌==◌, ◌&&◌, ◌||◌, nat_le, codes, Option, None, Some, if◌then◌else◌}
use Rattle.std.specs.List.{list_any}
use Rattle.std.specs.Str.{str_eq_ignore_ascii_case}

-- keys are read in any mix of cases; `sep` and `delimiter` are one key
abbrev pub is_header_key : List ℕ → Bool
is_header_key key = str_eq_ignore_ascii_case key (codes "header")

abbrev pub is_separator_key : List ℕ → Bool
is_separator_key key = str_eq_ignore_ascii_case key (codes "sep") || str_eq_ignore_ascii_case key (codes "delimiter")

abbrev pub is_same_key : List ℕ → List ℕ → Bool
is_same_key a b = (is_header_key a && is_header_key b) || (is_separator_key a && is_separator_key b)

-- the header is chosen by `true` or `false`, in any mix of cases
abbrev pub is_true : List ℕ → Bool
is_true value = str_eq_ignore_ascii_case value (codes "true")

abbrev pub is_truth : List ℕ → Bool
is_truth value = is_true value || str_eq_ignore_ascii_case value (codes "false")

-- a separator is one character from the space to `~`, other than `"` and `\`
abbrev pub is_separator_byte : ℕ → Bool
is_separator_byte c = nat_le 32 c && nat_le c 126 && not (c == 34) && not (c == 92)

abbrev pub is_separator : List ℕ → Bool
is_separator [] = false
is_separator (c ∷ []) = is_separator_byte c
is_separator (c ∷ d ∷ cs) = false

-- the option has one of the keys, and a value for it
abbrev pub is_known : List ℕ → List ℕ → Bool
is_known key value = (is_header_key key && is_truth value) || (is_separator_key key && is_separator value)

-- one of these options has the key
abbrev pub has_key : List (List ℕ × List ℕ) → List ℕ → Bool
has_key options key = list_any (λ option. is_same_key option.0 key) options

-- the key of the first of the options that is not known, or has a key that one before it has
abbrev pub bad_key : List (List ℕ × List ℕ) → List (List ℕ × List ℕ) → Option (List ℕ)
bad_key before [] = None
bad_key before (option ∷ options) =
    if is_known option.0 option.1 && not (has_key before option.0)
    then bad_key (before ++ option ∷ []) options
    else Some option.0

-- each file has a header where an option says so
abbrev pub has_header : List (List ℕ × List ℕ) → Bool
has_header options = list_any (λ option. is_header_key option.0 && is_true option.1) options

abbrev pub first_byte : List ℕ → ℕ
first_byte [] = 44
first_byte (c ∷ cs) = c

-- the separator that is chosen, or a comma
abbrev pub separator_of : List (List ℕ × List ℕ) → ℕ
separator_of [] = 44
separator_of (option ∷ options) = if is_separator_key option.0 then first_byte option.1 else separator_of options
