-- The values of operations are of the types that the operations give.
use Rattle.std.proofs.Common.{◌≡◌, ℤ, Bool, true, false, cond, Option, Some, None, refl}
use Rattle.std.specs.Option.{option_map_or}
use Rattle.aqe_values.specs.declared.value.Value.{Value}
use Rattle.aqe_values.specs.declared.value.Value.TheVariants as value
use Rattle.aqe_values.specs.declared.sql_type.SqlType.{SqlType}
use Rattle.aqe_values.specs.declared.sql_type.SqlType.TheVariants as sql
use Rattle.aqe_expr.specs.Numbers.{arithmetic, negated, whole_quotient, int_value, bigint_value, on_numbers, quotient_of}
use Rattle.aqe_expr.specs.Truths.{Truth, truth_value}
use Rattle.aqe_expr.specs.Casts.{as_int, as_bigint, as_text, as_boolean, says_true, says_false, trimmed, character_count, in_range, fits_int, fits_bigint, number_in}
use Rattle.aqe_expr.specs.Meaning.{like_value}
use Rattle.aqe_rules.specs.Kinds.{is_number, is_same_kind, wider}
use Rattle.aqe_type_laws.specs.Fits.{IsOf}

never : false ≡ true → ⊥
never e = cc

pub truth_fits : (t : Truth) → IsOf (truth_value t) sql.Boolean
truth_fits None = tt
truth_fits (Some b) = tt

int_fits : (n : Option ℤ) → IsOf (int_value n) sql.Int
int_fits None = tt
int_fits (Some n) = tt

bigint_fits : (n : Option ℤ) → IsOf (bigint_value n) sql.BigInt
bigint_fits None = tt
bigint_fits (Some n) = tt

pub quotient_fits : (v w : Value) → IsOf (whole_quotient v w) sql.BigInt
quotient_fits v w = bigint_fits (on_numbers quotient_of v w)

pub length_fits : (v : Value) → IsOf (character_count v) sql.Int
length_fits value.Null = tt
length_fits (value.Boolean b) = tt
length_fits (value.Int n) = tt
length_fits (value.BigInt n) = tt
length_fits (value.Text text) = tt

-- what a text says
one_int : (n : Option ℤ) → IsOf (option_map_or (λ n. value.Int n) n value.Null) sql.Int
one_int None = tt
one_int (Some n) = tt

one_bigint : (n : Option ℤ) → IsOf (option_map_or (λ n. value.BigInt n) n value.Null) sql.BigInt
one_bigint None = tt
one_bigint (Some n) = tt

one_boolean : (b c : Bool) → IsOf (cond b (value.Boolean true) (cond c (value.Boolean false) value.Null)) sql.Boolean
one_boolean true c = tt
one_boolean false true = tt
one_boolean false false = tt

pub as_int_fits : (v : Value) → IsOf (as_int v) sql.Int
as_int_fits value.Null = tt
as_int_fits (value.Boolean b) = tt
as_int_fits (value.Int n) = tt
as_int_fits (value.BigInt n) = tt
as_int_fits (value.Text text) = one_int (in_range fits_int (number_in text))

pub as_bigint_fits : (v : Value) → IsOf (as_bigint v) sql.BigInt
as_bigint_fits value.Null = tt
as_bigint_fits (value.Boolean b) = tt
as_bigint_fits (value.Int n) = tt
as_bigint_fits (value.BigInt n) = tt
as_bigint_fits (value.Text text) = one_bigint (in_range fits_bigint (number_in text))

pub as_text_fits : (v : Value) → IsOf (as_text v) sql.Text
as_text_fits value.Null = tt
as_text_fits (value.Boolean b) = tt
as_text_fits (value.Int n) = tt
as_text_fits (value.BigInt n) = tt
as_text_fits (value.Text text) = tt

pub as_boolean_fits : (v : Value) → IsOf (as_boolean v) sql.Boolean
as_boolean_fits value.Null = tt
as_boolean_fits (value.Boolean b) = tt
as_boolean_fits (value.Int n) = tt
as_boolean_fits (value.BigInt n) = tt
as_boolean_fits (value.Text text) = one_boolean (says_true (trimmed text)) (says_false (trimmed text))

pub like_fits : (v w : Value) → IsOf (like_value v w) sql.Boolean
like_fits value.Null value.Null = tt
like_fits value.Null (value.Boolean y) = tt
like_fits value.Null (value.Int y) = tt
like_fits value.Null (value.BigInt y) = tt
like_fits value.Null (value.Text y) = tt
like_fits (value.Boolean x) value.Null = tt
like_fits (value.Boolean x) (value.Boolean y) = tt
like_fits (value.Boolean x) (value.Int y) = tt
like_fits (value.Boolean x) (value.BigInt y) = tt
like_fits (value.Boolean x) (value.Text y) = tt
like_fits (value.Int x) value.Null = tt
like_fits (value.Int x) (value.Boolean y) = tt
like_fits (value.Int x) (value.Int y) = tt
like_fits (value.Int x) (value.BigInt y) = tt
like_fits (value.Int x) (value.Text y) = tt
like_fits (value.BigInt x) value.Null = tt
like_fits (value.BigInt x) (value.Boolean y) = tt
like_fits (value.BigInt x) (value.Int y) = tt
like_fits (value.BigInt x) (value.BigInt y) = tt
like_fits (value.BigInt x) (value.Text y) = tt
like_fits (value.Text x) value.Null = tt
like_fits (value.Text x) (value.Boolean y) = tt
like_fits (value.Text x) (value.Int y) = tt
like_fits (value.Text x) (value.BigInt y) = tt
like_fits (value.Text x) (value.Text y) = tt

pub same_kind : (k j : SqlType) → is_same_kind k j ≡ true → k ≡ j
same_kind sql.NullType sql.NullType e = refl
same_kind sql.NullType sql.Boolean e = absurd (never e)
same_kind sql.NullType sql.Int e = absurd (never e)
same_kind sql.NullType sql.BigInt e = absurd (never e)
same_kind sql.NullType sql.Text e = absurd (never e)
same_kind sql.Boolean sql.NullType e = absurd (never e)
same_kind sql.Boolean sql.Boolean e = refl
same_kind sql.Boolean sql.Int e = absurd (never e)
same_kind sql.Boolean sql.BigInt e = absurd (never e)
same_kind sql.Boolean sql.Text e = absurd (never e)
same_kind sql.Int sql.NullType e = absurd (never e)
same_kind sql.Int sql.Boolean e = absurd (never e)
same_kind sql.Int sql.Int e = refl
same_kind sql.Int sql.BigInt e = absurd (never e)
same_kind sql.Int sql.Text e = absurd (never e)
same_kind sql.BigInt sql.NullType e = absurd (never e)
same_kind sql.BigInt sql.Boolean e = absurd (never e)
same_kind sql.BigInt sql.Int e = absurd (never e)
same_kind sql.BigInt sql.BigInt e = refl
same_kind sql.BigInt sql.Text e = absurd (never e)
same_kind sql.Text sql.NullType e = absurd (never e)
same_kind sql.Text sql.Boolean e = absurd (never e)
same_kind sql.Text sql.Int e = absurd (never e)
same_kind sql.Text sql.BigInt e = absurd (never e)
same_kind sql.Text sql.Text e = refl

pub negated_fits : (v : Value) (k : SqlType) → IsOf v k → is_number k ≡ true → IsOf (negated v) (wider k k)
negated_fits value.Null k h e = tt
negated_fits (value.Boolean x) sql.NullType h e = absurd h
negated_fits (value.Boolean x) sql.Boolean h e = absurd (never e)
negated_fits (value.Boolean x) sql.Int h e = absurd h
negated_fits (value.Boolean x) sql.BigInt h e = absurd h
negated_fits (value.Boolean x) sql.Text h e = absurd h
negated_fits (value.Int x) sql.NullType h e = absurd h
negated_fits (value.Int x) sql.Boolean h e = absurd h
negated_fits (value.Int x) sql.Int h e = tt
negated_fits (value.Int x) sql.BigInt h e = absurd h
negated_fits (value.Int x) sql.Text h e = absurd h
negated_fits (value.BigInt x) sql.NullType h e = absurd h
negated_fits (value.BigInt x) sql.Boolean h e = absurd h
negated_fits (value.BigInt x) sql.Int h e = absurd h
negated_fits (value.BigInt x) sql.BigInt h e = tt
negated_fits (value.BigInt x) sql.Text h e = absurd h
negated_fits (value.Text x) sql.NullType h e = absurd h
negated_fits (value.Text x) sql.Boolean h e = absurd h
negated_fits (value.Text x) sql.Int h e = absurd h
negated_fits (value.Text x) sql.BigInt h e = absurd h
negated_fits (value.Text x) sql.Text h e = absurd (never e)

pub arithmetic_fits : (op : ℤ → ℤ → Option ℤ) (v w : Value) (k j : SqlType) → IsOf v k → IsOf w j → is_number k ≡ true → is_number j ≡ true → IsOf (arithmetic op v w) (wider k j)
arithmetic_fits op value.Null value.Null k j h g e f = tt
arithmetic_fits op value.Null (value.Boolean y) k j h g e f = tt
arithmetic_fits op value.Null (value.Int y) k j h g e f = tt
arithmetic_fits op value.Null (value.BigInt y) k j h g e f = tt
arithmetic_fits op value.Null (value.Text y) k j h g e f = tt
arithmetic_fits op (value.Boolean x) w sql.NullType j h g e f = absurd h
arithmetic_fits op (value.Boolean x) w sql.Boolean j h g e f = absurd (never e)
arithmetic_fits op (value.Boolean x) w sql.Int j h g e f = absurd h
arithmetic_fits op (value.Boolean x) w sql.BigInt j h g e f = absurd h
arithmetic_fits op (value.Boolean x) w sql.Text j h g e f = absurd h
arithmetic_fits op (value.Int x) w sql.NullType j h g e f = absurd h
arithmetic_fits op (value.Int x) w sql.Boolean j h g e f = absurd h
arithmetic_fits op (value.Int x) value.Null sql.Int j h g e f = tt
arithmetic_fits op (value.Int x) (value.Boolean y) sql.Int sql.NullType h g e f = absurd g
arithmetic_fits op (value.Int x) (value.Boolean y) sql.Int sql.Boolean h g e f = absurd (never f)
arithmetic_fits op (value.Int x) (value.Boolean y) sql.Int sql.Int h g e f = absurd g
arithmetic_fits op (value.Int x) (value.Boolean y) sql.Int sql.BigInt h g e f = absurd g
arithmetic_fits op (value.Int x) (value.Boolean y) sql.Int sql.Text h g e f = absurd g
arithmetic_fits op (value.Int x) (value.Int y) sql.Int sql.NullType h g e f = absurd g
arithmetic_fits op (value.Int x) (value.Int y) sql.Int sql.Boolean h g e f = absurd g
arithmetic_fits op (value.Int x) (value.Int y) sql.Int sql.Int h g e f = int_fits (op x y)
arithmetic_fits op (value.Int x) (value.Int y) sql.Int sql.BigInt h g e f = absurd g
arithmetic_fits op (value.Int x) (value.Int y) sql.Int sql.Text h g e f = absurd g
arithmetic_fits op (value.Int x) (value.BigInt y) sql.Int sql.NullType h g e f = absurd g
arithmetic_fits op (value.Int x) (value.BigInt y) sql.Int sql.Boolean h g e f = absurd g
arithmetic_fits op (value.Int x) (value.BigInt y) sql.Int sql.Int h g e f = absurd g
arithmetic_fits op (value.Int x) (value.BigInt y) sql.Int sql.BigInt h g e f = bigint_fits (op x y)
arithmetic_fits op (value.Int x) (value.BigInt y) sql.Int sql.Text h g e f = absurd g
arithmetic_fits op (value.Int x) (value.Text y) sql.Int sql.NullType h g e f = absurd g
arithmetic_fits op (value.Int x) (value.Text y) sql.Int sql.Boolean h g e f = absurd g
arithmetic_fits op (value.Int x) (value.Text y) sql.Int sql.Int h g e f = absurd g
arithmetic_fits op (value.Int x) (value.Text y) sql.Int sql.BigInt h g e f = absurd g
arithmetic_fits op (value.Int x) (value.Text y) sql.Int sql.Text h g e f = absurd (never f)
arithmetic_fits op (value.Int x) w sql.BigInt j h g e f = absurd h
arithmetic_fits op (value.Int x) w sql.Text j h g e f = absurd h
arithmetic_fits op (value.BigInt x) w sql.NullType j h g e f = absurd h
arithmetic_fits op (value.BigInt x) w sql.Boolean j h g e f = absurd h
arithmetic_fits op (value.BigInt x) w sql.Int j h g e f = absurd h
arithmetic_fits op (value.BigInt x) value.Null sql.BigInt j h g e f = tt
arithmetic_fits op (value.BigInt x) (value.Boolean y) sql.BigInt sql.NullType h g e f = absurd g
arithmetic_fits op (value.BigInt x) (value.Boolean y) sql.BigInt sql.Boolean h g e f = absurd (never f)
arithmetic_fits op (value.BigInt x) (value.Boolean y) sql.BigInt sql.Int h g e f = absurd g
arithmetic_fits op (value.BigInt x) (value.Boolean y) sql.BigInt sql.BigInt h g e f = absurd g
arithmetic_fits op (value.BigInt x) (value.Boolean y) sql.BigInt sql.Text h g e f = absurd g
arithmetic_fits op (value.BigInt x) (value.Int y) sql.BigInt sql.NullType h g e f = absurd g
arithmetic_fits op (value.BigInt x) (value.Int y) sql.BigInt sql.Boolean h g e f = absurd g
arithmetic_fits op (value.BigInt x) (value.Int y) sql.BigInt sql.Int h g e f = bigint_fits (op x y)
arithmetic_fits op (value.BigInt x) (value.Int y) sql.BigInt sql.BigInt h g e f = absurd g
arithmetic_fits op (value.BigInt x) (value.Int y) sql.BigInt sql.Text h g e f = absurd g
arithmetic_fits op (value.BigInt x) (value.BigInt y) sql.BigInt sql.NullType h g e f = absurd g
arithmetic_fits op (value.BigInt x) (value.BigInt y) sql.BigInt sql.Boolean h g e f = absurd g
arithmetic_fits op (value.BigInt x) (value.BigInt y) sql.BigInt sql.Int h g e f = absurd g
arithmetic_fits op (value.BigInt x) (value.BigInt y) sql.BigInt sql.BigInt h g e f = bigint_fits (op x y)
arithmetic_fits op (value.BigInt x) (value.BigInt y) sql.BigInt sql.Text h g e f = absurd g
arithmetic_fits op (value.BigInt x) (value.Text y) sql.BigInt sql.NullType h g e f = absurd g
arithmetic_fits op (value.BigInt x) (value.Text y) sql.BigInt sql.Boolean h g e f = absurd g
arithmetic_fits op (value.BigInt x) (value.Text y) sql.BigInt sql.Int h g e f = absurd g
arithmetic_fits op (value.BigInt x) (value.Text y) sql.BigInt sql.BigInt h g e f = absurd g
arithmetic_fits op (value.BigInt x) (value.Text y) sql.BigInt sql.Text h g e f = absurd (never f)
arithmetic_fits op (value.BigInt x) w sql.Text j h g e f = absurd h
arithmetic_fits op (value.Text x) w sql.NullType j h g e f = absurd h
arithmetic_fits op (value.Text x) w sql.Boolean j h g e f = absurd h
arithmetic_fits op (value.Text x) w sql.Int j h g e f = absurd h
arithmetic_fits op (value.Text x) w sql.BigInt j h g e f = absurd h
arithmetic_fits op (value.Text x) w sql.Text j h g e f = absurd (never e)

pub wider_fits : (v : Value) (k : SqlType) → IsOf v k → is_number k ≡ true → IsOf v (wider k k)
wider_fits value.Null k h e = tt
wider_fits (value.Boolean x) sql.NullType h e = absurd h
wider_fits (value.Boolean x) sql.Boolean h e = absurd (never e)
wider_fits (value.Boolean x) sql.Int h e = absurd h
wider_fits (value.Boolean x) sql.BigInt h e = absurd h
wider_fits (value.Boolean x) sql.Text h e = absurd h
wider_fits (value.Int x) sql.NullType h e = absurd h
wider_fits (value.Int x) sql.Boolean h e = absurd h
wider_fits (value.Int x) sql.Int h e = tt
wider_fits (value.Int x) sql.BigInt h e = absurd h
wider_fits (value.Int x) sql.Text h e = absurd h
wider_fits (value.BigInt x) sql.NullType h e = absurd h
wider_fits (value.BigInt x) sql.Boolean h e = absurd h
wider_fits (value.BigInt x) sql.Int h e = absurd h
wider_fits (value.BigInt x) sql.BigInt h e = tt
wider_fits (value.BigInt x) sql.Text h e = absurd h
wider_fits (value.Text x) sql.NullType h e = absurd h
wider_fits (value.Text x) sql.Boolean h e = absurd h
wider_fits (value.Text x) sql.Int h e = absurd h
wider_fits (value.Text x) sql.BigInt h e = absurd h
wider_fits (value.Text x) sql.Text h e = absurd (never e)
