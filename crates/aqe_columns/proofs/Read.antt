-- The value of an expression rests on the columns that it reads.
use Rattle.std.proofs.Common.{◌≡◌, ℕ, ◌<◌, List, [], ◌∷◌, ◌++◌, cond, Some, unwrap_or, refl, ap}
use Rattle.std.specs.Prelude.{slice_index_or, All}
use Rattle.std.proofs.lemmas.List.Elements.{All-nil, All-cons, All-head, All-tail, All-append}
use Rattle.aqe_values.specs.declared.value.Value.{Value}
use Rattle.aqe_values.specs.declared.value.Value.TheVariants.{Null}
use Rattle.aqe_expr.specs.declared.expr.Expr.{Expr, Column, Literal, Coalesce}
use Rattle.aqe_expr.specs.declared.expr.Operands as list
use Rattle.aqe_expr.specs.declared.expr.CasePairs as pairs
use Rattle.aqe_expr.specs.Shapes.{unary_of, binary_of, between_of, one_of, case_of, switch_of, operand, pair}
use Rattle.aqe_expr.specs.Below.{ColumnsBelow, EachBelow, PairsBelow}
use Rattle.aqe_scalar.specs.Truths.{truth_value, between, either, equals, is_true, is_known_true, is_null}
use Rattle.aqe_expr.specs.Meaning.{val, unary_value, binary_value, in_list, first_true, first_equal, first_present}
use Rattle.aqe_columns.specs.Reading.{columns_of, columns_in_list, columns_in_pairs}
use Rattle.aqe_columns.specs.Laws.{ValuesReadTheirColumns, ColumnsBelowAsData}

left : {X : Type 0} (P : X → Type 0) (xs ys : List X) → All P (xs ++ ys) → All P xs
left P [] ys h = All-nil P
left P (x ∷ xs) ys h = All-cons P x xs (All-head P x (xs ++ ys) h) (left P xs ys (All-tail P x (xs ++ ys) h))

right : {X : Type 0} (P : X → Type 0) (xs ys : List X) → All P (xs ++ ys) → All P ys
right P [] ys h = h
right P (x ∷ xs) ys h = right P xs ys (All-tail P x (xs ++ ys) h)

module _ (row other : List Value) where
  abbrev Same : ℕ → Type 0
  Same k = slice_index_or row k Null ≡ slice_index_or other k Null

  mutual
    value : (e : Expr) → All Same (columns_of e) → val row e ≡ val other e
    value (Column k) h = All-head Same k [] h
    value (Literal v) h = refl
    value (unary_of op a) h = ap (unary_value op) (value a h)
    value (binary_of op l r) h = λ i. binary_value op (value l (left Same (columns_of l) (columns_of r) h) i) (value r (right Same (columns_of l) (columns_of r) h) i)
    value (between_of v l u) h =
        let ends : All Same (columns_of l ++ columns_of u) = right Same (columns_of v) (columns_of l ++ columns_of u) h in
        (λ i. truth_value (between (value v (left Same (columns_of v) (columns_of l ++ columns_of u) h) i) (value l (left Same (columns_of l) (columns_of u) ends) i) (value u (right Same (columns_of l) (columns_of u) ends) i)))
    value (one_of v l) h = λ i. truth_value (in_value l (right Same (columns_of v) (columns_in_list l) h) (value v (left Same (columns_of v) (columns_in_list l) h) i) i)
    value (case_of p o) h = λ i. unwrap_or (true_value p (left Same (columns_in_pairs p) (columns_of o) h) i) (value o (right Same (columns_in_pairs p) (columns_of o) h) i)
    value (switch_of v p o) h =
        let rest : All Same (columns_in_pairs p ++ columns_of o) = right Same (columns_of v) (columns_in_pairs p ++ columns_of o) h in
        (λ i. unwrap_or (equal_value p (left Same (columns_in_pairs p) (columns_of o) rest) (value v (left Same (columns_of v) (columns_in_pairs p ++ columns_of o) h) i) i) (value o (right Same (columns_in_pairs p) (columns_of o) rest) i))
    value (Coalesce l) h = present_value l h

    in_value : (l : list.Operands) → All Same (columns_in_list l) → (w : Value) → in_list row w l ≡ in_list other w l
    in_value list.End h w = refl
    in_value (operand item rest) h w = λ i. either (equals w (value item (left Same (columns_of item) (columns_in_list rest) h) i)) (in_value rest (right Same (columns_of item) (columns_in_list rest) h) w i)

    true_value : (p : pairs.CasePairs) → All Same (columns_in_pairs p) → first_true row p ≡ first_true other p
    true_value pairs.End h = refl
    true_value (pair t g rest) h =
        let more : All Same (columns_of g ++ columns_in_pairs rest) = right Same (columns_of t) (columns_of g ++ columns_in_pairs rest) h in
        (λ i. cond (is_true (value t (left Same (columns_of t) (columns_of g ++ columns_in_pairs rest) h) i)) (Some (value g (left Same (columns_of g) (columns_in_pairs rest) more) i)) (true_value rest (right Same (columns_of g) (columns_in_pairs rest) more) i))

    equal_value : (p : pairs.CasePairs) → All Same (columns_in_pairs p) → (w : Value) → first_equal row w p ≡ first_equal other w p
    equal_value pairs.End h w = refl
    equal_value (pair t g rest) h w =
        let more : All Same (columns_of g ++ columns_in_pairs rest) = right Same (columns_of t) (columns_of g ++ columns_in_pairs rest) h in
        (λ i. cond (is_known_true (equals w (value t (left Same (columns_of t) (columns_of g ++ columns_in_pairs rest) h) i))) (Some (value g (left Same (columns_of g) (columns_in_pairs rest) more) i)) (equal_value rest (right Same (columns_of g) (columns_in_pairs rest) more) w i))

    present_value : (l : list.Operands) → All Same (columns_in_list l) → first_present row l ≡ first_present other l
    present_value list.End h = refl
    present_value (operand item rest) h =
        let here : val row item ≡ val other item = value item (left Same (columns_of item) (columns_in_list rest) h) in
        (λ i. cond (is_null (here i)) (present_value rest (right Same (columns_of item) (columns_in_list rest) h) i) (here i))

pub read_their_columns : ValuesReadTheirColumns
read_their_columns row other e h = value row other e h

module _ (n : ℕ) where
  abbrev Less : ℕ → Type 0
  Less k = k < n

  mutual
    from : (e : Expr) → ColumnsBelow n e → All Less (columns_of e)
    from (Column k) h = All-cons Less k [] h (All-nil Less)
    from (Literal v) h = All-nil Less
    from (unary_of op a) h = from a h
    from (binary_of op l r) (h, k) = All-append Less (columns_of l) (columns_of r) (from l h) (from r k)
    from (between_of v l u) (h, k, m) = All-append Less (columns_of v) (columns_of l ++ columns_of u) (from v h) (All-append Less (columns_of l) (columns_of u) (from l k) (from u m))
    from (one_of v l) (h, k) = All-append Less (columns_of v) (columns_in_list l) (from v h) (from_list l k)
    from (case_of p o) (h, k) = All-append Less (columns_in_pairs p) (columns_of o) (from_pairs p h) (from o k)
    from (switch_of v p o) (h, k, m) = All-append Less (columns_of v) (columns_in_pairs p ++ columns_of o) (from v h) (All-append Less (columns_in_pairs p) (columns_of o) (from_pairs p k) (from o m))
    from (Coalesce l) h = from_list l h

    from_list : (l : list.Operands) → EachBelow n l → All Less (columns_in_list l)
    from_list list.End h = All-nil Less
    from_list (operand item rest) (h, k) = All-append Less (columns_of item) (columns_in_list rest) (from item h) (from_list rest k)

    from_pairs : (p : pairs.CasePairs) → PairsBelow n p → All Less (columns_in_pairs p)
    from_pairs pairs.End h = All-nil Less
    from_pairs (pair t g rest) (h, k, m) = All-append Less (columns_of t) (columns_of g ++ columns_in_pairs rest) (from t h) (All-append Less (columns_of g) (columns_in_pairs rest) (from g k) (from_pairs rest m))

  mutual
    to : (e : Expr) → All Less (columns_of e) → ColumnsBelow n e
    to (Column k) h = All-head Less k [] h
    to (Literal v) h = tt
    to (unary_of op a) h = to a h
    to (binary_of op l r) h = (to l (left Less (columns_of l) (columns_of r) h), to r (right Less (columns_of l) (columns_of r) h))
    to (between_of v l u) h =
        let ends : All Less (columns_of l ++ columns_of u) = right Less (columns_of v) (columns_of l ++ columns_of u) h in
        (to v (left Less (columns_of v) (columns_of l ++ columns_of u) h), to l (left Less (columns_of l) (columns_of u) ends), to u (right Less (columns_of l) (columns_of u) ends))
    to (one_of v l) h = (to v (left Less (columns_of v) (columns_in_list l) h), to_list l (right Less (columns_of v) (columns_in_list l) h))
    to (case_of p o) h = (to_pairs p (left Less (columns_in_pairs p) (columns_of o) h), to o (right Less (columns_in_pairs p) (columns_of o) h))
    to (switch_of v p o) h =
        let rest : All Less (columns_in_pairs p ++ columns_of o) = right Less (columns_of v) (columns_in_pairs p ++ columns_of o) h in
        (to v (left Less (columns_of v) (columns_in_pairs p ++ columns_of o) h), to_pairs p (left Less (columns_in_pairs p) (columns_of o) rest), to o (right Less (columns_in_pairs p) (columns_of o) rest))
    to (Coalesce l) h = to_list l h

    to_list : (l : list.Operands) → All Less (columns_in_list l) → EachBelow n l
    to_list list.End h = tt
    to_list (operand item rest) h = (to item (left Less (columns_of item) (columns_in_list rest) h), to_list rest (right Less (columns_of item) (columns_in_list rest) h))

    to_pairs : (p : pairs.CasePairs) → All Less (columns_in_pairs p) → PairsBelow n p
    to_pairs pairs.End h = tt
    to_pairs (pair t g rest) h =
        let more : All Less (columns_of g ++ columns_in_pairs rest) = right Less (columns_of t) (columns_of g ++ columns_in_pairs rest) h in
        (to t (left Less (columns_of t) (columns_of g ++ columns_in_pairs rest) h), to g (left Less (columns_of g) (columns_in_pairs rest) more), to_pairs rest (right Less (columns_of g) (columns_in_pairs rest) more))

pub as_data : ColumnsBelowAsData
as_data n e = (λ h. from n e h, λ h. to n e h)
