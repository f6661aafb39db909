-- What each form of a plan answers fits its columns, where what stands below it does.
use Rattle.std.proofs.Common.{◌≡◌, ℕ, Bool, not, cond, List, [], ◌∷◌, ◌++◌, map, drop, length, refl, sym, Option, Some, None, subst}
use Rattle.std.specs.Prelude.{filter, All}
use Rattle.std.proofs.lemmas.List.Elements.{All-nil, All-cons, All-head, All-tail, All-append, All-map, All-filter, All-take, All-drop, All-weaker}
use Rattle.std.proofs.lemmas.List.Sorted.{All-permutation}
use Rattle.aqe_base.specs.declared.join_kind.JoinKind.{JoinKind}
use Rattle.aqe_base.specs.declared.join_kind.JoinKind.TheVariants.{Inner, Cross, LeftOuter, RightOuter, FullOuter, LeftSemi, LeftAnti}
use Rattle.aqe_values.specs.declared.schema.Field.{Field}
use Rattle.aqe_values.specs.Equality.{row_eq}
use Rattle.aqe_expr.specs.declared.expr.Expr.{Expr}
use Rattle.aqe_expr.specs.Meaning.{holds}
use Rattle.aqe_logical.specs.declared.plan.AggCall.{AggCall}
use Rattle.aqe_logical.specs.declared.plan.SortKey.{SortKey}
use Rattle.aqe_logical.specs.declared.plan.Logical.{Logical, OneRow, Scan}
use Rattle.aqe_logical.specs.Shapes.{filtered, projected, joined, aggregated, united, sorted, limited}
use Rattle.aqe_logical.specs.Answers.{Tables, Row, AnswerOf, table_rows, meets, at_most_rows}
use Rattle.aqe_logical.specs.Columns.{width, schema_of, shows_right}
use Rattle.aqe_logical.specs.Groups.{row_of, distinct, group_keys, group_rows, rows_with, call_value}
use Rattle.aqe_logical.specs.Joins.{nulls, where_none, with_matches, left_over, half, pairs}
use Rattle.aqe_laws.specs.Scans.{scanned_tables}
use Rattle.aqe_type_laws.specs.Fits.{FitsColumns}
use Rattle.aqe_type_laws.specs.Plans.{FitColumns, AnswersFit, RowsFit, ScansFit}

-- rows side by side, and rows of NULLs
pub beside : (a b : List Field) (x y : Row) → FitsColumns a x → FitsColumns b y → FitsColumns (a ++ b) (x ++ y)
beside [] b [] y h k = k
beside [] b (v ∷ x) y h k = absurd h
beside (f ∷ a) b [] y h k = absurd h
beside (f ∷ a) b (v ∷ x) y h k = (h.0, beside a b x y h.1 k)

pub nulls_fit : (a : List Field) → FitsColumns a (nulls (length a))
nulls_fit [] = tt
nulls_fit (f ∷ a) = (tt, nulls_fit a)

where_none-all : (P : Row → Type 0) (ms lone met : List Row) → All P lone → All P met → All P (where_none ms lone met)
where_none-all P [] lone met h k = h
where_none-all P (m ∷ ms) lone met h k = k

-- a join has the columns of both sides, or for semi and anti joins of the left one
abbrev join_columns : JoinKind → List Field → List Field → List Field
join_columns kind a b = cond (shows_right kind) (a ++ b) a

pairs-fit : (a b : List Field) (x : Row) (ms : List Row) → FitsColumns a x → FitColumns b ms → FitColumns (a ++ b) (map (λ y. x ++ y) ms)
pairs-fit a b x ms h all = All-map (FitsColumns (a ++ b)) (λ y. x ++ y) ms (All-weaker (FitsColumns b) (λ y. FitsColumns (a ++ b) (x ++ y)) (λ y k. beside a b x y h k) ms all)

one-fits : (a : List Field) (x : Row) → FitsColumns a x → FitColumns a (x ∷ [])
one-fits a x h = All-cons (FitsColumns a) x [] h (All-nil (FitsColumns a))

with_matches-fit : (kind : JoinKind) (a b : List Field) (x : Row) → FitsColumns a x → (ms : List Row) → FitColumns b ms → FitColumns (join_columns kind a b) (with_matches kind (length b) x ms)
with_matches-fit Inner a b x h ms all = pairs-fit a b x ms h all
with_matches-fit Cross a b x h ms all = pairs-fit a b x ms h all
with_matches-fit RightOuter a b x h ms all = pairs-fit a b x ms h all
with_matches-fit LeftOuter a b x h ms all = where_none-all (FitsColumns (a ++ b)) ms ((x ++ nulls (length b)) ∷ []) (map (λ y. x ++ y) ms) (one-fits (a ++ b) (x ++ nulls (length b)) (beside a b x (nulls (length b)) h (nulls_fit b))) (pairs-fit a b x ms h all)
with_matches-fit FullOuter a b x h ms all = where_none-all (FitsColumns (a ++ b)) ms ((x ++ nulls (length b)) ∷ []) (map (λ y. x ++ y) ms) (one-fits (a ++ b) (x ++ nulls (length b)) (beside a b x (nulls (length b)) h (nulls_fit b))) (pairs-fit a b x ms h all)
with_matches-fit LeftSemi a b x h ms all = where_none-all (FitsColumns a) ms [] (x ∷ []) (All-nil (FitsColumns a)) (one-fits a x h)
with_matches-fit LeftAnti a b x h ms all = where_none-all (FitsColumns a) ms (x ∷ []) [] (one-fits a x h) (All-nil (FitsColumns a))

left_over-fit : (kind : JoinKind) (a b : List Field) (y : Row) → FitsColumns b y → (ms : List Row) → FitColumns a ms → FitColumns (join_columns kind a b) (left_over kind (length a) y ms)
left_over-fit RightOuter a b y h ms all = where_none-all (FitsColumns (a ++ b)) ms ((nulls (length a) ++ y) ∷ []) [] (one-fits (a ++ b) (nulls (length a) ++ y) (beside a b (nulls (length a)) y (nulls_fit a) h)) (All-nil (FitsColumns (a ++ b)))
left_over-fit FullOuter a b y h ms all = where_none-all (FitsColumns (a ++ b)) ms ((nulls (length a) ++ y) ∷ []) [] (one-fits (a ++ b) (nulls (length a) ++ y) (beside a b (nulls (length a)) y (nulls_fit a) h)) (All-nil (FitsColumns (a ++ b)))
left_over-fit Inner a b y h ms all = All-nil (FitsColumns (a ++ b))
left_over-fit Cross a b y h ms all = All-nil (FitsColumns (a ++ b))
left_over-fit LeftOuter a b y h ms all = All-nil (FitsColumns (a ++ b))
left_over-fit LeftSemi a b y h ms all = All-nil (FitsColumns a)
left_over-fit LeftAnti a b y h ms all = All-nil (FitsColumns a)

half-all : (P Q R : Row → Type 0) (each : Row → List Row → List Row) → ((x : Row) → P x → (ms : List Row) → All Q ms → All R (each x ms)) → (meets : Row → Row → Bool) (a b : List Row) → All P a → All Q b → All R (half each meets a b)
half-all P Q R each f meets [] b h k = All-nil R
half-all P Q R each f meets (x ∷ xs) b h k =
    All-append R (each x (filter (meets x) b)) (half each meets xs b)
    (f x (All-head P x xs h) (filter (meets x) b) (All-filter (meets x) Q b k))
    (half-all P Q R each f meets xs b (All-tail P x xs h) k)

join-fits : (kind : JoinKind) (a b : List Field) (meets : Row → Row → Bool) (xs ys : List Row) → FitColumns a xs → FitColumns b ys → FitColumns (join_columns kind a b) (pairs kind (length a) (length b) meets xs ys)
join-fits kind a b meets xs ys h k =
    All-append (FitsColumns (join_columns kind a b)) (half (with_matches kind (length b)) meets xs ys) (half (left_over kind (length a)) (λ y x. meets x y) ys xs)
    (half-all (FitsColumns a) (FitsColumns b) (FitsColumns (join_columns kind a b)) (with_matches kind (length b)) (with_matches-fit kind a b) meets xs ys h k)
    (half-all (FitsColumns b) (FitsColumns a) (FitsColumns (join_columns kind a b)) (left_over kind (length a)) (left_over-fit kind a b) (λ y x. meets x y) ys xs k h)

-- groups: the key of each is the key of a row, or the empty key of any row
distinct-all : (P : Row → Type 0) (ks : List Row) → All P ks → All P (distinct ks)
distinct-all P [] h = All-nil P
distinct-all P (k ∷ ks) h =
    All-cons P k (filter (λ j. not (row_eq k j)) (distinct ks)) (All-head P k ks h)
    (All-filter (λ j. not (row_eq k j)) P (distinct ks) (distinct-all P ks (All-tail P k ks h)))

abbrev IsKeyOf : List Field → List Expr → Row → Type 0
IsKeyOf columns keys k = (row : Row) × FitsColumns columns row × (k ≡ row_of keys row)

keys-of-rows : (columns : List Field) (keys : List Expr) (rows : List Row) → FitColumns columns rows → All (IsKeyOf columns keys) (map (row_of keys) rows)
keys-of-rows columns keys rows h = All-map (IsKeyOf columns keys) (row_of keys) rows (All-weaker (FitsColumns columns) (λ row. IsKeyOf columns keys (row_of keys row)) (λ row f. (row, f, refl)) rows h)

groups-have-keys : (columns : List Field) (keys : List Expr) (rows : List Row) → FitColumns columns rows → All (IsKeyOf columns keys) (group_keys (length keys) (map (row_of keys) rows))
groups-have-keys columns [] rows h = All-cons (IsKeyOf columns []) [] [] (nulls (length columns), nulls_fit columns, refl) (All-nil (IsKeyOf columns []))
groups-have-keys columns (e ∷ es) rows h = distinct-all (IsKeyOf columns (e ∷ es)) (map (row_of (e ∷ es)) rows) (keys-of-rows columns (e ∷ es) rows h)

groups-are : (columns : List Field) (Q : Row → Type 0) (keys : List Expr) (calls : List AggCall) (rows : List Row) →
    ((row : Row) (group : List Row) → FitsColumns columns row → FitColumns columns group → Q (row_of keys row ++ map (call_value group) calls)) →
    FitColumns columns rows → All Q (group_rows (length keys) (row_of keys) calls rows)
groups-are columns Q keys calls rows made h =
    All-map Q (λ k. k ++ map (call_value (rows_with (row_of keys) k rows)) calls) (group_keys (length keys) (map (row_of keys) rows))
    (All-weaker (IsKeyOf columns keys) (λ k. Q (k ++ map (call_value (rows_with (row_of keys) k rows)) calls))
    (λ k is. subst (λ j. Q (j ++ map (call_value (rows_with (row_of keys) k rows)) calls)) (sym is.2)
    (made is.0 (rows_with (row_of keys) k rows) is.1 (All-filter (λ row. row_eq k (row_of keys row)) (FitsColumns columns) rows h)))
    (group_keys (length keys) (map (row_of keys) rows)) (groups-have-keys columns keys rows h))

at_most-all : (P : Row → Type 0) (count : Option ℕ) (rows : List Row) → All P rows → All P (at_most_rows count rows)
at_most-all P None rows h = h
at_most-all P (Some n) rows h = All-take P n rows h

-- over the scans of two sides
left_scans : {X : Type 0} (P : X → Type 0) (xs ys : List X) → All P (xs ++ ys) → All P xs
left_scans P [] ys h = All-nil P
left_scans P (x ∷ xs) ys h = All-cons P x xs (All-head P x (xs ++ ys) h) (left_scans P xs ys (All-tail P x (xs ++ ys) h))

right_scans : {X : Type 0} (P : X → Type 0) (xs ys : List X) → All P (xs ++ ys) → All P ys
right_scans P [] ys h = h
right_scans P (x ∷ xs) ys h = right_scans P xs ys (All-tail P x (xs ++ ys) h)

-- Each form of a plan: what its answers' rows are, where those of the plans within it are so.
module _ (tables : Tables) where
  abbrev pub AnswersAre : (Row → Type 0) → Logical → Type 0
  AnswersAre Q plan = (l : List Row) → AnswerOf tables plan l → All Q l

  pub one_row-fits : AnswersFit tables OneRow
  one_row-fits l h = rw h (one-fits [] [] tt)

  pub scan-fits : (table : ℕ) (schema : List Field) → ScansFit tables (Scan table schema) → AnswersFit tables (Scan table schema)
  scan-fits table schema f l h = All-permutation (FitsColumns schema) (table_rows tables table) l h (All-head (RowsFit tables) (table, schema) [] f)

  pub left-fit : (left right : Logical) → All (RowsFit tables) (scanned_tables left ++ scanned_tables right) → ScansFit tables left
  left-fit left right f = left_scans (RowsFit tables) (scanned_tables left) (scanned_tables right) f

  pub right-fit : (left right : Logical) → All (RowsFit tables) (scanned_tables left ++ scanned_tables right) → ScansFit tables right
  right-fit left right f = right_scans (RowsFit tables) (scanned_tables left) (scanned_tables right) f

  pub filtered-are : (Q : Row → Type 0) (condition : Expr) (child : Logical) → AnswersAre Q child → AnswersAre Q (filtered condition child)
  filtered-are Q condition child f l (rows, h, e) = rw e (All-filter (holds condition) Q rows (f rows h))

  pub projected-are : (P Q : Row → Type 0) (items : List Expr) (schema : List Field) (child : Logical) → ((row : Row) → P row → Q (row_of items row)) → AnswersAre P child → AnswersAre Q (projected items schema child)
  projected-are P Q items schema child made f l (rows, h, e) = rw e (All-map Q (row_of items) rows (All-weaker P (λ row. Q (row_of items row)) made rows (f rows h)))

  pub joined-fits : (kind : JoinKind) (condition : Expr) (left right : Logical) → AnswersFit tables left → AnswersFit tables right → AnswersFit tables (joined kind condition left right)
  joined-fits kind condition left right f g l (a, b, h, k, p) =
      All-permutation (FitsColumns (schema_of (joined kind condition left right))) (pairs kind (width left) (width right) (meets condition) a b) l p
      (join-fits kind (schema_of left) (schema_of right) (meets condition) a b (f a h) (g b k))

  pub aggregated-are : (Q : Row → Type 0) (keys : List Expr) (calls : List AggCall) (schema : List Field) (child : Logical) →
      ((row : Row) (group : List Row) → FitsColumns (schema_of child) row → FitColumns (schema_of child) group → Q (row_of keys row ++ map (call_value group) calls)) →
      AnswersFit tables child → AnswersAre Q (aggregated keys calls schema child)
  aggregated-are Q keys calls schema child made f l (rows, h, p) =
      All-permutation Q (group_rows (length keys) (row_of keys) calls rows) l p (groups-are (schema_of child) Q keys calls rows made (f rows h))

  pub united-fits : (left right : Logical) → ((row : Row) → FitsColumns (schema_of right) row → FitsColumns (schema_of left) row) → AnswersFit tables left → AnswersFit tables right → AnswersFit tables (united left right)
  united-fits left right same f g l (a, b, h, k, p) =
      All-permutation (FitsColumns (schema_of left)) (a ++ b) l p
      (All-append (FitsColumns (schema_of left)) a b (f a h) (All-weaker (FitsColumns (schema_of right)) (FitsColumns (schema_of left)) same b (g b k)))

  pub sorted-are : (Q : Row → Type 0) (keys : List SortKey) (child : Logical) → AnswersAre Q child → AnswersAre Q (sorted keys child)
  sorted-are Q keys child f l (rows, h, p, order) = All-permutation Q rows l p (f rows h)

  pub limited-are : (Q : Row → Type 0) (count : Option ℕ) (skip : ℕ) (child : Logical) → AnswersAre Q child → AnswersAre Q (limited count skip child)
  limited-are Q count skip child f l (rows, h, e) = rw e (at_most-all Q count (drop skip rows) (All-drop Q skip rows (f rows h)))
