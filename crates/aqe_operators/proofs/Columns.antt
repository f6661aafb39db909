-- What is kept of rows, call by call.
use Rattle.std.proofs.Common.{◌≡◌, ℕ, ◌+◌, List, [], ◌∷◌, map, refl, ap, sym, ◌∙◌, arith}
use Rattle.std.specs.Prelude.{fold}
use Rattle.std.specs.Borrow.{Bor}
use Rattle.aqe_values.specs.declared.value.Value.{Value}
use Rattle.aqe_expr.specs.declared.expr.Expr.{Expr}
use Rattle.aqe_expr.specs.Meaning.{val}
use Rattle.aqe_logical.specs.declared.plan.AggCall.{AggCall}
use Rattle.aqe_logical.specs.Answers.{Row}
use Rattle.aqe_logical.specs.Groups.{merged, nothing, single, call_value, finished}
use Rattle.aqe_operators.specs.declared.form.Form.{Form}
use Rattle.aqe_operators.specs.declared.form.Form.TheVariants.{Plain, Partial}
use Rattle.aqe_operators.specs.Forms.{part_by}
use Rattle.aqe_operators.specs.Gathering.{started, stepped}

pub map_map : {X Y Z : Type 0} (f : Y → Z) (g : X → Y) (xs : List X) → map f (map g xs) ≡ map (λ x. f (g x)) xs
map_map f g [] = refl
map_map f g (x ∷ xs) = ap (λ ys. f (g x) ∷ ys) (map_map f g xs)

no_column : (form : Form) (i : ℕ) (rows : List Row) → fold (stepped form i []) [] rows ≡ []
no_column form i [] = refl
no_column form i (row ∷ rows) = no_column form i rows

first_column : (form : Form) (i : ℕ) (call : AggCall) (calls : List AggCall) (v : Value) (values : List Value) (rows : List Row)
    → fold (stepped form i (call ∷ calls)) (v ∷ values) rows ≡ fold (merged call.fun) v (map (part_by form i call) rows) ∷ fold (stepped form (i + 1) calls) values rows
first_column form i call calls v values [] = refl
first_column form i call calls v values (row ∷ rows) =
    first_column form i call calls (merged call.fun v (part_by form i call row)) (stepped form (i + 1) calls values row) rows

pub plain_columns : (keys : Bor (List Expr)) (i : ℕ) (calls : List AggCall) (rows : List Row) → fold (stepped (Plain keys) i calls) (started calls) rows ≡ map (call_value rows) calls
plain_columns keys i [] rows = no_column (Plain keys) i rows
plain_columns keys i (call ∷ calls) rows =
    first_column (Plain keys) i call calls (nothing call.fun) (started calls) rows ∙
    (λ j. fold (merged call.fun) (nothing call.fun) (sym (map_map (single call.fun) (λ row. val row call.arg) rows) j) ∷ plain_columns keys (i + 1) calls rows j)

pub partial_columns : (n i : ℕ) (calls : List AggCall) (rows : List Row) → fold (stepped (Partial n) i calls) (started calls) rows ≡ finished (n + i) calls rows
partial_columns n i [] rows = no_column (Partial n) i rows
partial_columns n i (call ∷ calls) rows =
    let next : n + (i + 1) ≡ (n + i) + 1 = omega arith in
    first_column (Partial n) i call calls (nothing call.fun) (started calls) rows ∙
    ap (λ vs. fold (merged call.fun) (nothing call.fun) (map (part_by (Partial n) i call) rows) ∷ vs) (partial_columns n (i + 1) calls rows ∙ ap (λ m. finished m calls rows) next)
