-- What an expression means at its place: the rules of names, types and aggregate calls.
use Rattle.std.specs.Prelude.{ℕ, ◌+◌, nat_le, Bool, true, false, cond, ◌&&◌, List, [], ◌∷◌, ◌++◌, map, flat_map, filter, length, Option, Some, None, option_map, codes, Ok, Err}
use Rattle.std.specs.Option.{option_map_or}
use Rattle.std.specs.Str.{str_eq_ignore_ascii_case}
use Rattle.aqe_base.specs.declared.status.AnalysisKind.TheVariants.{NoSuchColumn, NestedAggregate}
use Rattle.aqe_values.specs.Bounds.{text_limit}
use Rattle.aqe_values.specs.declared.sql_type.SqlType.{SqlType}
use Rattle.aqe_values.specs.declared.sql_type.SqlType.TheVariants as sql
use Rattle.aqe_expr.specs.declared.expr.BinaryOp.TheVariants as binary
use Rattle.aqe_expr.specs.declared.expr.Expr.{Column}
use Rattle.aqe_logical.specs.declared.plan.AggCall.{AggCall}
use Rattle.aqe_logical.specs.declared.plan.AggFun.{AggFun}
use Rattle.aqe_logical.specs.declared.plan.AggFun.TheVariants.{Count, Sum, Min, Max}
pub use Rattle.aqe_rules.specs.declared.names.Named.{Named}
use Rattle.aqe_rules.specs.Outcomes.{refused, Outcome, upon, each, if_any, provided, the_only}
use Rattle.aqe_rules.specs.Kinds.{is_number}
use Rattle.aqe_rules.specs.Operations as operation
use Rattle.aqe_rules.specs.Operations.{Typed, typed, mismatch}
use Rattle.aqe_rules.specs.Equality.{same_expr}
use Rattle.aqe_rules.specs.Forms.{Forms}

-- names are compared without ASCII case
abbrev pub alike : List ℕ → List ℕ → Bool
alike a b = str_eq_ignore_ascii_case a b

-- an aggregate call, and the type of its values
pub record Call : Type 0 where
  pub call : AggCall
  pub kind : SqlType

-- the alias of a select item, and what its expression means where these aggregate calls may stand
pub record Alias : Type 0 where
  pub name : List ℕ
  pub value : List Call → Outcome Typed

-- Where an expression stands: the columns of the rows that it is read over, the aliases that it may use where no column
-- has the name, and the aggregate calls that may stand in it. Their values are taken to follow the columns.
pub record Place : Type 0 where
  pub columns : List Named
  pub aliases : List Alias
  pub calls : List Call

-- an expression's meaning, and the aggregate calls in it in the order of their use
pub record Reading : Type 0 where
  pub value : Outcome Typed
  pub calls : List Call

-- Names. `name` is the one column that has it, else the one alias; `table.name` is the one column of the items named table.
abbrev pub bears : List ℕ → Named → Bool
bears name column = alike column.name name

abbrev pub is_of : List ℕ → Named → Bool
is_of table column = option_map_or (λ item. alike item table) column.item false

abbrev pub alias_value : List ℕ → Place → Outcome Typed
alias_value name place =
    upon (the_only name (filter (λ alias. alike alias.name name) place.aliases)) (λ alias. alias.value place.calls)

abbrev pub column_or_alias : List ℕ → Place → List Named → Outcome Typed
column_or_alias name place [] = alias_value name place
column_or_alias name place (c ∷ cs) = upon (the_only name (c ∷ cs)) (λ column. Ok column.value)

abbrev pub column_named : List ℕ → Place → Outcome Typed
column_named name place = column_or_alias name place (filter (bears name) place.columns)

-- `table.name` is told whole where it is no longer than a text may be
abbrev pub told : List ℕ → List ℕ → List ℕ
told table name = cond (nat_le (length (table ++ codes "." ++ name)) text_limit) (table ++ codes "." ++ name) name

abbrev pub column_of_item : List ℕ → List ℕ → Place → Outcome Typed
column_of_item table name place =
    upon (the_only (told table name) (filter (λ c. is_of table c && bears name c) place.columns)) (λ column. Ok column.value)

-- Readings of expressions from those of their operands, which are read from left to right before their operator.
abbrev pub leaf : Outcome Typed → Reading
leaf outcome = record { value = outcome; calls = [] }

abbrev pub on_one : Reading → (Typed → Outcome Typed) → Reading
on_one a rule = record { value = upon a.value rule; calls = a.calls }

abbrev pub on_two : Reading → Reading → (Typed → Typed → Outcome Typed) → Reading
on_two a b rule = record { value = upon a.value (λ x. upon b.value (rule x)); calls = a.calls ++ b.calls }

abbrev pub on_three : Reading → Reading → Reading → (Typed → Typed → Typed → Outcome Typed) → Reading
on_three a b c rule = record {
  value = upon a.value (λ x. upon b.value (λ y. upon c.value (rule x y)));
  calls = a.calls ++ b.calls ++ c.calls;
}

abbrev pub values : List Reading → Outcome (List Typed)
values all = each (map (λ a. a.value) all)

abbrev pub calls_in : List Reading → List Call
calls_in all = flat_map (λ a. a.calls) all

abbrev pub on_all : List Reading → (List Typed → Outcome Typed) → Reading
on_all all rule = record { value = upon (values all) rule; calls = calls_in all }

abbrev pub on_one_and_all : Reading → List Reading → (Typed → List Typed → Outcome Typed) → Reading
on_one_and_all a all rule = record {
  value = upon a.value (λ x. upon (values all) (rule x));
  calls = a.calls ++ calls_in all;
}

abbrev pub calls_if_any : Option Reading → List Call
calls_if_any a = option_map_or (λ r. r.calls) a []

abbrev pub value_if_any : Option Reading → Outcome (Option Typed)
value_if_any a = if_any (option_map (λ r. r.value) a)

abbrev pub arm_value : Reading × Reading → Outcome (Typed × Typed)
arm_value arm = upon (arm.0).value (λ test. upon (arm.1).value (λ gives. Ok (test, gives)))

abbrev pub case_reading : Option Reading → List (Reading × Reading) → Option Reading → Reading
case_reading operand arms otherwise = record {
  value = upon (value_if_any operand) (λ a. upon (each (map arm_value arms)) (λ all. upon (value_if_any otherwise) (λ e. operation.case a all e)));
  calls = calls_if_any operand ++ flat_map (λ arm. (arm.0).calls ++ (arm.1).calls) arms ++ calls_if_any otherwise;
}

-- Aggregate calls.
abbrev pub aggregate_named : List ℕ → Option AggFun
aggregate_named name =
    cond (alike name (codes "count")) (Some Count) (cond (alike name (codes "sum")) (Some Sum)
    (cond (alike name (codes "min")) (Some Min) (cond (alike name (codes "max")) (Some Max) None)))

-- sum wants a number; the others take each type; count and sum give BIGINT, min and max the type of their argument
abbrev pub takes : AggFun → SqlType → Bool
takes Sum kind = is_number kind
takes fun kind = true

abbrev pub gives : AggFun → SqlType → SqlType
gives Count kind = sql.BigInt
gives Sum kind = sql.BigInt
gives fun kind = kind

abbrev pub same_fun : AggFun → AggFun → Bool
same_fun Count Count = true
same_fun Sum Sum = true
same_fun Min Min = true
same_fun Max Max = true
same_fun f g = false

abbrev pub same_call : AggCall → AggCall → Bool
same_call a b = same_fun a.fun b.fun && same_expr a.arg b.arg

abbrev pub call_of : AggFun → Typed → Call
call_of fun a = record { call = record { fun = fun; arg = a.expr }; kind = gives fun a.kind }

-- the value of a call is at its place among the calls that may stand here, behind the columns; no other call may
abbrev pub value_of_call : List ℕ → Call → ℕ → List Call → Outcome Typed
value_of_call name call n [] = Err (refused NestedAggregate name)
value_of_call name call n (first ∷ rest) =
    cond (same_call first.call call.call) (Ok (typed (Column n) call.kind)) (value_of_call name call (n + 1) rest)

abbrev pub aggregate_value : List ℕ → AggFun → Place → Typed → Outcome Typed
aggregate_value name fun place a = provided (takes fun a.kind) mismatch
    (value_of_call name (call_of fun a) (length place.columns) place.calls)

-- no aggregate call may stand within an aggregate call
abbrev pub within_call : Place → Place
within_call place = record { columns = place.columns; aliases = place.aliases; calls = [] }

-- the call itself, where its argument has a meaning that it takes
abbrev pub call_made : AggFun → Outcome Typed → List Call
call_made fun (Ok a) = cond (takes fun a.kind) (call_of fun a ∷ []) []
call_made fun (Err check) = []

-- one argument, or a wrong number of them
abbrev pub the_argument : List ℕ → List Typed → Outcome Typed
the_argument name (a ∷ []) = Ok a
the_argument name all = Err (refused NoSuchColumn name)

abbrev pub argument_value : List ℕ → List Reading → Outcome Typed
argument_value name all = upon (values all) (the_argument name)

abbrev pub aggregate_reading : List ℕ → AggFun → Place → List Reading → Reading
aggregate_reading name fun place all = record {
  value = upon (argument_value name all) (aggregate_value name fun place);
  calls = call_made fun (argument_value name all);
}

-- `count(*)` counts a literal that is not NULL
abbrev pub counted : Typed
counted = operation.number false 1 false

-- the other functions: coalesce takes one argument or more, length one; another function there is not
abbrev pub function_value : List ℕ → List Typed → Outcome Typed
function_value name [] = Err (refused NoSuchColumn name)
function_value name (a ∷ rest) =
    cond (alike name (codes "coalesce")) (operation.coalesce (a ∷ rest))
    (cond (alike name (codes "length")) (upon (the_argument name (a ∷ rest)) operation.length_of) (Err (refused NoSuchColumn name)))

abbrev pub call_reading : List ℕ → List (Place → Reading) → Place → Option AggFun → Reading
call_reading name arguments place (Some fun) = aggregate_reading name fun place (map (λ a. a (within_call place)) arguments)
call_reading name arguments place None = on_all (map (λ a. a place) arguments) (function_value name)

-- the rules
abbrev pub readings : Forms (Place → Reading)
readings = record {
  number = λ negative n long place. leaf (Ok (operation.number negative n long));
  literal = λ content place. leaf (Ok (operation.text content));
  boolean = λ b place. leaf (Ok (operation.boolean b));
  null = λ place. leaf (Ok operation.null);
  column = λ name place. leaf (column_named name place);
  table_column = λ table name place. leaf (column_of_item table name place);
  paren = λ a. a;
  cast = λ kind a place. on_one (a place) (λ x. Ok (operation.cast kind x));
  case = λ operand arms otherwise place.
      case_reading (option_map (λ a. a place) operand) (map (λ arm. (arm.0 place, arm.1 place)) arms) (option_map (λ a. a place) otherwise);
  count_all = λ place. aggregate_reading (codes "count") Count place (leaf (Ok counted) ∷ []);
  call = λ name arguments place. call_reading name arguments place (aggregate_named name);
  with_sign = λ op a place. on_one (a place) (operation.signed_operation op);
  product = λ op a b place. on_two (a place) (b place) (operation.product_operation op);
  sum = λ op a b place. on_two (a place) (b place) (operation.sum_operation op);
  compare = λ op a b place. on_two (a place) (b place) (operation.comparison op);
  between = λ a low high place. on_three (a place) (low place) (high place) operation.between;
  in_list = λ a all place. on_one_and_all (a place) (map (λ b. b place) all) operation.in_list;
  like = λ a b place. on_two (a place) (b place) operation.like;
  is = λ truth a place. on_one (a place) (operation.is_operation truth);
  negation = λ a place. on_one (a place) operation.negation;
  both = λ a b place. on_two (a place) (b place) (operation.logical binary.And);
  either = λ a b place. on_two (a place) (b place) (operation.logical binary.Or);
}
