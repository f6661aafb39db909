-- The meaning of an expression at a place has values of its type, over rows that the place may be read over.
use Rattle.std.proofs.Common.{ℕ, ◌+◌, false, cond, ◌&&◌, List, [], ◌∷◌, ◌++◌, map, filter, flat_map, length, Option, Some, None, Ok, Err, option_map, codes, sym, subst, ◌∙◌}
use Rattle.std.specs.Prelude.{All}
use Rattle.std.proofs.lemmas.List.Elements.{All-nil, All-cons, All-head, All-append, All-map, All-filter, All-weaker}
use Rattle.aqe_base.specs.declared.status.AnalysisKind.TheVariants.{NoSuchColumn}
use Rattle.aqe_values.specs.declared.value.Value.{Value}
use Rattle.aqe_values.specs.declared.sql_type.SqlType.{SqlType}
use Rattle.aqe_expr.specs.declared.expr.BinaryOp.TheVariants as binary
use Rattle.aqe_expr.specs.declared.expr.Expr.{Column}
use Rattle.aqe_logical.specs.declared.plan.AggFun.{AggFun}
use Rattle.aqe_logical.specs.declared.plan.AggFun.TheVariants.{Count}
use Rattle.aqe_trees.specs.declared.expression.OrTree.{OrTree}
use Rattle.aqe_rules.specs.Outcomes.{refused, Outcome, upon, each, the_only}
use Rattle.aqe_rules.specs.Operations as operation
use Rattle.aqe_rules.specs.declared.typed.Typed.{Typed}
use Rattle.aqe_rules.specs.Operations.{typed, mismatch}
use Rattle.aqe_rules.specs.declared.names.Named.{Named}
use Rattle.aqe_rules.specs.Readings.{alike, Alias, Call, Place, Reading, bears, is_of, column_or_alias, column_named, told, column_of_item, leaf, on_one, on_two, on_three, values, calls_in, on_all, on_one_and_all, calls_if_any, value_if_any, arm_value, case_reading, aggregate_named, takes, same_call, call_of, value_of_call, aggregate_value, within_call, call_made, the_argument, argument_value, aggregate_reading, counted, function_value, call_reading, readings}
use Rattle.aqe_rules.specs.Expressions.{read}
use Rattle.aqe_rules.proofs.Gives.{Gives, IfAny, gives_upon, gives_provided, gives_each, gives_only, gives_weaker}
use Rattle.aqe_laws.proofs.OperationsBelow.{either_one}
use Rattle.aqe_laws.proofs.Readings.{flat-all}
use Rattle.aqe_laws.proofs.Trees.{Keeps, made_of-keeps}
use Rattle.aqe_type_laws.specs.Fits.{IsOf}
use Rattle.aqe_type_laws.proofs.OperationsTyped as typing
use Rattle.aqe_type_laws.proofs.OperationsTyped.{Typed_over, ArmTyped, either_known}
use Rattle.aqe_type_laws.proofs.RowsTyped.{Front, CallTyped, call_of-typed, CallsStand, same_call-value}

-- the types of columns
abbrev pub kinds_of : List Named → List SqlType
kinds_of columns = map (λ c. c.value.kind) columns

-- the rows over which an expression with these calls is read, behind n values of these types
abbrev pub Standing : List SqlType → ℕ → List Call → List Value → Type 0
Standing kinds n calls row = Front kinds row × CallsStand kinds n calls row

abbrev pub Stands : Place → List Value → Type 0
Stands place row = Standing (kinds_of place.columns) (length place.columns) place.calls row

-- what columns and aliases are, and what a place is
abbrev pub ColumnTyped : List SqlType → Named → Type 0
ColumnTyped kinds c = Typed_over (Front kinds) c.value

abbrev pub AliasTyped : List SqlType → ℕ → Alias → Type 0
AliasTyped kinds n alias = (calls : List Call) → Gives (Typed_over (Standing kinds n calls)) (alias.value calls)

abbrev pub PlaceTyped : Place → Type 0
PlaceTyped place = All (ColumnTyped (kinds_of place.columns)) place.columns × All (AliasTyped (kinds_of place.columns) (length place.columns)) place.aliases

abbrev pub ReadsTyped : List SqlType → (List Value → Type 0) → Reading → Type 0
ReadsTyped kinds R r = Gives (Typed_over R) r.value × All (CallTyped kinds) r.calls

abbrev pub GoodTyped : (Place → Reading) → Type 0
GoodTyped a = (place : Place) → PlaceTyped place → ReadsTyped (kinds_of place.columns) (Stands place) (a place)

named-typed : (name : List ℕ) (place : Place) (cs : List Named) → PlaceTyped place → All (ColumnTyped (kinds_of place.columns)) cs → Gives (Typed_over (Stands place)) (column_or_alias name place cs)
named-typed name place [] (h, k) all =
    gives_upon (AliasTyped (kinds_of place.columns) (length place.columns)) (Typed_over (Stands place))
    (the_only name (filter (λ alias. alike alias.name name) place.aliases)) (λ alias. alias.value place.calls)
    (gives_only (AliasTyped (kinds_of place.columns) (length place.columns)) name (filter (λ alias. alike alias.name name) place.aliases)
    (All-filter (λ alias. alike alias.name name) (AliasTyped (kinds_of place.columns) (length place.columns)) place.aliases k)) (λ alias fits. fits place.calls)
named-typed name place (c ∷ cs) (h, k) all =
    gives_upon (ColumnTyped (kinds_of place.columns)) (Typed_over (Stands place)) (the_only name (c ∷ cs)) (λ c. Ok c.value)
    (gives_only (ColumnTyped (kinds_of place.columns)) name (c ∷ cs) all) (λ c fits row r. fits row r.0)

of_item-typed : (table name : List ℕ) (place : Place) → PlaceTyped place → Gives (Typed_over (Stands place)) (column_of_item table name place)
of_item-typed table name place (h, k) =
    gives_upon (ColumnTyped (kinds_of place.columns)) (Typed_over (Stands place))
    (the_only (told table name) (filter (λ c. is_of table c && bears name c) place.columns)) (λ c. Ok c.value)
    (gives_only (ColumnTyped (kinds_of place.columns)) (told table name) (filter (λ c. is_of table c && bears name c) place.columns)
    (All-filter (λ c. is_of table c && bears name c) (ColumnTyped (kinds_of place.columns)) place.columns h)) (λ c fits row r. fits row r.0)

-- readings made of others
module _ (kinds : List SqlType) (R : List Value → Type 0) where
  abbrev T : Typed → Type 0
  T a = Typed_over R a

  abbrev Reads : Reading → Type 0
  Reads r = ReadsTyped kinds R r

  abbrev Calls : List Call → Type 0
  Calls calls = All (CallTyped kinds) calls

  leaf-reads : (o : Outcome Typed) → Gives T o → Reads (leaf o)
  leaf-reads o h = (h, All-nil (CallTyped kinds))

  one-reads : (a : Reading) (rule : Typed → Outcome Typed) → ((x : Typed) → T x → Gives T (rule x)) → Reads a → Reads (on_one a rule)
  one-reads a rule h (k, calls) = (gives_upon T T a.value rule k h, calls)

  two-reads : (a b : Reading) (rule : Typed → Typed → Outcome Typed) → ((x y : Typed) → T x → T y → Gives T (rule x y)) → Reads a → Reads b → Reads (on_two a b rule)
  two-reads a b rule h (k, calls) (l, more) = (
    gives_upon T T a.value (λ x. upon b.value (rule x)) k (λ x p. gives_upon T T b.value (rule x) l (λ y q. h x y p q)),
    All-append (CallTyped kinds) a.calls b.calls calls more,
  )

  three-reads : (a b c : Reading) (rule : Typed → Typed → Typed → Outcome Typed) → ((x y z : Typed) → T x → T y → T z → Gives T (rule x y z)) → Reads a → Reads b → Reads c → Reads (on_three a b c rule)
  three-reads a b c rule h (k, calls) (l, more) (m, most) = (
    gives_upon T T a.value (λ x. upon b.value (λ y. upon c.value (rule x y))) k (λ x p.
        gives_upon T T b.value (λ y. upon c.value (rule x y)) l (λ y q. gives_upon T T c.value (rule x y) m (λ z r. h x y z p q r))),
    All-append (CallTyped kinds) (a.calls ++ b.calls) c.calls (All-append (CallTyped kinds) a.calls b.calls calls more) most,
  )

  values-read : (all : List Reading) → All Reads all → Gives (All T) (values all)
  values-read all h = gives_each T (map (λ a. a.value) all) (All-map (Gives T) (λ a. a.value) all (All-weaker Reads (λ a. Gives T a.value) (λ a p. p.0) all h))

  calls-read : (all : List Reading) → All Reads all → Calls (calls_in all)
  calls-read all h = flat-all (CallTyped kinds) (λ a. a.calls) all (All-weaker Reads (λ a. Calls a.calls) (λ a p. p.1) all h)

  all-reads : (all : List Reading) (rule : List Typed → Outcome Typed) → ((xs : List Typed) → All T xs → Gives T (rule xs)) → All Reads all → Reads (on_all all rule)
  all-reads all rule h k = (gives_upon (All T) T (values all) rule (values-read all k) h, calls-read all k)

  one_and_all-reads : (a : Reading) (all : List Reading) (rule : Typed → List Typed → Outcome Typed) → ((x : Typed) (xs : List Typed) → T x → All T xs → Gives T (rule x xs)) →
      Reads a → All Reads all → Reads (on_one_and_all a all rule)
  one_and_all-reads a all rule h (k, calls) l = (
    gives_upon T T a.value (λ x. upon (values all) (rule x)) k (λ x p. gives_upon (All T) T (values all) (rule x) (values-read all l) (λ xs q. h x xs p q)),
    All-append (CallTyped kinds) a.calls (calls_in all) calls (calls-read all l),
  )

  abbrev ArmReads : (Reading × Reading) → Type 0
  ArmReads arm = Reads arm.0 × Reads arm.1

  arm-reads : (arm : Reading × Reading) → ArmReads arm → Gives (ArmTyped R) (arm_value arm)
  arm-reads arm ((h, c), (k, d)) =
      gives_upon T (ArmTyped R) (arm.0).value (λ test. upon (arm.1).value (λ gives. Ok (test, gives))) h (λ x p.
      gives_upon T (ArmTyped R) (arm.1).value (λ gives. Ok (x, gives)) k (λ y q. (p, q)))

  if_any-value : (a : Option Reading) → IfAny Reads a → Gives (IfAny T) (value_if_any a)
  if_any-value None h = tt
  if_any-value (Some r) (h, c) = gives_upon T (IfAny T) r.value (λ t. Ok (Some t)) h (λ t p. p)

  if_any-calls : (a : Option Reading) → IfAny Reads a → Calls (calls_if_any a)
  if_any-calls None h = All-nil (CallTyped kinds)
  if_any-calls (Some r) (h, c) = c

  case-reads : (a : Option Reading) (arms : List (Reading × Reading)) (e : Option Reading) → IfAny Reads a → All ArmReads arms → IfAny Reads e → Reads (case_reading a arms e)
  case-reads a arms e h k l = (
    gives_upon (IfAny T) T (value_if_any a) (λ x. upon (each (map arm_value arms)) (λ all. upon (value_if_any e) (λ y. operation.case x all y))) (if_any-value a h) (λ x p.
        gives_upon (All (ArmTyped R)) T (each (map arm_value arms)) (λ all. upon (value_if_any e) (λ y. operation.case x all y))
        (gives_each (ArmTyped R) (map arm_value arms) (All-map (Gives (ArmTyped R)) arm_value arms (All-weaker ArmReads (λ arm. Gives (ArmTyped R) (arm_value arm)) (λ arm q. arm-reads arm q) arms k))) (λ all q.
        gives_upon (IfAny T) T (value_if_any e) (λ y. operation.case x all y) (if_any-value e l) (λ y r. typing.case-typed R x all y q r))),
    All-append (CallTyped kinds) (calls_if_any a ++ flat_map (λ arm. (arm.0).calls ++ (arm.1).calls) arms) (calls_if_any e)
        (All-append (CallTyped kinds) (calls_if_any a) (flat_map (λ arm. (arm.0).calls ++ (arm.1).calls) arms) (if_any-calls a h)
        (flat-all (CallTyped kinds) (λ arm. (arm.0).calls ++ (arm.1).calls) arms
        (All-weaker ArmReads (λ arm. Calls ((arm.0).calls ++ (arm.1).calls)) (λ arm q. All-append (CallTyped kinds) (arm.0).calls (arm.1).calls (q.0).1 (q.1).1) arms k))) (if_any-calls e l),
  )

  argument-typed : (name : List ℕ) (xs : List Typed) → All T xs → Gives T (the_argument name xs)
  argument-typed name [] h = tt
  argument-typed name (a ∷ []) h = All-head T a [] h
  argument-typed name (a ∷ b ∷ more) h = tt

  argument_value-typed : (name : List ℕ) (all : List Reading) → All Reads all → Gives T (argument_value name all)
  argument_value-typed name all h = gives_upon (All T) T (values all) (the_argument name) (values-read all h) (λ xs p. argument-typed name xs p)

  function-typed : (name : List ℕ) (xs : List Typed) → All T xs → Gives T (function_value name xs)
  function-typed name [] h = tt
  function-typed name (a ∷ rest) h =
      either_one (Gives T) (alike name (codes "coalesce")) (operation.coalesce (a ∷ rest))
      (cond (alike name (codes "length")) (upon (the_argument name (a ∷ rest)) operation.length_of) (Err (refused NoSuchColumn name)))
      (typing.coalesce-typed R (a ∷ rest) h)
      (either_one (Gives T) (alike name (codes "length")) (upon (the_argument name (a ∷ rest)) operation.length_of) (Err (refused NoSuchColumn name))
      (gives_upon T T (the_argument name (a ∷ rest)) operation.length_of (argument-typed name (a ∷ rest) h) (λ x p. typing.length-typed R x)) tt)

-- aggregate calls
value_of_call-typed : (kinds : List SqlType) (R : List Value → Type 0) (name : List ℕ) (call : Call) (n : ℕ) (calls : List Call) → CallTyped kinds call →
    ((row : List Value) → R row → CallsStand kinds n calls row) → Gives (Typed_over R) (value_of_call name call n calls)
value_of_call-typed kinds R name call n [] h stand = tt
value_of_call-typed kinds R name call n (first ∷ rest) h stand =
    either_known (Gives (Typed_over R)) (same_call first.call call.call) (Ok (typed (Column n) call.kind)) (value_of_call name call (n + 1) rest)
    (λ e row r. let s : CallsStand kinds n (first ∷ rest) row = stand row r in
    subst (λ v. IsOf v call.kind) (sym ((s.0).2 ∙ same_call-value first.call call.call (s.0).0 e)) (h (s.0).0 (s.0).1))
    (value_of_call-typed kinds R name call (n + 1) rest h (λ row r. (stand row r).1))

call_made-typed : (kinds : List SqlType) (fun : AggFun) (o : Outcome Typed) → Gives (Typed_over (Front kinds)) o → All (CallTyped kinds) (call_made fun o)
call_made-typed kinds fun (Ok a) h =
    either_one (All (CallTyped kinds)) (takes fun a.kind) (call_of fun a ∷ []) [] (All-cons (CallTyped kinds) (call_of fun a) [] (call_of-typed kinds fun a h) (All-nil (CallTyped kinds))) (All-nil (CallTyped kinds))
call_made-typed kinds fun (Err check) h = All-nil (CallTyped kinds)

aggregate-reads : (name : List ℕ) (fun : AggFun) (place : Place) (all : List Reading) → All (ReadsTyped (kinds_of place.columns) (Front (kinds_of place.columns))) all →
    ReadsTyped (kinds_of place.columns) (Stands place) (aggregate_reading name fun place all)
aggregate-reads name fun place all h = (
  gives_upon (Typed_over (Front (kinds_of place.columns))) (Typed_over (Stands place)) (argument_value name all) (aggregate_value name fun place) argument (λ a p.
      gives_provided (Typed_over (Stands place)) (takes fun a.kind) mismatch (value_of_call name (call_of fun a) (length place.columns) place.calls)
      (value_of_call-typed (kinds_of place.columns) (Stands place) name (call_of fun a) (length place.columns) place.calls (call_of-typed (kinds_of place.columns) fun a p) (λ row r. r.1))),
  call_made-typed (kinds_of place.columns) fun (argument_value name all) argument,
)
  where
    argument : Gives (Typed_over (Front (kinds_of place.columns))) (argument_value name all)
    argument = argument_value-typed (kinds_of place.columns) (Front (kinds_of place.columns)) name all h

-- a place without calls
within-reads : (kinds : List SqlType) (n : ℕ) (r : Reading) → ReadsTyped kinds (Standing kinds n []) r → ReadsTyped kinds (Front kinds) r
within-reads kinds n r (h, c) = (gives_weaker (Typed_over (Standing kinds n [])) (Typed_over (Front kinds)) (λ a p row f. p row (f, tt)) r.value h, c)

at-place : (place : Place) → PlaceTyped place → (all : List (Place → Reading)) → All GoodTyped all → All (ReadsTyped (kinds_of place.columns) (Stands place)) (map (λ a. a place) all)
at-place place fits all h =
    All-map (ReadsTyped (kinds_of place.columns) (Stands place)) (λ a. a place) all
    (All-weaker GoodTyped (λ a. ReadsTyped (kinds_of place.columns) (Stands place) (a place)) (λ a good. good place fits) all h)

call-reads : (name : List ℕ) (all : List (Place → Reading)) (place : Place) (fun : Option AggFun) → PlaceTyped place → All GoodTyped all →
    ReadsTyped (kinds_of place.columns) (Stands place) (call_reading name all place fun)
call-reads name all place (Some fun) fits h =
    aggregate-reads name fun place (map (λ a. a (within_call place)) all)
    (All-map (ReadsTyped (kinds_of place.columns) (Front (kinds_of place.columns))) (λ a. a (within_call place)) all
    (All-weaker GoodTyped (λ a. ReadsTyped (kinds_of place.columns) (Front (kinds_of place.columns)) (a (within_call place)))
    (λ a good. within-reads (kinds_of place.columns) (length place.columns) (a (within_call place)) (good (within_call place) fits)) all h))
call-reads name all place None fits h =
    all-reads (kinds_of place.columns) (Stands place) (map (λ a. a place) all) (function_value name)
    (λ xs p. function-typed (kinds_of place.columns) (Stands place) name xs p) (at-place place fits all h)

option-at : (place : Place) → PlaceTyped place → (a : Option (Place → Reading)) → IfAny GoodTyped a → IfAny (ReadsTyped (kinds_of place.columns) (Stands place)) (option_map (λ r. r place) a)
option-at place fits None h = tt
option-at place fits (Some a) h = h place fits

abbrev Both : (Reading × Reading) → List SqlType → (List Value → Type 0) → Type 0
Both arm kinds R = ReadsTyped kinds R arm.0 × ReadsTyped kinds R arm.1

arms-at : (place : Place) → PlaceTyped place → (arms : List ((Place → Reading) × (Place → Reading))) → All (λ arm. GoodTyped arm.0 × GoodTyped arm.1) arms →
    All (λ arm. Both arm (kinds_of place.columns) (Stands place)) (map (λ arm. (arm.0 place, arm.1 place)) arms)
arms-at place fits arms h =
    All-map (λ arm. Both arm (kinds_of place.columns) (Stands place)) (λ arm. (arm.0 place, arm.1 place)) arms
    (All-weaker (λ arm. GoodTyped arm.0 × GoodTyped arm.1) (λ arm. Both (arm.0 place, arm.1 place) (kinds_of place.columns) (Stands place))
    (λ arm good. (good.0 place fits, good.1 place fits)) arms h)

abbrev k_of : Place → List SqlType
k_of place = kinds_of place.columns

pub reading-keeps : Keeps (Place → Reading) readings GoodTyped
reading-keeps = record {
  number = λ negative n long place fits. leaf-reads (k_of place) (Stands place) (Ok (operation.number negative n long)) (typing.number-typed (Stands place) negative n long);
  literal = λ content place fits. leaf-reads (k_of place) (Stands place) (Ok (operation.text content)) (λ row r. tt);
  boolean = λ b place fits. leaf-reads (k_of place) (Stands place) (Ok (operation.boolean b)) (λ row r. tt);
  null = λ place fits. leaf-reads (k_of place) (Stands place) (Ok operation.null) (λ row r. tt);
  column = λ name place fits. leaf-reads (k_of place) (Stands place) (column_named name place) (named-typed name place (filter (bears name) place.columns) fits (All-filter (bears name) (ColumnTyped (k_of place)) place.columns fits.0));
  table_column = λ table name place fits. leaf-reads (k_of place) (Stands place) (column_of_item table name place) (of_item-typed table name place fits);
  paren = λ a good. good;
  cast = λ kind a good place fits. one-reads (k_of place) (Stands place) (a place) (λ x. Ok (operation.cast kind x)) (λ x p. typing.cast-typed (Stands place) kind x) (good place fits);
  case = λ a arms e h k l place fits. case-reads (k_of place) (Stands place) (option_map (λ r. r place) a) (map (λ arm. (arm.0 place, arm.1 place)) arms) (option_map (λ r. r place) e) (option-at place fits a h) (arms-at place fits arms k) (option-at place fits e l);
  count_all = λ place fits. aggregate-reads (codes "count") Count place (leaf (Ok counted) ∷ []) (All-cons (ReadsTyped (k_of place) (Front (k_of place))) (leaf (Ok counted)) [] (leaf-reads (k_of place) (Front (k_of place)) (Ok counted) (typing.number-typed (Front (k_of place)) false 1 false)) (All-nil (ReadsTyped (k_of place) (Front (k_of place)))));
  call = λ name all h place fits. call-reads name all place (aggregate_named name) fits h;
  with_sign = λ op a h place fits. one-reads (k_of place) (Stands place) (a place) (operation.signed_operation op) (λ x p. typing.signed-typed (Stands place) op x p) (h place fits);
  product = λ op a b h k place fits. two-reads (k_of place) (Stands place) (a place) (b place) (operation.product_operation op) (λ x y p q. typing.product-typed (Stands place) op x y p q) (h place fits) (k place fits);
  sum = λ op a b h k place fits. two-reads (k_of place) (Stands place) (a place) (b place) (operation.sum_operation op) (λ x y p q. typing.sum-typed (Stands place) op x y p q) (h place fits) (k place fits);
  compare = λ op a b h k place fits. two-reads (k_of place) (Stands place) (a place) (b place) (operation.comparison op) (λ x y p q. typing.comparison-typed (Stands place) op x y) (h place fits) (k place fits);
  between = λ a b c h k l place fits. three-reads (k_of place) (Stands place) (a place) (b place) (c place) operation.between (λ x y z p q r. typing.between-typed (Stands place) x y z) (h place fits) (k place fits) (l place fits);
  in_list = λ a all h k place fits. one_and_all-reads (k_of place) (Stands place) (a place) (map (λ b. b place) all) operation.in_list (λ x xs p q. typing.in_list-typed (Stands place) x xs) (h place fits) (at-place place fits all k);
  like = λ a b h k place fits. two-reads (k_of place) (Stands place) (a place) (b place) operation.like (λ x y p q. typing.like-typed (Stands place) x y) (h place fits) (k place fits);
  is = λ truth a h place fits. one-reads (k_of place) (Stands place) (a place) (operation.is_operation truth) (λ x p. typing.is-typed (Stands place) truth x) (h place fits);
  negation = λ a h place fits. one-reads (k_of place) (Stands place) (a place) operation.negation (λ x p. typing.negation-typed (Stands place) x) (h place fits);
  both = λ a b h k place fits. two-reads (k_of place) (Stands place) (a place) (b place) (operation.logical binary.And) (λ x y p q. typing.both-typed (Stands place) x y) (h place fits) (k place fits);
  either = λ a b h k place fits. two-reads (k_of place) (Stands place) (a place) (b place) (operation.logical binary.Or) (λ x y p q. typing.either-typed (Stands place) x y) (h place fits) (k place fits);
}

pub read-typed : (tree : OrTree) → GoodTyped (read tree)
read-typed = made_of-keeps (Place → Reading) readings GoodTyped reading-keeps
