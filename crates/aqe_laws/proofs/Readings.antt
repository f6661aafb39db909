-- The meaning of an expression reads the columns and the calls of its place alone.
use Rattle.std.proofs.Common.{◌≡◌, ℕ, ◌+◌, ◌≤◌, false, cond, ◌&&◌, List, [], ◌∷◌, ◌++◌, map, filter, flat_map, length, Option, Some, None, Ok, Err, option_map, codes, arith, refl}
use Rattle.std.specs.Prelude.{All}
use Rattle.std.proofs.lemmas.List.Elements.{All-nil, All-cons, All-head, All-tail, All-append, All-map, All-filter, All-weaker}
use Rattle.aqe_base.specs.declared.status.AnalysisKind.TheVariants.{NoSuchColumn}
use Rattle.aqe_expr.specs.declared.expr.BinaryOp.TheVariants as binary
use Rattle.aqe_expr.specs.declared.expr.Expr.{Column}
use Rattle.aqe_expr.specs.Below.{ColumnsBelow}
use Rattle.aqe_logical.specs.declared.plan.AggFun.{AggFun}
use Rattle.aqe_logical.specs.declared.plan.AggFun.TheVariants.{Count}
use Rattle.aqe_rules.specs.Outcomes.{refused, Outcome, upon, each, the_only}
use Rattle.aqe_rules.specs.Operations as operation
use Rattle.aqe_rules.specs.declared.typed.Typed.{Typed}
use Rattle.aqe_rules.specs.Operations.{typed, mismatch}
use Rattle.aqe_rules.specs.declared.names.Named.{Named}
use Rattle.aqe_rules.specs.Readings.{alike, Alias, Call, Place, Reading, bears, is_of, column_or_alias, column_named, told, column_of_item, leaf, on_one, on_two, on_three, values, calls_in, on_all, on_one_and_all, calls_if_any, value_if_any, arm_value, case_reading, aggregate_named, takes, same_call, call_of, value_of_call, aggregate_value, within_call, call_made, the_argument, argument_value, aggregate_reading, counted, function_value, call_reading, readings}
use Rattle.aqe_trees.specs.declared.expression.OrTree.{OrTree}
use Rattle.aqe_rules.specs.Expressions.{read}
use Rattle.aqe_rules.proofs.Gives.{Gives, IfAny, gives_upon, gives_provided, gives_each, gives_only}
use Rattle.aqe_laws.proofs.OperationsBelow as below
use Rattle.aqe_laws.proofs.OperationsBelow.{Below, ArmBelow, either_one}
use Rattle.aqe_laws.proofs.Below.{below_more}
use Rattle.aqe_laws.proofs.Trees.{Keeps, made_of-keeps}

-- what columns, aliases and calls are over w columns, and what a place is
abbrev pub ColumnFits : ℕ → Named → Type 0
ColumnFits w c = Below w c.value

abbrev pub AliasFits : ℕ → Alias → Type 0
AliasFits w alias = (calls : List Call) → Gives (Below (w + length calls)) (alias.value calls)

abbrev pub CallFits : ℕ → Call → Type 0
CallFits w c = ColumnsBelow w c.call.arg

abbrev pub Fits : Place → Type 0
Fits place = All (ColumnFits (length place.columns)) place.columns × All (AliasFits (length place.columns)) place.aliases

abbrev pub Reads : ℕ → ℕ → Reading → Type 0
Reads w n r = Gives (Below n) r.value × All (CallFits w) r.calls

abbrev pub Good : (Place → Reading) → Type 0
Good a = (place : Place) → Fits place → Reads (length place.columns) (length place.columns + length place.calls) (a place)

named-fits : (name : List ℕ) (place : Place) (cs : List Named) → Fits place → All (ColumnFits (length place.columns)) cs →
    Gives (Below (length place.columns + length place.calls)) (column_or_alias name place cs)
named-fits name place [] (h, k) all =
    gives_upon (AliasFits (length place.columns)) (Below (length place.columns + length place.calls))
    (the_only name (filter (λ alias. alike alias.name name) place.aliases)) (λ alias. alias.value place.calls)
    (gives_only (AliasFits (length place.columns)) name (filter (λ alias. alike alias.name name) place.aliases)
    (All-filter (λ alias. alike alias.name name) (AliasFits (length place.columns)) place.aliases k)) (λ alias fits. fits place.calls)
named-fits name place (c ∷ cs) (h, k) all =
    gives_upon (ColumnFits (length place.columns)) (Below (length place.columns + length place.calls)) (the_only name (c ∷ cs)) (λ c. Ok c.value)
    (gives_only (ColumnFits (length place.columns)) name (c ∷ cs) all)
    (λ c fits. below_more (length place.columns) (length place.columns + length place.calls) (omega arith) c.value.expr fits)

of_item-fits : (table name : List ℕ) (place : Place) → Fits place → Gives (Below (length place.columns + length place.calls)) (column_of_item table name place)
of_item-fits table name place (h, k) =
    gives_upon (ColumnFits (length place.columns)) (Below (length place.columns + length place.calls))
    (the_only (told table name) (filter (λ c. is_of table c && bears name c) place.columns)) (λ c. Ok c.value)
    (gives_only (ColumnFits (length place.columns)) (told table name) (filter (λ c. is_of table c && bears name c) place.columns)
    (All-filter (λ c. is_of table c && bears name c) (ColumnFits (length place.columns)) place.columns h))
    (λ c fits. below_more (length place.columns) (length place.columns + length place.calls) (omega arith) c.value.expr fits)

-- readings made of others
leaf-reads : (w n : ℕ) (o : Outcome Typed) → Gives (Below n) o → Reads w n (leaf o)
leaf-reads w n o h = (h, All-nil (CallFits w))

one-reads : (w n : ℕ) (a : Reading) (rule : Typed → Outcome Typed) → ((x : Typed) → Below n x → Gives (Below n) (rule x)) → Reads w n a → Reads w n (on_one a rule)
one-reads w n a rule h (k, calls) = (gives_upon (Below n) (Below n) a.value rule k h, calls)

two-reads : (w n : ℕ) (a b : Reading) (rule : Typed → Typed → Outcome Typed) → ((x y : Typed) → Below n x → Below n y → Gives (Below n) (rule x y)) →
    Reads w n a → Reads w n b → Reads w n (on_two a b rule)
two-reads w n a b rule h (k, calls) (l, more) = (
  gives_upon (Below n) (Below n) a.value (λ x. upon b.value (rule x)) k (λ x p.
      gives_upon (Below n) (Below n) b.value (rule x) l (λ y q. h x y p q)),
  All-append (CallFits w) a.calls b.calls calls more,
)

three-reads : (w n : ℕ) (a b c : Reading) (rule : Typed → Typed → Typed → Outcome Typed) →
    ((x y z : Typed) → Below n x → Below n y → Below n z → Gives (Below n) (rule x y z)) →
    Reads w n a → Reads w n b → Reads w n c → Reads w n (on_three a b c rule)
three-reads w n a b c rule h (k, calls) (l, more) (m, most) = (
  gives_upon (Below n) (Below n) a.value (λ x. upon b.value (λ y. upon c.value (rule x y))) k (λ x p.
      gives_upon (Below n) (Below n) b.value (λ y. upon c.value (rule x y)) l (λ y q.
      gives_upon (Below n) (Below n) c.value (rule x y) m (λ z r. h x y z p q r))),
  All-append (CallFits w) (a.calls ++ b.calls) c.calls (All-append (CallFits w) a.calls b.calls calls more) most,
)

values-read : (w n : ℕ) (all : List Reading) → All (Reads w n) all → Gives (All (Below n)) (values all)
values-read w n all h =
    gives_each (Below n) (map (λ a. a.value) all) (All-map (Gives (Below n)) (λ a. a.value) all (All-weaker (Reads w n) (λ a. Gives (Below n) a.value) (λ a p. p.0) all h))

pub flat-all : {X Y : Type 0} (P : Y → Type 0) (f : X → List Y) (xs : List X) → All (λ x. All P (f x)) xs → All P (flat_map f xs)
flat-all P f [] h = All-nil P
flat-all P f (x ∷ xs) h = All-append P (f x) (flat_map f xs) (All-head (λ y. All P (f y)) x xs h) (flat-all P f xs (All-tail (λ y. All P (f y)) x xs h))

calls-read : (w n : ℕ) (all : List Reading) → All (Reads w n) all → All (CallFits w) (calls_in all)
calls-read w n all h = flat-all (CallFits w) (λ a. a.calls) all (All-weaker (Reads w n) (λ a. All (CallFits w) a.calls) (λ a p. p.1) all h)

all-reads : (w n : ℕ) (all : List Reading) (rule : List Typed → Outcome Typed) → ((xs : List Typed) → All (Below n) xs → Gives (Below n) (rule xs)) →
    All (Reads w n) all → Reads w n (on_all all rule)
all-reads w n all rule h k = (gives_upon (All (Below n)) (Below n) (values all) rule (values-read w n all k) h, calls-read w n all k)

one_and_all-reads : (w n : ℕ) (a : Reading) (all : List Reading) (rule : Typed → List Typed → Outcome Typed) →
    ((x : Typed) (xs : List Typed) → Below n x → All (Below n) xs → Gives (Below n) (rule x xs)) →
    Reads w n a → All (Reads w n) all → Reads w n (on_one_and_all a all rule)
one_and_all-reads w n a all rule h (k, calls) l = (
  gives_upon (Below n) (Below n) a.value (λ x. upon (values all) (rule x)) k (λ x p.
      gives_upon (All (Below n)) (Below n) (values all) (rule x) (values-read w n all l) (λ xs q. h x xs p q)),
  All-append (CallFits w) a.calls (calls_in all) calls (calls-read w n all l),
)

abbrev ArmReads : ℕ → ℕ → (Reading × Reading) → Type 0
ArmReads w n arm = Reads w n arm.0 × Reads w n arm.1

arm-reads : (w n : ℕ) (arm : Reading × Reading) → ArmReads w n arm → Gives (ArmBelow n) (arm_value arm)
arm-reads w n arm ((h, c), (k, d)) =
    gives_upon (Below n) (ArmBelow n) (arm.0).value (λ test. upon (arm.1).value (λ gives. Ok (test, gives))) h (λ x p.
    gives_upon (Below n) (ArmBelow n) (arm.1).value (λ gives. Ok (x, gives)) k (λ y q. (p, q)))

if_any-value : (w n : ℕ) (a : Option Reading) → IfAny (Reads w n) a → Gives (IfAny (Below n)) (value_if_any a)
if_any-value w n None h = tt
if_any-value w n (Some r) (h, c) = gives_upon (Below n) (IfAny (Below n)) r.value (λ t. Ok (Some t)) h (λ t p. p)

if_any-calls : (w n : ℕ) (a : Option Reading) → IfAny (Reads w n) a → All (CallFits w) (calls_if_any a)
if_any-calls w n None h = All-nil (CallFits w)
if_any-calls w n (Some r) (h, c) = c

case-reads : (w n : ℕ) (a : Option Reading) (arms : List (Reading × Reading)) (e : Option Reading) →
    IfAny (Reads w n) a → All (ArmReads w n) arms → IfAny (Reads w n) e → Reads w n (case_reading a arms e)
case-reads w n a arms e h k l = (
  gives_upon (IfAny (Below n)) (Below n) (value_if_any a) (λ x. upon (each (map arm_value arms)) (λ all. upon (value_if_any e) (λ y. operation.case x all y))) (if_any-value w n a h) (λ x p.
      gives_upon (All (ArmBelow n)) (Below n) (each (map arm_value arms)) (λ all. upon (value_if_any e) (λ y. operation.case x all y))
      (gives_each (ArmBelow n) (map arm_value arms) (All-map (Gives (ArmBelow n)) arm_value arms (All-weaker (ArmReads w n) (λ arm. Gives (ArmBelow n) (arm_value arm)) (λ arm q. arm-reads w n arm q) arms k))) (λ all q.
      gives_upon (IfAny (Below n)) (Below n) (value_if_any e) (λ y. operation.case x all y) (if_any-value w n e l) (λ y r. below.case-below n x all y p q r))),
  All-append (CallFits w) (calls_if_any a ++ flat_map (λ arm. (arm.0).calls ++ (arm.1).calls) arms) (calls_if_any e)
      (All-append (CallFits w) (calls_if_any a) (flat_map (λ arm. (arm.0).calls ++ (arm.1).calls) arms) (if_any-calls w n a h)
      (flat-all (CallFits w) (λ arm. (arm.0).calls ++ (arm.1).calls) arms
      (All-weaker (ArmReads w n) (λ arm. All (CallFits w) ((arm.0).calls ++ (arm.1).calls)) (λ arm q. All-append (CallFits w) (arm.0).calls (arm.1).calls (q.0).1 (q.1).1) arms k))) (if_any-calls w n e l),
)

-- aggregate calls
value_of_call-below : (m : ℕ) (name : List ℕ) (call : Call) (n : ℕ) (calls : List Call) → n + length calls ≤ m → Gives (Below m) (value_of_call name call n calls)
value_of_call-below m name call n [] fits = tt
value_of_call-below m name call n (first ∷ rest) fits =
    either_one (Gives (Below m)) (same_call first.call call.call) (Ok (typed (Column n) call.kind)) (value_of_call name call (n + 1) rest)
    (omega (arith, fits)) (value_of_call-below m name call (n + 1) rest (omega (arith, fits)))

call_made-fits : (w : ℕ) (fun : AggFun) (o : Outcome Typed) → Gives (Below w) o → All (CallFits w) (call_made fun o)
call_made-fits w fun (Ok a) h =
    either_one (All (CallFits w)) (takes fun a.kind) (call_of fun a ∷ []) [] (All-cons (CallFits w) (call_of fun a) [] h (All-nil (CallFits w))) (All-nil (CallFits w))
call_made-fits w fun (Err check) h = All-nil (CallFits w)

argument-below : (n : ℕ) (name : List ℕ) (xs : List Typed) → All (Below n) xs → Gives (Below n) (the_argument name xs)
argument-below n name [] h = tt
argument-below n name (a ∷ []) h = All-head (Below n) a [] h
argument-below n name (a ∷ b ∷ more) h = tt

argument_value-below : (w n : ℕ) (name : List ℕ) (all : List Reading) → All (Reads w n) all → Gives (Below n) (argument_value name all)
argument_value-below w n name all h = gives_upon (All (Below n)) (Below n) (values all) (the_argument name) (values-read w n all h) (λ xs p. argument-below n name xs p)

aggregate-reads : (w : ℕ) (name : List ℕ) (fun : AggFun) (place : Place) (all : List Reading) → w ≡ length place.columns → All (Reads w w) all →
    Reads w (w + length place.calls) (aggregate_reading name fun place all)
aggregate-reads w name fun place all e h = (
  gives_upon (Below w) (Below (w + length place.calls)) (argument_value name all) (aggregate_value name fun place) (argument_value-below w w name all h) (λ a p.
      gives_provided (Below (w + length place.calls)) (takes fun a.kind) mismatch (value_of_call name (call_of fun a) (length place.columns) place.calls)
      (value_of_call-below (w + length place.calls) name (call_of fun a) (length place.columns) place.calls (omega (arith, e)))),
  call_made-fits w fun (argument_value name all) (argument_value-below w w name all h),
)

function-below : (n : ℕ) (name : List ℕ) (xs : List Typed) → All (Below n) xs → Gives (Below n) (function_value name xs)
function-below n name [] h = tt
function-below n name (a ∷ rest) h =
    either_one (Gives (Below n)) (alike name (codes "coalesce")) (operation.coalesce (a ∷ rest))
    (cond (alike name (codes "length")) (upon (the_argument name (a ∷ rest)) operation.length_of) (Err (refused NoSuchColumn name)))
    (below.coalesce-below n (a ∷ rest) h)
    (either_one (Gives (Below n)) (alike name (codes "length")) (upon (the_argument name (a ∷ rest)) operation.length_of) (Err (refused NoSuchColumn name))
    (gives_upon (Below n) (Below n) (the_argument name (a ∷ rest)) operation.length_of (argument-below n name (a ∷ rest) h) (λ x p. below.length-below n x p)) tt)

-- a place without calls reads no further than its columns
within-reads : (w : ℕ) (r : Reading) → Reads w (w + 0) r → Reads w w r
within-reads w r (h, c) = (gives_less r.value h, c)
  where
    gives_less : (o : Outcome Typed) → Gives (Below (w + 0)) o → Gives (Below w) o
    gives_less (Ok a) p = below_more (w + 0) w (omega arith) a.expr p
    gives_less (Err check) p = tt

at-place : (place : Place) → Fits place → (all : List (Place → Reading)) → All Good all →
    All (Reads (length place.columns) (length place.columns + length place.calls)) (map (λ a. a place) all)
at-place place fits all h =
    All-map (Reads (length place.columns) (length place.columns + length place.calls)) (λ a. a place) all
    (All-weaker Good (λ a. Reads (length place.columns) (length place.columns + length place.calls) (a place)) (λ a good. good place fits) all h)

call-reads : (name : List ℕ) (all : List (Place → Reading)) (place : Place) (fun : Option AggFun) → Fits place → All Good all →
    Reads (length place.columns) (length place.columns + length place.calls) (call_reading name all place fun)
call-reads name all place (Some fun) fits h =
    aggregate-reads (length place.columns) name fun place (map (λ a. a (within_call place)) all) refl
    (All-map (Reads (length place.columns) (length place.columns)) (λ a. a (within_call place)) all
    (All-weaker Good (λ a. Reads (length place.columns) (length place.columns) (a (within_call place))) (λ a good. within-reads (length place.columns) (a (within_call place)) (good (within_call place) fits)) all h))
call-reads name all place None fits h =
    all-reads (length place.columns) (length place.columns + length place.calls) (map (λ a. a place) all) (function_value name)
    (λ xs p. function-below (length place.columns + length place.calls) name xs p) (at-place place fits all h)

option-at : (place : Place) → Fits place → (a : Option (Place → Reading)) → IfAny Good a →
    IfAny (Reads (length place.columns) (length place.columns + length place.calls)) (option_map (λ r. r place) a)
option-at place fits None h = tt
option-at place fits (Some a) h = h place fits

arms-at : (place : Place) → Fits place → (arms : List ((Place → Reading) × (Place → Reading))) → All (λ arm. Good arm.0 × Good arm.1) arms →
    All (ArmReads (length place.columns) (length place.columns + length place.calls)) (map (λ arm. (arm.0 place, arm.1 place)) arms)
arms-at place fits arms h =
    All-map (ArmReads (length place.columns) (length place.columns + length place.calls)) (λ arm. (arm.0 place, arm.1 place)) arms
    (All-weaker (λ arm. Good arm.0 × Good arm.1) (λ arm. ArmReads (length place.columns) (length place.columns + length place.calls) (arm.0 place, arm.1 place))
    (λ arm good. (good.0 place fits, good.1 place fits)) arms h)

abbrev w_of : Place → ℕ
w_of place = length place.columns

abbrev n_of : Place → ℕ
n_of place = length place.columns + length place.calls

pub reading-keeps : Keeps (Place → Reading) readings Good
reading-keeps = record {
  number = λ negative n long place fits. leaf-reads (w_of place) (n_of place) (Ok (operation.number negative n long)) (below.number-below (n_of place) negative n long);
  literal = λ content place fits. leaf-reads (w_of place) (n_of place) (Ok (operation.text content)) tt;
  boolean = λ b place fits. leaf-reads (w_of place) (n_of place) (Ok (operation.boolean b)) tt;
  null = λ place fits. leaf-reads (w_of place) (n_of place) (Ok operation.null) tt;
  column = λ name place fits. leaf-reads (w_of place) (n_of place) (column_named name place) (named-fits name place (filter (bears name) place.columns) fits (All-filter (bears name) (ColumnFits (w_of place)) place.columns fits.0));
  table_column = λ table name place fits. leaf-reads (w_of place) (n_of place) (column_of_item table name place) (of_item-fits table name place fits);
  paren = λ a good. good;
  cast = λ kind a good place fits. one-reads (w_of place) (n_of place) (a place) (λ x. Ok (operation.cast kind x)) (λ x p. below.cast-below (n_of place) kind x p) (good place fits);
  case = λ a arms e h k l place fits. case-reads (w_of place) (n_of place) (option_map (λ r. r place) a) (map (λ arm. (arm.0 place, arm.1 place)) arms) (option_map (λ r. r place) e) (option-at place fits a h) (arms-at place fits arms k) (option-at place fits e l);
  count_all = λ place fits. aggregate-reads (w_of place) (codes "count") Count place (leaf (Ok counted) ∷ []) refl (All-cons (Reads (w_of place) (w_of place)) (leaf (Ok counted)) [] (leaf-reads (w_of place) (w_of place) (Ok counted) (below.number-below (w_of place) false 1 false)) (All-nil (Reads (w_of place) (w_of place))));
  call = λ name all h place fits. call-reads name all place (aggregate_named name) fits h;
  with_sign = λ op a h place fits. one-reads (w_of place) (n_of place) (a place) (operation.signed_operation op) (λ x p. below.signed-below (n_of place) op x p) (h place fits);
  product = λ op a b h k place fits. two-reads (w_of place) (n_of place) (a place) (b place) (operation.product_operation op) (λ x y p q. below.product-below (n_of place) op x y p q) (h place fits) (k place fits);
  sum = λ op a b h k place fits. two-reads (w_of place) (n_of place) (a place) (b place) (operation.sum_operation op) (λ x y p q. below.sum-below (n_of place) op x y p q) (h place fits) (k place fits);
  compare = λ op a b h k place fits. two-reads (w_of place) (n_of place) (a place) (b place) (operation.comparison op) (λ x y p q. below.comparison-below (n_of place) op x y p q) (h place fits) (k place fits);
  between = λ a b c h k l place fits. three-reads (w_of place) (n_of place) (a place) (b place) (c place) operation.between (λ x y z p q r. below.between-below (n_of place) x y z p q r) (h place fits) (k place fits) (l place fits);
  in_list = λ a all h k place fits. one_and_all-reads (w_of place) (n_of place) (a place) (map (λ b. b place) all) operation.in_list (λ x xs p q. below.in_list-below (n_of place) x xs p q) (h place fits) (at-place place fits all k);
  like = λ a b h k place fits. two-reads (w_of place) (n_of place) (a place) (b place) operation.like (λ x y p q. below.like-below (n_of place) x y p q) (h place fits) (k place fits);
  is = λ truth a h place fits. one-reads (w_of place) (n_of place) (a place) (operation.is_operation truth) (λ x p. below.is-below (n_of place) truth x p) (h place fits);
  negation = λ a h place fits. one-reads (w_of place) (n_of place) (a place) operation.negation (λ x p. below.negation-below (n_of place) x p) (h place fits);
  both = λ a b h k place fits. two-reads (w_of place) (n_of place) (a place) (b place) (operation.logical binary.And) (λ x y p q. below.logical-below (n_of place) binary.And x y p q) (h place fits) (k place fits);
  either = λ a b h k place fits. two-reads (w_of place) (n_of place) (a place) (b place) (operation.logical binary.Or) (λ x y p q. below.logical-below (n_of place) binary.Or x y p q) (h place fits) (k place fits);
}

pub read-fits : (tree : OrTree) → Good (read tree)
read-fits = made_of-keeps (Place → Reading) readings Good reading-keeps
