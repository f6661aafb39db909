-- One step of the walk, as the code takes it.
use Rattle.std.proofs.Common.{◌≡◌, Bool, true, false, ◌&&◌, Ok, Err, refl}
use Rattle.aqe_values.specs.declared.sql_type.SqlType.{SqlType}
use Rattle.aqe_expr.specs.declared.expr.UnaryOp.{UnaryOp}
use Rattle.aqe_expr.specs.declared.expr.BinaryOp.{BinaryOp}
use Rattle.aqe_expr.specs.declared.expr.Expr.{Expr}
use Rattle.aqe_expr.specs.declared.expr.Expr.TheVariants.{Unary, Binary}
use Rattle.aqe_expr.specs.Shapes.{unary_of, binary_of}
use Rattle.aqe_expr.proofs.Shapes.{is_unary, is_binary}
use Rattle.aqe_rules.specs.declared.fault.AnalysisFault.{AnalysisFault}
use Rattle.aqe_rules.specs.declared.fault.AnalysisFault.TheVariants as fault
use Rattle.aqe_rules.specs.Outcomes.{Check, Outcome, provided}
use Rattle.aqe_rules.specs.Operations.{Typed, typed, cast_to, is_operation}
use Rattle.aqe_expr.specs.declared.expr.UnaryOp.TheVariants as op
use Rattle.aqe_values.specs.declared.sql_type.SqlType.TheVariants as sql
use Rattle.aqe_trees.specs.declared.expression.Truth.{Truth}
use Rattle.aqe_trees.specs.declared.expression.Truth.TheVariants as truth
use Rattle.aqe_rules.specs.Faults.{Tells, Fails}

-- want of memory says nothing of a walk
pub memory_fails : {T : Type 0} (f : AnalysisFault) (o : Outcome T) → f ≡ fault.Memory → Fails f o
memory_fails f (Ok t) h = h
memory_fails f (Err check) h = rw h tt

-- a check that fails is told
pub refused_here : {T : Type 0} (b : Bool) (check : Check) (next : Outcome T) (f : AnalysisFault) → b ≡ false → Tells f check → Fails f (provided b check next)
refused_here b check next f h k = rw h k

pub first_refused : {T : Type 0} (b c : Bool) (check : Check) (next : Outcome T) (f : AnalysisFault) → b ≡ false → Tells f check → Fails f (provided (b && c) check next)
first_refused b c check next f h k = rw h k

pub second_refused : {T : Type 0} (b c : Bool) (check : Check) (next : Outcome T) (f : AnalysisFault) → b ≡ true → c ≡ false → Tells f check → Fails f (provided (b && c) check next)
second_refused b c check next f g h k = rw (g, h) k

pub made_unary : (b : Bool) (check : Check) (op : UnaryOp) (a e : Expr) (kind : SqlType) → b ≡ true → e ≡ Unary op a → provided b check (Ok (typed (unary_of op a) kind)) ≡ Ok (typed e kind)
made_unary b check op a e kind t h = rw (t, h, is_unary op a) refl

pub made_binary : (b c : Bool) (check : Check) (op : BinaryOp) (l r e : Expr) (kind : SqlType) → b ≡ true → c ≡ true → e ≡ Binary op l r → provided (b && c) check (Ok (typed (binary_of op l r) kind)) ≡ Ok (typed e kind)
made_binary b c check op l r e kind t u h = rw (t, u, h, is_binary op l r) refl

pub is_unary_of : (op : UnaryOp) (a e : Expr) → e ≡ Unary op a → e ≡ unary_of op a
is_unary_of op a e h = rw (h, is_unary op a) refl

pub cast_boolean : (kind : SqlType) (a e : Expr) → kind ≡ sql.Boolean → e ≡ Unary op.CastBoolean a → e ≡ cast_to kind a
cast_boolean kind a e k h = rw (k, h, is_unary op.CastBoolean a) refl

pub cast_int : (kind : SqlType) (a e : Expr) → kind ≡ sql.Int → e ≡ Unary op.CastInt a → e ≡ cast_to kind a
cast_int kind a e k h = rw (k, h, is_unary op.CastInt a) refl

pub cast_bigint : (kind : SqlType) (a e : Expr) → kind ≡ sql.BigInt → e ≡ Unary op.CastBigInt a → e ≡ cast_to kind a
cast_bigint kind a e k h = rw (k, h, is_unary op.CastBigInt a) refl

pub cast_text : (kind : SqlType) (a e : Expr) → kind ≡ sql.Text → e ≡ Unary op.CastText a → e ≡ cast_to kind a
cast_text kind a e k h = rw (k, h, is_unary op.CastText a) refl

pub null_tested : (t : Truth) (a : Typed) (e : Expr) → t ≡ truth.Null → e ≡ Unary op.IsNull a.expr → is_operation t a ≡ Ok (typed e sql.Boolean)
null_tested t a e k h = rw (k, h, is_unary op.IsNull a.expr) refl

pub ruleset steps = (cast_boolean, cast_int, cast_bigint, cast_text, null_tested, memory_fails, refused_here, first_refused, second_refused, made_unary, made_binary, is_unary_of)
