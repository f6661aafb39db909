-- Operations whose operands have one common type, as the code makes them.
use Rattle.std.proofs.Common.{◌≡◌, List, [], ◌∷◌, ◌++◌, map, Some, None, Ok, refl, ap, ◌∙◌}
use Rattle.aqe_values.specs.declared.sql_type.SqlType.{SqlType}
use Rattle.aqe_values.specs.declared.sql_type.SqlType.TheVariants as sql
use Rattle.aqe_expr.specs.declared.expr.Expr.{Expr, Coalesce}
use Rattle.aqe_expr.specs.declared.expr.Expr.TheVariants.{Binary, Between, OneOf}
use Rattle.aqe_expr.specs.declared.expr.Operands as list
use Rattle.aqe_expr.specs.declared.expr.Operands.TheVariants as lists
use Rattle.aqe_expr.specs.Chains.{in_front}
use Rattle.aqe_expr.proofs.Shapes.{is_binary, is_between, is_one_of, is_operand}
use Rattle.aqe_trees.specs.declared.expression.CompareOp.{CompareOp}
use Rattle.aqe_rules.specs.declared.fault.AnalysisFault.{AnalysisFault}
use Rattle.aqe_rules.specs.Kinds.{common}
use Rattle.aqe_rules.specs.Operations.{Typed, typed, mismatch, common_of_all, converted, comparing, comparison, between, operands, in_list, coalesce}
use Rattle.aqe_rules.specs.Faults.{Tells, Fails}
use Rattle.aqe_rules.proofs.Steps.{memory_fails}

pub compared : (op : CompareOp) (a b : Typed) (k : SqlType) (l r e : Expr) → common a.kind b.kind ≡ Some k → l ≡ converted k a → r ≡ converted k b → e ≡ Binary (comparing op) l r →
    comparison op a b ≡ Ok (typed e sql.Boolean)
compared op a b k l r e h p q m = rw (h, m, p, q, is_binary (comparing op) (converted k a) (converted k b)) refl

pub not_compared : (op : CompareOp) (a b : Typed) (f : AnalysisFault) → common a.kind b.kind ≡ None → Tells f mismatch → Fails f (comparison op a b)
not_compared op a b f h t = rw h t

pub found_between : (a b c : Typed) (k : SqlType) (x y z e : Expr) → common_of_all (a ∷ b ∷ c ∷ []) ≡ Some k → x ≡ converted k a → y ≡ converted k b → z ≡ converted k c → e ≡ Between x y z →
    between a b c ≡ Ok (typed e sql.Boolean)
found_between a b c k x y z e h p q r m = rw (h, m, p, q, r, is_between (converted k a) (converted k b) (converted k c)) refl

pub not_between : (a b c : Typed) (f : AnalysisFault) → common_of_all (a ∷ b ∷ c ∷ []) ≡ None → Tells f mismatch → Fails f (between a b c)
not_between a b c f h t = rw h t

-- a chain that is made from a list
chained : (k : SqlType) (all : List Typed) → in_front (map (converted k) all) list.End ≡ operands k all
chained k [] = refl
chained k (a ∷ rest) = ap (λ l. lists.More (converted k a) l) (chained k rest) ∙ is_operand (converted k a) (operands k rest)

-- the chain of expressions that are converted, and of what stands behind them
abbrev pub behind : SqlType → List Typed → list.Operands → list.Operands
behind k all rest = in_front (map (converted k) all) rest

pub all_behind : (k : SqlType) (all : List Typed) → behind k all list.End ≡ operands k all
all_behind k all = chained k all

pub behind_push : (k : SqlType) (xs : List Typed) (x : Typed) (rest : list.Operands) → behind k (xs ++ x ∷ []) rest ≡ behind k xs (lists.More (converted k x) rest)
behind_push k [] x rest = refl
behind_push k (y ∷ xs) x rest = ap (λ l. lists.More (converted k y) l) (behind_push k xs x rest)

pub coalesced : (all : List Typed) (k : SqlType) (l : list.Operands) (e : Expr) → common_of_all all ≡ Some k → l ≡ operands k all → e ≡ Coalesce l → coalesce all ≡ Ok (typed e k)
coalesced all k l e h m n = rw (h, n, m) refl

pub not_coalesced : (all : List Typed) (f : AnalysisFault) → common_of_all all ≡ None → Tells f mismatch → Fails f (coalesce all)
not_coalesced all f h t = rw h t

pub listed : (a : Typed) (all : List Typed) (k : SqlType) (v e : Expr) (l : list.Operands) → common_of_all (a ∷ all) ≡ Some k → v ≡ converted k a → l ≡ operands k all → e ≡ OneOf v l →
    in_list a all ≡ Ok (typed e sql.Boolean)
listed a all k v e l h p q m = rw (h, m, p, q, is_one_of (converted k a) (operands k all)) refl

pub not_listed : (a : Typed) (all : List Typed) (f : AnalysisFault) → common_of_all (a ∷ all) ≡ None → Tells f mismatch → Fails f (in_list a all)
not_listed a all f h t = rw h t

pub ruleset with_common = (memory_fails, compared, not_compared, found_between, not_between, coalesced, not_coalesced, listed, not_listed)
