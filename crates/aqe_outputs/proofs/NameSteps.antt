-- The names of output columns, as the code makes them.
use Rattle.std.proofs.Common.{◌≡◌, ◌≢◌, ℕ, zero, suc, true, false, List, [], ◌∷◌, ◌++◌, Some, None, refl}
use Rattle.std.specs.Prelude.{codes, slice_get}
use Rattle.std.specs.Fmt.{decimal}
use Rattle.aqe_expr.specs.declared.expr.Expr.{Expr, Column}
use Rattle.aqe_rules.specs.declared.names.Named.{Named}
use Rattle.aqe_rules.specs.declared.typed.Typed.{Typed}
use Rattle.aqe_rules.specs.Looks.{Alone, a_column, a_number, something}
use Rattle.aqe_rules.specs.Selects.{name_of_column, own_name}
use Rattle.aqe_typing.specs.Alone.{is_a_column}

pub column-name : (cs : List Named) (k : ℕ) (c : Named) → slice_get cs k ≡ Some c → name_of_column cs (Column k) ≡ c.name
column-name [] k c e = absurd (cc)
column-name (d ∷ cs) zero c e = cc
column-name (d ∷ cs) (suc k) c e = column-name cs k c e

pub column-past : (cs : List Named) (k : ℕ) → slice_get cs k ≡ None → name_of_column cs (Column k) ≡ []
column-past [] k e = refl
column-past (d ∷ cs) zero e = absurd (cc)
column-past (d ∷ cs) (suc k) e = column-past cs k e

pub no-column : (cs : List Named) (e : Expr) → ((k : ℕ) → e ≢ Column k) → name_of_column cs e ≡ []
no-column [] e h = refl
no-column (c ∷ cs) (Column k) h = absurd (h k refl)
no-column (c ∷ cs) e h = refl

pub own-column : (cs : List Named) (n : ℕ) (a : Alone) (v : Typed) (name : List ℕ) → true ≡ is_a_column a → name ≡ name_of_column cs v.expr → name ≡ own_name cs n a v
own-column cs n a_column v name h e = e
own-column cs n (a_number b m) v name h e = absurd (cc)
own-column cs n something v name h e = absurd (cc)

pub own-place : (cs : List Named) (n : ℕ) (a : Alone) (v : Typed) (name : List ℕ) → false ≡ is_a_column a → name ≡ codes "_c" ++ decimal n → name ≡ own_name cs n a v
own-place cs n a_column v name h e = absurd (cc)
own-place cs n (a_number b m) v name h e = e
own-place cs n something v name h e = e

pub ruleset name_steps = (no-column, own-column, own-place)
