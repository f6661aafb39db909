-- Readings of operands.
use Rattle.std.proofs.Common.{ℕ, List, ◌∷◌, ◌≡◌, ◌≤◌, ◌<◌, length, refl, sym, ap, subst, arith, lit<}
use Rattle.std.specs.Prelude.{Bool, true, false, Some, None}
use Rattle.aqe_values.specs.declared.sql_type.SqlType.{SqlType}
use Rattle.aqe_trees.specs.declared.terminal.Key.{Key}
use Rattle.aqe_trees.specs.declared.terminal.Key.TheVariants as k
use Rattle.aqe_trees.specs.declared.terminal.Terminal.{Terminal}
use Rattle.aqe_trees.specs.declared.terminal.Terminal.TheVariants.{Fixed, Name, Number, Literal}
use Rattle.aqe_trees.specs.declared.expression.OrTree.{OrTree}
use Rattle.aqe_trees.specs.declared.expression.PrimaryTree.{PrimaryTree}
use Rattle.aqe_trees.specs.declared.expression.PrimaryTree.TheVariants as primary
use Rattle.aqe_trees.specs.Words.{type_of, is_word, count_word}
use Rattle.aqe_trees.specs.Follow.{Stops}
use Rattle.aqe_trees.specs.Expressions.{IsOr, IsList, IsPrimary, number, negative_number, literal, is_true, is_false, null, column, table_column, paren, cast, case, case_of, count_all, call}
use Rattle.aqe_trees.proofs.OneExpression.{no_star}
use Rattle.aqe_reader.specs.Reading.{Read, Part, Refuses, Never, NoName}
use Rattle.aqe_reader.specs.Steps.{IsAsType, as_type, Keyed, Numbered, Named, Dotted, Called, Counted, NoStar}

-- numbers
number_only : {value : ℕ} {long : Bool} {ts ws : List Terminal} {v : PrimaryTree} → IsPrimary v (Number value long ∷ ts) ws →
    (primary.Number false value long ≡ v) × (ts ≡ ws)
number_only (number h) = (refl, refl)

pub number_read : {value : ℕ} {long : Bool} {ts : List Terminal} → value ≤ 9223372036854775807 →
    Part (Numbered value long) 20 ts (primary.Number false value long) ts
number_read h = record { found = number h; only = λ v ws d s. number_only d; within = omega arith }

negative_only : {value : ℕ} {long : Bool} {us ws : List Terminal} {v : PrimaryTree} → IsPrimary v (Fixed k.Minus ∷ Number value long ∷ us) ws →
    (primary.Number true value long ≡ v) × (us ≡ ws)
negative_only negative_number = (refl, refl)

pub negative_read : {value : ℕ} {long : Bool} {ts us : List Terminal} → ts ≡ Number value long ∷ us →
    Part (Keyed k.Minus) 20 ts (primary.Number true value long) us
negative_read {value = value} {long = long} {us = us} e =
    subst (λ x. Part (Keyed k.Minus) 20 x (primary.Number true value long) us) (sym e)
    (record { found = negative_number; only = λ v ws d s. negative_only d; within = omega arith })

-- constants
literal_only : {text : List ℕ} {ts ws : List Terminal} {v : PrimaryTree} → IsPrimary v (Literal text ∷ ts) ws → (primary.Literal text ≡ v) × (ts ≡ ws)
literal_only literal = (refl, refl)

pub literal_read : {text : List ℕ} {ts us : List Terminal} → ts ≡ Literal text ∷ us → Read IsPrimary 20 ts (primary.Literal text) us
literal_read {text = text} {us = us} e =
    subst (λ x. Read IsPrimary 20 x (primary.Literal text) us) (sym e)
    (record { found = literal; only = λ v ws d s. literal_only d; shorter = omega arith })

true_only : {ts ws : List Terminal} {v : PrimaryTree} → IsPrimary v (Fixed k.True ∷ ts) ws → (primary.Boolean true ≡ v) × (ts ≡ ws)
true_only is_true = (refl, refl)

pub true_read : {ts : List Terminal} → Part (Keyed k.True) 20 ts (primary.Boolean true) ts
true_read = record { found = is_true; only = λ v ws d s. true_only d; within = omega arith }

false_only : {ts ws : List Terminal} {v : PrimaryTree} → IsPrimary v (Fixed k.False ∷ ts) ws → (primary.Boolean false ≡ v) × (ts ≡ ws)
false_only is_false = (refl, refl)

pub false_read : {ts : List Terminal} → Part (Keyed k.False) 20 ts (primary.Boolean false) ts
false_read = record { found = is_false; only = λ v ws d s. false_only d; within = omega arith }

null_only : {ts ws : List Terminal} {v : PrimaryTree} → IsPrimary v (Fixed k.Null ∷ ts) ws → (primary.Null ≡ v) × (ts ≡ ws)
null_only null = (refl, refl)

pub null_read : {ts : List Terminal} → Part (Keyed k.Null) 20 ts primary.Null ts
null_read = record { found = null; only = λ v ws d s. null_only d; within = omega arith }

-- ( or )
paren_only : {ts rest left ws : List Terminal} {value : OrTree} {v : PrimaryTree} → Read IsOr 14 ts value rest → rest ≡ Fixed k.Close ∷ left →
    IsPrimary v (Fixed k.Open ∷ ts) ws → (primary.Paren value ≡ v) × (left ≡ ws)
paren_only r e (paren d) = let p = r.only _ _ d (lit< tt) in (cc, cc)

pub paren_read : {ts rest left : List Terminal} {value : OrTree} → Read IsOr 14 ts value rest → rest ≡ Fixed k.Close ∷ left →
    Part (Keyed k.Open) 20 ts (primary.Paren value) left
paren_read {ts = ts} {value = value} r e = record {
  found = paren (subst (λ x. IsOr value ts x) e r.found);
  only = λ v ws d s. paren_only r e d;
  within = let a = r.shorter in let b = ap length e in omega arith;
}

paren_open : {ts rest ws : List Terminal} {value : OrTree} {v : PrimaryTree} → Read IsOr 14 ts value rest → ((us : List Terminal) → rest ≡ Fixed k.Close ∷ us → ⊥) →
    IsPrimary v (Fixed k.Open ∷ ts) ws → ⊥
paren_open r n (paren d) = n _ ((r.only _ _ d (lit< tt)).1)

pub paren_unclosed : {ts rest : List Terminal} {value : OrTree} → Read IsOr 14 ts value rest → ((us : List Terminal) → rest ≡ Fixed k.Close ∷ us → ⊥) →
    Refuses (Keyed k.Open) 20 ts
paren_unclosed r n = λ v ws d s. paren_open r n d

-- AS type )
type_word : {ts after rest left : List Terminal} {t : Terminal} {kind : SqlType} → ts ≡ Fixed k.As ∷ after → after ≡ t ∷ rest →
    type_of t ≡ Some kind → rest ≡ Fixed k.Close ∷ left → IsAsType kind ts left
type_word {t = t} e f o g = rw (e, f, g) (as_type {t = t} o)

pub as_type_read : {ts after rest left : List Terminal} {kind : SqlType} → ts ≡ Fixed k.As ∷ after →
    (t : Terminal) × (after ≡ t ∷ rest) × (type_of t ≡ Some kind) → rest ≡ Fixed k.Close ∷ left → IsAsType kind ts left
as_type_read e h g = type_word e h.1 h.2 g

no_as : {kind : SqlType} {ts us : List Terminal} → ((vs : List Terminal) → ts ≡ Fixed k.As ∷ vs → ⊥) → IsAsType kind ts us → ⊥
no_as n (as_type o) = n _ refl

pub as_refused : {ts : List Terminal} → ((vs : List Terminal) → ts ≡ Fixed k.As ∷ vs → ⊥) → Never IsAsType ts
as_refused n v ws d = no_as n d

no_type : {kind : SqlType} {after us : List Terminal} → ((t : Terminal) (vs : List Terminal) → after ≡ t ∷ vs → type_of t ≡ None) →
    IsAsType kind (Fixed k.As ∷ after) us → ⊥
no_type n (as_type {t = t} o) = let h = n t _ refl in cc

pub type_refused : {ts after : List Terminal} → ts ≡ Fixed k.As ∷ after →
    ((t : Terminal) (vs : List Terminal) → after ≡ t ∷ vs → type_of t ≡ None) → Never IsAsType ts
type_refused e n = rw e (λ v ws d. no_type n d)

no_type_close : {kind : SqlType} {t : Terminal} {rest us : List Terminal} → ((vs : List Terminal) → rest ≡ Fixed k.Close ∷ vs → ⊥) →
    IsAsType kind (Fixed k.As ∷ t ∷ rest) us → ⊥
no_type_close n (as_type o) = n _ refl

pub type_close_refused : {ts after rest : List Terminal} {t : Terminal} → ts ≡ Fixed k.As ∷ after → after ≡ t ∷ rest →
    ((vs : List Terminal) → rest ≡ Fixed k.Close ∷ vs → ⊥) → Never IsAsType ts
type_close_refused e f n = rw (e, f) (λ v ws d. no_type_close n d)

as_type_only : {a b : SqlType} {ts us vs : List Terminal} → IsAsType a ts us → IsAsType b ts vs → (a ≡ b) × (us ≡ vs)
as_type_only (as_type o) (as_type i) = (cc, refl)

as_type_shorter : {a : SqlType} {ts us : List Terminal} → IsAsType a ts us → length us < length ts
as_type_shorter (as_type o) = omega arith

at_type : {kind : SqlType} {a b us : List Terminal} → a ≡ b → IsAsType kind b us → IsAsType kind a us
at_type {kind = kind} {us = us} e d = subst (λ x. IsAsType kind x us) (sym e) d

-- CAST ( or AS type )
cast_only : {inside rest left ws : List Terminal} {kind : SqlType} {value : OrTree} {v : PrimaryTree} → Read IsOr 14 inside value rest →
    IsAsType kind rest left → IsPrimary v (Fixed k.Cast ∷ Fixed k.Open ∷ inside) ws → (primary.Cast value kind ≡ v) × (left ≡ ws)
cast_only r a (cast d i) =
    let p = r.only _ _ d (lit< tt) in
    let q = as_type_only a (at_type p.1 (as_type i)) in
    (cc, q.1)

cast_found : {inside rest left : List Terminal} {kind : SqlType} {value : OrTree} → IsOr value inside rest → IsAsType kind rest left →
    IsPrimary (primary.Cast value kind) (Fixed k.Cast ∷ Fixed k.Open ∷ inside) left
cast_found d (as_type o) = cast d o

pub cast_read : {ts inside rest left : List Terminal} {kind : SqlType} {value : OrTree} → ts ≡ Fixed k.Open ∷ inside → Read IsOr 14 inside value rest →
    IsAsType kind rest left →
    Part (Keyed k.Cast) 20 ts (primary.Cast value kind) left
cast_read {inside = inside} {left = left} {kind = kind} {value = value} b r a =
    subst (λ x. Part (Keyed k.Cast) 20 x (primary.Cast value kind) left) (sym b) (record {
      found = cast_found r.found a;
      only = λ v ws d s. cast_only r a d;
      within = let x = r.shorter in let y = as_type_shorter a in omega arith;
    })

cast_open : {inside rest ws : List Terminal} {value : OrTree} {v : PrimaryTree} → Read IsOr 14 inside value rest →
    Never IsAsType rest → IsPrimary v (Fixed k.Cast ∷ Fixed k.Open ∷ inside) ws → ⊥
cast_open r n (cast d i) = n _ _ (at_type ((r.only _ _ d (lit< tt)).1) (as_type i))

pub cast_untyped : {ts inside rest : List Terminal} {value : OrTree} → ts ≡ Fixed k.Open ∷ inside → Read IsOr 14 inside value rest →
    Never IsAsType rest → Refuses (Keyed k.Cast) 20 ts
cast_untyped b r n = subst (λ x. Refuses (Keyed k.Cast) 20 x) (sym b) (λ v ws d s. cast_open r n d)

-- name . name
dotted_only : {text name : List ℕ} {quoted other : Bool} {left ws : List Terminal} {v : PrimaryTree} →
    IsPrimary v (Name text quoted ∷ Fixed k.Dot ∷ Name name other ∷ left) ws → Stops 20 ws → (primary.TableColumn text name ≡ v) × (left ≡ ws)
dotted_only column s = absurd (omega arith)
dotted_only table_column s = (refl, refl)

pub dotted_read : {text name : List ℕ} {quoted other : Bool} {ts left : List Terminal} → ts ≡ Name name other ∷ left →
    Part (Dotted text quoted) 20 ts (primary.TableColumn text name) left
dotted_read {text = text} {name = name} {quoted = quoted} {left = left} e =
    subst (λ x. Part (Dotted text quoted) 20 x (primary.TableColumn text name) left) (sym e)
    (record { found = table_column; only = λ v ws d s. dotted_only d s; within = omega arith })

no_column : {text : List ℕ} {quoted : Bool} {ts ws : List Terminal} {v : PrimaryTree} →
    NoName ts →
    IsPrimary v (Name text quoted ∷ Fixed k.Dot ∷ ts) ws → Stops 20 ws → ⊥
no_column n column s = omega arith
no_column n table_column s = n _ _ _ refl

pub dotted_refused : {text : List ℕ} {quoted : Bool} {ts : List Terminal} → NoName ts →
    Refuses (Dotted text quoted) 20 ts
dotted_refused n = λ v ws d s. no_column n d s

-- name
column_only : {text : List ℕ} {quoted : Bool} {ts ws : List Terminal} {v : PrimaryTree} →
    ((us : List Terminal) → ts ≡ Fixed k.Dot ∷ us → ⊥) → ((us : List Terminal) → ts ≡ Fixed k.Open ∷ us → ⊥) →
    IsPrimary v (Name text quoted ∷ ts) ws → (primary.Column text ≡ v) × (ts ≡ ws)
column_only n m column = (refl, refl)
column_only n m table_column = absurd (n _ refl)
column_only n m (count_all e) = absurd (m _ refl)
column_only n m (call d) = absurd (m _ refl)

pub column_read : {text : List ℕ} {quoted : Bool} {ts : List Terminal} →
    ((us : List Terminal) → ts ≡ Fixed k.Dot ∷ us → ⊥) → ((us : List Terminal) → ts ≡ Fixed k.Open ∷ us → ⊥) →
    Part (Named text quoted) 20 ts (primary.Column text) ts
column_read n m = record { found = column; only = λ v ws d s. column_only n m d; within = omega arith }

-- count ( * )
all_only : {text : List ℕ} {quoted : Bool} {left ws : List Terminal} {v : PrimaryTree} →
    IsPrimary v (Name text quoted ∷ Fixed k.Open ∷ Fixed k.Star ∷ Fixed k.Close ∷ left) ws → Stops 20 ws → (primary.CountAll ≡ v) × (left ≡ ws)
all_only column s = absurd (omega arith)
all_only (count_all e) s = (refl, refl)
all_only (call d) s = absurd (no_star d)

pub all_read : {text : List ℕ} {quoted : Bool} {ts left : List Terminal} → is_word count_word text ≡ true → ts ≡ Fixed k.Close ∷ left →
    Part (Counted text quoted) 20 ts primary.CountAll left
all_read {text = text} {quoted = quoted} {left = left} w e =
    subst (λ x. Part (Counted text quoted) 20 x primary.CountAll left) (sym e)
    (record { found = count_all w; only = λ v ws d s. all_only d s; within = omega arith })

no_all : {text : List ℕ} {quoted : Bool} {ts ws : List Terminal} {v : PrimaryTree} → ((us : List Terminal) → ts ≡ Fixed k.Close ∷ us → ⊥) →
    IsPrimary v (Name text quoted ∷ Fixed k.Open ∷ Fixed k.Star ∷ ts) ws → Stops 20 ws → ⊥
no_all n column s = omega arith
no_all n (count_all e) s = n _ refl
no_all n (call d) s = no_star d

pub all_refused : {text : List ℕ} {quoted : Bool} {ts : List Terminal} → ((us : List Terminal) → ts ≡ Fixed k.Close ∷ us → ⊥) →
    Refuses (Counted text quoted) 20 ts
all_refused n = λ v ws d s. no_all n d s

-- name ( or {, or} )
call_only : {text : List ℕ} {quoted : Bool} {ts rest left ws : List Terminal} {arguments : List OrTree} {v : PrimaryTree} →
    NoStar text ts →
    Read IsList 9 ts arguments rest → rest ≡ Fixed k.Close ∷ left →
    IsPrimary v (Name text quoted ∷ Fixed k.Open ∷ ts) ws → Stops 20 ws → (primary.Call text arguments ≡ v) × (left ≡ ws)
call_only n r e column s = absurd (omega arith)
call_only n r e (count_all w) s = absurd (n _ w refl)
call_only n r e (call d) s = let p = r.only _ _ d (lit< tt) in (cc, cc)

pub call_read : {text : List ℕ} {quoted : Bool} {ts rest left : List Terminal} {arguments : List OrTree} →
    NoStar text ts →
    Read IsList 9 ts arguments rest → rest ≡ Fixed k.Close ∷ left →
    Part (Called text quoted) 20 ts (primary.Call text arguments) left
call_read {ts = ts} {arguments = arguments} n r e = record {
  found = call (subst (λ x. IsList arguments ts x) e r.found);
  only = λ v ws d s. call_only n r e d s;
  within = let a = r.shorter in let b = ap length e in omega arith;
}

call_open : {text : List ℕ} {quoted : Bool} {ts rest ws : List Terminal} {arguments : List OrTree} {v : PrimaryTree} →
    NoStar text ts →
    Read IsList 9 ts arguments rest → ((us : List Terminal) → rest ≡ Fixed k.Close ∷ us → ⊥) →
    IsPrimary v (Name text quoted ∷ Fixed k.Open ∷ ts) ws → Stops 20 ws → ⊥
call_open n r m column s = omega arith
call_open n r m (count_all w) s = n _ w refl
call_open n r m (call d) s = m _ ((r.only _ _ d (lit< tt)).1)

pub call_unclosed : {text : List ℕ} {quoted : Bool} {ts rest : List Terminal} {arguments : List OrTree} →
    NoStar text ts →
    Read IsList 9 ts arguments rest → ((us : List Terminal) → rest ≡ Fixed k.Close ∷ us → ⊥) →
    Refuses (Called text quoted) 20 ts
call_unclosed n r m = λ v ws d s. call_open n r m d s

call_empty : {text : List ℕ} {quoted : Bool} {ts ws : List Terminal} {v : PrimaryTree} →
    NoStar text ts →
    Refuses IsList 9 ts → IsPrimary v (Name text quoted ∷ Fixed k.Open ∷ ts) ws → Stops 20 ws → ⊥
call_empty n m column s = omega arith
call_empty n m (count_all w) s = n _ w refl
call_empty n m (call d) s = m _ _ d (lit< tt)

pub call_refused : {text : List ℕ} {quoted : Bool} {ts : List Terminal} →
    NoStar text ts →
    Refuses IsList 9 ts → Refuses (Called text quoted) 20 ts
call_refused n m = λ v ws d s. call_empty n m d s

-- words and symbols that begin no operand
unkeyed : {key : Key} {ts ws : List Terminal} {v : PrimaryTree} → (key ≡ k.True → ⊥) → (key ≡ k.False → ⊥) → (key ≡ k.Null → ⊥) → (key ≡ k.Minus → ⊥) →
    (key ≡ k.Open → ⊥) → (key ≡ k.Cast → ⊥) → (key ≡ k.Case → ⊥) → IsPrimary v (Fixed key ∷ ts) ws → ⊥
unkeyed a b c d e f g is_true = a refl
unkeyed a b c d e f g is_false = b refl
unkeyed a b c d e f g null = c refl
unkeyed a b c d e f g negative_number = d refl
unkeyed a b c d e f g (paren x) = e refl
unkeyed a b c d e f g (cast x y) = f refl
unkeyed a b c d e f g (case x) = g refl
unkeyed a b c d e f g (case_of x y) = g refl

pub keyed_refused : {key : Key} {ts : List Terminal} → (key ≡ k.True → ⊥) → (key ≡ k.False → ⊥) → (key ≡ k.Null → ⊥) → (key ≡ k.Minus → ⊥) →
    (key ≡ k.Open → ⊥) → (key ≡ k.Cast → ⊥) → (key ≡ k.Case → ⊥) → Refuses (Keyed key) 20 ts
keyed_refused a b c d e f g = λ v ws x s. unkeyed a b c d e f g x
