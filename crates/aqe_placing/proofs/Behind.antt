-- Columns in order, and keys that are spelled anew one by one.
use Rattle.std.proofs.Common.{arith, zero, suc, ◌+◌, ◌++◌, ◌∷◌, ap, ◌∙◌, ◌<◌, ◌≡◌, refl, [], ℕ, List, length, map, take, get_or}
use Rattle.std.proofs.lemmas.List.{take_more, map-append}
use Rattle.aqe_expr.specs.declared.expr.Expr.{Expr, Column}
use Rattle.aqe_join_keys.specs.Keys.{columns_from}

columns_last : (a n : ℕ) → columns_from a (suc n) ≡ columns_from a n ++ Column (a + n) ∷ []
columns_last a zero = ap (λ (k : ℕ). Column k ∷ []) (omega arith)
columns_last a (suc n) = ap (λ (l : List Expr). Column a ∷ l) (columns_last (a + 1) n ∙ ap (λ (k : ℕ). columns_from (a + 1) n ++ Column k ∷ []) (omega arith))

-- one column more
pub columns_more : (a n : ℕ) → columns_from a (n + 1) ≡ columns_from a n ++ Column (a + n) ∷ []
columns_more a n =
    let e : n + 1 ≡ suc n = omega arith in
    ap (columns_from a) e ∙ columns_last a n

-- one item more, spelled anew
pub mapped_more : {A B : Type 0} (f : A → B) (xs : List A) (i : ℕ) (x : A) (made now : List B) (y : B) → i < length xs → x ≡ get_or xs i x → made ≡ map f (take i xs) → y ≡ f x →
    now ≡ made ++ y ∷ [] → now ≡ map f (take (i + 1) xs)
mapped_more f xs i x made now y h at e is pushed = rw (pushed, e, is, take_more xs i x h, ← at, map-append f (take i xs) (x ∷ [])) refl
