-- Keys that are found one by one.
use Rattle.std.proofs.Common.{ap, sym, ◌∙◌, ◌≡◌, ◌<◌, refl, false, ℕ, ◌+◌, length, List, [], ◌∷◌, ◌++◌, Option, Some, None, take, drop, get_or, ◌==◌}
use Rattle.std.specs.Option.{option_map}
use Rattle.std.specs.List.{list_all}
use Rattle.std.proofs.lemmas.List.{take_more, take-append-drop, drop_more}
use Rattle.aqe_expr.specs.declared.expr.Expr.{Expr}
use Rattle.aqe_logical.specs.declared.plan.Placement.TheVariants as place
use Rattle.aqe_fitting.specs.Placing.{with_more, each_found, keeps_groups}
use Rattle.aqe_placing.specs.Columns.{is_among}

with-push : {B : Type 0} (o : Option B) (m n : Option (List B)) (ys : List B) (y : B) → ((zs : List B) → m ≡ Some zs → n ≡ Some (zs ++ y ∷ [])) →
    with_more o m ≡ Some ys → with_more o n ≡ Some (ys ++ y ∷ [])
with-push None m n ys y k h = cc (h)
with-push (Some a) None n ys y k h = cc (h)
with-push (Some a) (Some zs) n ys y k h = rw (k zs refl) (ap (option_map (λ l. l ++ y ∷ [])) h)

pub found-push : {A B : Type 0} (f : A → Option B) (xs : List A) (x : A) (ys : List B) (y : B) → each_found f xs ≡ Some ys → f x ≡ Some y → each_found f (xs ++ x ∷ []) ≡ Some (ys ++ y ∷ [])
found-push f [] x ys y h e = rw e (ap (option_map (λ l. l ++ y ∷ [])) h)
found-push f (z ∷ zs) x ys y h e = with-push (f z) (each_found f zs) (each_found f (zs ++ x ∷ [])) ys y (λ us k. found-push f zs x us y k e) h

with-none : {B : Type 0} (o : Option B) → with_more o None ≡ None
with-none None = refl
with-none (Some y) = refl

pub found-none : {A B : Type 0} (f : A → Option B) (xs rest : List A) (x : A) → f x ≡ None → each_found f (xs ++ x ∷ rest) ≡ None
found-none f [] rest x e = rw e refl
found-none f (z ∷ zs) rest x e = rw (found-none f zs rest x e) (with-none (f z))

pub keeps_by_hash : (keys others : List Expr) → (length keys == 0) ≡ false → keeps_groups keys (place.Hash others) ≡ list_all (is_among keys) others
keeps_by_hash [] others h = cc (h)
keeps_by_hash (key ∷ keys) others h = refl

-- the keys up to one are found, and so is that one
pub found_more : {A B : Type 0} (f : A → Option B) (keys : List A) (i : ℕ) (x : A) (made now : List B) (o : Option B) (y : B) → i < length keys →
    x ≡ get_or keys i x → each_found f (take i keys) ≡ Some made → o ≡ f x → o ≡ Some y → now ≡ made ++ y ∷ [] → each_found f (take (i + 1) keys) ≡ Some now
found_more f keys i x made now o y h at e found some pushed =
    rw (take_more keys i x h, ← at, pushed) (found-push f (take i keys) x made y e (sym found ∙ some))

split_at : {A : Type 0} (keys : List A) (i : ℕ) (x : A) → i < length keys → keys ≡ take i keys ++ get_or keys i x ∷ drop (i + 1) keys
split_at keys i x h = sym (take-append-drop i keys) ∙ ap (λ l. take i keys ++ l) (drop_more keys i x h)

-- one is not found, so not all are
pub not_found : {A B : Type 0} (f : A → Option B) (keys : List A) (i : ℕ) (x : A) (o : Option B) → i < length keys → x ≡ get_or keys i x → o ≡ f x → o ≡ None →
    None ≡ each_found f keys
not_found f keys i x o h at found none =
    sym (ap (each_found f) (split_at keys i x h) ∙ found-none f (take i keys) (drop (i + 1) keys) (get_or keys i x) (ap f (sym at) ∙ sym found ∙ none))
