-- Rows whose first values are of given types, and whose further values are those of aggregate calls.
use Rattle.std.proofs.Common.{◌≡◌, ℕ, zero, suc, ◌+◌, true, List, [], ◌∷◌, map, fold, Option, Some, None, ℤ, refl, sym, subst, ap, ◌∙◌}
use Rattle.std.specs.Prelude.{All, slice_index_or, unwrap_or}
use Rattle.std.specs.List.{slice_get}
use Rattle.std.proofs.lemmas.List.Elements.{All-nil, All-cons, All-head, All-tail, All-map, All-weaker}
use Rattle.aqe_values.specs.declared.value.Value.{Value}
use Rattle.aqe_values.specs.declared.value.Value.TheVariants as value
use Rattle.aqe_values.specs.declared.sql_type.SqlType.{SqlType}
use Rattle.aqe_values.specs.declared.sql_type.SqlType.TheVariants as sql
use Rattle.aqe_values.specs.declared.sort_way.SortWay.{SortWay}
use Rattle.aqe_values.specs.Order.{way_cmp}
use Rattle.aqe_expr.specs.Meaning.{val}
use Rattle.aqe_expr.specs.Numbers.{number_of}
use Rattle.aqe_logical.specs.declared.plan.AggCall.{AggCall}
use Rattle.aqe_logical.specs.declared.plan.AggFun.{AggFun}
use Rattle.aqe_logical.specs.declared.plan.AggFun.TheVariants.{Count, Sum, Min, Max}
use Rattle.aqe_logical.specs.Groups.{total_of, is_greater, first_of, ascending, descending, nothing, single, merged, folded, call_value}
use Rattle.aqe_rules.specs.declared.typed.Typed.{Typed}
use Rattle.aqe_rules.specs.Equality.{same_expr}
use Rattle.aqe_rules.specs.Readings.{Call, same_fun, same_call, call_of, gives}
use Rattle.aqe_laws.proofs.OperationsBelow.{either_one}
use Rattle.aqe_laws.proofs.Same as same
use Rattle.aqe_type_laws.specs.Fits.{IsOf}
use Rattle.aqe_type_laws.proofs.OperationsTyped.{Typed_over}

-- the values that a row has in front are of these types; it may be shorter, and longer
abbrev pub Front : List SqlType → List Value → Type 0
Front [] row = Unit {0}
Front (k ∷ ks) [] = Unit {0}
Front (k ∷ ks) (v ∷ row) = IsOf v k × Front ks row

pub front_column : (kinds : List SqlType) (n : ℕ) (k : SqlType) → slice_get kinds n ≡ Some k → (row : List Value) → Front kinds row → IsOf (slice_index_or row n value.Null) k
front_column [] n k e row h = absurd (let no : ⊥ = cc in no)
front_column (j ∷ kinds) zero k e [] h = tt
front_column (j ∷ kinds) (suc n) k e [] h = tt
front_column (j ∷ kinds) zero k e (v ∷ row) h = subst (λ i. IsOf v i) (the_same j k e) h.0
  where
    the_same : (i j : SqlType) → Some i ≡ Some j → i ≡ j
    the_same i j e = ap (λ o. unwrap_or o i) e
front_column (j ∷ kinds) (suc n) k e (v ∷ row) h = front_column kinds n k e row h.1

-- a fold keeps what its start has and each step keeps
pub fold-keeps : {A B : Type 0} (P : B → Type 0) (Q : A → Type 0) (f : B → A → B) → ((b : B) (a : A) → P b → Q a → P (f b a)) → (z : B) (xs : List A) → P z → All Q xs → P (fold f z xs)
fold-keeps P Q f k z [] h all = h
fold-keeps P Q f k z (x ∷ xs) h all = fold-keeps P Q f k (f z x) xs (k z x h (All-head Q x xs all)) (All-tail Q x xs all)

total-fits : (a b : Option ℤ) → IsOf (total_of a b) sql.BigInt
total-fits None None = tt
total-fits (Some m) None = tt
total-fits None (Some n) = tt
total-fits (Some m) (Some n) = tt

first-fits : (way : SortWay) (k : SqlType) (a b : Value) → IsOf a k → IsOf b k → IsOf (first_of way a b) k
first-fits way k a b h g = either_one (λ v. IsOf v k) (is_greater (way_cmp way a b)) b a g h

abbrev AnyValue : Value → Type 0
AnyValue v = Unit {0}

any : (vs : List Value) → All AnyValue vs
any [] = All-nil AnyValue
any (v ∷ vs) = All-cons AnyValue v vs tt (any vs)

same_values : (k : SqlType) (vs : List Value) (f : Value → Value) → ((v : Value) → f v ≡ v) → All (λ v. IsOf v k) vs → All (λ v. IsOf v k) (map f vs)
same_values k vs f e h = All-map (λ v. IsOf v k) f vs (All-weaker (λ v. IsOf v k) (λ v. IsOf (f v) k) (λ v p. subst (λ w. IsOf w k) (sym (e v)) p) vs h)

-- the value of a call over values of a type that it takes
pub folded-fits : (fun : AggFun) (k : SqlType) (vs : List Value) → All (λ v. IsOf v k) vs → IsOf (folded fun vs) (gives fun k)
folded-fits Count k vs h = fold-keeps (λ v. IsOf v sql.BigInt) AnyValue (merged Count) (λ b a p q. tt) (nothing Count) (map (single Count) vs) tt (any (map (single Count) vs))
folded-fits Sum k vs h = fold-keeps (λ v. IsOf v sql.BigInt) AnyValue (merged Sum) (λ b a p q. total-fits (number_of b) (number_of a)) (nothing Sum) (map (single Sum) vs) tt (any (map (single Sum) vs))
folded-fits Min k vs h =
    fold-keeps (λ v. IsOf v k) (λ v. IsOf v k) (merged Min) (λ b a p q. first-fits ascending k b a p q) (nothing Min) (map (single Min) vs) tt (same_values k vs (single Min) (λ v. refl) h)
folded-fits Max k vs h =
    fold-keeps (λ v. IsOf v k) (λ v. IsOf v k) (merged Max) (λ b a p q. first-fits descending k b a p q) (nothing Max) (map (single Max) vs) tt (same_values k vs (single Max) (λ v. refl) h)

-- an aggregate call over rows of these types has values of its type
abbrev pub CallTyped : List SqlType → Call → Type 0
CallTyped kinds c = (group : List (List Value)) → All (Front kinds) group → IsOf (call_value group c.call) c.kind

pub call_of-typed : (kinds : List SqlType) (fun : AggFun) (a : Typed) → Typed_over (Front kinds) a → CallTyped kinds (call_of fun a)
call_of-typed kinds fun a h group all =
    folded-fits fun a.kind (map (λ row. val row a.expr) group) (All-map (λ v. IsOf v a.kind) (λ row. val row a.expr) group (All-weaker (Front kinds) (λ row. IsOf (val row a.expr) a.kind) h group all))

-- the values of calls stand behind n values; each is that of a group of rows of these types
abbrev pub CallsStand : List SqlType → ℕ → List Call → List Value → Type 0
CallsStand kinds n [] row = Unit {0}
CallsStand kinds n (c ∷ cs) row = ((group : List (List Value)) × All (Front kinds) group × (slice_index_or row n value.Null ≡ call_value group c.call)) × CallsStand kinds (n + 1) cs row

-- equal calls have equal values
same_fun-equal : (f g : AggFun) → same_fun f g ≡ true → f ≡ g
same_fun-equal Count Count e = refl
same_fun-equal Sum Sum e = refl
same_fun-equal Min Min e = refl
same_fun-equal Max Max e = refl
same_fun-equal Count Sum e = absurd (let no : ⊥ = cc in no)
same_fun-equal Count Min e = absurd (let no : ⊥ = cc in no)
same_fun-equal Count Max e = absurd (let no : ⊥ = cc in no)
same_fun-equal Sum Count e = absurd (let no : ⊥ = cc in no)
same_fun-equal Sum Min e = absurd (let no : ⊥ = cc in no)
same_fun-equal Sum Max e = absurd (let no : ⊥ = cc in no)
same_fun-equal Min Count e = absurd (let no : ⊥ = cc in no)
same_fun-equal Min Sum e = absurd (let no : ⊥ = cc in no)
same_fun-equal Min Max e = absurd (let no : ⊥ = cc in no)
same_fun-equal Max Count e = absurd (let no : ⊥ = cc in no)
same_fun-equal Max Sum e = absurd (let no : ⊥ = cc in no)
same_fun-equal Max Min e = absurd (let no : ⊥ = cc in no)

pub same_call-value : (a b : AggCall) (group : List (List Value)) → same_call a b ≡ true → call_value group a ≡ call_value group b
same_call-value a b group e =
    let f : a.fun ≡ b.fun = same_fun-equal a.fun b.fun (same.first (same_fun a.fun b.fun) (same_expr a.arg b.arg) e) in
    let g : a.arg ≡ b.arg = same.equal a.arg b.arg (same.second (same_fun a.fun b.fun) (same_expr a.arg b.arg) e) in
    ap (λ h. folded h (map (λ row. val row a.arg) group)) f ∙ ap (λ x. folded b.fun (map (λ row. val row x) group)) g
