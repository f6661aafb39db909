-- Keys without repeats.
use Rattle.std.proofs.Common.{◌≡◌, ℕ, zero, suc, Bool, true, false, not, ◌&&◌, ◌||◌, cond, List, [], ◌∷◌, ◌++◌, length, refl, ap, sym, ◌∙◌}
use Rattle.std.specs.Prelude.{filter, flat_map, All}
use Rattle.std.specs.List.{list_any}
use Rattle.std.proofs.lemmas.List.Elements.{All-nil, All-cons, All-head, All-tail, All-filter, filter-append}
use Rattle.aqe_values.specs.Equality.{row_eq}
use Rattle.aqe_logical.specs.Answers.{Row}
use Rattle.aqe_logical.specs.Groups.{distinct, group_keys}
use Rattle.aqe_logical.proofs.Rows.{rows_same}
use Rattle.aqe_partial.proofs.Lists.{filter_within, filter_comm, filter_two, filter_all, filter_other, any_within}

itself : (k : Row) → row_eq k k ≡ true
itself k = (rows_same k k).1 refl

-- whether a key differs from another, and from each of some
abbrev differs : Row → Row → Bool
differs k j = not (row_eq k j)

abbrev fresh : List Row → Row → Bool
fresh ks j = not (list_any (λ k. row_eq k j) ks)

-- a key is the same as another exactly where they are one, so what is the same as j is not the same as k that differs
apart : (k j i : Row) → row_eq k j ≡ false → row_eq i j ≡ true → not (row_eq k i) ≡ true
apart k j i h e = by (row_eq k i) refl
  where
    by : (b : Bool) → row_eq k i ≡ b → not b ≡ true
    by true g = absurd (let up : true ≡ false = sym ((rows_same k j).1 ((rows_same k i).0 g ∙ (rows_same i j).0 e)) ∙ h in cc)
    by false g = refl

any_distinct : (j : Row) (ks : List Row) → list_any (λ k. row_eq k j) (distinct ks) ≡ list_any (λ k. row_eq k j) ks
any_distinct j [] = refl
any_distinct j (k ∷ ks) = by (row_eq k j) refl (any_distinct j ks)
  where
    by : (b : Bool) → row_eq k j ≡ b → list_any (λ i. row_eq i j) (distinct ks) ≡ list_any (λ i. row_eq i j) ks → (b || list_any (λ i. row_eq i j) (filter (differs k) (distinct ks))) ≡ (b || list_any (λ i. row_eq i j) ks)
    by true e rest = refl
    by false e rest = any_within (λ i. row_eq i j) (differs k) (distinct ks) (λ i h. apart k j i e h) ∙ rest

fresh_more : (x j : Row) (ks : List Row) → fresh (x ∷ ks) j ≡ (differs x j && fresh ks j)
fresh_more x j ks = by (row_eq x j) (list_any (λ k. row_eq k j) ks)
  where
    by : (a b : Bool) → not (a || b) ≡ (not a && not b)
    by true b = refl
    by false b = refl

pub distinct_append : (js ks : List Row) → distinct (js ++ ks) ≡ distinct js ++ filter (fresh js) (distinct ks)
distinct_append [] ks = sym (filter_all (fresh []) (distinct ks) (λ j. refl))
distinct_append (j ∷ js) ks = ap (λ is. j ∷ is)
    (ap (filter (differs j)) (distinct_append js ks) ∙
    (filter-append (differs j) (distinct js) (filter (fresh js) (distinct ks)) ∙
    ap (λ is. filter (differs j) (distinct js) ++ is) (filter_two (differs j) (fresh js) (fresh (j ∷ js)) (distinct ks) (λ i. fresh_more j i js))))

distinct_filter : (p : Row → Bool) (ks : List Row) → distinct (filter p ks) ≡ filter p (distinct ks)
distinct_filter p [] = refl
distinct_filter p (k ∷ ks) = by (p k) refl (distinct_filter p ks)
  where
    by : (b : Bool) → p k ≡ b → distinct (filter p ks) ≡ filter p (distinct ks) → distinct (cond b (k ∷ filter p ks) (filter p ks)) ≡ cond b (k ∷ filter p (filter (differs k) (distinct ks))) (filter p (filter (differs k) (distinct ks)))
    by true e h = ap (λ js. k ∷ js) (ap (filter (differs k)) h ∙ filter_comm (differs k) p (distinct ks))
    by false e h = h ∙ sym (filter_within p (differs k) (distinct ks) (λ j g. other j g (row_eq k j) refl))
      where
        other : (j : Row) → p j ≡ true → (c : Bool) → row_eq k j ≡ c → not c ≡ true
        other j g true f = absurd (let up : true ≡ false = sym g ∙ (ap p (sym ((rows_same k j).0 f)) ∙ e) in cc)
        other j g false f = refl

distinct_twice : (ks : List Row) → distinct (distinct ks) ≡ distinct ks
distinct_twice [] = refl
distinct_twice (k ∷ ks) = ap (λ js. k ∷ js)
    (ap (filter (differs k)) (distinct_filter (differs k) (distinct ks) ∙ ap (filter (differs k)) (distinct_twice ks)) ∙
    filter_within (differs k) (differs k) (distinct ks) (λ j h. h))

-- keys without repeats of parts without repeats
pub distinct_parts : {P : Type 0} (f : P → List Row) (ps : List P) → distinct (flat_map (λ p. distinct (f p)) ps) ≡ distinct (flat_map f ps)
distinct_parts f [] = refl
distinct_parts {P} f (p ∷ ps) =
    distinct_append (distinct (f p)) (flat_map (λ (q : P). distinct (f q)) ps) ∙
    ((λ i. distinct_twice (f p) i ++ filter (λ j. not (any_distinct j (f p) i)) (distinct_parts f ps i)) ∙
    sym (distinct_append (f p) (flat_map f ps)))

-- a key stands once among the keys without repeats, where it stands among the keys
pub only_once : (k : Row) (ks : List Row) → filter (row_eq k) (distinct ks) ≡ cond (list_any (row_eq k) ks) (k ∷ []) []
only_once k [] = refl
only_once k (j ∷ ks) = by (row_eq k j) refl (only_once k ks)
  where
    met : k ≡ j → j ∷ filter (row_eq k) (filter (differs j) (distinct ks)) ≡ k ∷ []
    met same = (λ i. sym same i ∷ (ap (λ x. filter (row_eq x) (filter (differs j) (distinct ks))) same ∙ filter_other (row_eq j) (distinct ks)) i)

    turned : (i : Row) → row_eq k j ≡ false → row_eq k i ≡ true → (c : Bool) → row_eq j i ≡ c → not c ≡ true
    turned i e h true f = absurd (let up : true ≡ false = sym ((rows_same k j).1 ((rows_same k i).0 h ∙ sym ((rows_same j i).0 f))) ∙ e in cc)
    turned i e h false f = refl

    by : (b : Bool) → row_eq k j ≡ b → filter (row_eq k) (distinct ks) ≡ cond (list_any (row_eq k) ks) (k ∷ []) [] → cond b (j ∷ filter (row_eq k) (filter (differs j) (distinct ks))) (filter (row_eq k) (filter (differs j) (distinct ks))) ≡ cond (b || list_any (row_eq k) ks) (k ∷ []) []
    by true e rest = met ((rows_same k j).0 e)
    by false e rest = filter_within (row_eq k) (differs j) (distinct ks) (λ i h. turned i e h (row_eq j i) refl) ∙ rest

abbrev pub Long : ℕ → Row → Type 0
Long n k = length k ≡ n

distinct_long : (n : ℕ) (ks : List Row) → All (Long n) ks → All (Long n) (distinct ks)
distinct_long n [] h = All-nil (Long n)
distinct_long n (k ∷ ks) h = All-cons (Long n) k (filter (differs k) (distinct ks)) (All-head (Long n) k ks h) (All-filter (differs k) (Long n) (distinct ks) (distinct_long n ks (All-tail (Long n) k ks h)))

pub keys_long : (n : ℕ) (ks : List Row) → All (Long n) ks → All (Long n) (group_keys n ks)
keys_long zero ks h = All-cons (Long zero) [] [] refl (All-nil (Long zero))
keys_long (suc n) ks h = distinct_long (suc n) ks h

pub keys_parts : {P : Type 0} (n : ℕ) (f : P → List Row) (ps : List P) → group_keys n (flat_map (λ p. group_keys n (f p)) ps) ≡ group_keys n (flat_map f ps)
keys_parts zero f ps = refl
keys_parts (suc n) f ps = distinct_parts f ps

-- whether a key is one of the keys of groups
abbrev pub has_key : ℕ → Row → List Row → Bool
has_key zero k ks = true
has_key (suc n) k ks = list_any (row_eq k) ks

no_values : (k : Row) → length k ≡ zero → k ≡ []
no_values [] h = refl
no_values (v ∷ vs) h = absurd (cc)

pub key_once : (n : ℕ) (k : Row) (ks : List Row) → length k ≡ n → filter (row_eq k) (group_keys n ks) ≡ cond (has_key n k ks) (k ∷ []) []
key_once zero k ks h =
    let e : k ≡ [] = no_values k h in
    let t : row_eq k [] ≡ true = ap (row_eq k) (sym e) ∙ itself k in
    ap (λ b. cond b ([] ∷ []) []) t ∙ (λ i. sym e i ∷ [])
key_once (suc n) k ks h = only_once k ks
