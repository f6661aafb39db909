-- Entries of groups, when one more row comes: for any key of a row, any start and any step.
use Rattle.std.proofs.Common.{◌≡◌, ℕ, zero, suc, ◌≤◌, Bool, true, false, not, ◌||◌, cond, List, [], ◌∷◌, ◌++◌, map, length, unwrap_or, refl, ap, sym, ◌∙◌, arith, append_assoc, Some}
use Rattle.std.specs.Prelude.{filter, fold}
use Rattle.std.specs.Map.{lookup}
use Rattle.std.specs.List.{list_any}
use Rattle.std.proofs.lemmas.List.{append-nil, map-append}
use Rattle.std.proofs.lemmas.List.Elements.{filter-append}
use Rattle.indexmap.specs.IndexMap.{insert_entry}
use Rattle.aqe_values.specs.declared.value.Value.{Value}
use Rattle.aqe_values.specs.Equality.{row_eq}
use Rattle.aqe_logical.specs.Answers.{Row}
use Rattle.aqe_logical.specs.Groups.{distinct, group_keys, rows_with}
use Rattle.aqe_logical.proofs.Rows.{rows_same}
use Rattle.aqe_partial.proofs.Lists.{filter_none, any_map}
use Rattle.aqe_partial.proofs.Keys.{only_once}
use Rattle.aqe_operators.specs.Gathering.{Group}

turned : (j k : Row) (b : Bool) → row_eq k j ≡ b → row_eq j k ≡ b
turned j k true e = (rows_same j k).1 (sym ((rows_same k j).0 e))
turned j k false e = by (row_eq j k) refl
  where
    by : (c : Bool) → row_eq j k ≡ c → row_eq j k ≡ false
    by true f = absurd (let up : true ≡ false = sym ((rows_same k j).1 (sym ((rows_same j k).0 f))) ∙ e in cc)
    by false f = f

-- the keys with one more: in its place where it is there, else behind all others
abbrev put : Row → List Row → List Row
put k [] = k ∷ []
put k (j ∷ js) = cond (row_eq k j) (j ∷ js) (j ∷ put k js)

-- what is the same as k stands once at most
abbrev Once : Row → List Row → Type 0
Once k [] = Unit {0}
Once k (j ∷ js) = (row_eq k j ≡ true → list_any (row_eq k) js ≡ false) × Once k js

any_none : (k : Row) (ks : List Row) → length (filter (row_eq k) ks) ≤ 0 → list_any (row_eq k) ks ≡ false
any_none k [] h = refl
any_none k (j ∷ js) h = by (row_eq k j) h (any_none k js)
  where
    by : (b : Bool) → length (cond b (j ∷ filter (row_eq k) js) (filter (row_eq k) js)) ≤ 0 → (length (filter (row_eq k) js) ≤ 0 → list_any (row_eq k) js ≡ false) → (b || list_any (row_eq k) js) ≡ false
    by true g rest = absurd (omega (arith, g))
    by false g rest = rest g

once_of : (k : Row) (ks : List Row) → length (filter (row_eq k) ks) ≤ 1 → Once k ks
once_of k [] h = tt
once_of k (j ∷ js) h = by (row_eq k j) h (once_of k js)
  where
    by : (b : Bool) → length (cond b (j ∷ filter (row_eq k) js) (filter (row_eq k) js)) ≤ 1 → (length (filter (row_eq k) js) ≤ 1 → Once k js) → (b ≡ true → list_any (row_eq k) js ≡ false) × Once k js
    by true g rest =
        let few : length (filter (row_eq k) js) ≤ 0 = omega (arith, g) in
        let one : length (filter (row_eq k) js) ≤ 1 = omega (arith, g) in
        ((λ e. any_none k js few), rest one)
    by false g rest = ((λ e. absurd (cc)), rest g)

at_most_one : (b : Bool) (k : Row) → length (cond b (k ∷ []) []) ≤ 1
at_most_one true k = omega arith
at_most_one false k = omega arith

distinct_once : (k : Row) (ks : List Row) → Once k (distinct ks)
distinct_once k ks = once_of k (distinct ks) (rw (only_once k ks) (at_most_one (list_any (row_eq k) ks) k))

any_of_distinct : (k : Row) (ks : List Row) → list_any (row_eq k) (distinct ks) ≡ false → list_any (row_eq k) ks ≡ false
any_of_distinct k ks h = by (list_any (row_eq k) ks) (only_once k ks)
  where
    by : (b : Bool) → filter (row_eq k) (distinct ks) ≡ cond b (k ∷ []) [] → b ≡ false
    by true e = absurd (let none : k ∷ [] ≡ [] = sym e ∙ filter_none (row_eq k) (distinct ks) h in cc)
    by false e = refl

put_kept : (p : Row → Bool) (k : Row) (ks : List Row) → p k ≡ true → filter p (put k ks) ≡ put k (filter p ks)
put_kept p k [] h = ap (λ b. cond b (k ∷ []) []) h
put_kept p k (j ∷ js) h = by (row_eq k j) refl (put_kept p k js h)
  where
    within : (b c : Bool) → row_eq k j ≡ c → c ≡ false → filter p (put k js) ≡ put k (filter p js) → cond b (j ∷ filter p (put k js)) (filter p (put k js)) ≡ put k (cond b (j ∷ filter p js) (filter p js))
    within true c e f i = rw (e ∙ f) (ap (λ xs. j ∷ xs) i)
    within false c e f i = i

    by : (c : Bool) → row_eq k j ≡ c → filter p (put k js) ≡ put k (filter p js) → filter p (cond c (j ∷ js) (j ∷ put k js)) ≡ put k (cond (p j) (j ∷ filter p js) (filter p js))
    by true e i =
        let pj : p j ≡ true = ap p (sym ((rows_same k j).0 e)) ∙ h in
        rw (pj, e) refl
    by false e i = within (p j) false e refl i

put_dropped : (p : Row → Bool) (k : Row) (ks : List Row) → p k ≡ false → filter p (put k ks) ≡ filter p ks
put_dropped p k [] h = ap (λ b. cond b (k ∷ []) []) h
put_dropped p k (j ∷ js) h = by (row_eq k j) (put_dropped p k js h)
  where
    by : (c : Bool) → filter p (put k js) ≡ filter p js → filter p (cond c (j ∷ js) (j ∷ put k js)) ≡ filter p (j ∷ js)
    by true i = refl
    by false i = ap (λ xs. cond (p j) (j ∷ xs) xs) i

distinct_put : (k : Row) (ks : List Row) → distinct (ks ++ k ∷ []) ≡ put k (distinct ks)
distinct_put k [] = refl
distinct_put k (j ∷ js) = ap (λ xs. j ∷ filter (λ i. not (row_eq j i)) xs) (distinct_put k js) ∙ by (row_eq k j) refl
  where
    by : (c : Bool) → row_eq k j ≡ c → j ∷ filter (λ i. not (row_eq j i)) (put k (distinct js)) ≡ cond c (j ∷ filter (λ i. not (row_eq j i)) (distinct js)) (j ∷ put k (filter (λ i. not (row_eq j i)) (distinct js)))
    by true e = ap (λ xs. j ∷ xs) (put_dropped (λ i. not (row_eq j i)) k (distinct js) (ap not (turned j k true e)))
    by false e = ap (λ xs. j ∷ xs) (put_kept (λ i. not (row_eq j i)) k (distinct js) (ap not (turned j k false e)))

fold_more : {X Y : Type 0} (g : Y → X → Y) (z : Y) (xs : List X) (x : X) → fold g z (xs ++ x ∷ []) ≡ g (fold g z xs) x
fold_more g z [] x = refl
fold_more g z (y ∷ ys) x = fold_more g (g z y) ys x

module _ (key : Row → Row) (step : List Value → Row → List Value) (start : List Value) where
  -- what is kept of the rows of a key
  abbrev pub state_of : List Row → Row → List Value
  state_of rows k = fold step start (rows_with key k rows)

  abbrev pub group_of : List Row → Row → Group
  group_of rows k = (k, state_of rows k)

  -- the entries of these keys
  abbrev pub entries_of : List Row → List Row → List Group
  entries_of ks rows = map (group_of rows) ks

  -- the entries with one row more
  abbrev pub with_one : List Group → Row → List Group
  with_one groups row = insert_entry row_eq groups (key row) (step (unwrap_or (lookup (row_eq (key row)) groups) start) row)

  state_more : (rows : List Row) (row j : Row) (b : Bool) → row_eq j (key row) ≡ b → state_of (rows ++ row ∷ []) j ≡ cond b (step (state_of rows j) row) (state_of rows j)
  state_more rows row j b e =
      ap (fold step start) (filter-append (λ r. row_eq j (key r)) rows (row ∷ [])) ∙ by b e
    where
      by : (c : Bool) → row_eq j (key row) ≡ c → fold step start (rows_with key j rows ++ cond (row_eq j (key row)) (row ∷ []) []) ≡ cond c (step (state_of rows j) row) (state_of rows j)
      by true f = rw f (fold_more step start (rows_with key j rows) row)
      by false f = rw f (ap (fold step start) (append-nil (rows_with key j rows)))

  others_stay : (ks : List Row) (rows : List Row) (row : Row) → list_any (row_eq (key row)) ks ≡ false → entries_of ks rows ≡ entries_of ks (rows ++ row ∷ [])
  others_stay [] rows row h = refl
  others_stay (j ∷ js) rows row h = by (row_eq (key row) j) refl h (others_stay js rows row)
    where
      by : (b : Bool) → row_eq (key row) j ≡ b → (b || list_any (row_eq (key row)) js) ≡ false → (list_any (row_eq (key row)) js ≡ false → entries_of js rows ≡ entries_of js (rows ++ row ∷ [])) → entries_of (j ∷ js) rows ≡ entries_of (j ∷ js) (rows ++ row ∷ [])
      by true e g rest = absurd (cc)
      by false e g rest = λ i. (j, sym (state_more rows row j false (turned j (key row) false e)) i) ∷ rest g i

  inserted : (ks : List Row) (rows : List Row) (row : Row) → Once (key row) ks → (list_any (row_eq (key row)) ks ≡ false → state_of rows (key row) ≡ start)
      → with_one (entries_of ks rows) row ≡ entries_of (put (key row) ks) (rows ++ row ∷ [])
  inserted [] rows row once fresh =
      λ i. (key row, (ap (λ s. step s row) (sym (fresh refl)) ∙ sym (state_more rows row (key row) true ((rows_same (key row) (key row)).1 refl))) i) ∷ []
  inserted (j ∷ js) rows row once fresh = by (row_eq (key row) j) refl once fresh (inserted js rows row)
    where
      by : (b : Bool) → row_eq (key row) j ≡ b → (b ≡ true → list_any (row_eq (key row)) js ≡ false) × Once (key row) js → ((b || list_any (row_eq (key row)) js) ≡ false → state_of rows (key row) ≡ start)
          → (Once (key row) js → (list_any (row_eq (key row)) js ≡ false → state_of rows (key row) ≡ start) → with_one (entries_of js rows) row ≡ entries_of (put (key row) js) (rows ++ row ∷ []))
          → cond b ((j, step (unwrap_or (cond b (Some (state_of rows j)) (lookup (row_eq (key row)) (entries_of js rows))) start) row) ∷ entries_of js rows) (group_of rows j ∷ insert_entry row_eq (entries_of js rows) (key row) (step (unwrap_or (cond b (Some (state_of rows j)) (lookup (row_eq (key row)) (entries_of js rows))) start) row))
          ≡ entries_of (cond b (j ∷ js) (j ∷ put (key row) js)) (rows ++ row ∷ [])
      by true e o f rest = λ i. (j, sym (state_more rows row j true (turned j (key row) true e)) i) ∷ others_stay js rows row (o.0 refl) i
      by false e o f rest = λ i. (j, sym (state_more rows row j false (turned j (key row) false e)) i) ∷ rest o.1 f i

  -- the groups of rows, for keys of n values
  abbrev pub groups_of : ℕ → List Row → List Group
  groups_of n rows = entries_of (group_keys n (map key rows)) rows

  pub one_more : (n : ℕ) → ((row : Row) → n ≡ 0 → key row ≡ []) → (rows : List Row) (row : Row) → with_one (groups_of n rows) row ≡ groups_of n (rows ++ row ∷ [])
  one_more zero short rows row =
      inserted ([] ∷ []) rows row ((λ e. refl), tt) (λ h. absurd (let there : row_eq (key row) [] ≡ true = ap (λ k. row_eq k []) (short row refl) in cc)) ∙
      ap (λ ks. entries_of ks (rows ++ row ∷ [])) (ap (λ k. put k ([] ∷ [])) (short row refl))
  one_more (suc n) short rows row =
      inserted (distinct (map key rows)) rows row (distinct_once (key row) (map key rows)) fresh ∙
      ap (λ ks. entries_of ks (rows ++ row ∷ [])) (sym (distinct_put (key row) (map key rows)) ∙ ap distinct (sym (map-append key rows (row ∷ []))))
    where
      fresh : list_any (row_eq (key row)) (distinct (map key rows)) ≡ false → state_of rows (key row) ≡ start
      fresh h = ap (fold step start) (filter_none (λ r. row_eq (key row) (key r)) rows (sym (any_map (row_eq (key row)) key rows) ∙ any_of_distinct (key row) (map key rows) h))

  all_more : (n : ℕ) → ((row : Row) → n ≡ 0 → key row ≡ []) → (seen rows : List Row) → fold with_one (groups_of n seen) rows ≡ groups_of n (seen ++ rows)
  all_more n short seen [] = ap (groups_of n) (sym (append-nil seen))
  all_more n short seen (row ∷ rows) =
      ap (λ gs. fold with_one gs rows) (one_more n short seen row) ∙
      (all_more n short (seen ++ row ∷ []) rows ∙ ap (groups_of n) (append_assoc seen (row ∷ []) rows))

  pub all_gathered : (n : ℕ) → ((row : Row) → n ≡ 0 → key row ≡ []) → (rows : List Row) → fold with_one (groups_of n []) rows ≡ groups_of n rows
  all_gathered n short rows = all_more n short [] rows
