-- Where the rows of groups stand.
use Rattle.std.proofs.Common.{◌≡◌, ℕ, suc, ◌+◌, ◌==◌, true, List, [], ◌∷◌, ◌++◌, map, take, length, refl, ap, sym, ◌∙◌, arith, append-nil, subst, Option, Some, None}
use Rattle.std.specs.Prelude.{All}
use Rattle.std.specs.List.{range_with_len}
use Rattle.std.proofs.lemmas.List.{length-map}
use Rattle.std.proofs.lemmas.List.FromFn.{length-map-range_with_len}
use Rattle.std.proofs.lemmas.List.Elements.{All-nil, All-cons, All-head, All-tail, All-map, All-weaker, All-filter}
use Rattle.aqe_values.specs.declared.value.Value.{Value}
use Rattle.aqe_values.specs.Murmur.{hash_place}
use Rattle.aqe_expr.specs.declared.expr.Expr.{Expr}
use Rattle.aqe_expr.specs.Meaning.{val}
use Rattle.aqe_logical.specs.declared.plan.AggCall.{AggCall}
use Rattle.aqe_logical.specs.declared.plan.Placement.{Placement}
use Rattle.aqe_logical.specs.declared.plan.Placement.TheVariants as place
use Rattle.aqe_logical.specs.Answers.{Row}
use Rattle.aqe_logical.specs.Groups.{row_of, distinct, group_rows, finish_rows, finished, rows_with, call_value}
use Rattle.aqe_partial.specs.PartialRows.{joined_parts, partial_rows}
use Rattle.aqe_places.specs.Places.{by_hash, exchanged, part_of}
use Rattle.aqe_places.specs.Laws.{Placed}
use Rattle.aqe_places.proofs.Exchanged.{place_the_rows}
use Rattle.aqe_join_keys.specs.Keys.{columns_from}
use Rattle.aqe_fitting.specs.Placing.{after_groups, each_found, column_with, hash_by, keeps_groups}
use Rattle.aqe_fit_laws.specs.Standing.{Cut, Stands, plainly}
use Rattle.aqe_fit_laws.specs.Laws.{GroupsMovePlaces, GroupsOverAPlace, FinishedExchangesStand}
use Rattle.aqe_fit_laws.proofs.Together.{distinct_all, one_part, placed_groups}
use Rattle.aqe_fit_laws.proofs.Respelled.{respelled, all_found, column_found, columns_in_front}

-- what holds of each key of rows, with whatever behind it, holds of the rows of their groups
groups_all : (P : Row → Type 0) (key : Row → Row) (each : Row → List Value) (rows : List Row) → All (λ row. (more : Row) → P (key row ++ more)) rows → All P (map (λ k. k ++ each k) (distinct (map key rows)))
groups_all P key each rows h =
    All-map P (λ k. k ++ each k) (distinct (map key rows))
    (All-weaker (λ k. (more : Row) → P (k ++ more)) (λ k. P (k ++ each k)) (λ k all. all (each k)) (distinct (map key rows))
    (distinct_all (λ k. (more : Row) → P (k ++ more)) (map key rows) (All-map (λ k. (more : Row) → P (k ++ more)) key rows h)))

module _ (m : ℕ) (key : Row → Row) (calls : List AggCall) (f g : Row → ℕ) (same : (row more : Row) → g (key row ++ more) ≡ f row) where
  placed_partials : (a : ℕ) (parts : List (List Row)) → Placed f a parts → Placed g a (map (partial_rows (suc m) key calls) parts)
  placed_partials a [] h = tt
  placed_partials a (part ∷ parts) (h, k) = (
    groups_all (λ row. g row ≡ a) key (λ k. map (call_value (rows_with key k part)) calls) part
        (All-weaker (λ row. f row ≡ a) (λ row. (more : Row) → g (key row ++ more) ≡ a) (λ row e more. same row more ∙ e) part h),
    placed_partials (a + 1) parts k,
  )

module _ (n : ℕ) (cut : Cut) (calls : List AggCall) (parts : List (List Row)) where
  by_keys : (key : Expr) (keys others : List Expr) → Stands n cut (place.Hash others) parts → (o : Option (List Expr)) → each_found (column_with (key ∷ keys)) others ≡ o →
      Stands n cut (hash_by o) (map (partial_rows (suc (length keys)) (row_of (key ∷ keys)) calls) parts)
  by_keys key keys others all None e = tt
  by_keys key keys others (count, all) (Some spelled) e =
      let new = respelled (column_with (key ∷ keys)) (key ∷ keys) (column_found (key ∷ keys)) others spelled e in (
        length-map parts (partial_rows (suc (length keys)) (row_of (key ∷ keys)) calls) ∙ count,
        placed_partials (length keys) (row_of (key ∷ keys)) calls (λ row. cut.number (by_hash n others row)) (λ row. cut.number (by_hash n spelled row))
            (λ row more. ap (λ k. cut.number (hash_place n k)) (new.values row more)) 0 parts all,
      )

  grouped_stand : (keys : List Expr) (w : Placement) → keeps_groups keys w ≡ true → Stands n cut w parts → Stands n cut (after_groups keys w) (map (partial_rows (length keys) (row_of keys) calls) parts)
  grouped_stand keys place.Any s h = tt
  grouped_stand keys place.Single s h = length-map parts (partial_rows (length keys) (row_of keys) calls) ∙ h
  grouped_stand [] (place.Hash others) s h = absurd (cc)
  grouped_stand (key ∷ keys) (place.Hash others) s h = by_keys key keys others h (each_found (column_with (key ∷ keys)) others) refl
  grouped_stand keys (place.Range others) s h = tt
  grouped_stand keys place.Broadcast s h = tt

pub group_places : GroupsMovePlaces
group_places n cut keys calls w parts s h = grouped_stand n cut calls parts keys w s h

-- groups over parts in which rows of equal keys stand together
module _ (n : ℕ) (cut : Cut) (calls : List AggCall) (parts : List (List Row)) where
  groups_by_hash : (key : Expr) (keys others : List Expr) → keeps_groups (key ∷ keys) (place.Hash others) ≡ true → Stands n cut (place.Hash others) parts →
      joined_parts (map (finish_rows (suc (length keys)) calls) (map (partial_rows (suc (length keys)) (row_of (key ∷ keys)) calls) parts)) ≡ group_rows (suc (length keys)) (row_of (key ∷ keys)) calls (joined_parts parts)
  groups_by_hash key keys others s (count, all) =
      let spelled = all_found (key ∷ keys) others s in
      let new = respelled (column_with (key ∷ keys)) (key ∷ keys) (column_found (key ∷ keys)) others spelled.0 spelled.1 in
      let same : (row : Row) → by_hash n others row ≡ by_hash n spelled.0 (row_of (key ∷ keys) row) =
      λ row. ap (hash_place n) (sym (new.values row []) ∙ ap (row_of spelled.0) (append-nil (row_of (key ∷ keys) row))) in
      placed_groups (length keys) (row_of (key ∷ keys)) calls (λ k. cut.number (by_hash n spelled.0 k)) parts (λ row. length-map (key ∷ keys) (val row))
      (subst (λ (f : Row → ℕ). Placed f 0 parts) (λ i row. cut.number (same row i)) all)

  groups_over : (keys : List Expr) (w : Placement) → keeps_groups keys w ≡ true → Stands n cut w parts →
      joined_parts (map (finish_rows (length keys) calls) (map (partial_rows (length keys) (row_of keys) calls) parts)) ≡ group_rows (length keys) (row_of keys) calls (joined_parts parts)
  groups_over keys place.Single s h = one parts h
    where
      one : (ps : List (List Row)) → length ps ≡ 1 → joined_parts (map (finish_rows (length keys) calls) (map (partial_rows (length keys) (row_of keys) calls) ps)) ≡ group_rows (length keys) (row_of keys) calls (joined_parts ps)
      one [] e = absurd (let no : ⊥ = omega (arith, e) in no)
      one (part ∷ []) e =
          append-nil (finish_rows (length keys) calls (partial_rows (length keys) (row_of keys) calls part)) ∙
          (one_part (length keys) (row_of keys) calls part (λ row. length-map keys (val row)) ∙
          ap (group_rows (length keys) (row_of keys) calls) (sym (append-nil part)))
      one (part ∷ other ∷ more) e = absurd (let no : ⊥ = omega (arith, e) in no)
  groups_over [] place.Any s h = absurd (cc)
  groups_over [] (place.Hash others) s h = absurd (cc)
  groups_over [] (place.Range others) s h = absurd (cc)
  groups_over [] place.Broadcast s h = absurd (cc)
  groups_over (key ∷ keys) place.Any s h = absurd (cc)
  groups_over (key ∷ keys) (place.Hash others) s h = groups_by_hash key keys others s h
  groups_over (key ∷ keys) (place.Range others) s h = absurd (cc)
  groups_over (key ∷ keys) place.Broadcast s h = absurd (cc)

pub over_a_place : GroupsOverAPlace
over_a_place n cut keys calls w parts s h = groups_over n cut calls parts keys w s h

pub all_both : {X : Type 0} (P Q : X → Type 0) (xs : List X) → All P xs → All Q xs → All (λ x. P x × Q x) xs
all_both P Q [] h k = All-nil (λ x. P x × Q x)
all_both P Q (x ∷ xs) h k =
    All-cons (λ y. P y × Q y) x xs (All-head P x xs h, All-head Q x xs k) (all_both P Q xs (All-tail P x xs h) (All-tail Q x xs k))

-- finishing keeps rows by the hash of the key columns, where they have all of these
module _ (n m : ℕ) (calls : List AggCall) where
  abbrev cols : List Expr
  cols = columns_from 0 (suc m)

  abbrev Wide : Row → Type 0
  Wide row = length row ≡ suc m + length calls

  placed_finished : (a : ℕ) (parts : List (List Row)) → All (All Wide) parts → Placed (by_hash n cols) a parts → Placed (by_hash n cols) a (map (finish_rows (suc m) calls) parts)
  placed_finished a [] w h = tt
  placed_finished a (part ∷ parts) w (h, k) = (
    groups_all (λ row. by_hash n cols row ≡ a) (take (suc m)) (λ key. finished (suc m) calls (rows_with (take (suc m)) key part)) part
        (All-weaker (λ row. (by_hash n cols row ≡ a) × Wide row) (λ row. (more : Row) → by_hash n cols (take (suc m) row ++ more) ≡ a)
        (λ row both more. ap (hash_place n) (columns_in_front (suc m) row more (omega (arith, both.1))) ∙ both.0) part
        (all_both (λ row. by_hash n cols row ≡ a) Wide part h (All-head (All Wide) part parts w))),
    placed_finished (a + 1) parts (All-tail (All Wide) part parts w) k,
  )

  wide_parts : (f : Row → ℕ) (rows : List Row) → All Wide rows → (rs : List ℕ) → All (All Wide) (map (part_of f rows) rs)
  wide_parts f rows h [] = All-nil (All Wide)
  wide_parts f rows h (r ∷ rs) = All-cons (All Wide) (part_of f rows r) (map (part_of f rows) rs) (All-filter (λ row. f row == r) Wide rows h) (wide_parts f rows h rs)

  stand_finished : (rows : List Row) → All Wide rows → Stands n (plainly n) (place.Hash cols) (map (finish_rows (suc m) calls) (exchanged (by_hash n cols) n rows))
  stand_finished rows h = (
    length-map (exchanged (by_hash n cols) n rows) (finish_rows (suc m) calls) ∙ length-map-range_with_len (part_of (by_hash n cols) rows) 0 n,
    placed_finished 0 (exchanged (by_hash n cols) n rows) (wide_parts (by_hash n cols) rows h (range_with_len 0 n)) (place_the_rows (by_hash n cols) n rows),
  )

pub finished_stand : FinishedExchangesStand
finished_stand n m calls rows h = stand_finished n m calls rows h
