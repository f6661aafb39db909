-- Finishing the partial rows of parts gives the groups of the whole.
use Rattle.std.proofs.Common.{◌≡◌, ℕ, zero, suc, ◌+◌, ◌-◌, Bool, true, false, cond, List, [], ◌∷◌, ◌++◌, map, take, length, refl, ap, sym, ◌∙◌, arith, append_assoc, subst, length-append}
use Rattle.std.specs.Prelude.{filter, flat_map, All, IsPermutation, slice_index_or}
use Rattle.std.specs.List.{list_any}
use Rattle.std.proofs.lemmas.List.{length-map}
use Rattle.std.proofs.lemmas.List.Elements.{All-nil, All-cons}
use Rattle.aqe_values.specs.declared.value.Value.{Value}
use Rattle.aqe_values.specs.declared.value.Value.TheVariants.{Null}
use Rattle.aqe_values.specs.Equality.{row_eq}
use Rattle.aqe_expr.specs.Meaning.{val}
use Rattle.aqe_logical.specs.declared.plan.AggCall.{AggCall}
use Rattle.aqe_logical.specs.Answers.{Row}
use Rattle.aqe_logical.specs.Groups.{row_of, group_keys, group_rows, finish_rows, finished, rows_with, call_value, single}
use Rattle.aqe_partial.specs.PartialRows.{joined_parts, partial_rows, FinishingPartsIsGrouping, HeldPartialAnswersAsTheAggregate}
use Rattle.aqe_partial.proofs.Lists.{any_map, filter_none, map_flat_map, filter_flat_map, map_agree, filter_map, take_front}
use Rattle.aqe_partial.proofs.Merging.{total, total_parts}
use Rattle.aqe_partial.proofs.Keys.{Long, keys_long, keys_parts, has_key, key_once}

at_seam : (xs : Row) (x : Value) (ys : Row) → slice_index_or (xs ++ x ∷ ys) (length xs) Null ≡ x
at_seam [] x ys = refl
at_seam (y ∷ xs) x ys = at_seam xs x ys

map_map : {X Y Z : Type 0} (f : Y → Z) (g : X → Y) (xs : List X) → map f (map g xs) ≡ map (λ x. f (g x)) xs
map_map f g [] = refl
map_map f g (x ∷ xs) = ap (λ ys. f (g x) ∷ ys) (map_map f g xs)

-- each call, over the column of it
columns_finished : {P : Type 0} (calls : List AggCall) (i : ℕ) (front : P → Row) (value : P → AggCall → Value) (ps : List P) → ((p : P) → length (front p) ≡ i) →
    finished i calls (map (λ p. front p ++ map (value p) calls) ps) ≡ map (λ call. total call.fun (map (λ p. value p call) ps)) calls
columns_finished [] i front value ps h = refl
columns_finished {P} (call ∷ calls) i front value ps h = (λ j. total call.fun (head j) ∷ (tail ∙ columns_finished calls (i + 1) (λ p. front p ++ value p call ∷ []) value ps longer) j)
  where
    head : map (λ row. slice_index_or row i Null) (map (λ (p : P). front p ++ map (value p) (call ∷ calls)) ps) ≡ map (λ (p : P). value p call) ps
    head =
        map_map (λ row. slice_index_or row i Null) (λ (p : P). front p ++ map (value p) (call ∷ calls)) ps ∙
        (λ j. map (λ (p : P). (ap (λ n. slice_index_or (front p ++ value p call ∷ map (value p) calls) n Null) (sym (h p)) ∙ at_seam (front p) (value p call) (map (value p) calls)) j) ps)

    longer : (p : P) → length (front p ++ value p call ∷ []) ≡ i + 1
    longer p = length-append (front p) (value p call ∷ []) ∙ ap (λ n. n + 1) (h p)

    tail : finished (i + 1) calls (map (λ (p : P). front p ++ map (value p) (call ∷ calls)) ps) ≡ finished (i + 1) calls (map (λ (p : P). (front p ++ value p call ∷ []) ++ map (value p) calls) ps)
    tail = sym (λ j. finished (i + 1) calls (map (λ (p : P). append_assoc (front p) (value p call ∷ []) (map (value p) calls) j) ps))

cond_map : {X Y : Type 0} (f : X → Y) (b : Bool) (x : X) → map f (cond b (x ∷ []) []) ≡ cond b (f x ∷ []) []
cond_map f true x = refl
cond_map f false x = refl

conds : {P Y : Type 0} (has : P → Bool) (f : P → Y) (ps : List P) → flat_map (λ p. cond (has p) (f p ∷ []) []) ps ≡ map f (filter has ps)
conds has f [] = refl
conds {P} has f (p ∷ ps) = by (has p) (conds has f ps)
  where
    by : (b : Bool) → flat_map (λ (q : P). cond (has q) (f q ∷ []) []) ps ≡ map f (filter has ps) → cond b (f p ∷ []) [] ++ flat_map (λ (q : P). cond (has q) (f q ∷ []) []) ps ≡ map f (cond b (p ∷ filter has ps) (filter has ps))
    by true h = ap (λ ys. f p ∷ ys) h
    by false h = h

module _ (n : ℕ) (key : Row → Row) (calls : List AggCall) (long : (row : Row) → length (key row) ≡ n) where
  all_long : (rows : List Row) → All (Long n) (map key rows)
  all_long [] = All-nil (Long n)
  all_long (row ∷ rows) = All-cons (Long n) (key row) (map key rows) (long row) (all_long rows)

  -- what each call makes of the rows of a part with a key
  abbrev made : Row → List Row → List Value
  made k part = map (call_value (rows_with key k part)) calls

  taken : (k : Row) (vs : List Value) → Long n k → take n (k ++ vs) ≡ k
  taken k vs h = ap (λ m. take m (k ++ vs)) (sym h) ∙ take_front k vs

  part_keys : (part : List Row) → map (take n) (partial_rows n key calls part) ≡ group_keys n (map key part)
  part_keys part =
      map_map (take n) (λ k. k ++ made k part) (group_keys n (map key part)) ∙
      (map_agree (Long n) (λ k. take n (k ++ made k part)) (λ k. k) (group_keys n (map key part)) (λ k h. taken k (made k part) h) (keys_long n (map key part) (all_long part)) ∙
      map_itself (group_keys n (map key part)))
    where
      map_itself : (ks : List Row) → map (λ k. k) ks ≡ ks
      map_itself [] = refl
      map_itself (k ∷ ks) = ap (λ js. k ∷ js) (map_itself ks)

  whole_keys : (parts : List (List Row)) → group_keys n (map (take n) (flat_map (partial_rows n key calls) parts)) ≡ group_keys n (map key (joined_parts parts))
  whole_keys parts =
      ap (group_keys n) (map_flat_map (take n) (partial_rows n key calls) parts ∙ (λ i. flat_map (λ part. part_keys part i) parts)) ∙
      (keys_parts n (map key) parts ∙ ap (group_keys n) (sym (map_flat_map key (λ part. part) parts)))

  -- the partial row of a part with a key, where the part has any
  abbrev has : Row → List Row → Bool
  has k part = has_key n k (map key part)

  part_row : (k : Row) (part : List Row) → Long n k → rows_with (take n) k (partial_rows n key calls part) ≡ cond (has k part) ((k ++ made k part) ∷ []) []
  part_row k part h =
      filter_map (Long n) (λ row. row_eq k (take n row)) (row_eq k) (λ j. j ++ made j part) (group_keys n (map key part)) (λ j g. ap (row_eq k) (taken j (made j part) g)) (keys_long n (map key part) (all_long part)) ∙
      (ap (map (λ j. j ++ made j part)) (key_once n k (map key part) h) ∙ cond_map (λ j. j ++ made j part) (has k part) k)

  lacks : (k : Row) (part : List Row) → has k part ≡ false → rows_with key k part ≡ []
  lacks k part h = filter_none (λ row. row_eq k (key row)) part (by n h)
    where
      by : (m : ℕ) → has_key m k (map key part) ≡ false → list_any (λ row. row_eq k (key row)) part ≡ false
      by zero g = absurd (cc)
      by (suc m) g = sym (any_map (row_eq k) key part) ∙ g

  call_parts : (k : Row) (call : AggCall) (parts : List (List Row)) → total call.fun (map (λ part. call_value (rows_with key k part) call) (filter (has k) parts)) ≡ call_value (rows_with key k (joined_parts parts)) call
  call_parts k call parts =
      total_parts call.fun (has k) (λ part. map (single call.fun) (map (λ row. val row call.arg) (rows_with key k part))) parts (λ part h. ap (λ rows. map (single call.fun) (map (λ row. val row call.arg) rows)) (lacks k part h)) ∙
      ap (total call.fun) (sym
      (ap (λ rows. map (single call.fun) (map (λ row. val row call.arg) rows)) (filter_flat_map (λ row. row_eq k (key row)) (λ part. part) parts) ∙
      (ap (map (single call.fun)) (map_flat_map (λ row. val row call.arg) (λ part. rows_with key k part) parts) ∙
      map_flat_map (single call.fun) (λ part. map (λ row. val row call.arg) (rows_with key k part)) parts)))

  group_row : (parts : List (List Row)) (k : Row) → Long n k → finished n calls (rows_with (take n) k (flat_map (partial_rows n key calls) parts)) ≡ made k (joined_parts parts)
  group_row parts k h =
      ap (finished n calls) (filter_flat_map (λ row. row_eq k (take n row)) (partial_rows n key calls) parts ∙ ((λ i. flat_map (λ part. part_row k part h i) parts) ∙ conds (has k) (λ part. k ++ made k part) parts)) ∙
      (columns_finished calls n (λ part. k) (λ part. call_value (rows_with key k part)) (filter (has k) parts) (λ part. h) ∙
      (λ i. map (λ call. call_parts k call parts i) calls))

  finishing_is : (parts : List (List Row)) → finish_rows n calls (flat_map (partial_rows n key calls) parts) ≡ group_rows n key calls (joined_parts parts)
  finishing_is parts =
      ap (map (λ k. k ++ finished n calls (rows_with (take n) k (flat_map (partial_rows n key calls) parts)))) (whole_keys parts) ∙
      map_agree (Long n) (λ k. k ++ finished n calls (rows_with (take n) k (flat_map (partial_rows n key calls) parts))) (λ k. k ++ made k (joined_parts parts)) (group_keys n (map key (joined_parts parts)))
      (λ k h. ap (λ vs. k ++ vs) (group_row parts k h)) (keys_long n (map key (joined_parts parts)) (all_long (joined_parts parts)))

pub finishing : FinishingPartsIsGrouping
finishing n key calls parts long = finishing_is n key calls long parts

pub held_partial : HeldPartialAnswersAsTheAggregate
held_partial tables stages stage keys calls schema child parts l wide h held p =
    (joined_parts parts, h, subst (λ rows. IsPermutation rows l) same p)
  where
    count : length schema - length calls ≡ length keys
    count = omega (arith, wide)

    same : finish_rows (length schema - length calls) calls (stages stage.0) ≡ group_rows (length keys) (row_of keys) calls (joined_parts parts)
    same = (λ i. finish_rows (count i) calls (held i)) ∙ finishing_is (length keys) (row_of keys) calls (λ row. length-map keys (val row)) parts
