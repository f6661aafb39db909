-- Estimates are put in their places, one after the other.
use Rattle.std.proofs.Common.{◌≡◌, refl, ap, sym, subst, ◌∙◌, ◌<◌, ◌+◌, ◌==◌, ◌||◌, ◌≤◌, max, cond, zero, suc, ℕ, Bool, true, false, List, [], ◌∷◌, map, length, replicate, arith, slice_index_or, slice_set}
use Rattle.std.specs.Prelude.{All}
use Rattle.std.specs.List.{list_any, range_with_len}
use Rattle.std.proofs.lemmas.Bool.{eqb-true}
use Rattle.std.proofs.lemmas.List.Elements.{All-nil, All-cons, All-head, All-tail}
use Rattle.aqe_logical.specs.declared.plan.Logical.{Logical}
use Rattle.aqe_logical.specs.Nodes.{scans}
use Rattle.aqe_physical.specs.declared.sizes.Estimate.{Estimate}
use Rattle.aqe_tables.specs.Loaded.{Slots, table_at}
use Rattle.aqe_estimates.specs.Estimates.{HasFiles, Filled, estimate_in, estimated, estimates_of, none_scanned, not_scanned, reach, with_scans}

-- what is put in the places of the tables that are left gives what putting all of them gives
pub record Fills (slots : Slots) (all left : List ℕ) (old now : List Estimate) : Type 0 where
  pub many : length now ≡ length old
  pub each : (n : ℕ) → n < length old → with_scans slots left n (slice_index_or now n not_scanned) ≡ with_scans slots all n (slice_index_or old n not_scanned)
  pub loaded : All (HasFiles slots) left
  pub reached : All (λ table. table < length old) left

pub begun : (slots : Slots) (all : List ℕ) (old : List Estimate) → All (HasFiles slots) all → All (λ table. table < length old) all → Fills slots all all old old
begun slots all old loaded reached = record { many = refl; each = λ n lt. refl; loaded = loaded; reached = reached }

zero_suc : (n : ℕ) → (0 == suc n) ≡ false
zero_suc n = grind (arith)

suc_zero : (n : ℕ) → (suc n == 0) ≡ false
suc_zero n = grind (arith)

suc_suc : (k n : ℕ) → (suc k == suc n) ≡ (k == n)
suc_suc k n = grind (arith)

set_at : (xs : List Estimate) (k n : ℕ) (x : Estimate) → k < length xs → slice_index_or (slice_set xs k x) n not_scanned ≡ cond (k == n) x (slice_index_or xs n not_scanned)
set_at [] k n x lt = absurd (omega (arith, lt))
set_at (y ∷ ys) zero zero x lt = refl
set_at (y ∷ ys) zero (suc n) x lt = sym (ap (λ b. cond b x (slice_index_or ys n not_scanned)) (zero_suc n))
set_at (y ∷ ys) (suc k) zero x lt = sym (ap (λ b. cond b x y) (suc_zero k))
set_at (y ∷ ys) (suc k) (suc n) x lt = set_at ys k n x (omega (arith, lt)) ∙ sym (ap (λ b. cond b x (slice_index_or ys n not_scanned)) (suc_suc k n))

length_set : (xs : List Estimate) (k : ℕ) (x : Estimate) → length (slice_set xs k x) ≡ length xs
length_set [] k x = refl
length_set (y ∷ ys) zero x = refl
length_set (y ∷ ys) (suc k) x = ap suc (length_set ys k x)

pub one_more : (slots : Slots) (all rest : List ℕ) (table : ℕ) (old now next : List Estimate) (estimate : Estimate) → Fills slots all (table ∷ rest) old now → estimate ≡ estimate_in (table_at slots table) → next ≡ slice_set now table estimate →
    Fills slots all rest old next
one_more slots all rest table old now next estimate f is set = record {
  many = ap (λ es. length es) set ∙ length_set now table estimate ∙ f.many;
  each = λ n lt. ap (λ es. with_scans slots rest n (slice_index_or es n not_scanned)) set ∙ ap (λ e. with_scans slots rest n e) (set_at now table n estimate below) ∙ by n (table == n) (same n) ∙ f.each n lt;
  loaded = All-tail (HasFiles slots) table rest f.loaded;
  reached = All-tail (λ t. t < length old) table rest f.reached;
}
  where
    below : table < length now
    below = let here = All-head (λ t. t < length old) table rest f.reached in let many = f.many in omega (arith, here, many)

    same : (n : ℕ) → (table == n) ≡ true → estimate ≡ estimate_in (table_at slots n)
    same n e = is ∙ ap (λ t. estimate_in (table_at slots t)) (eqb-true table n e)

    by : (n : ℕ) (b : Bool) → (b ≡ true → estimate ≡ estimate_in (table_at slots n)) →
        with_scans slots rest n (cond b estimate (slice_index_or now n not_scanned)) ≡ cond (b || list_any (λ t. t == n) rest) (estimate_in (table_at slots n)) (slice_index_or now n not_scanned)
    by n true e = ap (λ k. cond (list_any (λ t. t == n) rest) (estimate_in (table_at slots n)) k) (e refl) ∙ either (list_any (λ t. t == n) rest) (estimate_in (table_at slots n))
      where
        either : (b : Bool) (x : Estimate) → cond b x x ≡ x
        either true x = refl
        either false x = refl
    by n false e = refl

pub ended : (slots : Slots) (all : List ℕ) (old now : List Estimate) → Fills slots all [] old now → Filled slots all old now
ended slots all old now f = record { many = f.many; each = f.each }

-- a list is what stands at its places
tabulated : (xs : List Estimate) (a : ℕ) (f : ℕ → Estimate) → ((n : ℕ) → n < length xs → slice_index_or xs n not_scanned ≡ f (a + n)) → xs ≡ map f (range_with_len a (length xs))
tabulated [] a f each = refl
tabulated (x ∷ xs) a f each =
    let none : a + 0 ≡ a = omega arith in
    λ i. (each 0 (omega arith) ∙ ap f none) i ∷ tabulated xs (a + 1) f (λ n lt. let more : a + suc n ≡ a + 1 + n = omega arith in each (suc n) (omega (arith, lt)) ∙ ap f more) i

index_replicated : (m n : ℕ) → slice_index_or (replicate m not_scanned) n not_scanned ≡ not_scanned
index_replicated zero n = refl
index_replicated (suc m) zero = refl
index_replicated (suc m) (suc n) = index_replicated m n

length_replicated : (m : ℕ) → length (replicate m not_scanned) ≡ m
length_replicated zero = refl
length_replicated (suc m) = ap suc (length_replicated m)

pub all_estimated : (slots : Slots) (all : List ℕ) (new : List Estimate) → Filled slots all (none_scanned (reach all)) new → new ≡ map (estimated slots all) (range_with_len 0 (reach all))
all_estimated slots all new f =
    let many : length new ≡ reach all = f.many ∙ length_replicated (reach all) in
    tabulated new 0 (estimated slots all)
    (λ n lt. let none : 0 + n ≡ n = omega arith in f.each n (let long = length_replicated (reach all) in omega (arith, lt, many, long))
    ∙ ap (λ e. with_scans slots all n e) (index_replicated (reach all) n) ∙ ap (estimated slots all) (sym none))
    ∙ ap (λ m. map (estimated slots all) (range_with_len 0 m)) many

-- each number is below what reaches beyond all
pub all_reached : (xs : List ℕ) → All (λ x. x < reach xs) xs
all_reached [] = All-nil (λ x. x < reach [])
all_reached (x ∷ xs) = All-cons (λ y. y < reach (x ∷ xs)) x xs (let most : suc x ≤ max (suc x) (reach xs) = le_left (suc x) (reach xs) in omega (arith, most)) (wider xs (all_reached xs))
  where
    le_left : (a b : ℕ) → a ≤ max a b
    le_left a b = grind (arith)

    wider : (ys : List ℕ) → All (λ y. y < reach xs) ys → All (λ y. y < max (suc x) (reach xs)) ys
    wider [] all = All-nil (λ y. y < max (suc x) (reach xs))
    wider (y ∷ ys) all = All-cons (λ z. z < max (suc x) (reach xs)) y ys (let here = All-head (λ z. z < reach xs) y ys all in grind (arith, here)) (wider ys (All-tail (λ z. z < reach xs) y ys all))

pub all_reached_in : (all scanned : List ℕ) (known : List Estimate) → scanned ≡ all → known ≡ none_scanned (reach all) → All (λ x. x < length known) scanned
all_reached_in all scanned known same is = subst (λ xs. All (λ x. x < length known) xs) (sym same) (subst (λ m. All (λ x. x < m) all) (sym (ap (λ es. length es) is ∙ length_replicated (reach all))) (all_reached all))

pub estimates_are : (slots : Slots) (query : Logical) (all scanned : List ℕ) (known new : List Estimate) → all ≡ scans query → scanned ≡ all → known ≡ none_scanned (reach all) → Filled slots scanned known new →
    new ≡ estimates_of slots query
estimates_are slots query all scanned known new is same none f =
    all_estimated slots all new (subst (λ es. Filled slots all es new) none (subst (λ xs. Filled slots xs known new) same f))
    ∙ ap (λ xs. map (estimated slots xs) (range_with_len 0 (reach xs))) is
