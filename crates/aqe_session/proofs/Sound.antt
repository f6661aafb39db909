-- A query that is asked of a session is sound.
use Rattle.std.proofs.Common.{◌≡◌, refl, ap, sym, subst, ◌∙◌, ◌<◌, ◌+◌, ◌==◌, zero, suc, ℕ, Bool, true, false, cond, ◌||◌, List, [], ◌∷◌, ◌++◌, map, flat_map, length, arith, Option, Some, None, slice_index_or, inl, inr}
use Rattle.std.specs.Prelude.{All}
use Rattle.std.specs.List.{list_any, range_with_len}
use Rattle.std.proofs.lemmas.Bool.{cases_Bool, eqb-true}
use Rattle.std.proofs.lemmas.List.{length-map}
use Rattle.std.proofs.lemmas.List.FromFn.{length-map-range_with_len}
use Rattle.std.proofs.lemmas.List.Elements.{All-nil, All-cons, All-head, All-tail}
use Rattle.aqe_logical.specs.declared.plan.Logical.{Logical, OneRow, Scan, Empty, Held, HeldPartial}
use Rattle.aqe_logical.specs.Shapes.{filtered, projected, joined, aggregated, united, sorted, limited, sampled}
use Rattle.aqe_logical.specs.Nodes.{nodes, scanned, scans}
use Rattle.aqe_logical.specs.Answers.{no_stage}
use Rattle.aqe_logical.specs.WellFormed.{WellFormed, IsOfAQuery, LeavesFit}
use Rattle.aqe_logical.proofs.Nodes.{Each, all_nodes}
use Rattle.aqe_settings.specs.declared.entry.Value.{Value}
use Rattle.aqe_settings.specs.Ranges.{InRange}
use Rattle.aqe_settings.proofs.Partitions.{partitions_is_count as partitions_in_range}
use Rattle.aqe_physical.specs.declared.plan.Plan.{Plan}
use Rattle.aqe_physical.specs.declared.sizes.Estimate.{Estimate}
use Rattle.aqe_physical.specs.Counts.{PartsFit}
use Rattle.aqe_tables.specs.declared.loaded.Table.{Table}
use Rattle.std.specs.Option.{IsSomeAnd}
use Rattle.aqe_tables.specs.Loaded.{Slots, table_at}
use Rattle.aqe_estimates.specs.LoadedTables.{files_of as files_in, tables_of}
use Rattle.aqe_fitting.specs.Known.{files_of}
use Rattle.aqe_fitting.specs.Fits.{Fits}
use Rattle.aqe_fit_laws.specs.Leaves.{IsPlannedYet, ScanIsRight, ScansRight}
use Rattle.aqe_planner.specs.Built.{is_built, IsBuilt, IsReached, Reaches}
use Rattle.aqe_replan.specs.Laws.{HasFewFiles}
use Rattle.aqe_replan.proofs.Parts.{few_parts, both_left, both_right}
use Rattle.aqe_journal.specs.Asked.{Asked}
use Rattle.aqe_journal.specs.Laws.{IsSound}
use Rattle.aqe_estimates.specs.Estimates.{HasSomeFiles, HasFiles, not_scanned, estimate_in, reach, estimated, estimates_of}

clash : false ≡ true → ⊥
clash c = cc (c)

-- what is planned so far is closed, and of the forms that the laws on plans that fit know so far
planned_each : (x : Logical) → IsBuilt x → Each IsPlannedYet x
planned_each OneRow b = tt
planned_each (Scan table schema) b = tt
planned_each (filtered condition child) b = (tt, planned_each child b)
planned_each (projected items schema child) b = (tt, planned_each child b)
planned_each (aggregated keys calls schema child) b = (tt, planned_each child b)
planned_each (joined kind condition left right) b = (tt, planned_each left (both_left (is_built left) (is_built right) b), planned_each right (both_right (is_built left) (is_built right) b))
planned_each (united left right) b = (tt, planned_each left (both_left (is_built left) (is_built right) b), planned_each right (both_right (is_built left) (is_built right) b))
planned_each (sorted keys child) b = (tt, planned_each child b)
planned_each (limited count skip child) b = (tt, planned_each child b)
planned_each (Empty schema) b = absurd (clash b)
planned_each (Held stage place schema) b = absurd (clash b)
planned_each (HeldPartial stage calls schema) b = absurd (clash b)
planned_each (sampled stage child) b = absurd (clash b)

closed_each : (x : Logical) → IsBuilt x → Each IsOfAQuery x
closed_each OneRow b = tt
closed_each (Scan table schema) b = tt
closed_each (filtered condition child) b = (tt, closed_each child b)
closed_each (projected items schema child) b = (tt, closed_each child b)
closed_each (aggregated keys calls schema child) b = (tt, closed_each child b)
closed_each (joined kind condition left right) b = (tt, closed_each left (both_left (is_built left) (is_built right) b), closed_each right (both_right (is_built left) (is_built right) b))
closed_each (united left right) b = (tt, closed_each left (both_left (is_built left) (is_built right) b), closed_each right (both_right (is_built left) (is_built right) b))
closed_each (sorted keys child) b = (tt, closed_each child b)
closed_each (limited count skip child) b = (tt, closed_each child b)
closed_each (Empty schema) b = absurd (clash b)
closed_each (Held stage place schema) b = absurd (clash b)
closed_each (HeldPartial stage calls schema) b = absurd (clash b)
closed_each (sampled stage child) b = absurd (clash b)

-- the most parts of an exchange, which are more than the files of a table
abbrev most_parts : ℕ
most_parts = 10000

-- a number that is in a list
abbrev IsIn : List ℕ → ℕ → Type 0
IsIn xs n = list_any (λ x. x == n) xs ≡ true

or_true : (a b : Bool) → b ≡ true → (a || b) ≡ true
or_true true b e = refl
or_true false b e = e

self : (k : ℕ) → (k == k) ≡ true
self k = grind (arith)

all_in : (xs all : List ℕ) → ((n : ℕ) → IsIn xs n → IsIn all n) → All (IsIn all) xs
all_in [] all up = All-nil (IsIn all)
all_in (x ∷ xs) all up =
    All-cons (IsIn all) x xs (up x (ap (λ b. b || list_any (λ y. y == x) xs) (self x))) (all_in xs all (λ n i. up n (or_true (x == n) (list_any (λ y. y == n) xs) i)))

in_reach : (xs : List ℕ) (n : ℕ) → IsIn xs n → n < reach xs
in_reach [] n i = absurd (clash i)
in_reach (x ∷ xs) n i = elim (cases_Bool (x == n)) [
  | inl so ↦ let same = eqb-true x n so in grind (arith, same)
  | inr not_so ↦ let rest = in_reach xs n (ap (λ b. b || list_any (λ y. y == n) xs) (sym not_so) ∙ i) in grind (arith, rest)
]

-- a table that is scanned, and loaded
record IsRead (slots : Slots) (scanned : List ℕ) (n : ℕ) : Type 0 where
  loaded : HasFiles slots n
  among : IsIn scanned n

all_read : (slots : Slots) (all xs : List ℕ) → All (HasFiles slots) xs → All (IsIn all) xs → All (IsRead slots all) xs
all_read slots all [] l i = All-nil (IsRead slots all)
all_read slots all (x ∷ xs) l i =
    All-cons (IsRead slots all) x xs (record { loaded = All-head (HasFiles slots) x xs l; among = All-head (IsIn all) x xs i })
    (all_read slots all xs (All-tail (HasFiles slots) x xs l) (All-tail (IsIn all) x xs i))

-- what holds of each table that is scanned holds at each scan
at_scans : (P : ℕ → Type 0) (Q : Logical → Type 0) → ((node : Logical) → All P (scanned node) → Q node) → (xs : List Logical) → All P (flat_map scanned xs) → All Q xs
at_scans P Q one [] all = All-nil Q
at_scans P Q one (x ∷ xs) all = All-cons Q x xs (one x (front (scanned x) (flat_map scanned xs) all)) (at_scans P Q one xs (back (scanned x) (flat_map scanned xs) all))
  where
    front : (as_ bs : List ℕ) → All P (as_ ++ bs) → All P as_
    front [] bs all = All-nil P
    front (a ∷ as_) bs all = All-cons P a as_ (All-head P a (as_ ++ bs) all) (front as_ bs (All-tail P a (as_ ++ bs) all))

    back : (as_ bs : List ℕ) → All P (as_ ++ bs) → All P bs
    back [] bs all = all
    back (a ∷ as_) bs all = back as_ bs (All-tail P a (as_ ++ bs) all)

mapped_at : {X : Type 0} (f : ℕ → X) (a n t : ℕ) (d : X) → t < n → slice_index_or (map f (range_with_len a n)) t d ≡ f (a + t)
mapped_at f a zero t d lt = absurd (omega (arith, lt))
mapped_at f a (suc n) zero d lt = let same : a ≡ a + 0 = omega arith in ap f same
mapped_at f a (suc n) (suc t) d lt = let same : a + 1 + t ≡ a + suc t = omega arith in mapped_at f (a + 1) n t d (omega (arith, lt)) ∙ ap f same

some_below : (slots : Slots) (n : ℕ) → HasFiles slots n → n < length slots
some_below [] n l = absurd l
some_below (slot ∷ slots) zero l = omega arith
some_below (slot ∷ slots) (suc n) l = let rest = some_below slots n l in omega (arith, rest)

module _ (slots : Slots) (query : Logical) (loaded : All (HasFiles slots) (scans query)) where
  abbrev estimates : List Estimate
  estimates = estimates_of slots query

  read : All (IsRead slots (scans query)) (scans query)
  read = all_read slots (scans query) (scans query) loaded (all_in (scans query) (scans query) (λ n i. i))

  files_here : (n : ℕ) → IsRead slots (scans query) n → files_of estimates n ≡ length (slice_index_or (tables_of slots) n [])
  files_here n r =
      let lt = in_reach (scans query) n r.among in
      let none : 0 + n ≡ n = omega arith in
      ap (λ (e : Estimate). e.files) (mapped_at (estimated slots (scans query)) 0 (reach (scans query)) n not_scanned lt ∙ ap (estimated slots (scans query)) none
      ∙ ap (λ b. cond b (estimate_in (table_at slots n)) not_scanned) r.among) ∙ at (table_at slots n) r.loaded
      ∙ ap (λ files. length files) (sym (get_files slots n))
    where
      at : (o : Option Table) → IsSomeAnd o HasSomeFiles → (estimate_in o).files ≡ length (files_in o)
      at None s = absurd s
      at (Some table) s = refl

      get_files : (slots : Slots) (n : ℕ) → slice_index_or (tables_of slots) n [] ≡ files_in (table_at slots n)
      get_files [] n = refl
      get_files (slot ∷ slots) zero = refl
      get_files (slot ∷ slots) (suc n) = get_files slots n

  scan_right : (node : Logical) → All (IsRead slots (scans query)) (scanned node) → ScanIsRight (tables_of slots) (files_of estimates) node
  scan_right (Scan table schema) all =
      let r = All-head (IsRead slots (scans query)) table [] all in
      let lt = some_below slots table r.loaded in
      let long = length-map slots files_in in
      (omega (arith, lt, long), files_here table r)
  scan_right OneRow all = tt
  scan_right (filtered condition child) all = tt
  scan_right (projected items schema child) all = tt
  scan_right (aggregated keys calls schema child) all = tt
  scan_right (joined kind condition left right) all = tt
  scan_right (united left right) all = tt
  scan_right (sorted keys child) all = tt
  scan_right (limited count skip child) all = tt
  scan_right (Empty schema) all = tt
  scan_right (Held stage place schema) all = tt
  scan_right (HeldPartial stage calls schema) all = tt
  scan_right (sampled stage child) all = tt

  scans_right : ScansRight (tables_of slots) (files_of estimates) query
  scans_right = at_scans (IsRead slots (scans query)) (ScanIsRight (tables_of slots) (files_of estimates)) scan_right (nodes query) read

  reached_at : (node : Logical) → All (IsRead slots (scans query)) (scanned node) → IsReached (length estimates) node
  reached_at (Scan table schema) all =
      let r = All-head (IsRead slots (scans query)) table [] all in
      let lt = in_reach (scans query) table r.among in
      let long = length-map-range_with_len (estimated slots (scans query)) 0 (reach (scans query)) in
      omega (arith, lt, long)
  reached_at OneRow all = tt
  reached_at (filtered condition child) all = tt
  reached_at (projected items schema child) all = tt
  reached_at (aggregated keys calls schema child) all = tt
  reached_at (joined kind condition left right) all = tt
  reached_at (united left right) all = tt
  reached_at (sorted keys child) all = tt
  reached_at (limited count skip child) all = tt
  reached_at (Empty schema) all = tt
  reached_at (Held stage place schema) all = tt
  reached_at (HeldPartial stage calls schema) all = tt
  reached_at (sampled stage child) all = tt

  few_at : (n : ℕ) → HasFewFiles most_parts (estimated slots (scans query) n)
  few_at n = elim (cases_Bool (list_any (λ table. table == n) (scans query))) [
    | inl among ↦ subst (λ b. HasFewFiles most_parts (cond b (estimate_in (table_at slots n)) not_scanned)) (sym among) (at (table_at slots n) (member (scans query) loaded among))
    | inr none ↦ subst (λ b. HasFewFiles most_parts (cond b (estimate_in (table_at slots n)) not_scanned)) (sym none) (omega arith)
  ]
    where
      member : (xs : List ℕ) → All (HasFiles slots) xs → IsIn xs n → HasFiles slots n
      member [] all i = absurd (clash i)
      member (x ∷ xs) all i = elim (cases_Bool (x == n)) [
        | inl so ↦ subst (HasFiles slots) (eqb-true x n so) (All-head (HasFiles slots) x xs all)
        | inr not_so ↦ member xs (All-tail (HasFiles slots) x xs all) (ap (λ b. b || list_any (λ y. y == n) xs) (sym not_so) ∙ i)
      ]

      at : (o : Option Table) → IsSomeAnd o HasSomeFiles → HasFewFiles most_parts (estimate_in o)
      at None s = absurd s
      at (Some table) s = let most = s.1 in omega (arith, most)

  all_few : (ns : List ℕ) → All (HasFewFiles most_parts) (map (estimated slots (scans query)) ns)
  all_few [] = All-nil (HasFewFiles most_parts)
  all_few (n ∷ ns) = All-cons (HasFewFiles most_parts) (estimated slots (scans query) n) (map (estimated slots (scans query)) ns) (few_at n) (all_few ns)

  -- the first plan has parts that can be numbered
  pub plan_few : (settings : List Value) (plan : Plan) → InRange settings → IsBuilt query → WellFormed query → Fits plan query estimates [] settings → PartsFit plan
  plan_few settings plan range built formed fits =
      let leaves = formed.1 in
      few_parts plan query estimates [] settings most_parts fits built (omega arith) (omega (arith, leaves)) (partitions_in_range settings range).1 (all_few (range_with_len 0 (reach (scans query))))

  -- the estimates reach to each table that is scanned
  pub reaches : Reaches (length estimates) query
  reaches = at_scans (IsRead slots (scans query)) (IsReached (length estimates)) reached_at (nodes query) read

-- a query that a session is asked
pub sound : (asked : Asked) (slots : Slots) → asked.tables ≡ tables_of slots → asked.estimates ≡ estimates_of slots asked.query → IsBuilt asked.query → WellFormed asked.query →
    All (HasFiles slots) (scans asked.query) → LeavesFit (tables_of slots) no_stage asked.query → InRange asked.settings → IsSound asked
sound asked slots tables estimates built formed loaded wide range = record {
  parts = (partitions_in_range asked.settings range).0;
  formed = formed;
  closed = all_nodes IsOfAQuery asked.query (closed_each asked.query built);
  planned = all_nodes IsPlannedYet asked.query (planned_each asked.query built);
  wide = subst (λ t. LeavesFit t no_stage asked.query) (sym tables) wide;
  files = subst (λ t. ScansRight t (files_of asked.estimates) asked.query) (sym tables) (subst (λ es. ScansRight (tables_of slots) (files_of es) asked.query) (sym estimates) (scans_right slots asked.query loaded));
}
