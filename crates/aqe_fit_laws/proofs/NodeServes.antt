-- Each node of the table of planning serves its logical node, where its children serve.
use Rattle.std.proofs.Common.{◌≡◌, ℕ, suc, ◌+◌, ◌≤◌, Bool, true, List, [], ◌∷◌, ◌++◌, map, length, refl, ap, sym, ◌∙◌, arith, append-nil, append_assoc, subst, Option, Some, None, length-append}
use Rattle.std.specs.Prelude.{filter, flat_map, Contains, IsPermutation, slice_index_or, max}
use Rattle.std.specs.List.{range_with_len}
use Rattle.std.proofs.Math.Seq.{get_or-append_seam}
use Rattle.std.proofs.lemmas.List.{length-map}
use Rattle.std.proofs.lemmas.List.FromFn.{length-map-range_with_len}
use Rattle.std.proofs.lemmas.List.Elements.{All-filter, All-contains_itself}
use Rattle.std.proofs.lemmas.List.Sorted.{IsPermutation-refl}
use Rattle.aqe_values.specs.declared.schema.Field.{Field}
use Rattle.aqe_values.specs.Murmur.{hash_place}
use Rattle.aqe_expr.specs.declared.expr.Expr.{Expr, Column}
use Rattle.aqe_expr.specs.Meaning.{val, holds}
use Rattle.aqe_logical.specs.declared.plan.AggCall.{AggCall}
use Rattle.aqe_logical.specs.declared.plan.SortKey.{SortKey}
use Rattle.aqe_logical.specs.declared.plan.Placement.{Placement}
use Rattle.aqe_logical.specs.declared.plan.Placement.TheVariants as place
use Rattle.aqe_logical.specs.declared.plan.Logical as logical
use Rattle.aqe_logical.specs.declared.plan.Logical.{Logical}
use Rattle.aqe_logical.specs.Shapes.{filtered, projected, aggregated}
use Rattle.aqe_logical.specs.Answers.{Row, Tables, Answer, table_rows}
use Rattle.aqe_logical.specs.Columns.{width}
use Rattle.aqe_logical.specs.Groups.{row_of, group_rows, finish_rows}
use Rattle.aqe_logical.specs.WellFormed.{IsSound, Fits, HaveWidth, column_limit}
use Rattle.aqe_logical.specs.Nodes.{leaf_count}
use Rattle.aqe_logical.proofs.Nodes.{Each, all_nodes}
use Rattle.aqe_logical.proofs.Widths.{have_the_width}
use Rattle.aqe_partial.specs.PartialRows.{joined_parts, partial_rows}
use Rattle.aqe_partial.proofs.Lists.{filter_flat_map, map_flat_map}
use Rattle.aqe_places.specs.Places.{by_hash, single, exchanged}
use Rattle.aqe_places.proofs.Exchanged.{are_hash_parts}
use Rattle.aqe_places.proofs.Bounds.{one_part}
use Rattle.aqe_physical.specs.declared.target.Target.TheVariants as target
use Rattle.aqe_physical.specs.declared.plan.Plan as plan
use Rattle.aqe_physical.specs.declared.plan.Plan.{Plan}
use Rattle.aqe_physical.specs.Shapes.{kept, mapped, moved, grouped, finished}
use Rattle.aqe_physical.proofs.Nodes as physical
use Rattle.aqe_stages.specs.Stages.{Stages}
use Rattle.aqe_stages.specs.Parts.{parts, given_by, all, file_rows}
use Rattle.aqe_stages.specs.Runnable.{Narrow}
use Rattle.aqe_join_keys.specs.Keys.{columns_from}
use Rattle.aqe_fitting.specs.Placing.{after_project, after_groups, each_found, kept_column, found_key, column_with, hash_by, range_by, keeps_groups}
use Rattle.aqe_fit_laws.specs.Standing.{Stands, plainly}
use Rattle.aqe_fit_laws.specs.Leaves.{held_rows, LeafIsRight}
use Rattle.aqe_fit_laws.specs.Serving.{KeysOver, RunsAt}
use Rattle.aqe_fit_laws.proofs.Within.{within}
use Rattle.aqe_fit_laws.proofs.Together.{flat_map_map, all_partial, moved_groups, finished_partials}
use Rattle.aqe_fit_laws.proofs.Respelled.{respelled, respelled_keys, kept_found, column_found, columns_of_front, columns_below}
use Rattle.aqe_fit_laws.proofs.Projected.{projected_places}
use Rattle.aqe_fit_laws.proofs.GroupPlaces.{group_places, over_a_place, finished_stand}
use Rattle.aqe_fit_laws.proofs.Widths.{few_columns, narrow, narrow_keys, partials_wide, exchanged_all, items_up}

-- a list taken by its places, behind others
by_places : {X Y : Type 0} (g : X → List Y) (d : X) (front xs : List X) (a : ℕ) → length front ≡ a →
    flat_map (λ m. g (slice_index_or (front ++ xs) m d)) (range_with_len a (length xs)) ≡ flat_map g xs
by_places g d front [] a e = refl
by_places g d front (x ∷ xs) a e =
    let here : slice_index_or (front ++ x ∷ xs) a d ≡ x = ap (λ (n : ℕ). slice_index_or (front ++ x ∷ xs) n d) (sym e) ∙ get_or-append_seam front x xs d in
    let one = length-append front (x ∷ []) in
    let rest = by_places g d (front ++ x ∷ []) xs (a + 1) (omega (arith, one, e)) in
    let whole : (front ++ x ∷ []) ++ xs ≡ front ++ x ∷ xs = append_assoc front (x ∷ []) xs in
    (λ i. g (here i) ++ flat_map (λ m. g (slice_index_or (sym whole i) m d)) (range_with_len (a + 1) (length xs))) ∙
    ap (λ ys. g x ++ ys) rest

-- the parts of a scan are the files of its table
all_files : (files : List (List Row)) (count : ℕ) → count ≡ length files →
    flat_map (λ m. slice_index_or files m []) (range_with_len 0 (max 1 count)) ≡ flat_map (λ file. file) files
all_files [] count e =
    let one : max 1 count ≡ 1 = omega (arith, e) in
    ap (λ (n : ℕ). flat_map (λ m. slice_index_or {A = List Row} [] m []) (range_with_len 0 n)) one
all_files (file ∷ files) count e =
    let whole : max 1 count ≡ length (file ∷ files) = omega (arith, e) in
    ap (λ (n : ℕ). flat_map (λ m. slice_index_or (file ∷ files) m []) (range_with_len 0 n)) whole ∙
    by_places (λ (rows : List Row). rows) [] [] (file ∷ files) 0 refl

all_kept : (p : Row → Bool) (ps : List (List Row)) → joined_parts (map (filter p) ps) ≡ filter p (joined_parts ps)
all_kept p ps = flat_map_map (λ (part : List Row). part) (filter p) ps ∙ sym (filter_flat_map p (λ part. part) ps)

all_mapped : (f : Row → Row) (ps : List (List Row)) → joined_parts (map (map f) ps) ≡ map f (joined_parts ps)
all_mapped f ps = flat_map_map (λ (part : List Row). part) (map f) ps ∙ sym (map_flat_map f (λ part. part) ps)

-- where the keys of places are, behind a project and behind groups
project_over : (items : List Expr) (n : ℕ) → n ≡ length items → (w : Placement) → KeysOver n (after_project items w)
project_over items n e place.Any = tt
project_over items n e place.Single = tt
project_over items n e (place.Hash keys) = by (each_found (kept_column items) keys) refl
  where
    by : (o : Option (List Expr)) → each_found (kept_column items) keys ≡ o → KeysOver n (hash_by o)
    by None f = tt
    by (Some spelled) f = subst (λ (m : ℕ). KeysOver m (place.Hash spelled)) (sym e) (respelled (kept_column items) items (kept_found items) keys spelled f).below
project_over items n e (place.Range keys) = by (each_found (found_key (kept_column items)) keys) refl
  where
    by : (o : Option (List SortKey)) → each_found (found_key (kept_column items)) keys ≡ o → KeysOver n (range_by o)
    by None f = tt
    by (Some spelled) f = subst (λ (m : ℕ). KeysOver m (place.Range spelled)) (sym e) (respelled_keys (kept_column items) items (kept_found items) keys spelled f).below
project_over items n e place.Broadcast = tt

groups_over : (keys : List Expr) (n : ℕ) → length keys ≤ n → (w : Placement) → KeysOver n (after_groups keys w)
groups_over keys n le place.Any = tt
groups_over keys n le place.Single = tt
groups_over keys n le (place.Hash others) = by (each_found (column_with keys) others) refl
  where
    by : (o : Option (List Expr)) → each_found (column_with keys) others ≡ o → KeysOver n (hash_by o)
    by None f = tt
    by (Some spelled) f = items_up (length keys) n le spelled (respelled (column_with keys) keys (column_found keys) others spelled f).below
groups_over keys n le (place.Range others) = tt
groups_over keys n le place.Broadcast = tt

module _ (tables : Tables) (stages : Stages) (n : ℕ) (files : ℕ → ℕ) (some : 1 ≤ n) where
  -- what is known of a logical plan
  pub record Fine (x : Logical) : Type 0 where
    pub sound : Each IsSound x
    pub few : leaf_count x ≤ column_limit
    pub fits : Each (Fits tables (held_rows tables stages)) x
    pub right : Each (LeafIsRight tables stages n files) x

  -- what is known of the plan that is planned for it
  pub record Served (x : Logical) (p : Plan) (w : Placement) : Type 0 where
    pub answers : Answer tables (held_rows tables stages) x (all tables stages p)
    pub stands : Stands n (plainly n) w (parts tables (given_by tables stages) p)
    pub over : KeysOver (width x) w
    pub runs : physical.Each (RunsAt tables stages) p

  pub wide_answer : (x : Logical) (l : List Row) → Fine x → Answer tables (held_rows tables stages) x l → HaveWidth (width x) l
  wide_answer x l fine a =
      have_the_width tables (held_rows tables stages) x l (all_nodes IsSound x fine.sound, fine.few) (all_nodes (Fits tables (held_rows tables stages)) x fine.fits) a

  pub narrow_answer : (x : Logical) (l : List Row) → Fine x → Answer tables (held_rows tables stages) x l → Narrow l
  narrow_answer x l fine a = narrow (width x) l (few_columns x fine.sound) (wide_answer x l fine a)

  pub a_row_serves : Fine logical.OneRow → Served logical.OneRow plan.OneRow place.Single
  a_row_serves fine = record { answers = refl; stands = refl; over = tt; runs = (tt, narrow_answer logical.OneRow ([] ∷ []) fine refl) }

  pub a_scan_serves : (table : ℕ) (schema : List Field) (count : ℕ) → count ≡ files table → Fine (logical.Scan table schema) → Served (logical.Scan table schema) (plan.Scan table count) place.Any
  a_scan_serves table schema count e fine =
      let rows : List Row = all tables stages (plan.Scan table count) in
      let whole : rows ≡ table_rows tables table = flat_map_map (λ (part : List Row). part) (file_rows tables table) (range_with_len 0 (max 1 count)) ∙ all_files (slice_index_or tables table []) count (e ∙ fine.right.1) in
      let a : IsPermutation (table_rows tables table) rows = subst (λ (l : List Row). IsPermutation (table_rows tables table) l) (sym whole) (IsPermutation-refl (table_rows tables table)) in
      record { answers = a; stands = tt; over = tt; runs = ((fine.right.0, e ∙ fine.right.1), narrow_answer (logical.Scan table schema) rows fine a) }

  pub a_filter_serves : (condition : Expr) (x : Logical) (p : Plan) (w : Placement) → Fine (filtered condition x) → Served x p w → Served (filtered condition x) (kept condition p) w
  a_filter_serves condition x p w fine child =
      let a : Answer tables (held_rows tables stages) (filtered condition x) (all tables stages (kept condition p)) =
      (all tables stages p, child.answers, all_kept (holds condition) (parts tables (given_by tables stages) p)) in
      record {
        answers = a;
        stands = within n (plainly n) w (filter (holds condition)) (parts tables (given_by tables stages) p) (λ rows. All-filter (holds condition) (Contains rows) rows (All-contains_itself rows)) child.stands;
        over = child.over;
        runs = ((tt, narrow_answer (filtered condition x) (all tables stages (kept condition p)) fine a), child.runs);
      }

  pub a_project_serves : (items : List Expr) (schema : List Field) (x : Logical) (p : Plan) (w : Placement) → Fine (projected items schema x) → Served x p w → Served (projected items schema x) (mapped items p) (after_project items w)
  a_project_serves items schema x p w fine child =
      let a : Answer tables (held_rows tables stages) (projected items schema x) (all tables stages (mapped items p)) =
      (all tables stages p, child.answers, all_mapped (row_of items) (parts tables (given_by tables stages) p)) in
      record {
        answers = a;
        stands = projected_places n (plainly n) items w (parts tables (given_by tables stages) p) child.stands;
        over = project_over items (length schema) fine.sound.0.0 w;
        runs = ((tt, narrow_answer (projected items schema x) (all tables stages (mapped items p)) fine a), child.runs);
      }

  module _ (keys : List Expr) (calls : List AggCall) (schema : List Field) (x : Logical) (p : Plan) (fine : Fine (aggregated keys calls schema x)) where
    few_keys : length keys + length calls ≤ column_limit
    few_keys = omega (arith, fine.sound.0.0, fine.sound.0.1)

    -- the partial groups of a plan run
    partials_run : physical.Each (RunsAt tables stages) p → physical.Each (RunsAt tables stages) (grouped keys calls p)
    partials_run runs = (
      (
        narrow_keys keys (all tables stages p) (omega (arith, few_keys)),
        narrow (length keys + length calls) (all tables stages (grouped keys calls p)) few_keys (partials_wide keys calls (parts tables (given_by tables stages) p)),
      ),
      runs,
    )

    pub groups_here_serve : (w : Placement) → keeps_groups keys w ≡ true → Served x p w → Served (aggregated keys calls schema x) (finished (length keys) calls (grouped keys calls p)) (after_groups keys w)
    groups_here_serve w keeps child =
        let ps : List (List Row) = parts tables (given_by tables stages) p in
        let rows : List Row = all tables stages (finished (length keys) calls (grouped keys calls p)) in
        let a : Answer tables (held_rows tables stages) (aggregated keys calls schema x) rows = (
          all tables stages p,
          child.answers,
          subst (λ (l : List Row). IsPermutation (group_rows (length keys) (row_of keys) calls (joined_parts ps)) l) (sym (over_a_place n (plainly n) keys calls w ps keeps child.stands))
              (IsPermutation-refl (group_rows (length keys) (row_of keys) calls (joined_parts ps))),
        ) in
        record {
          answers = a;
          stands = subst (λ (qs : List (List Row)). Stands n (plainly n) (after_groups keys w) qs) (sym (finished_partials (length keys) (row_of keys) calls ps (λ row. length-map keys (val row))))
              (group_places n (plainly n) keys calls w ps keeps child.stands);
          over = groups_over keys (length schema) (omega (arith, fine.sound.0.0)) w;
          runs = ((partials_wide keys calls ps, narrow_answer (aggregated keys calls schema x) rows fine a), partials_run child.runs);
        }

  pub groups_in_one_serve : (calls : List AggCall) (schema : List Field) (x : Logical) (p : Plan) (w : Placement) → Fine (aggregated [] calls schema x) → Served x p w →
      Served (aggregated [] calls schema x) (finished 0 calls (moved target.Single (grouped [] calls p))) place.Single
  groups_in_one_serve calls schema x p w fine child =
      let ps : List (List Row) = parts tables (given_by tables stages) p in
      let partials : List Row = joined_parts (map (partial_rows 0 (row_of []) calls) ps) in
      let one : exchanged single 1 partials ≡ partials ∷ [] = one_part partials in
      let rows : List Row = all tables stages (finished 0 calls (moved target.Single (grouped [] calls p))) in
      let whole : rows ≡ group_rows 0 (row_of []) calls (joined_parts ps) =
      ap (λ (qs : List (List Row)). joined_parts (map (finish_rows 0 calls) qs)) one ∙ (append-nil (finish_rows 0 calls partials) ∙ all_partial 0 (row_of []) calls ps (λ row. refl)) in
      let a : Answer tables (held_rows tables stages) (aggregated [] calls schema x) rows = (
        all tables stages p,
        child.answers,
        subst (λ (l : List Row). IsPermutation (group_rows 0 (row_of []) calls (joined_parts ps)) l) (sym whole) (IsPermutation-refl (group_rows 0 (row_of []) calls (joined_parts ps))),
      ) in
      record {
        answers = a;
        stands = refl;
        over = tt;
        runs = (
          (exchanged_all (λ row. length row ≡ 0 + length calls) single partials (partials_wide [] calls ps) (range_with_len 0 1), narrow_answer (aggregated [] calls schema x) rows fine a),
          (tt, partials_run [] calls schema x p fine child.runs),
        );
      }

  pub groups_moved_serve : (key : Expr) (keys : List Expr) (calls : List AggCall) (schema : List Field) (x : Logical) (p : Plan) (w : Placement) → Fine (aggregated (key ∷ keys) calls schema x) → Served x p w →
      Served (aggregated (key ∷ keys) calls schema x) (finished (suc (length keys)) calls (moved (target.Hash (columns_from 0 (suc (length keys))) n) (grouped (key ∷ keys) calls p))) (place.Hash (columns_from 0 (suc (length keys))))
  groups_moved_serve key keys calls schema x p w fine child =
      let ps : List (List Row) = parts tables (given_by tables stages) p in
      let k : ℕ = suc (length keys) in
      let cols : List Expr = columns_from 0 k in
      let partials : List Row = joined_parts (map (partial_rows k (row_of (key ∷ keys)) calls) ps) in
      let wide = partials_wide (key ∷ keys) calls ps in
      let rows : List Row = all tables stages (finished k calls (moved (target.Hash cols n) (grouped (key ∷ keys) calls p))) in
      let a : Answer tables (held_rows tables stages) (aggregated (key ∷ keys) calls schema x) rows = (
        all tables stages p,
        child.answers,
        subst (λ (f : Row → ℕ). IsPermutation (group_rows k (row_of (key ∷ keys)) calls (joined_parts ps)) (joined_parts (map (finish_rows k calls) (exchanged f n partials))))
            (λ i row. hash_place n (columns_of_front k row i))
            (moved_groups (length keys) (row_of (key ∷ keys)) calls (by_hash n cols) n ps (λ row. length-map (key ∷ keys) (val row)) (λ row. are_hash_parts n cols row some)),
      ) in
      let columns : length cols ≤ column_limit = let many = length-map-columns k in omega (arith, many, few_keys (key ∷ keys) calls schema x p fine) in
      record {
        answers = a;
        stands = finished_stand n (length keys) calls partials wide;
        over = columns_below 0 k (length schema) (omega (arith, fine.sound.0.0));
        runs = (
          (exchanged_all (λ row. length row ≡ k + length calls) (by_hash n cols) partials wide (range_with_len 0 n), narrow_answer (aggregated (key ∷ keys) calls schema x) rows fine a),
          ((some, narrow_keys cols partials columns), partials_run (key ∷ keys) calls schema x p fine child.runs),
        );
      }
    where
      length-map-columns : (m : ℕ) → length (columns_from 0 m) ≡ m
      length-map-columns m = length-map-range_with_len (λ j. Column j) 0 m
