-- Where rows stand behind a project.
use Rattle.std.proofs.Common.{◌≡◌, ℕ, ◌+◌, Bool, false, List, [], ◌∷◌, map, length, refl, ap, sym, ◌∙◌, append-nil, Option, Some, None}
use Rattle.std.specs.Prelude.{filter, flat_map, All}
use Rattle.std.specs.Ordering.{is_lt}
use Rattle.std.proofs.lemmas.List.{length-map}
use Rattle.std.proofs.lemmas.List.Elements.{All-nil, All-append, All-map, All-weaker}
use Rattle.aqe_values.specs.KeyOrder.{key_order}
use Rattle.aqe_values.specs.Murmur.{hash_place}
use Rattle.aqe_expr.specs.declared.expr.Expr.{Expr}
use Rattle.aqe_logical.specs.declared.plan.SortKey.{SortKey}
use Rattle.aqe_logical.specs.declared.plan.Placement.{Placement}
use Rattle.aqe_logical.specs.declared.plan.Placement.TheVariants as place
use Rattle.aqe_logical.specs.Answers.{Row}
use Rattle.aqe_logical.specs.Groups.{row_of}
use Rattle.aqe_logical.specs.Order.{before, key_of}
use Rattle.aqe_physical.proofs.Walk.{all_left, all_right}
use Rattle.aqe_places.specs.Places.{by_hash, by_range}
use Rattle.aqe_places.specs.Laws.{Placed, PartsInOrder}
use Rattle.aqe_stages.specs.Places.{key_less}
use Rattle.aqe_fitting.specs.Placing.{after_project, each_found, kept_column, found_key, hash_by, range_by}
use Rattle.aqe_fit_laws.specs.Standing.{Cut, Stands}
use Rattle.aqe_fit_laws.specs.Laws.{ProjectsMovePlaces}
use Rattle.aqe_fit_laws.proofs.Respelled.{respelled, respelled_keys, kept_found}

module _ (h : Row → Row) where
  pub placed_map : (f g : Row → ℕ) → ((row : Row) → g (h row) ≡ f row) → (a : ℕ) (parts : List (List Row)) → Placed f a parts → Placed g a (map (map h) parts)
  placed_map f g same a [] all = tt
  placed_map f g same a (part ∷ parts) (here, more) = (
    All-map (λ row. g row ≡ a) h part (All-weaker (λ row. f row ≡ a) (λ row. g (h row) ≡ a) (λ row e. same row ∙ e) part here),
    placed_map f g same (a + 1) parts more,
  )

  later_map : (P Q : Row → Type 0) → ((row : Row) → P row → Q (h row)) → (parts : List (List Row)) → All P (flat_map (λ later. later) parts) → All Q (flat_map (λ later. later) (map (map h) parts))
  later_map P Q to [] all = All-nil Q
  later_map P Q to (part ∷ parts) all =
      All-append Q (map h part) (flat_map (λ later. later) (map (map h) parts))
      (All-map Q h part (All-weaker P (λ row. Q (h row)) to part (all_left P part (flat_map (λ later. later) parts) all)))
      (later_map P Q to parts (all_right P part (flat_map (λ later. later) parts) all))

  order_map : (less other : Row → Row → Bool) → ((x y : Row) → other (h x) (h y) ≡ less x y) → (parts : List (List Row)) → PartsInOrder less parts → PartsInOrder other (map (map h) parts)
  order_map less other same [] all = tt
  order_map less other same (part ∷ parts) (here, more) = (
    All-map (λ x. All (λ y. other y x ≡ false) (flat_map (λ later. later) (map (map h) parts))) h part
        (All-weaker (λ x. All (λ y. less y x ≡ false) (flat_map (λ later. later) parts)) (λ x. All (λ y. other y (h x) ≡ false) (flat_map (λ later. later) (map (map h) parts)))
        (λ x all. later_map (λ y. less y x ≡ false) (λ y. other y (h x) ≡ false) (λ y e. same y x ∙ e) parts all) part here),
    order_map less other same parts more,
  )

module _ (n : ℕ) (cut : Cut) (items : List Expr) (parts : List (List Row)) where
  by_keys : (keys : List Expr) → Stands n cut (place.Hash keys) parts → (o : Option (List Expr)) → each_found (kept_column items) keys ≡ o → Stands n cut (hash_by o) (map (map (row_of items)) parts)
  by_keys keys all None e = tt
  by_keys keys (count, all) (Some spelled) e =
      let new = respelled (kept_column items) items (kept_found items) keys spelled e in (
        length-map parts (map (row_of items)) ∙ count,
        placed_map (row_of items) (λ row. cut.number (by_hash n keys row)) (λ row. cut.number (by_hash n spelled row))
            (λ row. ap (λ k. cut.number (hash_place n k)) (ap (row_of spelled) (sym (append-nil (row_of items row))) ∙ new.values row [])) 0 parts all,
      )

  by_order : (keys : List SortKey) → Stands n cut (place.Range keys) parts → (o : Option (List SortKey)) → each_found (found_key (kept_column items)) keys ≡ o → Stands n cut (range_by o) (map (map (row_of items)) parts)
  by_order keys all None e = tt
  by_order keys (order, bounds, all) (Some spelled) e =
      let new = respelled_keys (kept_column items) items (kept_found items) keys spelled e in
      let key : (row : Row) → key_of spelled (row_of items row) ≡ key_of keys row = λ row. ap (key_of spelled) (sym (append-nil (row_of items row))) ∙ new.values row [] in (
        order_map (row_of items) (before keys) (before spelled) (λ x y. (λ i. is_lt (key_order (new.ways i) (key x i) (key y i)))) parts order,
        bounds,
        placed_map (row_of items) (λ row. cut.number (by_range (key_less keys) bounds (key_of keys) row)) (λ row. cut.number (by_range (key_less spelled) bounds (key_of spelled) row))
            (λ row. (λ i. cut.number (length (filter (λ bound. is_lt (key_order (new.ways i) bound (key row i))) bounds)))) 0 parts all,
      )

  stands_behind : (w : Placement) → Stands n cut w parts → Stands n cut (after_project items w) (map (map (row_of items)) parts)
  stands_behind place.Any h = tt
  stands_behind place.Single h = length-map parts (map (row_of items)) ∙ h
  stands_behind (place.Hash keys) h = by_keys keys h (each_found (kept_column items) keys) refl
  stands_behind (place.Range keys) h = by_order keys h (each_found (found_key (kept_column items)) keys) refl
  stands_behind place.Broadcast h = tt

pub projected_places : ProjectsMovePlaces
projected_places n cut items w parts h = stands_behind n cut items parts w h
