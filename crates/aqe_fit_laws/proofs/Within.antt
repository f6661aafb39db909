-- What is done to each part by itself keeps where rows stand.
use Rattle.std.proofs.Common.{◌≡◌, ℕ, ◌+◌, Bool, false, List, [], ◌∷◌, map, ◌∙◌}
use Rattle.std.specs.Prelude.{flat_map, All, Contains}
use Rattle.std.proofs.lemmas.List.{length-map}
use Rattle.std.proofs.lemmas.List.Elements.{All-nil, All-append, All-weaker, All-contains}
use Rattle.aqe_logical.specs.declared.plan.Placement.TheVariants as place
use Rattle.aqe_logical.specs.Answers.{Row}
use Rattle.aqe_logical.specs.Order.{before, key_of}
use Rattle.aqe_physical.proofs.Walk.{all_left, all_right}
use Rattle.aqe_places.specs.Places.{by_hash, by_range}
use Rattle.aqe_places.specs.Laws.{Placed, PartsInOrder}
use Rattle.aqe_stages.specs.Places.{key_less}
use Rattle.aqe_fit_laws.specs.Laws.{LeavesOnlyRows, NodesWithinPartsKeepPlaces}

module _ (g : List Row → List Row) (leaves : LeavesOnlyRows g) where
  -- what holds of all rows of a part holds of all that is left of it
  only : (P : Row → Type 0) (rows : List Row) → All P rows → All P (g rows)
  only P rows h = All-weaker (Contains rows) P (λ row c. All-contains P rows row h c) (g rows) (leaves rows)

  pub placed_within : (f : Row → ℕ) (a : ℕ) (parts : List (List Row)) → Placed f a parts → Placed f a (map g parts)
  placed_within f a [] h = tt
  placed_within f a (part ∷ parts) (h, k) = (only (λ row. f row ≡ a) part h, placed_within f (a + 1) parts k)

  pub later_within : (P : Row → Type 0) (parts : List (List Row)) → All P (flat_map (λ later. later) parts) → All P (flat_map (λ later. later) (map g parts))
  later_within P [] h = All-nil P
  later_within P (part ∷ parts) h =
      All-append P (g part) (flat_map (λ later. later) (map g parts)) (only P part (all_left P part (flat_map (λ later. later) parts) h)) (later_within P parts (all_right P part (flat_map (λ later. later) parts) h))

  order_within : (less : Row → Row → Bool) (parts : List (List Row)) → PartsInOrder less parts → PartsInOrder less (map g parts)
  order_within less [] h = tt
  order_within less (part ∷ parts) (h, k) = (
    only (λ x. All (λ y. less y x ≡ false) (flat_map (λ later. later) (map g parts))) part
        (All-weaker (λ x. All (λ y. less y x ≡ false) (flat_map (λ later. later) parts)) (λ x. All (λ y. less y x ≡ false) (flat_map (λ later. later) (map g parts)))
        (λ x e. later_within (λ y. less y x ≡ false) parts e) part h),
    order_within less parts k,
  )

pub within : NodesWithinPartsKeepPlaces
within n cut place.Any g parts only h = tt
within n cut place.Single g parts only h = length-map parts g ∙ h
within n cut (place.Hash keys) g parts only (count, h) = (length-map parts g ∙ count, placed_within g only (λ row. cut.number (by_hash n keys row)) 0 parts h)
within n cut (place.Range keys) g parts only (order, bounds, h) =
    (order_within g only (before keys) parts order, bounds, placed_within g only (λ row. cut.number (by_range (key_less keys) bounds (key_of keys) row)) 0 parts h)
within n cut place.Broadcast g parts only h = tt
