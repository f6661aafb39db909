-- One rectangle more, and one map more.
use Rattle.std.proofs.Common.{◌≡◌, ℕ, zero, suc, ◌+◌, List, [], ◌∷◌, ◌++◌, map, refl, ap, sym, ◌∙◌, arith, append_assoc}
use Rattle.std.specs.Prelude.{flat_map}
use Rattle.std.specs.List.{range_with_len}
use Rattle.std.proofs.lemmas.Grind.{flat_map-append}
use Rattle.std.proofs.lemmas.List.{map-append, append-nil}
use Rattle.std.proofs.lemmas.List.FromFn.{map-range_with_len_more}
use Rattle.aqe_base.specs.declared.cells.Rect.{Rect}
use Rattle.aqe_local_read.specs.LocalRects.{run, run_start, rect_of_maps, rect_of_map, rects_of_map}

run_more : (f : ℕ × ℕ → Rect) (g : ℕ → ℕ × ℕ) (front : List Rect) (i : ℕ) (rects rects' : List Rect)
    → rects ≡ front ++ map f (map g (range_with_len 0 i)) → rects' ≡ rects ++ f (g i) ∷ [] → rects' ≡ front ++ map f (map g (range_with_len 0 (i + 1)))
run_more f g front i rects rects' before push =
    push ∙ (ap (λ l. l ++ f (g i) ∷ []) before
    ∙ (append_assoc front (map f (map g (range_with_len 0 i))) (f (g i) ∷ [])
    ∙ ap (λ l. front ++ l) (sym (ap (λ l. map f l) (map-range_with_len_more g 0 i i (omega arith)) ∙ map-append f (map g (range_with_len 0 i)) (g i ∷ [])))))

pub maps_more : (maps reducers k i a b : ℕ) (rects rects' : List Rect) → rects ≡ map (rect_of_maps reducers) (map (run maps k) (range_with_len 0 i))
    → a ≡ run_start maps k i → b ≡ run_start maps k (i + 1) → rects' ≡ rects ++ record { m0 = a; m1 = b; r0 = 0; r1 = reducers } ∷ []
    → rects' ≡ map (rect_of_maps reducers) (map (run maps k) (range_with_len 0 (i + 1)))
maps_more maps reducers k i a b rects rects' before start end push =
    run_more (rect_of_maps reducers) (run maps k) [] i rects rects' before (push ∙ (λ j. rects ++ rect_of_maps reducers (start j, end j) ∷ []))

pub reducers_more : (m reducers k i a b : ℕ) (front rects rects' : List Rect) → rects ≡ front ++ map (rect_of_map m) (map (run reducers k) (range_with_len 0 i))
    → a ≡ run_start reducers k i → b ≡ run_start reducers k (i + 1) → rects' ≡ rects ++ record { m0 = m; m1 = m + 1; r0 = a; r1 = b } ∷ []
    → rects' ≡ front ++ map (rect_of_map m) (map (run reducers k) (range_with_len 0 (i + 1)))
reducers_more m reducers k i a b front rects rects' before start end push =
    run_more (rect_of_map m) (run reducers k) front i rects rects' before (push ∙ (λ j. rects ++ rect_of_map m (start j, end j) ∷ []))

pub map_more : (reducers k m : ℕ) (rects rects' : List Rect) → rects ≡ flat_map (rects_of_map reducers k) (range_with_len 0 m)
    → rects' ≡ rects ++ rects_of_map reducers k m → rects' ≡ flat_map (rects_of_map reducers k) (range_with_len 0 (m + 1))
map_more reducers k m rects rects' before push =
    push ∙ (ap (λ l. l ++ rects_of_map reducers k m) before
    ∙ sym (ap (flat_map (rects_of_map reducers k)) (ranges m)
    ∙ (flat_map-append (rects_of_map reducers k) (range_with_len 0 m) (m ∷ [])
    ∙ ap (λ l. flat_map (rects_of_map reducers k) (range_with_len 0 m) ++ l) (append-nil (rects_of_map reducers k m)))))
  where
    same : (a n : ℕ) → map (λ x. x) (range_with_len a n) ≡ range_with_len a n
    same a zero = refl
    same a (suc n) = ap (λ l. a ∷ l) (same (a + 1) n)

    ranges : (n : ℕ) → range_with_len 0 (n + 1) ≡ range_with_len 0 n ++ n ∷ []
    ranges n = sym (same 0 (n + 1)) ∙ (map-range_with_len_more (λ x. x) 0 n n (omega arith) ∙ ap (λ l. l ++ n ∷ []) (same 0 n))
