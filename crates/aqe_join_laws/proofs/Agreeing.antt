-- Two tests of which rows meet that agree.
use Rattle.std.proofs.Common.{◌≡◌, Bool, cond, List, [], ◌∷◌, ◌++◌, length, refl, ap, ◌∙◌}
use Rattle.std.specs.Prelude.{filter, All}
use Rattle.std.proofs.lemmas.List.Elements.{All-head, All-tail, filter_agree}
use Rattle.aqe_logical.specs.Answers.{Row}
use Rattle.aqe_logical.specs.Joins.{with_matches, left_over, half}
use Rattle.aqe_join_laws.specs.Laws.{SameMatchesGiveTheSameRows}

kept_alike : (P : Row → Type 0) (p q : Row → Bool) (rows : List Row) → ((x : Row) → P x → p x ≡ q x) → All P rows → filter p rows ≡ filter q rows
kept_alike P p q [] h all = refl
kept_alike P p q (x ∷ rows) h all =
    ap (λ b. cond b (x ∷ filter p rows) (filter p rows)) (h x (All-head P x rows all)) ∙
    ap (λ ys. cond (q x) (x ∷ ys) ys) (kept_alike P p q rows h (All-tail P x rows all))

module _ (P : Row → Type 0) (each : Row → List Row → List Row) (meets others : Row → Row → Bool) (h : (x y : Row) → P x → meets x y ≡ others x y) where
  from_left : (a b : List Row) → All P a → half each meets a b ≡ half each others a b
  from_left [] b all = refl
  from_left (x ∷ a) b all =
      let met : filter (meets x) b ≡ filter (others x) b = filter_agree (meets x) (others x) (λ y. h x y (All-head P x a all)) b in
      λ i. each x (met i) ++ from_left a b (All-tail P x a all) i

  from_right : (a b : List Row) → All P a → half each (λ y x. meets x y) b a ≡ half each (λ y x. others x y) b a
  from_right a [] all = refl
  from_right a (y ∷ b) all =
      let met : filter (λ x. meets x y) a ≡ filter (λ x. others x y) a = kept_alike P (λ x. meets x y) (λ x. others x y) a (λ x p. h x y p) all in
      λ i. each y (met i) ++ from_right a b all i

pub same_matches : SameMatchesGiveTheSameRows
same_matches kind v w meets others a b h wide =
    λ i. from_left (λ x. length x ≡ v) (with_matches kind w) meets others h a b wide i ++
    from_right (λ x. length x ≡ v) (left_over kind v) meets others h a b wide i
