-- A strand has one cut at most.
use Rattle.std.proofs.Common.{◌≡◌, refl, sym, ◌∙◌, ap, subst, Bool, true, false, Option, None, Some, List}
use Rattle.aqe_rects.specs.Pairs.{RectPair}
use Rattle.aqe_coalesce.specs.Laws.{OneListOfGroups}
use Rattle.aqe_skew.specs.Paired.{SomeSplit, Paired}
use Rattle.aqe_skew.specs.Laws.{OneListOfPairs}
use Rattle.aqe_fitting.specs.Strands.{Strand}
use Rattle.aqe_fitting.specs.ReadsFit.{Cut, in_groups, in_pairs, Facts, CutOf, stays_uncut, goes_local, goes_skewed, goes_together, goes_plain, may_cut, is_local, coalesces, skew_sides, skew_rule, skew_target, strand_sizes, strand_target, NotSkewed, Sides}

abbrev there : {X : Type 0} → X → Option X → X
there other None = other
there other (Some x) = x

module _ (facts : Facts) (s : Strand) (one : OneListOfGroups) (pairs_one : OneListOfPairs) where
  not_both : (a : Bool) → a ≡ true → a ≡ false → ⊥
  not_both a t f = absurd (cc)

  -- the pairs of sides, of which a partition is split
  abbrev IsPaired : Sides → List RectPair → Type 0
  IsPaired sides pairs =
      SomeSplit sides.kind sides.left sides.right (skew_rule facts.settings) ×
      Paired sides.kind sides.left sides.right (skew_rule facts.settings) (skew_target facts s) pairs

  split_or_not : (sides : Sides) (pairs : List RectPair) → skew_sides facts s ≡ Some sides → IsPaired sides pairs → NotSkewed facts (skew_sides facts s) → ⊥
  split_or_not sides pairs e h n =
      let whole : NotSkewed facts (Some sides) = subst (λ (o : Option Sides). NotSkewed facts o) e n in
      let wrong : Some pairs ≡ None = pairs_one sides.kind sides.left sides.right (skew_rule facts.settings) (skew_target facts s) (Some pairs) None h whole in
      absurd (cc)

  same_pairs : (sides others : Sides) (pairs more : List RectPair) → skew_sides facts s ≡ Some sides → skew_sides facts s ≡ Some others →
      IsPaired sides pairs → IsPaired others more → pairs ≡ more
  same_pairs sides others pairs more e f h g =
      let p : others ≡ sides = ap (there sides) (sym f ∙ e) in
      let k : IsPaired sides more = subst (λ (o : Sides). IsPaired o more) p g in
      ap (there pairs) (pairs_one sides.kind sides.left sides.right (skew_rule facts.settings) (skew_target facts s) (Some pairs) (Some more) h k)

  pub one_cut : (c d : Cut) → CutOf facts s c → CutOf facts s d → c ≡ d
  one_cut _ _ (stays_uncut n) (stays_uncut m) = refl
  one_cut _ _ (stays_uncut n) (goes_local m l) = absurd (not_both (may_cut facts s) m n)
  one_cut _ _ (stays_uncut n) (goes_skewed m l sd h sp ps pd) = absurd (not_both (may_cut facts s) m n)
  one_cut _ _ (stays_uncut n) (goes_together m l k co gs g) = absurd (not_both (may_cut facts s) m n)
  one_cut _ _ (stays_uncut n) (goes_plain m l k co) = refl
  one_cut _ _ (goes_local m l) (stays_uncut n) = absurd (not_both (may_cut facts s) m n)
  one_cut _ _ (goes_local m l) (goes_local n k) = refl
  one_cut _ _ (goes_local m l) (goes_skewed n k sd h sp ps pd) = absurd (not_both (is_local facts s) l k)
  one_cut _ _ (goes_local m l) (goes_together n k ns co gs g) = absurd (not_both (is_local facts s) l k)
  one_cut _ _ (goes_local m l) (goes_plain n k ns co) = absurd (not_both (is_local facts s) l k)
  one_cut _ _ (goes_skewed m l sd h sp ps pd) (stays_uncut n) = absurd (not_both (may_cut facts s) m n)
  one_cut _ _ (goes_skewed m l sd h sp ps pd) (goes_local n k) = absurd (not_both (is_local facts s) k l)
  one_cut _ _ (goes_skewed m l sd h sp ps pd) (goes_skewed n k sd2 h2 sp2 ps2 pd2) = ap in_pairs (same_pairs sd sd2 ps ps2 h h2 (sp, pd) (sp2, pd2))
  one_cut _ _ (goes_skewed m l sd h sp ps pd) (goes_together n k ns co gs g) = absurd (split_or_not sd ps h (sp, pd) ns)
  one_cut _ _ (goes_skewed m l sd h sp ps pd) (goes_plain n k ns co) = absurd (split_or_not sd ps h (sp, pd) ns)
  one_cut _ _ (goes_together m l ns co gs g) (stays_uncut n) = absurd (not_both (may_cut facts s) m n)
  one_cut _ _ (goes_together m l ns co gs g) (goes_local n k) = absurd (not_both (is_local facts s) k l)
  one_cut _ _ (goes_together m l ns co gs g) (goes_skewed n k sd h sp ps pd) = absurd (split_or_not sd ps h (sp, pd) ns)
  one_cut _ _ (goes_together m l ns co gs g) (goes_together n k ns2 co2 gs2 g2) =
      ap in_groups (one (strand_sizes facts s) (strand_target facts s) gs gs2 g g2)
  one_cut _ _ (goes_together m l ns co gs g) (goes_plain n k ns2 co2) = absurd (not_both (coalesces facts s) co co2)
  one_cut _ _ (goes_plain m l ns co) (stays_uncut n) = refl
  one_cut _ _ (goes_plain m l ns co) (goes_local n k) = absurd (not_both (is_local facts s) k l)
  one_cut _ _ (goes_plain m l ns co) (goes_skewed n k sd h sp ps pd) = absurd (split_or_not sd ps h (sp, pd) ns)
  one_cut _ _ (goes_plain m l ns co) (goes_together n k ns2 co2 gs2 g2) = absurd (not_both (coalesces facts s) co2 co)
  one_cut _ _ (goes_plain m l ns co) (goes_plain n k ns2 co2) = refl
