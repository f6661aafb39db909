use Rattle.std.proofs.Common.{◌≡◌, drop}
use Rattle.aqe_looks.specs.Missing.{missing_in, missing_of_or, missing_of_and, missing_of_not, missing_of_comparison, missing_of_sum, missing_of_product, missing_of_sign, missing_of_arm}
use Rattle.aqe_looks.proofs.missing.+missing.Given as goal

abbrev pub invariant-or-more : goal.invariant-or-more
invariant-or-more l = missing_in (missing_of_and l.columns) (drop l.next-index l.rest) ≡ missing_of_or l.columns l.tree

abbrev pub invariant-and-more : goal.invariant-and-more
invariant-and-more l = missing_in (missing_of_not l.columns) (drop l.next-index l.rest) ≡ missing_of_and l.columns l.tree

abbrev pub invariant-comparison-more : goal.invariant-comparison-more
invariant-comparison-more l = missing_in (λ next. missing_of_sum l.columns next.1) (drop l.next-index l.rest) ≡ missing_of_comparison l.columns l.tree

abbrev pub invariant-sum-more : goal.invariant-sum-more
invariant-sum-more l = missing_in (λ next. missing_of_product l.columns next.1) (drop l.next-index l.rest) ≡ missing_of_sum l.columns l.tree

abbrev pub invariant-product-more : goal.invariant-product-more
invariant-product-more l = missing_in (λ next. missing_of_sign l.columns next.1) (drop l.next-index l.rest) ≡ missing_of_product l.columns l.tree

abbrev pub invariant-list-items : goal.invariant-list-items
invariant-list-items l = missing_in (missing_of_or l.columns) (drop l.next-index l.items) ≡ missing_in (missing_of_or l.columns) l.items

abbrev pub invariant-arms-arms : goal.invariant-arms-arms
invariant-arms-arms l = missing_in (missing_of_arm l.columns) (drop l.next-index l.pairs) ≡ missing_in (missing_of_arm l.columns) l.pairs
