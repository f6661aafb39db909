-- What holds of each form of a test holds of each test.
use Rattle.std.proofs.Common.{Bool, List, map, sym, subst}
use Rattle.aqe_trees.specs.declared.expression.OrTree.{OrTree}
use Rattle.aqe_trees.specs.declared.expression.ComparisonTree.{ComparisonTree}
use Rattle.aqe_trees.specs.declared.expression.Truth.{Truth}
use Rattle.aqe_trees.specs.declared.expression.Test.{Test, Test-F, roll-Test, ind-Test}
use Rattle.aqe_trees.specs.declared.expression.Test.TheVariants as test
use Rattle.aqe_trees.specs.declared.expression.Test.TheVariants.{rolls-Plain, rolls-Between, rolls-OneOf, rolls-Like, rolls-Is}

module _ (P : Test → Type 0) where
  pub by_form : P test.Plain → ((negated : Bool) (low high : ComparisonTree) → P (test.Between negated low high)) → ((negated : Bool) (list : List OrTree) → P (test.OneOf negated list)) →
      ((negated : Bool) (pattern : ComparisonTree) → P (test.Like negated pattern)) → ((negated : Bool) (truth : Truth) → P (test.Is negated truth)) → (t : Test) → P t
  by_form plain between one_of like is = ind-Test
      (λ t. Unit {0}) P (λ t. Unit {0}) (λ t. Unit {0}) (λ t. Unit {0}) (λ t. Unit {0}) (λ t. Unit {0}) (λ t. Unit {0}) (λ t. Unit {0}) (λ t. Unit {0}) (λ t. Unit {0})
      (λ x y e. tt)
      (λ x. elim [
        | Test-F.Plain ↦ λ e. subst (λ z. P (roll-Test z)) e (subst P (sym rolls-Plain) plain)
        | Test-F.Between negated low high ↦ λ e. subst (λ z. P (roll-Test z)) e (subst P (sym (rolls-Between negated low.0 high.0)) (between negated low.0 high.0))
        | Test-F.OneOf negated all ↦ λ e. subst (λ z. P (roll-Test z)) e (subst P (sym (rolls-OneOf negated (map (λ t. t.0) all))) (one_of negated (map (λ t. t.0) all)))
        | Test-F.Like negated pattern ↦ λ e. subst (λ z. P (roll-Test z)) e (subst P (sym (rolls-Like negated pattern.0)) (like negated pattern.0))
        | Test-F.Is negated truth ↦ λ e. subst (λ z. P (roll-Test z)) e (subst P (sym (rolls-Is negated truth)) (is negated truth))
      ])
      (λ x y e. tt) (λ x y e. tt) (λ x y e. tt) (λ x y e. tt) (λ x y e. tt) (λ x y e. tt) (λ x y e. tt) (λ x y e. tt) (λ x y e. tt)
