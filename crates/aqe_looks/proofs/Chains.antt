-- A chain of operands calls an aggregate function where one of them does.
use Rattle.std.proofs.Common.{◌≡◌, Bool, true, false, List, [], ◌∷◌, map, ℕ, zero, suc, refl, sym, ap, ◌∙◌}
use Rattle.std.specs.Prelude.{◌||◌}
use Rattle.std.specs.List.{list_any}
use Rattle.aqe_trees.specs.declared.expression.Sign.{Sign}
use Rattle.aqe_rules.specs.Looks.{aggregates}
use Rattle.aqe_rules.specs.Trees.{chain, chain_of_one, times, under_signs, negated_if}

abbrev either : Bool → Bool → Bool
either a b = a || b

pub any_of_one : {X : Type 0} (f : X → Bool) (a : Bool) (xs : List X) → chain_of_one either a (map f xs) ≡ (a || list_any f xs)
any_of_one f true [] = refl
any_of_one f true (x ∷ xs) = any_of_one f true xs
any_of_one f false [] = refl
any_of_one f false (x ∷ xs) = any_of_one f (f x) xs

pub any_of_pairs : {B X : Type 0} (f : X → Bool) (a : Bool) (xs : List (B × X)) →
    chain (λ (op : B). either) a (map (λ next. (next.0, f next.1)) xs) ≡ (a || list_any (λ next. f next.1) xs)
any_of_pairs f true [] = refl
any_of_pairs f true (x ∷ xs) = any_of_pairs f true xs
any_of_pairs f false [] = refl
any_of_pairs f false (x ∷ xs) = any_of_pairs f (f x.1) xs

-- a chain whose first operand calls one, and one whose first operand calls none
pub one_settled : {X : Type 0} (f : X → Bool) (xs : List X) {first one whole : Bool} →
    whole ≡ chain_of_one either first (map f xs) → one ≡ first → one ≡ true → true ≡ whole
one_settled f xs {first = first} w e t = ap (λ (b : Bool). b || list_any f xs) (sym t ∙ e) ∙ sym (w ∙ any_of_one f first xs)

pub one_left : {X : Type 0} (f : X → Bool) (xs : List X) {first one whole : Bool} →
    whole ≡ chain_of_one either first (map f xs) → one ≡ first → one ≡ false → list_any f xs ≡ whole
one_left f xs {first = first} w e t = ap (λ (b : Bool). b || list_any f xs) (sym t ∙ e) ∙ sym (w ∙ any_of_one f first xs)

pub pairs_settled : {B X : Type 0} (f : X → Bool) (xs : List (B × X)) {first one whole : Bool} →
    whole ≡ chain (λ (op : B). either) first (map (λ next. (next.0, f next.1)) xs) → one ≡ first → one ≡ true → true ≡ whole
pairs_settled f xs {first = first} w e t = ap (λ (b : Bool). b || list_any (λ next. f next.1) xs) (sym t ∙ e) ∙ sym (w ∙ any_of_pairs f first xs)

pub pairs_left : {B X : Type 0} (f : X → Bool) (xs : List (B × X)) {first one whole : Bool} →
    whole ≡ chain (λ (op : B). either) first (map (λ next. (next.0, f next.1)) xs) → one ≡ first → one ≡ false → list_any (λ next. f next.1) xs ≡ whole
pairs_left f xs {first = first} w e t = ap (λ (b : Bool). b || list_any (λ next. f next.1) xs) (sym t ∙ e) ∙ sym (w ∙ any_of_pairs f first xs)

-- a list of parts
pub any_of_mapped : {X Y : Type 0} (test : Y → Bool) (f : X → Y) (xs : List X) → list_any test (map f xs) ≡ list_any (λ x. test (f x)) xs
any_of_mapped test f [] = refl
any_of_mapped test f (x ∷ xs) = ap (λ (b : Bool). test (f x) || b) (any_of_mapped test f xs)

-- NOT and signs call nothing
pub under_nots : (n : ℕ) (a : Bool) → times aggregates.negation n a ≡ a
under_nots zero a = refl
under_nots (suc n) a = under_nots n a

pub under_all_signs : (signs : List Sign) (a : Bool) → under_signs aggregates signs a ≡ a
under_all_signs [] a = refl
under_all_signs (sign ∷ signs) a = under_all_signs signs a

pub either_way : (negated : Bool) (a : Bool) → negated_if aggregates negated a ≡ a
either_way true a = refl
either_way false a = refl
