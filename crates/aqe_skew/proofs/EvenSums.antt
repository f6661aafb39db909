-- The sizes that are not skewed, one after another.
use Rattle.std.proofs.Common.{◌≡◌, ℕ, ◌+◌, ◌<◌, ◌≤◌, Bool, true, false, cond, not, List, [], ◌∷◌, ◌++◌, length, take, get_or, refl, ap, sym, ◌∙◌, arith, length-append, length-take}
use Rattle.std.specs.Prelude.{sum, filter, min}
use Rattle.std.proofs.lemmas.List.{take_more}
use Rattle.std.proofs.lemmas.List.Sums.{sum_by-append, sum_by-take-le}
use Rattle.std.proofs.lemmas.List.Elements.{filter-append}
use Rattle.std.proofs.lemmas.List.Filters.{length-filter_both, sum_by-filter_both}
use Rattle.aqe_skew.specs.declared.rule.SkewRule.{SkewRule}
use Rattle.aqe_skew.specs.Skewed.{is_skewed}

abbrev pub evens : ℕ → SkewRule → List ℕ → List ℕ
evens median rule sizes = filter (λ size. not (is_skewed size median rule)) sizes

-- the sum and the number of the even sizes of a walk
pub record AreEven (median : ℕ) (rule : SkewRule) (walked : List ℕ) (total count : ℕ) : Type 0 where
  pub total_is : total ≡ sum (evens median rule walked)
  pub count_is : count ≡ length (evens median rule walked)

filtered_le : (p : ℕ → Bool) (xs : List ℕ) → sum (filter p xs) ≤ sum xs
filtered_le p xs =
    let both : sum (filter p xs) + sum (filter (λ x. not (p x)) xs) ≡ sum xs = sum_by-filter_both p (λ x. not (p x)) (λ x. refl) (λ y. y) xs in
    omega (arith, both)

counted_le : (p : ℕ → Bool) (xs : List ℕ) → length (filter p xs) ≤ length xs
counted_le p xs =
    let both : length (filter p xs) + length (filter (λ x. not (p x)) xs) ≡ length xs = length-filter_both p (λ x. not (p x)) (λ x. refl) xs in
    omega (arith, both)

pub even_more : (median : ℕ) (rule : SkewRule) (sizes : List ℕ) (i total count total' count' : ℕ) → i < length sizes → AreEven median rule (take i sizes) total count
    → total' ≡ total + cond (is_skewed (get_or sizes i 0) median rule) 0 (get_or sizes i 0) → count' ≡ count + cond (is_skewed (get_or sizes i 0) median rule) 0 1
    → AreEven median rule (take (i + 1) sizes) total' count'
even_more median rule sizes i total count total' count' lt before more one_more = record { total_is = total_now; count_is = count_now }
  where
    x : ℕ
    x = get_or sizes i 0

    split_here : evens median rule (take (i + 1) sizes) ≡ evens median rule (take i sizes) ++ evens median rule (get_or sizes i 0 ∷ [])
    split_here = ap (evens median rule) (take_more sizes i 0 lt) ∙ filter-append (λ size. not (is_skewed size median rule)) (take i sizes) (get_or sizes i 0 ∷ [])

    sum_one : (y : ℕ) (b : Bool) → sum (cond (not b) (y ∷ []) []) ≡ cond b 0 y
    sum_one y true = refl
    sum_one y false = omega arith

    count_one : (y : ℕ) (b : Bool) → length (cond (not b) (y ∷ []) []) ≡ cond b 0 1
    count_one y true = refl
    count_one y false = refl

    total_now : total' ≡ sum (evens median rule (take (i + 1) sizes))
    total_now =
        let e : sum (evens median rule (take i sizes) ++ evens median rule (get_or sizes i 0 ∷ [])) ≡ sum (evens median rule (take i sizes)) + sum (evens median rule (get_or sizes i 0 ∷ [])) =
        sum_by-append (λ y. y) (evens median rule (take i sizes)) (evens median rule (get_or sizes i 0 ∷ [])) in
        let one : sum (evens median rule (get_or sizes i 0 ∷ [])) ≡ cond (is_skewed (get_or sizes i 0) median rule) 0 (get_or sizes i 0) = sum_one (get_or sizes i 0) (is_skewed (get_or sizes i 0) median rule) in
        more ∙ (ap (λ t. t + cond (is_skewed (get_or sizes i 0) median rule) 0 (get_or sizes i 0)) before.total_is
        ∙ (ap (λ t. sum (evens median rule (take i sizes)) + t) (sym one) ∙ (sym e ∙ ap (λ l. sum l) (sym split_here))))

    count_now : count' ≡ length (evens median rule (take (i + 1) sizes))
    count_now =
        let e : length (evens median rule (take i sizes) ++ evens median rule (get_or sizes i 0 ∷ [])) ≡ length (evens median rule (take i sizes)) + length (evens median rule (get_or sizes i 0 ∷ [])) =
        length-append (evens median rule (take i sizes)) (evens median rule (get_or sizes i 0 ∷ [])) in
        let one : length (evens median rule (get_or sizes i 0 ∷ [])) ≡ cond (is_skewed (get_or sizes i 0) median rule) 0 1 = count_one (get_or sizes i 0) (is_skewed (get_or sizes i 0) median rule) in
        one_more ∙ (ap (λ t. t + cond (is_skewed (get_or sizes i 0) median rule) 0 1) before.count_is
        ∙ (ap (λ t. length (evens median rule (take i sizes)) + t) (sym one) ∙ (sym e ∙ ap (λ l. length l) (sym split_here))))

-- what was walked is within the whole
pub total_within : (median : ℕ) (rule : SkewRule) (sizes : List ℕ) (i total count : ℕ) → AreEven median rule (take i sizes) total count → total ≤ sum sizes
total_within median rule sizes i total count before =
    let part : sum (evens median rule (take i sizes)) ≤ sum (take i sizes) = filtered_le (λ size. not (is_skewed size median rule)) (take i sizes) in
    let whole : sum (take i sizes) ≤ sum sizes = sum_by-take-le (λ y. y) sizes i in
    omega (arith, part, whole, before.total_is)

pub count_within : (median : ℕ) (rule : SkewRule) (sizes : List ℕ) (i total count : ℕ) → AreEven median rule (take i sizes) total count → count ≤ i
count_within median rule sizes i total count before =
    let part : length (evens median rule (take i sizes)) ≤ length (take i sizes) = counted_le (λ size. not (is_skewed size median rule)) (take i sizes) in
    let whole : length (take i sizes) ≡ min i (length sizes) = length-take i sizes in
    omega (arith, part, whole, before.count_is)
