-- Counting what is open, token by token.
use Rattle.std.proofs.Common.{ℕ, List, ◌≡◌, ◌≤◌, ◌<◌, ◌+◌, Bool, length, take, get_or, refl, sym, subst, ap, arith, inl, inr, ◌∙◌, cond}
use Rattle.std.specs.List.{filter}
use Rattle.std.proofs.lemmas.List.Filters.{length-filter_more}
use Rattle.std.proofs.lemmas.List.Sums.{length-filter, count_by-le-length}
use Rattle.std.proofs.lemmas.List.{length-take, take_all}
use Rattle.std.specs.Prelude.{Option}
use Rattle.std.proofs.lemmas.Bool.{cases_lt}
use Rattle.aqe_lexer.specs.declared.token.Token.{Token}
use Rattle.aqe_trees.specs.declared.terminal.Key.{Key}
use Rattle.aqe_script.specs.Terminals.{key_of}
use Rattle.aqe_script.specs.Depth.{key_opens, key_closes, opened, closed, depth_limit, IsOpenTooDeep}

-- what is known behind so many tokens: how many are opened and closed, and that never were too many open
pub record Counted (source : List ℕ) (part : List Token) (opens closes i : ℕ) : Type 0 where
  pub opens_so_far : opens ≡ opened source (take i part)
  pub closes_so_far : closes ≡ closed source (take i part)
  pub opens_few : opens ≤ i
  pub closes_few : closes ≤ i
  pub shallow : (n : ℕ) → n ≤ i → opened source (take n part) ≤ closed source (take n part) + depth_limit

few : (p : Token → Bool) (part : List Token) (i : ℕ) → i ≤ length part → length (filter p (take i part)) ≤ i
few p part i h = omega (arith, length-filter p (take i part), count_by-le-length p (take i part), length-take i part)

none_open : (source : List ℕ) (part : List Token) (n : ℕ) → n ≡ 0 → opened source (take n part) ≤ closed source (take n part) + depth_limit
none_open source part n e = subst (λ (m : ℕ). opened source (take m part) ≤ closed source (take m part) + depth_limit) (sym e) (omega arith)

pub begun : (source : List ℕ) (part : List Token) → Counted source part 0 0 0
begun source part = record {
  opens_so_far = refl;
  closes_so_far = refl;
  opens_few = omega arith;
  closes_few = omega arith;
  shallow = λ n h. none_open source part n (omega (arith, h));
}

-- what holds up to a number and of the next holds up to the next
extended : (P : ℕ → Type 0) (i : ℕ) → ((n : ℕ) → n ≤ i → P n) → P (i + 1) → (n : ℕ) → n ≤ i + 1 → P n
extended P i before next n h = elim (cases_lt n (i + 1)) [
  | inl low ↦ before n (omega (arith, low))
  | inr high ↦ subst P (omega (arith, h, high)) next
]

-- what one more token adds to the count of those that pass a test
one_more : (p : Token → Bool) (part : List Token) (t : Token) (i a b : ℕ) → i < length part → a ≡ length (filter p (take i part)) → b ≡ cond (p (get_or part i t)) 1 0 →
    a + b ≡ length (filter p (take (i + 1) part))
one_more p part t i a b h m n =
    let more = length-filter_more p part i t h in
    omega (arith, more, m, n)

-- behind all tokens no more are open than were before
pub not_deep : {source : List ℕ} {part : List Token} {opens closes i : ℕ} → Counted source part opens closes i → length part ≤ i →
    IsOpenTooDeep source part → ⊥
not_deep {source = source} {part = part} {i = i} k h d = elim (cases_lt i d.0) [
  | inl far ↦
      let whole : take d.0 part ≡ take i part = take_all d.0 part (omega (arith, h, far)) ∙ sym (take_all i part h) in
      let n : opened source (take d.0 part) ≤ closed source (take d.0 part) + depth_limit =
      subst (λ (ts : List Token). opened source ts ≤ closed source ts + depth_limit) (sym whole) (k.shallow i (omega arith)) in
      absurd (omega (arith, n, d.1))
  | inr near ↦ absurd (omega (arith, k.shallow d.0 near, d.1))
]

-- where more are open than the limit, the part is too deep
pub deep_here : {source : List ℕ} {part : List Token} {opens closes i a b : ℕ} (t : Token) {key : Option Key} → Counted source part opens closes i →
    i < length part → key ≡ key_of source (get_or part i t) → a ≡ cond (key_opens key) 1 0 → b ≡ cond (key_closes key) 1 0 →
    closes + b + depth_limit < opens + a → IsOpenTooDeep source part
deep_here {source = source} {part = part} {opens = opens} {closes = closes} {i = i} {a = a} {b = b} t k h q m n s =
    let p = one_more (λ (x : Token). key_opens (key_of source x)) part t i opens a h k.opens_so_far (m ∙ ap {B = ℕ} (λ (x : Option Key). cond (key_opens x) 1 0) q) in
    let c = one_more (λ (x : Token). key_closes (key_of source x)) part t i closes b h k.closes_so_far (n ∙ ap {B = ℕ} (λ (x : Option Key). cond (key_closes x) 1 0) q) in
    (i + 1, omega (arith, p, c, s))

pub counted_on : {source : List ℕ} {part : List Token} {opens closes i a b : ℕ} (t : Token) {key : Option Key} → Counted source part opens closes i →
    i < length part → key ≡ key_of source (get_or part i t) → a ≡ cond (key_opens key) 1 0 → b ≡ cond (key_closes key) 1 0 →
    opens + a ≤ closes + b + depth_limit → Counted source part (opens + a) (closes + b) (i + 1)
counted_on {source = source} {part = part} {opens = opens} {closes = closes} {i = i} {a = a} {b = b} t k h q m n s =
    let p = one_more (λ (x : Token). key_opens (key_of source x)) part t i opens a h k.opens_so_far (m ∙ ap {B = ℕ} (λ (x : Option Key). cond (key_opens x) 1 0) q) in
    let c = one_more (λ (x : Token). key_closes (key_of source x)) part t i closes b h k.closes_so_far (n ∙ ap {B = ℕ} (λ (x : Option Key). cond (key_closes x) 1 0) q) in
    record {
      opens_so_far = p;
      closes_so_far = c;
      opens_few = omega (arith, p, few (λ (x : Token). key_opens (key_of source x)) part (i + 1) (omega (arith, h)));
      closes_few = omega (arith, c, few (λ (x : Token). key_closes (key_of source x)) part (i + 1) (omega (arith, h)));
      shallow = extended (λ (n : ℕ). opened source (take n part) ≤ closed source (take n part) + depth_limit) i k.shallow (omega (arith, p, c, s));
    }
