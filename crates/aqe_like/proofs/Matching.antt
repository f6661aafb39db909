-- How the cuts of a text go on from one character to the next.
use Rattle.std.proofs.Common.{◌≡◌, ℕ, Bool, true, false, ◌&&◌, ◌||◌, List, [], ◌∷◌, ◌++◌, map, refl, ap, sym, ◌∙◌}
use Rattle.std.specs.Prelude.{flat_map}
use Rattle.std.specs.List.{list_any}
use Rattle.aqe_like.specs.declared.pattern.Item.{Item}
use Rattle.aqe_like.specs.declared.pattern.Item.TheVariants.{Run, One, Exactly}
use Rattle.aqe_like.specs.Patterns.{allows, allows_each, cuts, cuts_in_two, matches, item_count}

or_assoc : (a b c : Bool) → (a || b) || c ≡ a || (b || c)
or_assoc true b c = refl
or_assoc false b c = refl

or_false : (a : Bool) → (a || false) ≡ a
or_false true = refl
or_false false = refl

any-append : {X : Type 0} (p : X → Bool) (xs ys : List X) → list_any p (xs ++ ys) ≡ list_any p xs || list_any p ys
any-append p [] ys = refl
any-append p (x ∷ xs) ys = ap (λ b. p x || b) (any-append p xs ys) ∙ sym (or_assoc (p x) (list_any p xs) (list_any p ys))

any-map : {X Y : Type 0} (p : Y → Bool) (f : X → Y) (xs : List X) → list_any p (map f xs) ≡ list_any (λ x. p (f x)) xs
any-map p f [] = refl
any-map p f (x ∷ xs) = ap (λ b. p (f x) || b) (any-map p f xs)

any-flat_map : {X Y : Type 0} (p : Y → Bool) (f : X → List Y) (xs : List X) → list_any p (flat_map f xs) ≡ list_any (λ x. list_any p (f x)) xs
any-flat_map p f [] = refl
any-flat_map p f (x ∷ xs) = any-append p (f x) (flat_map f xs) ∙ ap (λ b. list_any p (f x) || b) (any-flat_map p f xs)

any-and : {X : Type 0} (b : Bool) (p : X → Bool) (xs : List X) → list_any (λ x. b && p x) xs ≡ b && list_any p xs
any-and true p xs = refl
any-and false p [] = refl
any-and false p (x ∷ xs) = any-and false p xs

any_never : {X : Type 0} (xs : List X) → list_any (λ x. false) xs ≡ false
any_never [] = refl
any_never (x ∷ xs) = any_never xs

-- some cut in two has its front allowed by the first item, and what follows matches the other items
matches_cut : (item : Item) (items : List Item) (text : List ℕ) → matches (item ∷ items) text ≡ list_any (λ cut. allows item cut.0 && matches items cut.1) (cuts_in_two text)
unfolding matches
matches_cut item items text =
    any-flat_map (allows_each (item ∷ items)) (λ (cut : List ℕ × List ℕ). map (λ pieces. cut.0 ∷ pieces) (cuts (item_count items) cut.1)) (cuts_in_two text) ∙
    (λ i. list_any (λ (cut : List ℕ × List ℕ). at_cut cut i) (cuts_in_two text))
  where
    at_cut : (cut : List ℕ × List ℕ) → list_any (allows_each (item ∷ items)) (map (λ pieces. cut.0 ∷ pieces) (cuts (item_count items) cut.1)) ≡ allows item cut.0 && list_any (allows_each items) (cuts (item_count items) cut.1)
    at_cut cut =
        any-map (allows_each (item ∷ items)) (λ pieces. cut.0 ∷ pieces) (cuts (item_count items) cut.1) ∙
        any-and (allows item cut.0) (allows_each items) (cuts (item_count items) cut.1)

pub no_items : matches [] [] ≡ true
unfolding matches
no_items = refl

pub no_items_left : (c : ℕ) (cs : List ℕ) → matches [] (c ∷ cs) ≡ false
unfolding matches
no_items_left c cs = refl

pub run_at_end : (items : List Item) → matches (Run ∷ items) [] ≡ matches items []
run_at_end items = matches_cut Run items [] ∙ or_false (matches items [])

-- a run takes nothing, or one character more than from the next place on
pub run_more : (items : List Item) (c : ℕ) (cs : List ℕ) → matches (Run ∷ items) (c ∷ cs) ≡ matches items (c ∷ cs) || matches (Run ∷ items) cs
run_more items c cs =
    matches_cut Run items (c ∷ cs) ∙
    ap (λ b. matches items (c ∷ cs) || b)
    (any-map (λ (cut : List ℕ × List ℕ). matches items cut.1) (λ (cut : List ℕ × List ℕ). (c ∷ cut.0, cut.1)) (cuts_in_two cs) ∙ sym (matches_cut Run items cs))

pub one_at_end : (items : List Item) → matches (One ∷ items) [] ≡ false
one_at_end items = matches_cut One items []

pub exactly_at_end : (d : ℕ) (items : List Item) → matches (Exactly d ∷ items) [] ≡ false
exactly_at_end d items = matches_cut (Exactly d) items []

-- of the cuts behind one character, only the first has no further character in front
first_only : (p : List ℕ → Bool) (b : Bool) (q : List ℕ → Bool) → p [] ≡ b → ((c : ℕ) (cs : List ℕ) → p (c ∷ cs) ≡ false) → (text : List ℕ) → list_any (λ cut. p cut.0 && q cut.1) (cuts_in_two text) ≡ b && q text
first_only p b q e none [] = or_false (p [] && q []) ∙ ap (λ x. x && q []) e
first_only p b q e none (c ∷ cs) =
    ap (λ x. (p [] && q (c ∷ cs)) || x)
    (any-map (λ (cut : List ℕ × List ℕ). p cut.0 && q cut.1) (λ (cut : List ℕ × List ℕ). (c ∷ cut.0, cut.1)) (cuts_in_two cs) ∙
    (λ i. list_any (λ (cut : List ℕ × List ℕ). none c cut.0 i && q cut.1) (cuts_in_two cs)) ∙
    any_never (cuts_in_two cs)) ∙
    or_false (p [] && q (c ∷ cs)) ∙ ap (λ x. x && q (c ∷ cs)) e

pub one_more : (items : List Item) (c : ℕ) (cs : List ℕ) → matches (One ∷ items) (c ∷ cs) ≡ matches items cs
one_more items c cs =
    matches_cut One items (c ∷ cs) ∙
    any-map (λ (cut : List ℕ × List ℕ). allows One cut.0 && matches items cut.1) (λ (cut : List ℕ × List ℕ). (c ∷ cut.0, cut.1)) (cuts_in_two cs) ∙
    first_only (λ piece. allows One (c ∷ piece)) true (matches items) refl (λ d ds. refl) cs

pub exactly_more : (d : ℕ) (items : List Item) (c : ℕ) (cs : List ℕ) → matches (Exactly d ∷ items) (c ∷ cs) ≡ allows (Exactly d) (c ∷ []) && matches items cs
exactly_more d items c cs =
    matches_cut (Exactly d) items (c ∷ cs) ∙
    any-map (λ (cut : List ℕ × List ℕ). allows (Exactly d) cut.0 && matches items cut.1) (λ (cut : List ℕ × List ℕ). (c ∷ cut.0, cut.1)) (cuts_in_two cs) ∙
    first_only (λ piece. allows (Exactly d) (c ∷ piece)) (allows (Exactly d) (c ∷ [])) (matches items) refl (λ e es. refl) cs

-- an item that is no run takes one character
abbrev pub IsSingle : Item → Type 0
IsSingle Run = ⊥
IsSingle item = Unit {0}

pub single_more : (item : Item) (items : List Item) (c : ℕ) (cs : List ℕ) → IsSingle item → matches (item ∷ items) (c ∷ cs) ≡ allows item (c ∷ []) && matches items cs
single_more Run items c cs s = absurd s
single_more One items c cs s = one_more items c cs
single_more (Exactly d) items c cs s = exactly_more d items c cs

pub single_at_end : (item : Item) (items : List Item) → IsSingle item → matches (item ∷ items) [] ≡ false
single_at_end Run items s = absurd s
single_at_end One items s = one_at_end items
single_at_end (Exactly d) items s = exactly_at_end d items

or_left : (a b : Bool) → a ≡ true → (a || b) ≡ true
or_left a b h = ap (λ x. x || b) h

or_right : (a b : Bool) → b ≡ true → (a || b) ≡ true
or_right true b h = refl
or_right false b h = h

pub or_cases : {P : Type 0} (a b : Bool) → (a || b) ≡ true → (a ≡ true → P) → (b ≡ true → P) → P
or_cases true b h f g = f refl
or_cases false b h f g = g h

and_second : (a b : Bool) → (a && b) ≡ true → b ≡ true
and_second true b h = h
and_second false b h = absurd (cc)

pub run_now : (items : List Item) (text : List ℕ) → matches items text ≡ true → matches (Run ∷ items) text ≡ true
run_now items [] h = run_at_end items ∙ h
run_now items (c ∷ cs) h = run_more items c cs ∙ or_left (matches items (c ∷ cs)) (matches (Run ∷ items) cs) h

run_later : (items : List Item) (c : ℕ) (cs : List ℕ) → matches (Run ∷ items) cs ≡ true → matches (Run ∷ items) (c ∷ cs) ≡ true
run_later items c cs h = run_more items c cs ∙ or_right (matches items (c ∷ cs)) (matches (Run ∷ items) cs) h

-- what matches from some place on behind an item, matches from some place on one character later without it
pub past_single : (item : Item) (items : List Item) (c : ℕ) (cs : List ℕ) → IsSingle item → matches (Run ∷ item ∷ items) (c ∷ cs) ≡ true → matches (Run ∷ items) cs ≡ true
past_single item items c [] s h =
    or_cases (matches (item ∷ items) (c ∷ [])) (matches (Run ∷ item ∷ items) []) (sym (run_more (item ∷ items) c []) ∙ h)
    (λ now. run_now items [] (and_second (allows item (c ∷ [])) (matches items []) (sym (single_more item items c [] s) ∙ now)))
    (λ later. absurd (never (sym (single_at_end item items s) ∙ (sym (run_at_end (item ∷ items)) ∙ later))))
  where
    never : false ≡ true → ⊥
    never e = cc
past_single item items c (d ∷ ds) s h =
    or_cases (matches (item ∷ items) (c ∷ d ∷ ds)) (matches (Run ∷ item ∷ items) (d ∷ ds)) (sym (run_more (item ∷ items) c (d ∷ ds)) ∙ h)
    (λ now. run_now items (d ∷ ds) (and_second (allows item (c ∷ [])) (matches items (d ∷ ds)) (sym (single_more item items c (d ∷ ds) s) ∙ now)))
    (λ later. run_later items d ds (past_single item items d ds s later))

-- two runs are one
pub run_run : (items : List Item) (text : List ℕ) → matches (Run ∷ Run ∷ items) text ≡ true → matches (Run ∷ items) text ≡ true
run_run items [] h = sym (run_at_end (Run ∷ items)) ∙ h
run_run items (c ∷ cs) h =
    or_cases (matches (Run ∷ items) (c ∷ cs)) (matches (Run ∷ Run ∷ items) cs) (sym (run_more (Run ∷ items) c cs) ∙ h)
    (λ now. now)
    (λ later. run_later items c cs (run_run items cs later))

bool_same : (a b : Bool) → (a ≡ true → b ≡ true) → (b ≡ true → a ≡ true) → a ≡ b
bool_same true b f g = sym (f refl)
bool_same false true f g = g refl
bool_same false false f g = refl

-- What is left of a pattern and a text, after items that each allowed a character, decides as the
-- whole does; and where a later part of the text matches the whole, a later part matches what is left.
pub record GoesOn (whole : List Item) (text : List ℕ) (left : List Item) (place : List ℕ) : Type 0 where
  pub same : matches whole text ≡ matches left place
  pub later : matches (Run ∷ whole) text ≡ true → matches (Run ∷ left) place ≡ true

pub goes_on_start : (whole : List Item) (text : List ℕ) → GoesOn whole text whole text
goes_on_start whole text = record { same = refl; later = λ h. h }

pub goes_on_more : (whole : List Item) (text : List ℕ) (left : List Item) (place : List ℕ) (item : Item) (rest : List Item) (c : ℕ) (behind : List ℕ) → GoesOn whole text left place → IsSingle item → left ≡ item ∷ rest → place ≡ c ∷ behind → allows item (c ∷ []) ≡ true → GoesOn whole text rest behind
goes_on_more whole text left place item rest c behind g s e f ok = record {
  same = g.same ∙ (rw (e, f) (single_more item rest c behind s ∙ ap (λ b. b && matches rest behind) ok));
  later = λ h. past_single item rest c behind s (rw (← e, ← f) (g.later h));
}

pub goes_on_run : (whole : List Item) (text : List ℕ) (left : List Item) (place : List ℕ) (rest : List Item) → GoesOn whole text left place → left ≡ Run ∷ rest → (matches whole text ≡ matches (Run ∷ rest) place) × (matches (Run ∷ whole) text ≡ matches (Run ∷ rest) place)
goes_on_run whole text left place rest g e =
    let now : matches whole text ≡ matches (Run ∷ rest) place = g.same ∙ ap (λ is. matches is place) e in (
      now,
      bool_same (matches (Run ∷ whole) text) (matches (Run ∷ rest) place)
          (λ h. run_run rest place (rw (← e) (g.later h)))
          (λ h. run_now whole text (now ∙ h)),
    )

pub goes_on_apart : (whole : List Item) (text : List ℕ) (left : List Item) (place : List ℕ) (item : Item) (rest : List Item) (c : ℕ) (behind : List ℕ) → GoesOn whole text left place → IsSingle item → left ≡ item ∷ rest → place ≡ c ∷ behind → allows item (c ∷ []) ≡ false → matches whole text ≡ false
goes_on_apart whole text left place item rest c behind g s e f bad =
    g.same ∙ (rw (e, f) (single_more item rest c behind s ∙ ap (λ b. b && matches rest behind) bad))

pub goes_on_short : (whole : List Item) (text : List ℕ) (left : List Item) (place : List ℕ) (item : Item) (rest : List Item) → GoesOn whole text left place → IsSingle item → left ≡ item ∷ rest → place ≡ [] → matches whole text ≡ false
goes_on_short whole text left place item rest g s e f = g.same ∙ (rw (e, f) (single_at_end item rest s))

pub goes_on_whole : (whole : List Item) (text : List ℕ) (left : List Item) (place : List ℕ) → GoesOn whole text left place → left ≡ [] → place ≡ [] → matches whole text ≡ true
goes_on_whole whole text left place g e f = g.same ∙ (rw (e, f) no_items)

pub goes_on_left_over : (whole : List Item) (text : List ℕ) (left : List Item) (place : List ℕ) (c : ℕ) (behind : List ℕ) → GoesOn whole text left place → left ≡ [] → place ≡ c ∷ behind → matches whole text ≡ false
goes_on_left_over whole text left place c behind g e f = g.same ∙ (rw (e, f) (no_items_left c behind))

-- where a pattern does not match here, a run before it leaves the search to the places behind
pub not_here : (items : List Item) (place : List ℕ) (c : ℕ) (behind : List ℕ) → matches items place ≡ false → place ≡ c ∷ behind → matches (Run ∷ items) place ≡ matches (Run ∷ items) behind
not_here items place c behind none e = let here : matches items (c ∷ behind) ≡ false = rw (← e) none in rw e (run_more items c behind ∙ ap (λ b. b || matches (Run ∷ items) behind) here)

pub not_anywhere : (items : List Item) (place : List ℕ) → matches items place ≡ false → place ≡ [] → matches (Run ∷ items) place ≡ false
not_anywhere items place none e = rw e (run_at_end items ∙ rw (← e) none)
