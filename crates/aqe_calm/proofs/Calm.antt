-- What holds of a run in which nothing but the rest ends tasks.
use Rattle.std.proofs.Common.{◌≡◌, refl, ap, sym, subst, ◌∙◌, ◌≤◌, ◌<◌, ◌==◌, zero, suc, ℕ, Bool, true, false, cond, ◌&&◌, ◌||◌, List, [], ◌∷◌, ◌++◌, length, arith, Option, Some, None, is_some, slice_get, length-append, inl, inr}
use Rattle.std.specs.Option.{option_or}
use Rattle.std.specs.Prelude.{◌⊎◌}
use Rattle.std.proofs.lemmas.Bool.{cases_Bool, cases_lt, eqb-true}
use Rattle.std.proofs.lemmas.List.{append-nil, append_assoc}
use Rattle.std.proofs.lemmas.List.Elements.{All-nil, All-cons, All-append}
use Rattle.aqe_scheduler.specs.declared.fate.Fate.TheVariants as fate
use Rattle.aqe_scheduler.specs.declared.need.Need.{Need}
use Rattle.aqe_scheduler.specs.History.{Birth, Step, Added, Marked, Happened}
use Rattle.aqe_scheduler.specs.Looks.{births, counted, whole, task_count, tasks_in}
use Rattle.aqe_scheduler.specs.Fates.{task_reads, fates}
use Rattle.aqe_scheduler.specs.Rest.{rest_ending}
use Rattle.aqe_scheduler.proofs.Behind.{births_more, counted_more}
use Rattle.aqe_stages.specs.Stages.{Stage, Stages}
use Rattle.aqe_journal.specs.Needed.{birth_over}
use Rattle.aqe_calm.specs.Calm.{births_over, CalmHistory}
use Rattle.aqe_endings.specs.Peace.{IsPeaceful, first_whole}
use Rattle.aqe_endings.proofs.Histories.{births_same}
use Rattle.aqe_endings.proofs.Wholes.{first_event, first_quiet, get_more, whole_marked, whole_added}
use Rattle.aqe_endings.proofs.Endings.{MayEnd, open_whole, whole_stays}

births_end : (before stages : Stages) (stage : Stage) → births_over before (stages ++ stage ∷ []) ≡ births_over before stages ++ birth_over (before ++ stages) stage ∷ []
births_end before [] stage = ap (λ b. birth_over b stage ∷ []) (sym (append-nil before))
births_end before (x ∷ xs) stage =
    ap (λ bs. birth_over before x ∷ bs) (births_end (before ++ x ∷ []) xs stage ∙ ap (λ b. births_over (before ++ x ∷ []) xs ++ birth_over b stage ∷ []) (append_assoc before (x ∷ []) xs))

births_many : (before stages : Stages) → length (births_over before stages) ≡ length stages
births_many before [] = refl
births_many before (x ∷ xs) = ap suc (births_many (before ++ x ∷ []) xs)

pub born_many : (stages : Stages) (h : List Step) → CalmHistory stages h → length (births h) ≡ length stages
born_many stages h c = ap (λ bs. length bs) c.births ∙ births_many [] stages

or_false : (b : Bool) → (b || false) ≡ b
or_false true = refl
or_false false = refl

pub nothing_yet : CalmHistory [] []
nothing_yet = record {
  peaceful = All-nil IsPeaceful;
  whole = λ s. refl;
  unborn = λ s t le. refl;
  within = λ s t le. refl;
  births = refl;
}

-- a mark more
pub calm_marked : (stages : Stages) (h : List Step) (stage : ℕ) (is_needed : Bool) → CalmHistory stages h → CalmHistory stages (h ++ Marked stage is_needed ∷ [])
calm_marked stages h stage is_needed c = record {
  peaceful = All-append IsPeaceful h (Marked stage is_needed ∷ []) c.peaceful (All-cons IsPeaceful (Marked stage is_needed) [] tt (All-nil IsPeaceful));
  whole = λ s. whole_marked h stage is_needed s ∙ c.whole s ∙ sym (ap (λ o. is_some o) (first_quiet h (Marked stage is_needed) s tt (whole_marked h stage is_needed s)));
  unborn = λ s t le. counted_more h (Marked stage is_needed) s t ∙ or_false (counted h s t) ∙ c.unborn s t le;
  within = λ s t le. counted_more h (Marked stage is_needed) s t ∙ or_false (counted h s t)
      ∙ c.within s t (subst (λ bs. task_count bs s ≤ t) (births_same h (Marked stage is_needed) refl) le);
  births = births_same h (Marked stage is_needed) refl ∙ c.births;
}

-- a stage more, which has a task
pub calm_added : (stages : Stages) (h : List Step) (stage : Stage) → 1 ≤ length (birth_over stages stage).reads → CalmHistory stages h → CalmHistory (stages ++ stage ∷ []) (h ++ Added (birth_over stages stage) ∷ [])
calm_added stages h stage some c =
    let birth = birth_over stages stage in
    let many = born_many stages h c in
    let same : (s : ℕ) → whole (h ++ Added birth ∷ []) s ≡ whole h s = whole_added h birth (λ s t le. c.unborn s t (omega (arith, le, many))) some in
    let long = length-append stages (stage ∷ []) in
    record {
      peaceful = All-append IsPeaceful h (Added birth ∷ []) c.peaceful (All-cons IsPeaceful (Added birth) [] tt (All-nil IsPeaceful));
      whole = λ s. same s ∙ c.whole s ∙ sym (ap (λ o. is_some o) (first_quiet h (Added birth) s tt (same s)));
      unborn = λ s t le. counted_more h (Added birth) s t ∙ or_false (counted h s t) ∙ c.unborn s t (omega (arith, le, long));
      within = λ s t le. counted_more h (Added birth) s t ∙ or_false (counted h s t) ∙ older s t (subst (λ bs. task_count bs s ≤ t) (births_more h (Added birth)) le) (cases_lt s (length (births h)));
      births = births_more h (Added birth) ∙ ap (λ bs. bs ++ birth ∷ []) c.births ∙ sym (births_end [] stages stage);
    }
  where
    older : (s t : ℕ) → task_count (births h ++ birth_over stages stage ∷ []) s ≤ t → (s < length (births h)) ⊎ (length (births h) ≤ s) → counted h s t ≡ false
    older s t le (inl lt) = c.within s t (subst (λ o. tasks_in o ≤ t) (get_more (births h) (birth_over stages stage) s lt) le)
    older s t le (inr ge) = let many = born_many stages h c in c.unborn s t (omega (arith, ge, many))

-- the stage of a task that may end is there, and is not whole
pub stage_there : (stages : Stages) (h : List Step) (place : ℕ × ℕ) → CalmHistory stages h → MayEnd h place → (place.0 < length stages) × (place.1 < task_count (births h) place.0)
stage_there stages h place c m =
    let many = born_many stages h c in
    let b = below (births h) place.0 place.1 m.reads m.task in
    (omega (arith, many, b.0), b.1)
  where
    none : {X : Type 0} (x : X) → None ≡ Some x → ⊥
    none x e = cc (e)

    get_below : {X : Type 0} (xs : List X) (i : ℕ) (x : X) → slice_get xs i ≡ Some x → i < length xs
    get_below [] i x e = absurd (none x e)
    get_below (y ∷ ys) zero x e = omega arith
    get_below (y ∷ ys) (suc i) x e = let rest = get_below ys i x e in omega (arith, rest)

    below : (bs : List Birth) (s t : ℕ) (needs : List Need) → task_reads bs s t ≡ Some needs → (s < length bs) × (t < task_count bs s)
    below [] s t needs e = absurd (none needs e)
    below (b ∷ bs) zero t needs e = (omega arith, get_below b.reads t needs e)
    below (b ∷ bs) (suc s) t needs e = let rest = below bs s t needs e in (omega (arith, rest), rest.1)

pub not_whole : (stages : Stages) (h : List Step) (place : ℕ × ℕ) → CalmHistory stages h → MayEnd h place → whole h place.0 ≡ false
not_whole stages h place c m = open_whole h place.0 place.1 (stage_there stages h place c m).1 m.undone

-- the ending of a task that may end
pub calm_ended : (stages : Stages) (h : List Step) (place : ℕ × ℕ) → CalmHistory stages h → MayEnd h place → CalmHistory stages (h ++ Happened (rest_ending place) fate.Counted ∷ [])
calm_ended stages h place c m =
    let x = Happened (rest_ending place) fate.Counted in
    let there = stage_there stages h place c m in
    record {
      peaceful = All-append IsPeaceful h (x ∷ []) c.peaceful (All-cons IsPeaceful x [] tt (All-nil IsPeaceful));
      whole = λ s. by (whole h s) refl (whole (h ++ x ∷ []) s) (whole_stays h place (not_whole stages h place c m) s) ∙ ap (λ b. b || whole (h ++ x ∷ []) s) (c.whole s)
          ∙ joined (first_whole h s) (whole (h ++ x ∷ []) s) ∙ sym (ap (λ o. is_some o) (first_event h (rest_ending place) fate.Counted s));
      unborn = λ s t le. counted_more h x s t ∙ ap (λ b. counted h s t || (b && (place.1 == t))) (apart s le there.0) ∙ or_false (counted h s t) ∙ c.unborn s t le;
      within = λ s t le. past s t (subst (λ bs. task_count bs s ≤ t) (births_same h x refl) le) there.1;
      births = births_same h x refl ∙ c.births;
    }
  where
    by : (a : Bool) {was : Bool} (e : was ≡ a) (b : Bool) → (was ≡ true → b ≡ true) → b ≡ (was || b)
    by true e b up = up e ∙ sym (ap (λ w. w || b) e)
    by false e b up = sym (ap (λ w. w || b) e)

    joined : (o : Option ℕ) (b : Bool) → (is_some o || b) ≡ is_some (option_or o (cond b (Some (suc (length (fates h)))) None))
    joined (Some n) b = refl
    joined None true = refl
    joined None false = refl

    -- the task that ended is one of its stage
    past : (s t : ℕ) → task_count (births h) s ≤ t → place.1 < task_count (births h) place.0 → counted (h ++ Happened (rest_ending place) fate.Counted ∷ []) s t ≡ false
    past s t le lt = counted_more h (Happened (rest_ending place) fate.Counted) s t ∙ ap (λ b. counted h s t || b) (other (place.0 == s) refl) ∙ or_false (counted h s t) ∙ c.within s t le
      where
        other : (b : Bool) → (place.0 == s) ≡ b → ((place.0 == s) && (place.1 == t)) ≡ false
        other false e = ap (λ b. b && (place.1 == t)) e
        other true e = ap (λ b. b && (place.1 == t)) e ∙ elim (cases_Bool (place.1 == t)) as (λ w. (place.1 == t) ≡ false) [
          | inl so ↦ let same = eqb-true place.1 t so in
              let here : place.1 < task_count (births h) s = subst (λ k. place.1 < task_count (births h) k) (eqb-true place.0 s e) lt in
              absurd (omega (arith, same, here, le))
          | inr not_so ↦ not_so
        ]

    apart : (s : ℕ) → length stages ≤ s → place.0 < length stages → (place.0 == s) ≡ false
    apart s le lt = elim (cases_Bool (place.0 == s)) as (λ w. (place.0 == s) ≡ false) [
      | inl so ↦ let same = eqb-true place.0 s so in absurd (omega (arith, same, le, lt))
      | inr not_so ↦ not_so
    ]
