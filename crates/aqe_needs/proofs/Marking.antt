-- The marks of the last stages, and the flags of those before them.
use Rattle.std.proofs.Common.{◌≡◌, ℕ, zero, suc, ◌+◌, ◌<◌, ◌≤◌, Bool, true, false, ◌||◌, ◌&&◌, not, List, [], ◌∷◌, ◌++◌, map, length, drop, reverse, get_or, refl, ap, sym, ◌∙◌, subst, arith, Option, Some, None}
use Rattle.std.specs.List.{range_with_len}
use Rattle.std.proofs.lemmas.List.FromFn.{length-map-range_with_len, map-range_with_len_more, get_or-map-range_with_len}
use Rattle.std.proofs.lemmas.Grind.{reverse_onto}
use Rattle.std.proofs.lemmas.List.{reverse-reverse}
use Rattle.aqe_physical.specs.declared.plan.Plan.{Plan}
use Rattle.aqe_stages.specs.Stages.{Stage}
use Rattle.aqe_journal.specs.declared.record.StageNote.{StageNote}
use Rattle.aqe_journal.specs.Needed.{plan_reads, stage_reads, is_result, is_read_later, marks_from, needed_stages}
use Rattle.aqe_needs.specs.Flags.{noted, marked, IsWithoutLast}
use Rattle.aqe_needs.specs.Noted.{stage_of, stages_of}

-- whether the plan or one of the later stages, of which the first has number n, reads a stage
abbrev pub read_at : (ℕ → Bool) → Plan → ℕ → List Stage → ℕ → Bool
read_at w plan n later s = plan_reads plan s || is_read_later w s n later (marks_from w plan n later)

pub record AreMarked (w : ℕ → Bool) (plan : Plan) (stages : List Stage) (n : ℕ) (flags marks : List Bool) : Type 0 where
  pub few : n ≤ length stages
  pub front : flags ≡ map (read_at w plan n (drop n stages)) (range_with_len 0 n)
  pub back : marks ≡ reverse (marks_from w plan n (drop n stages))

drop_whole : {X : Type 0} (xs : List X) → drop (length xs) xs ≡ []
drop_whole [] = refl
drop_whole (x ∷ xs) = drop_whole xs

or_false : (b : Bool) → (b || false) ≡ b
or_false true = refl
or_false false = refl

pub begun : (w : ℕ → Bool) (plan : Plan) (stages : List Stage) (flags marks : List Bool) → flags ≡ map (plan_reads plan) (range_with_len 0 (length stages)) → marks ≡ [] →
    AreMarked w plan stages (length flags) flags marks
begun w plan stages flags marks made none =
    let count : length flags ≡ length stages = ap length made ∙ length-map-range_with_len (plan_reads plan) 0 (length stages) in
    subst (λ (n : ℕ). AreMarked w plan stages n flags marks) (sym count)
    (let rest : drop (length stages) stages ≡ [] = drop_whole stages in record {
      few = omega arith;
      front = made ∙ ((λ i. map (λ s. sym (or_false (plan_reads plan s)) i) (range_with_len 0 (length stages))) ∙
          sym (ap (λ (later : List Stage). map (read_at w plan (length stages) later) (range_with_len 0 (length stages))) rest));
      back = none ∙ sym (ap (λ (later : List Stage). reverse (marks_from w plan (length stages) later)) rest);
    })

-- what stands at a place, and what behind it
drop_at : (notes : List StageNote) (m : ℕ) (note : StageNote) → m < length notes → note ≡ get_or notes m note → drop m (stages_of notes) ≡ stage_of note ∷ drop (suc m) (stages_of notes)
drop_at [] m note below is = absurd (omega (arith, below))
drop_at (x ∷ notes) zero note below is = ap (λ (y : StageNote). stage_of y ∷ stages_of notes) (sym is)
drop_at (x ∷ notes) (suc m) note below is = drop_at notes m note (omega (arith, below)) is

abbrev head_or : Bool → List Bool → Bool
head_or b [] = b
head_or b (x ∷ xs) = x

-- two lists that end in one item each
same_front : (xs ys : List Bool) (x y : Bool) → length xs ≡ length ys → xs ++ x ∷ [] ≡ ys ++ y ∷ [] → (xs ≡ ys) × (x ≡ y)
same_front [] [] x y n e = (refl, ap (head_or x) e)
same_front [] (b ∷ ys) x y n e = absurd (omega (arith, n))
same_front (a ∷ xs) [] x y n e = absurd (omega (arith, n))
same_front (a ∷ xs) (b ∷ ys) x y n e =
    let below = same_front xs ys x y (omega (arith, n)) (ap (drop 1) e) in
    let here : a ≡ b = ap (head_or a) e in
    ((λ i. here i ∷ below.0 i), below.1)

noted_map : (p r : ℕ → Bool) (a n : ℕ) → noted p a (map r (range_with_len a n)) ≡ map (λ s. r s || p s) (range_with_len a n)
noted_map p r a zero = refl
noted_map p r a (suc n) = ap (λ (bs : List Bool). (r a || p a) ∷ bs) (noted_map p r (a + 1) n)

regroup : (p l b w x : Bool) → ((p || l) || ((b && not w) && x)) ≡ (p || ((b && (not w && x)) || l))
regroup true l b w x = refl
regroup false true true true true = refl
regroup false true true true false = refl
regroup false true true false true = refl
regroup false true true false false = refl
regroup false true false w x = refl
regroup false false true true x = refl
regroup false false true false true = refl
regroup false false true false false = refl
regroup false false false w x = refl

stepped : (w : ℕ → Bool) (plan : Plan) (stages : List Stage) (m : ℕ) (stage : Stage) (mid new marks more : List Bool) (flag goes needed : Bool) →
    drop m stages ≡ stage ∷ drop (suc m) stages → m < length stages → length mid ≡ m → AreMarked w plan stages (suc m) (mid ++ flag ∷ []) marks →
    needed ≡ (is_result stage.kind || flag) → goes ≡ (needed && not (w m)) → new ≡ noted (λ s. goes && stage_reads stage s) 0 mid → more ≡ marks ++ needed ∷ [] →
    AreMarked w plan stages m new more
stepped w plan stages m stage mid new marks more flag goes needed at below count before is opens made pushed =
    let later = drop (suc m) stages in
    let n1 : suc m ≡ m + 1 = omega arith in
    let whole : mid ++ flag ∷ [] ≡ map (read_at w plan (suc m) later) (range_with_len 0 m) ++ read_at w plan (suc m) later m ∷ [] =
    before.front ∙ (ap (λ (k : ℕ). map (read_at w plan (suc m) later) (range_with_len 0 k)) n1 ∙ map-range_with_len_more (read_at w plan (suc m) later) 0 m m (omega arith)) in
    let same = same_front mid (map (read_at w plan (suc m) later) (range_with_len 0 m)) flag (read_at w plan (suc m) later m)
    (count ∙ sym (length-map-range_with_len (read_at w plan (suc m) later) 0 m)) whole in
    let mark : needed ≡ (is_result stage.kind || read_at w plan (suc m) later m) = is ∙ ap (λ (b : Bool). is_result stage.kind || b) same.1 in
    let marks_are : needed ∷ marks_from w plan (suc m) later ≡ marks_from w plan m (drop m stages) =
    ap (λ (b : Bool). b ∷ marks_from w plan (suc m) later) mark ∙ sym (ap (marks_from w plan m) at) in
    record {
      few = omega (arith, below);
      front = made ∙ (ap (noted (λ s. goes && stage_reads stage s) 0) same.0 ∙ (noted_map (λ s. goes && stage_reads stage s) (read_at w plan (suc m) later) 0 m ∙
          ((λ i. map (λ s. read_at w plan (suc m) later s || (opens i && stage_reads stage s)) (range_with_len 0 m)) ∙
          ((λ i. map (λ s. regroup (plan_reads plan s) (is_read_later w s (suc m) later (marks_from w plan (suc m) later)) needed (w m) (stage_reads stage s) i) (range_with_len 0 m)) ∙
          ((λ i. map (λ s. plan_reads plan s || ((mark i && (not (w m) && stage_reads stage s)) || is_read_later w s (suc m) later (marks_from w plan (suc m) later))) (range_with_len 0 m)) ∙
          sym (ap (λ (rest : List Stage). map (read_at w plan m rest) (range_with_len 0 m)) at))))));
      back = pushed ∙ (ap (λ (ms : List Bool). ms ++ needed ∷ []) before.back ∙ (sym (reverse_onto (marks_from w plan (suc m) later) needed []) ∙ ap reverse marks_are));
    }

pub step : (whole : List Bool) (plan : Plan) (notes : List StageNote) (m : ℕ) (note : StageNote) (last : Option Bool) (old mid new marks more : List Bool) (flag is_whole goes needed : Bool) →
    AreMarked (marked whole) plan (stages_of notes) (length old) old marks → IsWithoutLast old last mid → last ≡ Some flag → m ≡ length mid → note ≡ get_or notes m note → is_whole ≡ get_or whole m false →
    needed ≡ (is_result note.kind || flag) → goes ≡ (needed && not is_whole) → new ≡ noted (λ s. goes && stage_reads (stage_of note) s) 0 mid → more ≡ marks ++ needed ∷ [] →
    AreMarked (marked whole) plan (stages_of notes) (length new) new more
step whole plan notes m note last old mid new marks more flag is_whole goes needed before taken some count at w is opens made pushed =
    let popped : old ≡ mid ++ flag ∷ [] = subst (λ (o : Option Bool). IsWithoutLast old o mid) some taken in
    let grown : length (mid ++ flag ∷ []) ≡ suc m = length_more mid flag ∙ ap suc (sym count) in
    let size : length old ≡ suc m = ap length popped ∙ grown in
    let all : length (stages_of notes) ≡ length notes = length_of notes in
    let below : m < length notes = few_of (length old) (length (stages_of notes)) (length notes) m before.few size all in
    let inside : m < length (stages_of notes) = subst (λ (k : ℕ). m < k) (sym all) below in
    let then : AreMarked (marked whole) plan (stages_of notes) (suc m) (mid ++ flag ∷ []) marks =
    subst (λ (xs : List Bool). AreMarked (marked whole) plan (stages_of notes) (suc m) xs marks) popped (subst (λ (k : ℕ). AreMarked (marked whole) plan (stages_of notes) k old marks) size before) in
    let same : length new ≡ m = ap length made ∙ (length_noted (λ s. goes && stage_reads (stage_of note) s) 0 mid ∙ sym count) in
    subst (λ (k : ℕ). AreMarked (marked whole) plan (stages_of notes) k new more) (sym same)
    (stepped (marked whole) plan (stages_of notes) m (stage_of note) mid new marks more flag goes needed (drop_at notes m note below at) inside (sym count) then is
    (opens ∙ ap (λ (b : Bool). needed && not b) w) made pushed)
  where
    length_more : (xs : List Bool) (b : Bool) → length (xs ++ b ∷ []) ≡ suc (length xs)
    length_more [] b = refl
    length_more (x ∷ xs) b = ap suc (length_more xs b)

    length_of : (xs : List StageNote) → length (stages_of xs) ≡ length xs
    length_of [] = refl
    length_of (x ∷ xs) = ap suc (length_of xs)

    few_of : (a b c k : ℕ) → a ≤ b → a ≡ suc k → b ≡ c → k < c
    few_of a b c k h e f = omega (arith, h, e, f)

    length_noted : (p : ℕ → Bool) (n : ℕ) (xs : List Bool) → length (noted p n xs) ≡ length xs
    length_noted p n [] = refl
    length_noted p n (x ∷ xs) = ap suc (length_noted p (n + 1) xs)

-- tests that agree on the stages mark the same ones
later_alike : (v w : ℕ → Bool) (s n : ℕ) (stages : List Stage) (marks : List Bool) → ((k : ℕ) → n ≤ k → k < n + length stages → v k ≡ w k) → is_read_later v s n stages marks ≡ is_read_later w s n stages marks
later_alike v w s n [] marks same = refl
later_alike v w s n (stage ∷ stages) [] same = refl
later_alike v w s n (stage ∷ stages) (b ∷ marks) same =
    let here = same n (omega arith) (omega arith) in
    let rest = later_alike v w s (suc n) stages marks (λ k low high. same k (omega (arith, low)) (omega (arith, high))) in
    λ i. (b && (not (here i) && stage_reads stage s)) || rest i

alike : (v w : ℕ → Bool) (plan : Plan) (n : ℕ) (stages : List Stage) → ((k : ℕ) → n ≤ k → k < n + length stages → v k ≡ w k) → marks_from v plan n stages ≡ marks_from w plan n stages
alike v w plan n [] same = refl
alike v w plan n (stage ∷ stages) same =
    let behind : (k : ℕ) → suc n ≤ k → k < suc n + length stages → v k ≡ w k = λ k low high. same k (omega (arith, low)) (omega (arith, high)) in
    let rest = alike v w plan (suc n) stages behind in
    let later = later_alike v w n (suc n) stages (marks_from v plan (suc n) stages) behind ∙ ap (is_read_later w n (suc n) stages) rest in
    λ i. (is_result stage.kind || (plan_reads plan n || later i)) ∷ rest i

pub ended : (whole : List Bool) (plan : Plan) (notes : List StageNote) (last : Option Bool) (old mid marks made : List Bool) → AreMarked (marked whole) plan (stages_of notes) (length old) old marks → IsWithoutLast old last mid → last ≡ None →
    made ≡ reverse marks → (w : ℕ → Bool) → whole ≡ map w (range_with_len 0 (length notes)) → made ≡ needed_stages w plan (stages_of notes)
ended whole plan notes last old mid marks made before taken over reversed w is =
    let none : old ≡ [] = subst (λ (o : Option Bool). IsWithoutLast old o mid) over taken in
    let size : length old ≡ 0 = ap length none in
    let then = subst (λ (k : ℕ). AreMarked (marked whole) plan (stages_of notes) k old marks) size before in
    let all : length (stages_of notes) ≡ length notes = length_of notes in
    reversed ∙ (ap reverse then.back ∙ (reverse-reverse (marks_from (marked whole) plan 0 (stages_of notes)) ∙
    alike (marked whole) w plan 0 (stages_of notes)
    (λ k low high. ap (λ (l : List Bool). get_or l k false) is ∙ get_or-map-range_with_len w 0 (length notes) k k false (under k (length (stages_of notes)) (length notes) high all) (omega arith))))
  where
    length_of : (xs : List StageNote) → length (stages_of xs) ≡ length xs
    length_of [] = refl
    length_of (x ∷ xs) = ap suc (length_of xs)

    under : (k a b : ℕ) → k < 0 + a → a ≡ b → k < b
    under k a b h e = omega (arith, h, e)

-- a flag that was taken is that of a stage
pub inside : (w : ℕ → Bool) (plan : Plan) (notes : List StageNote) (last : Option Bool) (old mid marks : List Bool) (flag : Bool) (m : ℕ) →
    AreMarked w plan (stages_of notes) (length old) old marks → IsWithoutLast old last mid → last ≡ Some flag → m ≡ length mid → m < length notes
inside w plan notes last old mid marks flag m before taken some count =
    let popped : old ≡ mid ++ flag ∷ [] = subst (λ (o : Option Bool). IsWithoutLast old o mid) some taken in
    few_of (length old) (length (stages_of notes)) (length notes) m before.few (ap length popped ∙ (length_more mid flag ∙ ap suc (sym count))) (length_of notes)
  where
    length_more : (xs : List Bool) (b : Bool) → length (xs ++ b ∷ []) ≡ suc (length xs)
    length_more [] b = refl
    length_more (x ∷ xs) b = ap suc (length_more xs b)

    length_of : (xs : List StageNote) → length (stages_of xs) ≡ length xs
    length_of [] = refl
    length_of (x ∷ xs) = ap suc (length_of xs)

    few_of : (a b c k : ℕ) → a ≤ b → a ≡ suc k → b ≡ c → k < c
    few_of a b c k h e f = omega (arith, h, e, f)

pub smaller : (p : ℕ → Bool) (last : Option Bool) (old mid new : List Bool) (flag : Bool) → IsWithoutLast old last mid → last ≡ Some flag → new ≡ noted p 0 mid → length new < length old
smaller p last old mid new flag taken some made =
    let popped : old ≡ mid ++ flag ∷ [] = subst (λ (o : Option Bool). IsWithoutLast old o mid) some taken in
    less (length old) (length mid) (length new) (ap length popped ∙ length_more mid flag) (ap length made ∙ length_noted p 0 mid)
  where
    length_more : (xs : List Bool) (b : Bool) → length (xs ++ b ∷ []) ≡ suc (length xs)
    length_more [] b = refl
    length_more (x ∷ xs) b = ap suc (length_more xs b)

    length_noted : (q : ℕ → Bool) (n : ℕ) (xs : List Bool) → length (noted q n xs) ≡ length xs
    length_noted q n [] = refl
    length_noted q n (x ∷ xs) = ap suc (length_noted q (n + 1) xs)

    less : (a b c : ℕ) → a ≡ suc b → c ≡ b → c < a
    less a b c e f = omega (arith, e, f)

pub first : (w : ℕ → Bool) (plan : Plan) (notes : List StageNote) (flags marks : List Bool) (count : ℕ) → count ≡ length notes → flags ≡ map (plan_reads plan) (range_with_len 0 count) → marks ≡ [] →
    AreMarked w plan (stages_of notes) (length flags) flags marks
first w plan notes flags marks count all made none =
    begun w plan (stages_of notes) flags marks (made ∙ ap (λ (k : ℕ). map (plan_reads plan) (range_with_len 0 k)) (all ∙ sym (length_of notes))) none
  where
    length_of : (xs : List StageNote) → length (stages_of xs) ≡ length xs
    length_of [] = refl
    length_of (x ∷ xs) = ap suc (length_of xs)
