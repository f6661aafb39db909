-- Marks that are told one by one, and what is asked of stages one by one.
use Rattle.std.proofs.Common.{◌≡◌, refl, ap, sym, subst, ◌∙◌, ◌≤◌, ◌<◌, ◌+◌, zero, suc, ℕ, length-append, Bool, false, List, [], ◌∷◌, ◌++◌, length, map, take, arith, slice_index_or}
use Rattle.std.specs.Prelude.{Result, Ok, Err, IfOk, OnOk}
use Rattle.std.specs.List.{range_with_len}
use Rattle.std.proofs.lemmas.List.{append-nil, append_assoc, take_more, take_all, length-take, map_push}
use Rattle.aqe_scheduler.specs.declared.stage.Stage.{Stage}
use Rattle.aqe_scheduler.specs.History.{Entry, Marks}
use Rattle.aqe_scheduler.specs.Fates.{noted}
use Rattle.aqe_scheduler.specs.Looks.{whole}
use Rattle.aqe_scheduler.specs.Stands.{StandsFor}
use Rattle.aqe_scheduler.specs.Tables.{births_on}
use Rattle.aqe_endings.proofs.Wholes.{range_end}
use Rattle.aqe_physical.specs.declared.plan.Plan.{Plan}
use Rattle.aqe_stages.specs.Stages.{Stages}
use Rattle.aqe_journal.specs.Needed.{marks_from}
use Rattle.aqe_journal.specs.States.{marks_of}

-- the first marks were told
pub record Told (entry now : List Stage) (marks : List Bool) (n : ℕ) : Type 0 where
  pub stands : (h : List Entry) → StandsFor entry h → StandsFor now (h ++ marks_of 0 (take n marks))
  pub births : births_on now ≡ births_on entry

marks_end : (a : ℕ) (ms : List Bool) (m : Bool) → marks_of a (ms ++ m ∷ []) ≡ marks_of a ms ++ Marks (a + length ms) m ∷ []
marks_end a [] m = let none : a ≡ a + 0 = omega arith in ap (λ k. Marks k m ∷ []) none
marks_end a (x ∷ ms) m =
    let same : suc a + length ms ≡ a + suc (length ms) = omega arith in
    ap (λ es. Marks a x ∷ es) (marks_end (suc a) ms m ∙ ap (λ k. marks_of (suc a) ms ++ Marks k m ∷ []) same)

pub told_none : (board : List Stage) (marks : List Bool) → Told board board marks 0
told_none board marks = record { stands = λ h s. subst (StandsFor board) (sym (append-nil h)) s; births = refl }

pub told_more : (entry now new : List Stage) (marks : List Bool) (n k : ℕ) (mark : Bool) → Told entry now marks n → n < length marks → k ≡ n → mark ≡ slice_index_or marks n false →
    ((h : List Entry) → StandsFor now h → StandsFor new (h ++ Marks k mark ∷ [])) → births_on new ≡ births_on now → Told entry new marks (n + 1)
told_more entry now new marks n k mark t lt same is stands births =
    let count : length (take n marks) ≡ n = length-take n marks ∙ omega (arith, lt) in
    let none : 0 + length (take n marks) ≡ k = omega (arith, count, same) in
    let more : marks_of 0 (take (n + 1) marks) ≡ marks_of 0 (take n marks) ++ Marks k mark ∷ [] =
    ap (marks_of 0) (take_more marks n false lt ∙ ap (λ m. take n marks ++ m ∷ []) (sym is)) ∙ marks_end 0 (take n marks) mark ∙ ap (λ j. marks_of 0 (take n marks) ++ Marks j mark ∷ []) none in
    record {
      stands = λ h s. subst (λ es. StandsFor new es) (append_assoc h (marks_of 0 (take n marks)) (Marks k mark ∷ []) ∙ ap (λ es. h ++ es) (sym more)) (stands (h ++ marks_of 0 (take n marks)) (t.stands h s));
      births = births ∙ t.births;
    }

pub told_all : (entry now : List Stage) (marks : List Bool) (n : ℕ) → Told entry now marks n → length marks ≤ n → (h : List Entry) → StandsFor entry h → StandsFor now (h ++ marks_of 0 marks)
told_all entry now marks n t le h s = subst (λ ms. StandsFor now (h ++ marks_of 0 ms)) (take_all n marks le) (t.stands h s)

-- of the first stages it is known whether they are whole
abbrev pub AreAsked : List Stage → ℕ → List Bool → Type 0
AreAsked board n flags = (h : List Entry) → StandsFor board h → flags ≡ map (whole (noted h)) (range_with_len 0 n)

pub record Asked (board : List Stage) (n : ℕ) (flags : List Bool) : Type 0 where
  pub count : length flags ≡ n
  pub asked : AreAsked board n flags

pub asked_none : (board : List Stage) (flags : List Bool) → flags ≡ [] → Asked board 0 flags
asked_none board flags e = record { count = ap (λ fs. length fs) e; asked = λ h s. e }

pub asked_more : (board : List Stage) (n k : ℕ) (flags new : List Bool) (flag : Bool) → Asked board n flags → k ≡ n → ((h : List Entry) → StandsFor board h → flag ≡ whole (noted h) k) → new ≡ flags ++ flag ∷ [] →
    Asked board (n + 1) new
asked_more board n k flags new flag a same is pushed =
    let none : 0 + n ≡ n = omega arith in
    let more : suc n ≡ n + 1 = omega arith in
    let long = length-append flags (flag ∷ []) in
    let count = a.count in
    record {
      count = ap (λ fs. length fs) pushed ∙ omega (arith, long, count);
      asked = λ h s. pushed ∙ (λ i. a.asked h s i ++ (is h s ∙ ap (whole (noted h)) (same ∙ sym none)) i ∷ []) ∙ sym (map_push (whole (noted h)) (range_with_len 0 n) (0 + n))
          ∙ sym (ap (map (whole (noted h))) (range_end 0 n)) ∙ ap (λ k. map (whole (noted h)) (range_with_len 0 k)) more;
    }

pub asked_end : (board : List Stage) (n m : ℕ) (flags : List Bool) → Asked board n flags → n ≤ m → m ≤ n → Asked board m flags
asked_end board n m flags a low high = let same : n ≡ m = omega (arith, low, high) in subst (λ k. Asked board k flags) same a

-- flags by their number
pub flags_at : (flags : List Bool) (a n : ℕ) (f : ℕ → Bool) → length flags ≡ n → ((k : ℕ) → k < n → f (a + k) ≡ slice_index_or flags k false) → flags ≡ map f (range_with_len a n)
flags_at [] a zero f e each = refl
flags_at [] a (suc n) f e each = absurd (omega (arith, e))
flags_at (x ∷ xs) a zero f e each = absurd (omega (arith, e))
flags_at (x ∷ xs) a (suc n) f e each =
    let same : a + 0 ≡ a = omega arith in
    λ i. (sym (each 0 (omega arith)) ∙ ap f same) i ∷ flags_at xs (a + 1) n f (omega (arith, e)) (λ k lt. let more : a + 1 + k ≡ a + suc k = omega arith in ap f more ∙ each (suc k) (omega (arith, lt))) i

pub flags_own : (flags : List Bool) (n : ℕ) → length flags ≡ n → flags ≡ map (λ k. slice_index_or flags k false) (range_with_len 0 n)
flags_own flags n e = flags_at flags 0 n (λ k. slice_index_or flags k false) e (λ k lt. let none : 0 + k ≡ k = omega arith in ap (λ j. slice_index_or flags j false) none)

-- there is a mark for each stage
pub marks_many : (w : ℕ → Bool) (plan : Plan) (n : ℕ) (stages : Stages) → length (marks_from w plan n stages) ≡ length stages
marks_many w plan n [] = refl
marks_many w plan n (stage ∷ stages) = ap suc (marks_many w plan (suc n) stages)

-- what holds of an answer, if there is one
pub ok_weaker : {T E : Type 0} (P Q : T → Type 0) (r : Result T E) → ((x : T) → P x → Q x) → IfOk r P → IfOk r Q
ok_weaker P Q (Ok x) weaker p = weaker x p
ok_weaker P Q (Err e) weaker p = p

pub ok_all : {H T E : Type 0} (A : H → Type 0) (P : H → T → Type 0) (r : Result T E) → ((h : H) → A h → IfOk r (P h)) → IfOk r (λ x. (h : H) → A h → P h x)
ok_all A P (Ok x) all = all
ok_all A P (Err e) all = tt

pub on_ok : {T E A B : Type 0} (r : Result T E) → (A → B) → OnOk r A → OnOk r B
on_ok (Ok x) f a = f a
on_ok (Err e) f a = a
