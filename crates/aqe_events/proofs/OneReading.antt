-- An events file has at most one reading.
use Rattle.std.proofs.Common.{◌≡◌, ℕ, true, false, List, [], ◌∷◌, length, refl, ap, ◌∙◌, sym, subst, Option, Some, None, slice_index, arith}
use Rattle.aqe_base.specs.declared.event.Event.{Event}
use Rattle.aqe_base.specs.declared.event.Event.TheVariants.{Ended, Failed, Lost, Fetch}
use Rattle.aqe_events.specs.Lines.{Line, Blank, Begins, Tells, Says, HasForm, IsNumber, is_blank, fields_of}
use Rattle.aqe_events.specs.Files.{AreRead, blank, begins, tells, query_of}
use Rattle.aqe_events.specs.Laws.{OneReading}

same_number : {b c : ℕ} {field : List ℕ} {m n : ℕ} → IsNumber b field m → IsNumber c field n → m ≡ n
same_number first second = sym first.value ∙ second.value

-- what a word begins with
apart : (a b : ℕ) (word v w : List ℕ) → word ≡ v → word ≡ w → slice_index v 1 ≡ a → slice_index w 1 ≡ b → a ≡ b
apart a b word v w is other first second = sym first ∙ ap (λ x. slice_index x 1) (sym is ∙ other) ∙ second

-- how many fields a form has
abbrev size : Line → ℕ
size Blank = 0
size (Begins n) = 2
size (Tells (Ended s t e)) = 4
size (Tells (Failed s t e)) = 4
size (Tells (Lost e)) = 2
size (Tells (Fetch s t e p m)) = 6

sized : (x : Line) (fields : List (List ℕ)) → HasForm x fields → length fields ≡ size x
sized (Begins n) (word ∷ k ∷ []) form = refl
sized (Tells (Ended s t e)) (word ∷ x ∷ y ∷ z ∷ []) form = refl
sized (Tells (Failed s t e)) (word ∷ x ∷ y ∷ z ∷ []) form = refl
sized (Tells (Lost e)) (word ∷ k ∷ []) form = refl
sized (Tells (Fetch s t e p m)) (word ∷ x ∷ y ∷ z ∷ c ∷ d ∷ []) form = refl
sized x fields form = absurd form

-- one form at most
same_form : (x y : Line) (fields : List (List ℕ)) → HasForm x fields → HasForm y fields → x ≡ y
same_form (Begins n) (Begins m) (word ∷ k ∷ []) a b = ap Begins (same_number a.1 b.1)
same_form (Begins n) (Tells (Lost e)) (word ∷ k ∷ []) a b = let never : 117 ≡ 111 = apart 117 111 word _ _ a.0 b.0 refl refl in absurd (omega (arith, never))
same_form (Tells (Lost e)) (Begins m) (word ∷ k ∷ []) a b = let never : 111 ≡ 117 = apart 111 117 word _ _ a.0 b.0 refl refl in absurd (omega (arith, never))
same_form (Tells (Lost e)) (Tells (Lost f)) (word ∷ k ∷ []) a b = λ i. Tells (Lost (record { 0 = same_number a.1 b.1 i }))
same_form (Tells (Ended s t e)) (Tells (Ended u v w)) (word ∷ x ∷ y ∷ z ∷ []) a b =
    λ i. Tells (Ended (record { 0 = same_number a.1 b.1 i }) (record { 0 = same_number a.2 b.2 i }) (record { 0 = same_number a.3 b.3 i }))
same_form (Tells (Ended s t e)) (Tells (Failed u v w)) (word ∷ x ∷ y ∷ z ∷ []) a b = let never : 107 ≡ 97 = apart 107 97 word _ _ a.0 b.0 refl refl in absurd (omega (arith, never))
same_form (Tells (Failed s t e)) (Tells (Ended u v w)) (word ∷ x ∷ y ∷ z ∷ []) a b = let never : 97 ≡ 107 = apart 97 107 word _ _ a.0 b.0 refl refl in absurd (omega (arith, never))
same_form (Tells (Failed s t e)) (Tells (Failed u v w)) (word ∷ x ∷ y ∷ z ∷ []) a b =
    λ i. Tells (Failed (record { 0 = same_number a.1 b.1 i }) (record { 0 = same_number a.2 b.2 i }) (record { 0 = same_number a.3 b.3 i }))
same_form (Tells (Fetch s t e p m)) (Tells (Fetch u v w q n)) (word ∷ x ∷ y ∷ z ∷ c ∷ d ∷ []) a b =
    λ i. Tells (Fetch (record { 0 = same_number a.1 b.1 i }) (record { 0 = same_number a.2 b.2 i }) (record { 0 = same_number a.3 b.3 i })
    (record { 0 = same_number a.4 b.4 i }) (record { 0 = same_number a.5 b.5 i }))
same_form x y fields a b = let never : size x ≡ size y = sym (sized x fields a) ∙ sized y fields b in absurd (first_of (omega (arith, never), search (a, b)))

not_blank : (line : List ℕ) {A : Type 0} → is_blank line ≡ true → is_blank line ≡ false → A
not_blank line yes_it no_it = let never : true ≡ false = sym yes_it ∙ no_it in absurd (cc)

same_line : (line : List ℕ) (x y : Line) → Says line x → Says line y → x ≡ y
same_line line Blank Blank a b = refl
same_line line Blank (Begins n) a b = not_blank line a b.0
same_line line Blank (Tells e) a b = not_blank line a b.0
same_line line (Begins n) Blank a b = not_blank line b a.0
same_line line (Tells e) Blank a b = not_blank line b a.0
same_line line (Begins n) (Begins m) a b = same_form (Begins n) (Begins m) (fields_of line) a.1 b.1
same_line line (Begins n) (Tells e) a b = same_form (Begins n) (Tells e) (fields_of line) a.1 b.1
same_line line (Tells e) (Begins m) a b = same_form (Tells e) (Begins m) (fields_of line) a.1 b.1
same_line line (Tells e) (Tells f) a b = same_form (Tells e) (Tells f) (fields_of line) a.1 b.1

-- what tells lines apart
abbrev event_in : Event → Line → Event
event_in other (Tells e) = e
event_in other line = other

abbrev number_in : Line → ℕ
number_in (Begins n) = n
number_in line = 0

abbrev form_number : Line → ℕ
form_number Blank = 0
form_number (Begins n) = 1
form_number (Tells e) = 2

differ : {A : Type 0} (x y : Line) → x ≡ y → (form_number x ≡ form_number y → ⊥) → A
differ x y same never = absurd (never (ap form_number same))

same_reading : (last : Option ℕ) (lines : List (List ℕ)) (told other : List (ℕ × Event)) → AreRead last lines told → AreRead last lines other → told ≡ other
same_reading last [] [] [] a b = refl
same_reading last [] [] (o ∷ os) a b = elim b [ ]
same_reading last [] (t ∷ ts) other a b = elim a [ ]
same_reading last (l ∷ ls) told other (blank a r) (blank b s) = same_reading last ls told other r s
same_reading last (l ∷ ls) told other (blank a r) (begins k b after s) = differ Blank (Begins k) (same_line l Blank (Begins k) a b) (λ e. omega (arith, e))
same_reading last (l ∷ ls) told other (blank a r) (tells e b s) = differ Blank (Tells e) (same_line l Blank (Tells e) a b) (λ e. omega (arith, e))
same_reading last (l ∷ ls) told other (begins k a after r) (blank b s) = differ (Begins k) Blank (same_line l (Begins k) Blank a b) (λ e. omega (arith, e))
same_reading last (l ∷ ls) told other (begins k a after r) (begins n b later s) =
    same_reading (Some n) ls told other (subst (λ q. AreRead (Some q) ls told) (ap number_in (same_line l (Begins k) (Begins n) a b)) r) s
same_reading last (l ∷ ls) told other (begins k a after r) (tells e b s) = differ (Begins k) (Tells e) (same_line l (Begins k) (Tells e) a b) (λ e. omega (arith, e))
same_reading last (l ∷ ls) told other (tells e a r) (blank b s) = differ (Tells e) Blank (same_line l (Tells e) Blank a b) (λ e. omega (arith, e))
same_reading last (l ∷ ls) told other (tells e a r) (begins k b after s) = differ (Tells e) (Begins k) (same_line l (Tells e) (Begins k) a b) (λ e. omega (arith, e))
same_reading last (l ∷ ls) told other (tells e a r) (tells f b s) =
    λ i. (query_of last, event_in e (same_line l (Tells e) (Tells f) a b i)) ∷ same_reading last ls _ _ r s i

pub one_reading : OneReading
one_reading bytes told other a b = same_reading None _ told other a.read b.read
