-- How a search passes over places at which a pattern does not match.
use Rattle.std.proofs.Common.{◌≡◌, ℕ, zero, suc, ◌+◌, ◌-◌, ◌<◌, ◌≤◌, Bool, true, false, ◌&&◌, ◌==◌, List, [], ◌∷◌, ◌++◌, map, length, take, drop, refl, ap, sym, ◌∙◌, arith, chars, Option, Some, None, length-append, append_assoc, append-nil}
use Rattle.std.specs.Prelude.{option_map}
use Rattle.std.specs.Borrow.{Bor}
use Rattle.std.specs.Str.{IsUtf8, IsCharBoundary}
use Rattle.std.specs.Str.Pattern.{LacksTextAt}
use Rattle.std.proofs.Math.Utf8.{encode, encodes}
use Rattle.std.proofs.Math.Seq.{drop-append-add, take-append_seam}
use Rattle.std.proofs.lemmas.List.{take-append-drop, length-take-le, length-drop}
use Rattle.std.proofs.lemmas.Str.{encodes-append, encodes-chars, chars-append, length-encode, len_utf8_bounds, IsUtf8-take, IsCharBoundary-at_seam}
use Rattle.aqe_like.specs.declared.pattern.Item.{Item}
use Rattle.aqe_like.specs.declared.pattern.Item.TheVariants.{Run, One, Exactly}
use Rattle.aqe_like.specs.Patterns.{items, allows, matches, span}
use Rattle.aqe_like.specs.Laying.{PlainFront, Begins, FoundIn, Shortened, FitsLater}
use Rattle.aqe_like.proofs.Matching.{exactly_more, exactly_at_end, one_more, one_at_end, no_items_left, run_at_end, not_here}

and_both : (a b : Bool) → (a && b) ≡ true → (a ≡ true) × (b ≡ true)
and_both true b h = (refl, h)
and_both false b h = absurd (cc)

not_true : (b : Bool) → (b ≡ true → ⊥) → b ≡ false
not_true true h = absurd (h refl)
not_true false h = refl

-- a text that matches plain characters and then other items begins with those characters
pub begins : (cs : List ℕ) (its : List Item) (t : List ℕ) → matches (map (λ c. Exactly c) cs ++ its) t ≡ true → (rest : List ℕ) × (t ≡ cs ++ rest)
begins [] its t h = (t, refl)
begins (c ∷ cs) its [] h = absurd (let no : false ≡ true = sym (exactly_at_end c (map (λ c. Exactly c) cs ++ its)) ∙ h in cc)
begins (c ∷ cs) its (d ∷ ds) h =
    let both : (allows (Exactly c) (d ∷ []) ≡ true) × (matches (map (λ c. Exactly c) cs ++ its) ds ≡ true) = and_both (allows (Exactly c) (d ∷ [])) (matches (map (λ c. Exactly c) cs ++ its) ds) (sym (exactly_more c (map (λ c. Exactly c) cs ++ its) d ds) ∙ h) in
    let behind : (rest : List ℕ) × (ds ≡ cs ++ rest) = begins cs its ds both.1 in
    let same : c ≡ d = grind (arith, both.0) in
    (behind.0, (λ i. sym same i ∷ behind.1 i))

-- Items that begin with plain characters do not match from a place on at which those characters do
-- not stand, byte by byte.
not_at : (its rest : List Item) (ns : List ℕ) → its ≡ map (λ c. Exactly c) ns ++ rest → (t : List ℕ) → LacksTextAt (encodes ns) (encodes t) 0 → matches its t ≡ false
not_at its rest ns e t lacks = not_true (matches its t) (λ h.
    let at : (more : List ℕ) × (t ≡ ns ++ more) = begins ns rest t (ap (λ is. matches is t) (sym e) ∙ h) in
    lacks (encodes at.0) (ap encodes at.1 ∙ encodes-append ns at.0))

encode_some : (c : ℕ) → 0 < length (encode c)
encode_some c = let b = (len_utf8_bounds c).0 in let l = length-encode c in omega (arith, b, l)

length_more : (c : ℕ) (cs : List ℕ) → length (encodes (c ∷ cs)) ≡ length (encode c) + length (encodes cs)
length_more c cs = length-append (encode c) (encodes cs)

-- past each place at which the bytes do not stand
pub passed_over : (its rest : List Item) (ns : List ℕ) → its ≡ map (λ c. Exactly c) ns ++ rest → (cs t : List ℕ) → ((i : ℕ) → i < length (encodes cs) → LacksTextAt (encodes ns) (encodes (cs ++ t)) i) → matches (Run ∷ its) (cs ++ t) ≡ matches (Run ∷ its) t
passed_over its rest ns e [] t lacks = refl
passed_over its rest ns e (c ∷ cs) t lacks =
    let some : 0 < length (encodes (c ∷ cs)) = omega (arith, encode_some c, length_more c cs) in
    not_here its (c ∷ (cs ++ t)) c (cs ++ t) (not_at its rest ns e (c ∷ (cs ++ t)) (lacks 0 some)) refl ∙
    passed_over its rest ns e cs t (λ i lt more is. lacks (length (encode c) + i) (omega (arith, lt, length_more c cs)) more (drop-append-add (encode c) (encodes (cs ++ t)) i ∙ is))

-- where the bytes stand at no place, the items match nowhere
pub nowhere : (its rest : List Item) (ns : List ℕ) → its ≡ map (λ c. Exactly c) ns ++ rest → (t : List ℕ) → ((i : ℕ) → i ≤ length (encodes t) → LacksTextAt (encodes ns) (encodes t) i) → matches (Run ∷ its) t ≡ false
nowhere its rest ns e [] lacks = run_at_end its ∙ not_at its rest ns e [] (lacks 0 (omega arith))
nowhere its rest ns e (c ∷ cs) lacks =
    not_here its (c ∷ cs) c cs (not_at its rest ns e (c ∷ cs) (lacks 0 (omega arith))) refl ∙
    nowhere its rest ns e cs (λ i le more is. lacks (length (encode c) + i) (omega (arith, le, length_more c cs)) more (drop-append-add (encode c) (encodes cs) i ∙ is))

some_suc : (o : Option ℕ) (n : ℕ) → option_map suc o ≡ Some (suc n) → o ≡ Some n
some_suc None n h = absurd (cc)
some_suc (Some m) n h = cc

none_suc : (o : Option ℕ) → option_map suc o ≡ Some zero → ⊥
none_suc None h = cc
none_suc (Some m) h = cc

-- items without a run match only texts of as many characters
pub as_long : (its : List Item) (n : ℕ) (t : List ℕ) → span its ≡ Some n → matches its t ≡ true → length t ≡ n
as_long [] n [] s h = cc
as_long [] n (c ∷ cs) s h = absurd (let no : false ≡ true = sym (no_items_left c cs) ∙ h in cc)
as_long (Run ∷ its) n t s h = absurd (cc)
as_long (One ∷ its) n [] s h = absurd (let no : false ≡ true = sym (one_at_end its) ∙ h in cc)
as_long (One ∷ its) zero (c ∷ cs) s h = absurd (none_suc (span its) s)
as_long (One ∷ its) (suc n) (c ∷ cs) s h = ap suc (as_long its n cs (some_suc (span its) n s) (sym (one_more its c cs) ∙ h))
as_long (Exactly d ∷ its) n [] s h = absurd (let no : false ≡ true = sym (exactly_at_end d its) ∙ h in cc)
as_long (Exactly d ∷ its) zero (c ∷ cs) s h = absurd (none_suc (span its) s)
as_long (Exactly d ∷ its) (suc n) (c ∷ cs) s h =
    ap suc (as_long its n cs (some_suc (span its) n s) ((and_both (allows (Exactly d) (c ∷ [])) (matches its cs) (sym (exactly_more d its c cs) ∙ h)).1))

too_long : (its : List Item) (n : ℕ) (t : List ℕ) → span its ≡ Some n → n < length t → matches its t ≡ false
too_long its n t s lt = not_true (matches its t) (λ h. let l = as_long its n t s h in omega (arith, lt, l))

-- past each place with more characters
pub passed_long : (its : List Item) (n : ℕ) → span its ≡ Some n → (cs t : List ℕ) → length t ≡ n → matches (Run ∷ its) (cs ++ t) ≡ matches (Run ∷ its) t
passed_long its n s [] t l = refl
passed_long its n s (c ∷ cs) t l =
    not_here its (c ∷ (cs ++ t)) c (cs ++ t) (too_long its n (c ∷ (cs ++ t)) s (let e : length (cs ++ t) ≡ length cs + length t = length-append cs t in omega (arith, l, e))) refl ∙
    passed_long its n s cs t l

short : (its : List Item) (n : ℕ) (t : List ℕ) → span its ≡ Some n → length t < n → matches (Run ∷ its) t ≡ false
short its n [] s lt = run_at_end its ∙ not_true (matches its []) (λ h. let l = as_long its n [] s h in omega (arith, lt, l))
short its n (c ∷ cs) s lt =
    not_here its (c ∷ cs) c cs (not_true (matches its (c ∷ cs)) (λ h. let l = as_long its n (c ∷ cs) s h in omega (arith, lt, l))) refl ∙
    short its n cs s (omega (arith, lt))

-- a text with no more characters than items matches as a whole or nowhere
pub only_here : (its : List Item) (n : ℕ) (t : List ℕ) → span its ≡ Some n → matches its t ≡ false → length t ≤ n → matches (Run ∷ its) t ≡ false
only_here its n [] s off le = run_at_end its ∙ off
only_here its n (c ∷ cs) s off le = not_here its (c ∷ cs) c cs off refl ∙ short its n cs s (omega (arith, le))

-- the plain characters in front of a pattern, one by one
pub plain_start : (p : List ℕ) → PlainFront p p
plain_start p = ([], refl, refl)

plain_item : (c : ℕ) (cs : List ℕ) → (c == 37) ≡ false → (c == 95) ≡ false → (c == 92) ≡ false → items (c ∷ cs) ≡ Exactly c ∷ items cs
plain_item c cs a b d = rw (a, b, d) refl

map_push : (cs : List ℕ) (c : ℕ) (its : List Item) → map (λ d. Exactly d) (cs ++ c ∷ []) ++ its ≡ map (λ d. Exactly d) cs ++ (Exactly c ∷ its)
map_push [] c its = refl
map_push (d ∷ cs) c its = ap (λ is. Exactly d ∷ is) (map_push cs c its)

first_bytes : (left rest : List ℕ) (c : ℕ) → IsUtf8 left → IsUtf8 rest → chars left ≡ c ∷ chars rest → left ≡ encode c ++ rest
first_bytes left rest c u v e = sym (encodes-chars left u) ∙ (ap encodes e ∙ ap (λ xs. encode c ++ xs) (encodes-chars rest v))

pub plain_more : (pattern left rest : List ℕ) (c : ℕ) → PlainFront pattern left → IsUtf8 left → IsUtf8 rest → chars left ≡ c ∷ chars rest → (c == 37) ≡ false → (c == 95) ≡ false → (c == 92) ≡ false → PlainFront pattern rest
plain_more pattern left rest c (cs, e, is) u v h a b d = (
  cs ++ c ∷ [],
  e ∙ (ap (λ xs. encodes cs ++ xs) (first_bytes left rest c u v h) ∙ (sym (append_assoc (encodes cs) (encode c) rest) ∙ ap (λ xs. xs ++ rest) (sym (encodes-append cs (c ∷ []) ∙ ap (λ xs. encodes cs ++ xs) (append-nil (encode c)))))),
  is ∙ (ap (λ xs. map (λ d. Exactly d) cs ++ items xs) h ∙ (ap (λ xs. map (λ d. Exactly d) cs ++ xs) (plain_item c (chars rest) a b d) ∙ sym (map_push cs c (items (chars rest))))),
)

-- what stands in front of the rest
pub front_length : (pattern xs rest : List ℕ) → pattern ≡ xs ++ rest → length xs ≡ length pattern - length rest
front_length pattern xs rest e = let l : length pattern ≡ length xs + length rest = ap length e ∙ length-append xs rest in omega (arith, l)

pub front_taken : (pattern xs rest : List ℕ) → pattern ≡ xs ++ rest → take (length pattern - length rest) pattern ≡ xs
front_taken pattern xs rest e = ap (λ n. take n pattern) (sym (front_length pattern xs rest e)) ∙ (ap (take (length xs)) e ∙ take-append_seam xs rest)

pub seam : (pattern rest : List ℕ) → PlainFront pattern rest → IsUtf8 rest → IsCharBoundary pattern (length pattern - length rest)
seam pattern rest (cs, e, is) u = rw (← front_length pattern (encodes cs) rest e) (IsCharBoundary-at_seam pattern (encodes cs) rest e u)

pub front_begins : (pattern rest r : List ℕ) → r ≡ take (length pattern - length rest) pattern → PlainFront pattern rest → Begins pattern r
front_begins pattern rest r is (cs, e, begin) = (cs, is ∙ front_taken pattern (encodes cs) rest e, (items (chars rest), begin))

-- what each way to go on finds
pub fits_characters : (place pattern : List ℕ) (count : ℕ) (r : Option (Bor (List ℕ))) → span (items (chars pattern)) ≡ Some count → matches (items (chars pattern)) (chars place) ≡ false → Shortened place count r → FitsLater place pattern r
fits_characters place pattern count None s off le = only_here (items (chars pattern)) count (chars place) s off le
fits_characters place pattern count (Some end) s off (l, less, (front, e)) =
    (ap (matches (Run ∷ items (chars pattern))) e ∙ passed_long (items (chars pattern)) count s front (chars end.now) l, less)

pub fits_found : (place pattern behind front : List ℕ) (c : ℕ) (r : Option (Bor (List ℕ))) → IsUtf8 behind → chars place ≡ c ∷ chars behind → length behind < length place → matches (items (chars pattern)) (chars place) ≡ false → Begins pattern front → FoundIn behind front r → FitsLater place pattern r
fits_found place pattern behind front c None u e less off (cs, is, (rest, begin)) lacks =
    not_here (items (chars pattern)) (chars place) c (chars behind) off e ∙
    nowhere (items (chars pattern)) rest cs begin (chars behind) (λ i le. rw (encodes-chars behind u, ← is) (lacks i (rw (← encodes-chars behind u) le)))
fits_found place pattern behind front c (Some found) u e less off (cs, is, (rest, begin)) (start, within, boundary, from, lacks) =
    let v : IsUtf8 (take start behind) = IsUtf8-take behind start u boundary in
    let parts : chars behind ≡ chars (take start behind) ++ chars (drop start behind) = ap chars (sym (take-append-drop start behind)) ∙ chars-append (take start behind) (drop start behind) v in
    let whole : encodes (chars (take start behind) ++ chars (drop start behind)) ≡ behind = ap encodes (sym parts) ∙ encodes-chars behind u in
    let long : length (encodes (chars (take start behind))) ≡ start = ap length (encodes-chars (take start behind) v) ∙ length-take-le start behind within in (
      not_here (items (chars pattern)) (chars place) c (chars behind) off e ∙
          (ap (matches (Run ∷ items (chars pattern))) parts ∙
          (passed_over (items (chars pattern)) rest cs begin (chars (take start behind)) (chars (drop start behind)) (λ i lt. rw (whole, ← is) (lacks i (rw (← long) lt))) ∙
          ap (λ xs. matches (Run ∷ items (chars pattern)) (chars xs)) (sym from))),
      (let l : length found.now ≡ length behind - start = ap length from ∙ length-drop start behind in omega (arith, l, less)),
    )

-- one character less
pub one_less : (left behind : List ℕ) (count more c : ℕ) → left ≡ c ∷ behind → length left ≡ count + more → 0 < more → length behind ≡ count + (more - 1)
one_less left behind count more c e l some = let h : length left ≡ suc (length behind) = ap length e in omega (arith, h, l, some)

pub one_behind : (text left behind : List ℕ) (c : ℕ) → (front : List ℕ) × (text ≡ front ++ left) → left ≡ c ∷ behind → (front : List ℕ) × (text ≡ front ++ behind)
one_behind text left behind c (front, h) e = (front ++ c ∷ [], h ∙ (ap (λ xs. front ++ xs) e ∙ sym (append_assoc front (c ∷ []) behind)))
