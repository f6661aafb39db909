-- Rows that are printed alike are the same rows.
use Rattle.std.proofs.Common.{◌≡◌, ℕ, suc, ◌<◌, List, [], ◌∷◌, ◌++◌, refl, ap, subst, sym, arith, ◌∙◌, Bool, true, false, not, ◌==◌, ◌&&◌, ◌||◌, Contains, codes, append_assoc, map, get_or, ℤ, pos, negsuc, ◌^◌}
use Rattle.std.specs.Prelude.{if◌then◌else◌, nat_lt, FitsSigned}
use Rattle.std.specs.Int.{w32, w64}
use Rattle.std.specs.Char.{digit_value}
use lib.Signed.{mag}
use Rattle.std.specs.Fmt.{decimal, signed_decimal}
use Rattle.std.specs.List.{flat_map, join_with_byte, list_all}
use Rattle.std.specs.Str.Parse.{AllDigits}
use Rattle.std.proofs.lemmas.Bool.{lt-ltb}
use Rattle.std.proofs.lemmas.Bool.Decides.{Decides-eqb}
use Rattle.std.proofs.lemmas.Fmt.{decimal_is_IsNumeral, signed_decimal_injective}
use Rattle.std.proofs.lemmas.List.{append_cancel_left}
use Rattle.std.proofs.lemmas.List.Folds.{list_all-append}
use Rattle.aqe_values.specs.declared.schema.Field.{Field}
use Rattle.aqe_values.specs.declared.sql_type.SqlType.{SqlType}
use Rattle.aqe_values.specs.declared.value.Value.{Value}
use Rattle.aqe_values.specs.declared.value.Value.TheVariants as value
use Rattle.aqe_texts.specs.ResultText.{AreRowsOf, IsOfType, IsRowOf, TextsTellRows, escaped, escaped_byte, header_text, row_text, value_text}
use Rattle.aqe_texts.proofs.Cutting.{both, contains_middle, cut_once, lacks}

-- what a character behind a backslash stands for
abbrev unletter : ℕ → ℕ
unletter k = if k == 116 then 9 else if k == 110 then 10 else if k == 114 then 13 else k

-- the characters that stand behind a backslash in a printed text
abbrev is_mark : ℕ → Bool
is_mark k = (k == 92) || (k == 116) || (k == 110) || (k == 114)

-- neither a tab nor a line feed
abbrev cell_byte : ℕ → Bool
cell_byte c = not (c == 9) && not (c == 10)

-- the two ways in which a byte is printed
data Printed (c : ℕ) : Type 0 where
  marked : (k : ℕ) → escaped_byte c ≡ 92 ∷ k ∷ [] → c ≡ unletter k → is_mark k ≡ true → cell_byte k ≡ true → Printed c
  plain : escaped_byte c ≡ c ∷ [] → (c == 92) ≡ false → cell_byte c ≡ true → Printed c

same_byte : (c d : ℕ) → (c == d) ≡ true → c ≡ d
same_byte c d e = (Decides-eqb c d).0 e

printed : (c : ℕ) → Printed c
printed c = first (c == 92) refl
  where
    fourth : (a : Bool) → (c == 13) ≡ a → (c == 92) ≡ false → (c == 9) ≡ false → (c == 10) ≡ false → Printed c
    fourth true e x y z = marked 114 (rw (x, y, z, e) refl) (same_byte c 13 e) refl refl
    fourth false e x y z = plain (rw (x, y, z, e) refl) x (rw (y, z) refl)

    third : (a : Bool) → (c == 10) ≡ a → (c == 92) ≡ false → (c == 9) ≡ false → Printed c
    third true e x y = marked 110 (rw (x, y, e) refl) (same_byte c 10 e) refl refl
    third false e x y = fourth (c == 13) refl x y e

    second : (a : Bool) → (c == 9) ≡ a → (c == 92) ≡ false → Printed c
    second true e x = marked 116 (rw (x, e) refl) (same_byte c 9 e) refl refl
    second false e x = third (c == 10) refl x e

    first : (a : Bool) → (c == 92) ≡ a → Printed c
    first true e = marked 92 (rw e refl) (same_byte c 92 e) refl refl
    first false e = second (c == 9) refl e

not_backslash : (c : ℕ) → (c == 92) ≡ false → ¬ (c ≡ 92)
not_backslash c f e = let t = (Decides-eqb c 92).1 e in cc (t, f)

-- a printed byte tells the byte
byte_once : (c d : ℕ) (r s : List ℕ) → escaped_byte c ++ r ≡ escaped_byte d ++ s → (c ≡ d) × (r ≡ s)
byte_once c d r s e = by (printed c) (printed d)
  where
    by : Printed c → Printed d → (c ≡ d) × (r ≡ s)
    by (marked k f u m n) (marked l g v o q) =
        let h : 92 ∷ k ∷ r ≡ 92 ∷ l ∷ s = rw (f, g) at e in
        let same : k ≡ l = cc h in
        (u ∙ ap unletter same ∙ sym v, cc h)
    by (marked k f u m n) (plain g v o) =
        let h : 92 ∷ k ∷ r ≡ d ∷ s = rw (f, g) at e in
        let same : d ≡ 92 = cc h in
        absurd (not_backslash d v same)
    by (plain f u m) (marked l g v o q) =
        let h : c ∷ r ≡ 92 ∷ l ∷ s = rw (f, g) at e in
        let same : c ≡ 92 = cc h in
        absurd (not_backslash c u same)
    by (plain f u m) (plain g v o) =
        let h : c ∷ r ≡ d ∷ s = rw (f, g) at e in
        (cc h, cc h)

no_byte : (c : ℕ) (r : List ℕ) → ¬ (escaped_byte c ++ r ≡ [])
no_byte c r e = by (printed c)
  where
    by : Printed c → ⊥
    by (marked k f u m n) = let h : 92 ∷ k ∷ r ≡ [] = rw f at e in cc h
    by (plain f u m) = let h : c ∷ r ≡ [] = rw f at e in cc h

-- a printed text tells the text
escaped_once : (a b : List ℕ) → escaped a ≡ escaped b → a ≡ b
escaped_once [] [] e = refl
escaped_once [] (d ∷ ds) e = absurd (no_byte d (escaped ds) (sym e))
escaped_once (c ∷ cs) [] e = absurd (no_byte c (escaped cs) e)
escaped_once (c ∷ cs) (d ∷ ds) e =
    let one = byte_once c d (escaped cs) (escaped ds) e in
    ap (λ (x : ℕ). x ∷ cs) one.0 ∙ ap (λ (xs : List ℕ). d ∷ xs) (escaped_once cs ds one.1)

-- behind a backslash at the start of a printed text stands a mark
mark_after : (t : List ℕ) (x : ℕ) (rest : List ℕ) → escaped t ≡ 92 ∷ x ∷ rest → is_mark x ≡ true
mark_after [] x rest e = cc e
mark_after (c ∷ cs) x rest e = by (printed c)
  where
    by : Printed c → is_mark x ≡ true
    by (marked k f u m n) =
        let h : 92 ∷ k ∷ escaped cs ≡ 92 ∷ x ∷ rest = rw f at e in
        let same : k ≡ x = cc h in
        rw same at m
    by (plain f u m) =
        let h : c ∷ escaped cs ≡ 92 ∷ x ∷ rest = rw f at e in
        let same : c ≡ 92 = cc h in
        absurd (not_backslash c u same)

-- ---- no printed value has a tab or a line feed

abbrev Passes : (ℕ → Bool) → List ℕ → Type 0
Passes p xs = list_all p xs ≡ true

passes_both : (p : ℕ → Bool) (xs ys : List ℕ) → Passes p xs → Passes p ys → Passes p (xs ++ ys)
passes_both p xs ys h k = rw (list_all-append p xs ys, h, k) refl

passes_weaker : (p q : ℕ → Bool) (xs : List ℕ) → ((c : ℕ) → p c ≡ true → q c ≡ true) → Passes p xs → Passes q xs
passes_weaker p q [] f h = refl
passes_weaker p q (x ∷ xs) f h =
    let parts = both (p x) (list_all p xs) h in
    rw (f x parts.0, passes_weaker p q xs f parts.1) refl

byte_cells : (c : ℕ) → Passes cell_byte (escaped_byte c)
byte_cells c = by (printed c)
  where
    by : Printed c → Passes cell_byte (escaped_byte c)
    by (marked k f u m n) = rw (f, n) refl
    by (plain f u m) = rw (f, m) refl

escaped_cells : (t : List ℕ) → Passes cell_byte (escaped t)
escaped_cells [] = refl
escaped_cells (c ∷ cs) = passes_both cell_byte (escaped_byte c) (escaped cs) (byte_cells c) (escaped_cells cs)

-- a minus or a digit
abbrev number_byte : ℕ → Bool
number_byte c = (c == 45) || nat_lt (digit_value c) 10

or_true : (a : Bool) → (a || true) ≡ true
or_true true = refl
or_true false = refl

digits_bytes : (ds : List ℕ) → AllDigits 10 ds → Passes number_byte ds
digits_bytes [] h = refl
digits_bytes (c ∷ cs) h = rw (lt-ltb (digit_value c) 10 h.0, or_true (c == 45), digits_bytes cs h.1) refl

number_bytes : (z : ℤ) → mag z < 2 ^ 63 → Passes number_byte (signed_decimal z)
number_bytes (pos n) h = digits_bytes (decimal n) (decimal_is_IsNumeral n (omega arith)).0.1
number_bytes (negsuc n) h = digits_bytes (decimal (suc n)) (decimal_is_IsNumeral (suc n) (omega arith)).0.1

number_cell : (c : ℕ) → number_byte c ≡ true → cell_byte c ≡ true
number_cell c h = by (c == 9) (c == 10) refl refl
  where
    by : (a b : Bool) → (c == 9) ≡ a → (c == 10) ≡ b → (not a && not b) ≡ true
    by true b e f = let wrong = rw (same_byte c 9 e) at h in cc wrong
    by false true e f = let wrong = rw (same_byte c 10 f) at h in cc wrong
    by false false e f = refl

small : (z : ℤ) → FitsSigned w32 z → mag z < 2 ^ 63
small (pos n) h = let l = h.sfits in omega (arith, l)
small (negsuc n) h = let l = h.sfits in omega (arith, l)

wide : (z : ℤ) → FitsSigned w64 z → mag z < 2 ^ 63
wide z h = h.sfits

value_cells : (kind : SqlType) (v : Value) → IsOfType kind v → Passes cell_byte (value_text v)
value_cells kind value.Null h = refl
value_cells kind (value.Boolean true) h = refl
value_cells kind (value.Boolean false) h = refl
value_cells kind (value.Int n) h = passes_weaker number_byte cell_byte (signed_decimal n) number_cell (number_bytes n (small n h.1))
value_cells kind (value.BigInt n) h = passes_weaker number_byte cell_byte (signed_decimal n) number_cell (number_bytes n (wide n h.1))
value_cells kind (value.Text t) h = escaped_cells t

-- ---- a printed value tells the value

differ_at : (i : ℕ) (a b : List ℕ) → a ≡ b → (get_or a i 0 == get_or b i 0) ≡ false → ⊥
differ_at i a b e f =
    let same = ap (λ (l : List ℕ). get_or l i 0) e in
    let t = (Decides-eqb (get_or a i 0) (get_or b i 0)).1 same in
    cc (t, f)

null_no_number : (z : ℤ) → mag z < 2 ^ 63 → ¬ (codes "\\N" ≡ signed_decimal z)
null_no_number z h e = let wrong = subst (λ (l : List ℕ). Passes number_byte l) (sym e) (number_bytes z h) in cc wrong

end_no_number : (z : ℤ) → mag z < 2 ^ 63 → ¬ (codes "\\." ≡ signed_decimal z)
end_no_number z h e = let wrong = subst (λ (l : List ℕ). Passes number_byte l) (sym e) (number_bytes z h) in cc wrong

null_no_text : (t : List ℕ) → ¬ (codes "\\N" ≡ escaped t)
null_no_text t e = let wrong = mark_after t 78 [] (sym e) in cc wrong

end_no_text : (t : List ℕ) → ¬ (codes "\\." ≡ escaped t)
end_no_text t e = let wrong = mark_after t 46 [] (sym e) in cc wrong

value_once : (kind : SqlType) (v w : Value) → IsOfType kind v → IsOfType kind w → value_text v ≡ value_text w → v ≡ w
value_once kind value.Null value.Null h k e = refl
value_once kind value.Null (value.Boolean true) h k e = absurd (differ_at 0 (codes "\\N") (codes "true") e refl)
value_once kind value.Null (value.Boolean false) h k e = absurd (differ_at 0 (codes "\\N") (codes "false") e refl)
value_once kind value.Null (value.Int n) h k e = absurd (null_no_number n (small n k.1) e)
value_once kind value.Null (value.BigInt n) h k e = absurd (null_no_number n (wide n k.1) e)
value_once kind value.Null (value.Text t) h k e = absurd (null_no_text t e)
value_once kind (value.Boolean true) value.Null h k e = absurd (differ_at 0 (codes "true") (codes "\\N") e refl)
value_once kind (value.Boolean false) value.Null h k e = absurd (differ_at 0 (codes "false") (codes "\\N") e refl)
value_once kind (value.Int n) value.Null h k e = absurd (null_no_number n (small n h.1) (sym e))
value_once kind (value.BigInt n) value.Null h k e = absurd (null_no_number n (wide n h.1) (sym e))
value_once kind (value.Text t) value.Null h k e = absurd (null_no_text t (sym e))
value_once kind (value.Boolean true) (value.Boolean true) h k e = refl
value_once kind (value.Boolean false) (value.Boolean false) h k e = refl
value_once kind (value.Boolean true) (value.Boolean false) h k e = absurd (differ_at 0 (codes "true") (codes "false") e refl)
value_once kind (value.Boolean false) (value.Boolean true) h k e = absurd (differ_at 0 (codes "false") (codes "true") e refl)
value_once kind (value.Int n) (value.Int m) h k e = ap value.Int (signed_decimal_injective n m (small n h.1) (small m k.1) e)
value_once kind (value.BigInt n) (value.BigInt m) h k e = ap value.BigInt (signed_decimal_injective n m (wide n h.1) (wide m k.1) e)
value_once kind (value.Text t) (value.Text u) h k e = ap value.Text (escaped_once t u e)
value_once kind (value.Boolean b) (value.Int m) h k e = let other = k.0 in cc (h, other)
value_once kind (value.Boolean b) (value.BigInt m) h k e = let other = k.0 in cc (h, other)
value_once kind (value.Boolean b) (value.Text u) h k e = cc (h, k)
value_once kind (value.Int n) (value.Boolean b) h k e = let one = h.0 in cc (one, k)
value_once kind (value.Int n) (value.BigInt m) h k e = let one = h.0 in let other = k.0 in cc (one, other)
value_once kind (value.Int n) (value.Text u) h k e = let one = h.0 in cc (one, k)
value_once kind (value.BigInt n) (value.Boolean b) h k e = let one = h.0 in cc (one, k)
value_once kind (value.BigInt n) (value.Int m) h k e = let one = h.0 in let other = k.0 in cc (one, other)
value_once kind (value.BigInt n) (value.Text u) h k e = let one = h.0 in cc (one, k)
value_once kind (value.Text t) (value.Boolean b) h k e = cc (h, k)
value_once kind (value.Text t) (value.Int m) h k e = let other = k.0 in cc (h, other)
value_once kind (value.Text t) (value.BigInt m) h k e = let other = k.0 in cc (h, other)

-- ---- a printed line tells the row

abbrev cells : List Value → List ℕ
cells row = join_with_byte 9 (map value_text row)

value_no_tab : (kind : SqlType) (v : Value) → IsOfType kind v → ¬ (Contains (value_text v) 9)
value_no_tab kind v h = lacks cell_byte (value_text v) 9 (value_cells kind v h) refl

row_once : (columns : List Field) (a b : List Value) → IsRowOf columns a → IsRowOf columns b → cells a ≡ cells b → a ≡ b
row_once [] [] [] h k e = refl
row_once [] [] (w ∷ ws) h k e = absurd k
row_once [] (v ∷ vs) b h k e = absurd h
row_once (c ∷ cs) [] b h k e = absurd h
row_once (c ∷ cs) (v ∷ vs) [] h k e = absurd k
row_once (c ∷ []) (v ∷ []) (w ∷ []) h k e = ap (λ (x : Value). x ∷ []) (value_once c.kind v w h.0 k.0 e)
row_once (c ∷ []) (v ∷ []) (w ∷ w2 ∷ ws) h k e = absurd k.1
row_once (c ∷ []) (v ∷ v2 ∷ vs) (w ∷ ws) h k e = absurd h.1
row_once (c ∷ d ∷ cs) (v ∷ []) (w ∷ ws) h k e = absurd h.1
row_once (c ∷ d ∷ cs) (v ∷ v2 ∷ vs) (w ∷ []) h k e = absurd k.1
row_once (c ∷ d ∷ cs) (v ∷ v2 ∷ vs) (w ∷ w2 ∷ ws) h k e =
    let cut = cut_once 9 (value_text v) (value_text w) (cells (v2 ∷ vs)) (cells (w2 ∷ ws)) e (value_no_tab c.kind v h.0) (value_no_tab c.kind w k.0) in
    ap (λ (x : Value). x ∷ v2 ∷ vs) (value_once c.kind v w h.0 k.0 cut.0)
    ∙ ap (λ (xs : List Value). w ∷ xs) (row_once (d ∷ cs) (v2 ∷ vs) (w2 ∷ ws) h.1 k.1 cut.1)

abbrev line_byte : ℕ → Bool
line_byte c = not (c == 10)

cell_line : (c : ℕ) → cell_byte c ≡ true → line_byte c ≡ true
cell_line c h = (both (not (c == 9)) (not (c == 10)) h).1

row_lines : (columns : List Field) (a : List Value) → IsRowOf columns a → Passes line_byte (cells a)
row_lines columns [] h = refl
row_lines [] (v ∷ vs) h = absurd h
row_lines (c ∷ cs) (v ∷ []) h = passes_weaker cell_byte line_byte (value_text v) cell_line (value_cells c.kind v h.0)
row_lines (c ∷ cs) (v ∷ w ∷ ws) h =
    passes_both line_byte (value_text v) (9 ∷ cells (w ∷ ws)) (passes_weaker cell_byte line_byte (value_text v) cell_line (value_cells c.kind v h.0)) (row_lines cs (w ∷ ws) h.1)

row_no_feed : (columns : List Field) (a : List Value) → IsRowOf columns a → ¬ (Contains (cells a) 10)
row_no_feed columns a h = lacks line_byte (cells a) 10 (row_lines columns a h) refl

-- the last line is no row's
value_no_end : (kind : SqlType) (v : Value) → IsOfType kind v → ¬ (codes "\\." ≡ value_text v)
value_no_end kind value.Null h e = differ_at 1 (codes "\\.") (codes "\\N") e refl
value_no_end kind (value.Boolean true) h e = differ_at 0 (codes "\\.") (codes "true") e refl
value_no_end kind (value.Boolean false) h e = differ_at 0 (codes "\\.") (codes "false") e refl
value_no_end kind (value.Int n) h e = end_no_number n (small n h.1) e
value_no_end kind (value.BigInt n) h e = end_no_number n (wide n h.1) e
value_no_end kind (value.Text t) h e = end_no_text t e

row_no_end : (columns : List Field) (a : List Value) → IsRowOf columns a → ¬ (codes "\\." ≡ cells a)
row_no_end columns [] h e = cc e
row_no_end [] (v ∷ vs) h e = h
row_no_end (c ∷ cs) (v ∷ []) h e = value_no_end c.kind v h.0 e
row_no_end (c ∷ cs) (v ∷ w ∷ ws) h e = lacks cell_byte (codes "\\.") 9 refl refl (subst (λ (l : List ℕ). Contains l 9) (sym e) (contains_middle (value_text v) (cells (w ∷ ws)) 9))

abbrev end_line : List ℕ
end_line = codes "\\.\n"

spread : (row : List Value) (rows : List (List Value)) → flat_map row_text (row ∷ rows) ++ end_line ≡ cells row ++ 10 ∷ (flat_map row_text rows ++ end_line)
spread row rows =
    append_assoc (row_text row) (flat_map row_text rows) end_line ∙ append_assoc (cells row) (10 ∷ []) (flat_map row_text rows ++ end_line)

end_has_no_feed : ¬ (Contains (codes "\\.") 10)
end_has_no_feed = lacks cell_byte (codes "\\.") 10 refl refl

rows_once : (columns : List Field) (a b : List (List Value)) → AreRowsOf columns a → AreRowsOf columns b
    → flat_map row_text a ++ end_line ≡ flat_map row_text b ++ end_line → a ≡ b
rows_once columns [] [] h k e = refl
rows_once columns [] (s ∷ ss) h k e =
    let cut = cut_once 10 (codes "\\.") (cells s) [] (flat_map row_text ss ++ end_line) (e ∙ spread s ss) end_has_no_feed (row_no_feed columns s k.0) in
    absurd (row_no_end columns s k.0 cut.0)
rows_once columns (r ∷ rs) [] h k e =
    let cut = cut_once 10 (codes "\\.") (cells r) [] (flat_map row_text rs ++ end_line) (sym e ∙ spread r rs) end_has_no_feed (row_no_feed columns r h.0) in
    absurd (row_no_end columns r h.0 cut.0)
rows_once columns (r ∷ rs) (s ∷ ss) h k e =
    let cut = cut_once 10 (cells r) (cells s) (flat_map row_text rs ++ end_line) (flat_map row_text ss ++ end_line)
    (sym (spread r rs) ∙ e ∙ spread s ss) (row_no_feed columns r h.0) (row_no_feed columns s k.0) in
    ap (λ (x : List Value). x ∷ rs) (row_once columns r s h.0 k.0 cut.0) ∙ ap (λ (xs : List (List Value)). s ∷ xs) (rows_once columns rs ss h.1 k.1 cut.1)

pub texts_once : TextsTellRows
texts_once columns a b h k e =
    rows_once columns a b h k
    (append_cancel_left (header_text columns) (flat_map row_text a ++ end_line) (flat_map row_text b ++ end_line)
    (sym (append_assoc (header_text columns) (flat_map row_text a) end_line) ∙ e ∙ append_assoc (header_text columns) (flat_map row_text b) end_line))
