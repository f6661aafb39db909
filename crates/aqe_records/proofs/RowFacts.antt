-- Rows of a table made value by value.
use Rattle.std.proofs.Common.{◌≡◌, ℕ, zero, suc, ◌+◌, ◌<◌, ◌≤◌, List, [], ◌∷◌, ◌++◌, length, get_or, take, Some, None, refl, ap, arith, add-one}
use Rattle.csv.specs.Records.{field_at}
use Rattle.aqe_values.specs.Bounds.{text_limit}
use Rattle.aqe_values.specs.declared.schema.Field.{Field}
use Rattle.aqe_values.specs.declared.value.Value.{Value}
use Rattle.aqe_records.specs.FileRows.{row_of}
use Rattle.aqe_records.specs.Records.{AreShort, cell_value}

-- the row of one column more
row_of-suc : (columns : List Field) (fields : List (List ℕ)) (i : ℕ) (d : Field) → i < length columns
    → row_of (take (suc i) columns) fields ≡ row_of (take i columns) fields ++ cell_value (get_or columns i d).kind (field_at fields i) ∷ []
unfolding field_at
row_of-suc [] fields i d h = absurd (omega arith)
row_of-suc (c ∷ cs) [] zero d h = refl
row_of-suc (c ∷ cs) (f ∷ fs) zero d h = refl
row_of-suc (c ∷ cs) [] (suc i) d h = ap (λ (r : List Value). cell_value c.kind None ∷ r) (row_of-suc cs [] i d (omega arith))
row_of-suc (c ∷ cs) (f ∷ fs) (suc i) d h = ap (λ (r : List Value). cell_value c.kind (Some f) ∷ r) (row_of-suc cs fs i d (omega arith))

pub row_of-take : (columns : List Field) (fields : List (List ℕ)) (i : ℕ) (d : Field) → i < length columns
    → row_of (take (i + 1) columns) fields ≡ row_of (take i columns) fields ++ cell_value (get_or columns i d).kind (field_at fields i) ∷ []
row_of-take columns fields i d h = rw (add-one i) (row_of-suc columns fields i d h)

-- a row has a value for each column
pub length-row_of : (columns : List Field) (fields : List (List ℕ)) → length (row_of columns fields) ≡ length columns
length-row_of [] fields = refl
length-row_of (c ∷ cs) [] = ap suc (length-row_of cs [])
length-row_of (c ∷ cs) (f ∷ fs) = ap suc (length-row_of cs fs)

-- a field of a record whose fields are short
pub field_at-short : (fields : List (List ℕ)) (i : ℕ) (f : List ℕ) → AreShort fields → field_at fields i ≡ Some f → length f ≤ text_limit
unfolding field_at AreShort
field_at-short [] i f h e = cc e
field_at-short (g ∷ gs) zero f h e = let same : g ≡ f = cc e in rw (← same) h.0
field_at-short (g ∷ gs) (suc i) f h e = field_at-short gs i f h.1 e
