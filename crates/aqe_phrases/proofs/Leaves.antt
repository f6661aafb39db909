-- What is added by operands without an expression in them.
use Rattle.std.proofs.Common.{ℕ, zero, suc, ◌≡◌, ◌<◌, ◌≤◌, ◌+◌, Bool, true, false, List, [], ◌∷◌, ◌++◌, length, drop, get_or, refl, sym, subst, ap, ◌∙◌, add-one, drop-cons}
use Rattle.std.specs.Prelude.{Some}
use Rattle.aqe_trees.specs.declared.terminal.Key.{Key}
use Rattle.aqe_trees.specs.declared.terminal.Key.TheVariants as k
use Rattle.aqe_trees.specs.declared.terminal.Terminal.{Terminal}
use Rattle.aqe_trees.specs.declared.terminal.Terminal.TheVariants.{Fixed, Name, Number, Literal}
use Rattle.aqe_trees.specs.declared.expression.Test.TheVariants as test
use Rattle.aqe_trees.specs.declared.expression.Truth.{Truth}
use Rattle.aqe_trees.specs.declared.expression.Sign.{Sign}
use Rattle.aqe_trees.specs.declared.expression.Sign.TheVariants as sign
use Rattle.aqe_trees.specs.declared.expression.PrimaryTree.TheVariants as primary
use Rattle.aqe_trees.specs.Expressions.{IsTest, is_truth, is_not_truth, IsPrimary, number, negative_number, literal, is_true, is_false, null, column, table_column}
use Rattle.aqe_trees.specs.Words.{truth_of}
use Rattle.aqe_phrases.specs.Texts.{text_of_all}
use Rattle.aqe_phrases.specs.Written.{AllSound, Adds, Spelled, not_before, minus_before, nots_before, sign_key, signs_before}

-- two texts one behind the other
pub adds_then : {v w : List Terminal → List Terminal} {old mid new : List ℕ} → Adds v old mid → Adds w mid new
    → Adds (λ us. v (w us)) old new
adds_then {v = v} {w = w} a b = record {
  added = λ us. b.added us ∙ a.added (w us);
  sound = λ us s. a.sound (w us) (b.sound us s);
}

-- nothing is added
pub adds_none : {old : List ℕ} → Adds (λ us. us) old old
adds_none = record { added = λ us. refl; sound = λ us s. s }

-- what the list is from an index on
pub from_next : {X : Type 0} (xs : List X) (i : ℕ) (d : X) → i < length xs → drop i xs ≡ get_or xs i d ∷ drop (i + 1) xs
from_next xs i d below = rw (add-one, drop-cons xs i d) refl

nots_more : (count : ℕ) (us : List Terminal) → nots_before (suc count) us ≡ nots_before count (Fixed k.Not ∷ us)
nots_more zero us = refl
nots_more (suc count) us = ap (λ l. Fixed k.Not ∷ l) (nots_more count us)

pub nots_step : (count : ℕ) (old mid new : List ℕ) → Adds (nots_before count) old mid → Adds (λ us. Fixed k.Not ∷ us) mid new
    → Adds (nots_before (count + 1)) old new
nots_step count old mid new a b =
    let all = adds_then a b in rw add-one (record {
      added = λ us. all.added us ∙ ap (λ l. old ++ text_of_all l) (sym (nots_more count us));
      sound = λ us s. subst AllSound (sym (nots_more count us)) (all.sound us s);
    })

pub record SignsLeft (whole left : List Sign) (old new : List ℕ) : Type 0 where
  pub added : (us : List Terminal) → new ++ text_of_all (signs_before left us) ≡ old ++ text_of_all (signs_before whole us)

signs_sound : (signs : List Sign) (us : List Terminal) → AllSound us → AllSound (signs_before signs us)
signs_sound [] us s = s
signs_sound (sign.Plus ∷ signs) us s = (refl, signs_sound signs us s)
signs_sound (sign.Minus ∷ signs) us s = (refl, signs_sound signs us s)

pub signs_begin : {whole : List Sign} {old : List ℕ} → SignsLeft whole whole old old
signs_begin = record { added = λ us. refl }

pub signs_step : {whole left more : List Sign} {op : Sign} {old mid new : List ℕ} → SignsLeft whole left old mid
    → left ≡ op ∷ more → Adds (λ us. Fixed (sign_key op) ∷ us) mid new → SignsLeft whole more old new
signs_step {whole = whole} {more = more} {old = old} {mid = mid} h e a = record {
  added = λ us. a.added (signs_before more us) ∙
      subst (λ l. mid ++ text_of_all (signs_before l us) ≡ old ++ text_of_all (signs_before whole us)) e (h.added us);
}

pub signs_done : {whole left : List Sign} {old new : List ℕ} → SignsLeft whole left old new → left ≡ []
    → Adds (signs_before whole) old new
signs_done {whole = whole} {old = old} {new = new} h e = record {
  added = λ us. subst (λ l. new ++ text_of_all (signs_before l us) ≡ old ++ text_of_all (signs_before whole us)) e (h.added us);
  sound = signs_sound whole;
}

pub truth_spelled : {truth : Truth} {key : Key} {old a b new : List ℕ} (negated : Bool)
    → Adds (λ us. Fixed k.Is ∷ us) old a → Adds (not_before negated) a b
    → truth_of (Fixed key) ≡ Some truth → Adds (λ us. Fixed key ∷ us) b new
    → Spelled IsTest (test.Is negated truth) old new
truth_spelled {key = key} false p n e q ts us d s = record {
  words = λ us. Fixed k.Is ∷ Fixed key ∷ us;
  adds = adds_then p (adds_then n q);
  reads = λ us. is_truth e;
}
truth_spelled {key = key} true p n e q ts us d s = record {
  words = λ us. Fixed k.Is ∷ Fixed k.Not ∷ Fixed key ∷ us;
  adds = adds_then p (adds_then n q);
  reads = λ us. is_not_truth e;
}

pub number_spelled : {value : ℕ} {long : Bool} {old mid new : List ℕ} (negative : Bool)
    → Adds (minus_before negative) old mid
    → (value ≤ 9223372036854775808 → Adds (λ us. Number value long ∷ us) mid new)
    → Spelled IsPrimary (primary.Number negative value long) old new
number_spelled {value = value} {long = long} _ m a _ _ (number b) s = record {
  words = λ us. Number value long ∷ us;
  adds = adds_then m (a s.0);
  reads = λ us. number b;
}
number_spelled {value = value} {long = long} _ m a _ _ negative_number s = record {
  words = λ us. Fixed k.Minus ∷ Number value long ∷ us;
  adds = adds_then m (a s.1.0);
  reads = λ us. negative_number;
}

pub literal_spelled : {text : List ℕ} {old new : List ℕ} → Adds (λ us. Literal text ∷ us) old new
    → Spelled IsPrimary (primary.Literal text) old new
literal_spelled {text = text} a ts us d s = record { words = λ us. Literal text ∷ us; adds = a; reads = λ us. literal }

pub true_spelled : {old new : List ℕ} → Adds (λ us. Fixed k.True ∷ us) old new → Spelled IsPrimary (primary.Boolean true) old new
true_spelled a ts us d s = record { words = λ us. Fixed k.True ∷ us; adds = a; reads = λ us. is_true }

pub false_spelled : {old new : List ℕ} → Adds (λ us. Fixed k.False ∷ us) old new → Spelled IsPrimary (primary.Boolean false) old new
false_spelled a ts us d s = record { words = λ us. Fixed k.False ∷ us; adds = a; reads = λ us. is_false }

pub null_spelled : {old new : List ℕ} → Adds (λ us. Fixed k.Null ∷ us) old new → Spelled IsPrimary primary.Null old new
null_spelled a ts us d s = record { words = λ us. Fixed k.Null ∷ us; adds = a; reads = λ us. null }

pub column_spelled : {name : List ℕ} {quoted : Bool} {old new : List ℕ}
    → (0 < length name → Adds (λ us. Name name quoted ∷ us) old new) → Spelled IsPrimary (primary.Column name) old new
column_spelled {name = name} {quoted = quoted} a _ _ column s = record {
  words = λ us. Name name quoted ∷ us;
  adds = a s.0;
  reads = λ us. column;
}

pub table_column_spelled : {table name : List ℕ} {p q : Bool} {old a b new : List ℕ}
    → (0 < length table → Adds (λ us. Name table p ∷ us) old a) → Adds (λ us. Fixed k.Dot ∷ us) a b
    → (0 < length name → Adds (λ us. Name name q ∷ us) b new)
    → Spelled IsPrimary (primary.TableColumn table name) old new
table_column_spelled {table = table} {name = name} {p = p} {q = q} m d n _ _ table_column s = record {
  words = λ us. Name table p ∷ Fixed k.Dot ∷ Name name q ∷ us;
  adds = adds_then (m s.0) (adds_then d (n s.1.1.0));
  reads = λ us. table_column;
}
