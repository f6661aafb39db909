-- Expressions read back.
use Rattle.std.proofs.Common.{ℕ, ◌≡◌, ◌<◌, Bool, true, false, List, [], ◌∷◌, length, refl, sym, subst, ◌∙◌}
use Rattle.std.specs.Prelude.{Option, Some, None, IsTrue, codes}
use Rattle.aqe_values.specs.declared.sql_type.SqlType.{SqlType}
use Rattle.aqe_values.specs.declared.sql_type.SqlType.TheVariants as kind
use Rattle.aqe_trees.specs.declared.terminal.Key.{Key}
use Rattle.aqe_trees.specs.declared.terminal.Key.TheVariants as k
use Rattle.aqe_trees.specs.declared.terminal.Terminal.{Terminal}
use Rattle.aqe_trees.specs.declared.terminal.Terminal.TheVariants.{Fixed, Name, Number, Literal, Mixed}
use Rattle.aqe_trees.specs.declared.expression.OrTree.{OrTree}
use Rattle.aqe_trees.specs.declared.expression.AndTree.{AndTree}
use Rattle.aqe_trees.specs.declared.expression.NotTree.{NotTree}
use Rattle.aqe_trees.specs.declared.expression.PredicateTree.{PredicateTree}
use Rattle.aqe_trees.specs.declared.expression.Test.{Test}
use Rattle.aqe_trees.specs.declared.expression.Test.TheVariants as test
use Rattle.aqe_trees.specs.declared.expression.CompareOp.{CompareOp}
use Rattle.aqe_trees.specs.declared.expression.ComparisonTree.{ComparisonTree}
use Rattle.aqe_trees.specs.declared.expression.Sign.{Sign}
use Rattle.aqe_trees.specs.declared.expression.Sign.TheVariants as sign
use Rattle.aqe_trees.specs.declared.expression.SumTree.{SumTree}
use Rattle.aqe_trees.specs.declared.expression.ProductOp.{ProductOp}
use Rattle.aqe_trees.specs.declared.expression.ProductTree.{ProductTree}
use Rattle.aqe_trees.specs.declared.expression.SignTree.{SignTree}
use Rattle.aqe_trees.specs.declared.expression.PrimaryTree.{PrimaryTree}
use Rattle.aqe_trees.specs.declared.expression.PrimaryTree.TheVariants as primary
use Rattle.aqe_trees.specs.declared.expression.Arm.{Arm}
use Rattle.aqe_trees.specs.Expressions.{IsOr, or_of, IsOrRest, or_end, or_more, IsAnd, and_of, IsAndRest, and_end, and_more, IsNot, not_of, IsNots, affirmed, negated, IsPredicate, predicate_of, IsTest, plain, between, not_between, one_of, not_one_of, like, not_like, IsList, list_of, IsListRest, list_end, list_more, IsComparison, comparison_of, IsComparisonRest, comparison_end, comparison_more, IsSum, sum_of_products, IsSumRest, sum_end, sum_more, IsProduct, product_of_signs, IsProductRest, product_end, product_more, IsSign, sign_of, IsSigns, unsigned, signed, IsPrimary, paren, cast, case, case_of, count_all, call, IsArms, end, otherwise, when}
use Rattle.aqe_trees.specs.Shapes.{or_tree, and_tree, not_tree, predicate_tree, comparison_tree, sum_tree, product_tree, sign_tree, arm}
use Rattle.aqe_trees.specs.Words.{compare_of, sum_of, product_of, sign_at, type_of, type_named, is_word}
use Rattle.aqe_lexer.proofs.Within.{if_has}
use Rattle.aqe_phrases.specs.Texts.{is_bare}
use Rattle.aqe_phrases.specs.Written.{AllStand, Adds, Spelled, Going, IsCaseOf, case_alone, case_operand, not_before, nots_before, sign_key, signs_before, type_text}
use Rattle.aqe_phrases.proofs.Leaves.{adds_then, adds_none}
use Rattle.aqe_phrases.proofs.Taken.{or_cut, and_cut, not_cut, predicate_cut, one_of_cut, comparison_cut, sum_cut, product_cut, sign_cut, paren_cut, cast_cut, case_cut, call_cut, arm_cut, number_first, signs_first}
use Rattle.aqe_phrases.proofs.Left.{left_or, left_and, left_not, left_comparison, left_sum, left_product, left_sign}

pub or_step : {next : AndTree} {more : List AndTree} {old mid new : List ℕ} → Adds (λ us. Fixed k.Or ∷ us) old mid
    → Spelled IsAnd next mid new → Going IsOrRest (next ∷ more) more old new
or_step a n _ _ (or_more d r) s = let x = n _ _ d s.1 in record {
  words = λ us. Fixed k.Or ∷ x.words us;
  adds = adds_then a x.adds;
  reads = λ vs ws e. or_more (x.reads vs) e;
  rest = _;
  is_rest = r;
  stand = left_and d s.1;
}

pub or_spelled : {first : AndTree} {rest : List AndTree} {old mid new : List ℕ} → Spelled IsAnd first old mid
    → Going IsOrRest rest [] mid new → Spelled IsOr (or_tree first rest) old new
or_spelled {first = first} {rest = rest} f g ts us d s =
    let c = or_cut first rest d in let x = f _ _ c.1 s in let y = g _ _ c.2 (left_and c.1 s) in
    record {
      words = λ us. x.words (y.words us);
      adds = adds_then x.adds y.adds;
      reads = λ us. or_of (x.reads (y.words us)) (y.reads us us or_end);
    }

pub and_step : {next : NotTree} {more : List NotTree} {old mid new : List ℕ} → Adds (λ us. Fixed k.And ∷ us) old mid
    → Spelled IsNot next mid new → Going IsAndRest (next ∷ more) more old new
and_step a n _ _ (and_more d r) s = let x = n _ _ d s.1 in record {
  words = λ us. Fixed k.And ∷ x.words us;
  adds = adds_then a x.adds;
  reads = λ vs ws e. and_more (x.reads vs) e;
  rest = _;
  is_rest = r;
  stand = left_not d s.1;
}

pub and_spelled : {first : NotTree} {rest : List NotTree} {old mid new : List ℕ} → Spelled IsNot first old mid
    → Going IsAndRest rest [] mid new → Spelled IsAnd (and_tree first rest) old new
and_spelled {first = first} {rest = rest} f g ts us d s =
    let c = and_cut first rest d in let x = f _ _ c.1 s in let y = g _ _ c.2 (left_not c.1 s) in
    record {
      words = λ us. x.words (y.words us);
      adds = adds_then x.adds y.adds;
      reads = λ us. and_of (x.reads (y.words us)) (y.reads us us and_end);
    }

pub list_step : {next : OrTree} {more : List OrTree} {old mid new : List ℕ} → Adds (λ us. Fixed k.Comma ∷ us) old mid
    → Spelled IsOr next mid new → Going IsListRest (next ∷ more) more old new
list_step a n _ _ (list_more d r) s = let x = n _ _ d s.1 in record {
  words = λ us. Fixed k.Comma ∷ x.words us;
  adds = adds_then a x.adds;
  reads = λ vs ws e. list_more (x.reads vs) e;
  rest = _;
  is_rest = r;
  stand = left_or d s.1;
}

pub list_spelled : {first : OrTree} {rest : List OrTree} {old mid new : List ℕ} → Spelled IsOr first old mid
    → Going IsListRest rest [] mid new → Spelled IsList (first ∷ rest) old new
list_spelled f g _ _ (list_of d r) s =
    let x = f _ _ d s in let y = g _ _ r (left_or d s) in
    record {
      words = λ us. x.words (y.words us);
      adds = adds_then x.adds y.adds;
      reads = λ us. list_of (x.reads (y.words us)) (y.reads us us list_end);
    }

pub comparison_step : {op : CompareOp} {key : Key} {next : SumTree} {more : List (CompareOp × SumTree)} {old mid new : List ℕ}
    → compare_of (Fixed key) ≡ Some op → Adds (λ us. Fixed key ∷ us) old mid
    → Spelled IsSum next mid new → Going IsComparisonRest ((op, next) ∷ more) more old new
comparison_step {key = key} e a n _ _ (comparison_more f d r) s = let x = n _ _ d s.1 in record {
  words = λ us. Fixed key ∷ x.words us;
  adds = adds_then a x.adds;
  reads = λ vs ws g. comparison_more e (x.reads vs) g;
  rest = _;
  is_rest = r;
  stand = left_sum d s.1;
}

pub comparison_spelled : {first : SumTree} {rest : List (CompareOp × SumTree)} {old mid new : List ℕ} → Spelled IsSum first old mid
    → Going IsComparisonRest rest [] mid new → Spelled IsComparison (comparison_tree first rest) old new
comparison_spelled {first = first} {rest = rest} f g ts us d s =
    let c = comparison_cut first rest d in let x = f _ _ c.1 s in let y = g _ _ c.2 (left_sum c.1 s) in
    record {
      words = λ us. x.words (y.words us);
      adds = adds_then x.adds y.adds;
      reads = λ us. comparison_of (x.reads (y.words us)) (y.reads us us comparison_end);
    }

pub sum_step : {op : Sign} {key : Key} {next : ProductTree} {more : List (Sign × ProductTree)} {old mid new : List ℕ}
    → sum_of (Fixed key) ≡ Some op → Adds (λ us. Fixed key ∷ us) old mid
    → Spelled IsProduct next mid new → Going IsSumRest ((op, next) ∷ more) more old new
sum_step {key = key} e a n _ _ (sum_more f d r) s = let x = n _ _ d s.1 in record {
  words = λ us. Fixed key ∷ x.words us;
  adds = adds_then a x.adds;
  reads = λ vs ws g. sum_more e (x.reads vs) g;
  rest = _;
  is_rest = r;
  stand = left_product d s.1;
}

pub sum_spelled : {first : ProductTree} {rest : List (Sign × ProductTree)} {old mid new : List ℕ} → Spelled IsProduct first old mid
    → Going IsSumRest rest [] mid new → Spelled IsSum (sum_tree first rest) old new
sum_spelled {first = first} {rest = rest} f g ts us d s =
    let c = sum_cut first rest d in let x = f _ _ c.1 s in let y = g _ _ c.2 (left_product c.1 s) in
    record {
      words = λ us. x.words (y.words us);
      adds = adds_then x.adds y.adds;
      reads = λ us. sum_of_products (x.reads (y.words us)) (y.reads us us sum_end);
    }

pub product_step : {op : ProductOp} {key : Key} {next : SignTree} {more : List (ProductOp × SignTree)} {old mid new : List ℕ}
    → product_of (Fixed key) ≡ Some op → Adds (λ us. Fixed key ∷ us) old mid
    → Spelled IsSign next mid new → Going IsProductRest ((op, next) ∷ more) more old new
product_step {key = key} e a n _ _ (product_more f d r) s = let x = n _ _ d s.1 in record {
  words = λ us. Fixed key ∷ x.words us;
  adds = adds_then a x.adds;
  reads = λ vs ws g. product_more e (x.reads vs) g;
  rest = _;
  is_rest = r;
  stand = left_sign d s.1;
}

pub product_spelled : {first : SignTree} {rest : List (ProductOp × SignTree)} {old mid new : List ℕ} → Spelled IsSign first old mid
    → Going IsProductRest rest [] mid new → Spelled IsProduct (product_tree first rest) old new
product_spelled {first = first} {rest = rest} f g ts us d s =
    let c = product_cut first rest d in let x = f _ _ c.1 s in let y = g _ _ c.2 (left_sign c.1 s) in
    record {
      words = λ us. x.words (y.words us);
      adds = adds_then x.adds y.adds;
      reads = λ us. product_of_signs (x.reads (y.words us)) (y.reads us us product_end);
    }

-- a predicate under its NOTs
record NotsRead (count : ℕ) (operand : PredicateTree) (old new : List ℕ) : Type 0 where
  words : List Terminal → List Terminal
  adds : Adds words old new
  reads : (us : List Terminal) → IsNots count operand (nots_before count (words us)) us

nots_read : {count : ℕ} {operand : PredicateTree} {ts us : List Terminal} {old new : List ℕ} → Spelled IsPredicate operand old new
    → IsNots count operand ts us → AllStand ts → NotsRead count operand old new
nots_read p (affirmed d) s = let x = p _ _ d s in record {
  words = x.words;
  adds = x.adds;
  reads = λ us. affirmed (x.reads us);
}
nots_read p (negated d) s = let x = nots_read p d s.1 in record {
  words = x.words;
  adds = x.adds;
  reads = λ us. negated (x.reads us);
}

pub not_spelled : (count : ℕ) {operand : PredicateTree} {old mid new : List ℕ} → Adds (nots_before count) old mid
    → Spelled IsPredicate operand mid new → Spelled IsNot (not_tree count operand) old new
not_spelled count {operand} a p ts us d s = let x = nots_read p (not_cut count operand d) s in record {
  words = λ us. nots_before count (x.words us);
  adds = adds_then a x.adds;
  reads = λ us. not_of (x.reads us);
}

pub predicate_spelled : {value : ComparisonTree} {test : Test} {old mid new : List ℕ} → Spelled IsComparison value old mid
    → Spelled IsTest test mid new → Spelled IsPredicate (predicate_tree value test) old new
predicate_spelled {value = value} {test = test} v t ts us d s =
    let c = predicate_cut value test d in let x = v _ _ c.1 s in let y = t _ _ c.2 (left_comparison c.1 s) in
    record {
      words = λ us. x.words (y.words us);
      adds = adds_then x.adds y.adds;
      reads = λ us. predicate_of (x.reads (y.words us)) (y.reads us);
    }

pub plain_spelled : {old : List ℕ} → Spelled IsTest test.Plain old old
plain_spelled ts us d s = record { words = λ vs. vs; adds = adds_none; reads = λ vs. plain }

pub between_spelled : {negated : Bool} {low high : ComparisonTree} {old a b c d new : List ℕ} → Adds (not_before negated) old a
    → Adds (λ us. Fixed k.Between ∷ us) a b → Spelled IsComparison low b c
    → Adds (λ us. Fixed k.And ∷ us) c d → Spelled IsComparison high d new
    → Spelled IsTest (test.Between negated low high) old new
between_spelled n o l m h _ _ (between d e) s =
    let x = l _ _ d s.1 in let y = h _ _ e (left_comparison d s.1).1 in
    record {
      words = λ us. Fixed k.Between ∷ x.words (Fixed k.And ∷ y.words us);
      adds = adds_then n (adds_then o (adds_then x.adds (adds_then m y.adds)));
      reads = λ us. between (x.reads (Fixed k.And ∷ y.words us)) (y.reads us);
    }
between_spelled n o l m h _ _ (not_between d e) s =
    let x = l _ _ d s.1.1 in let y = h _ _ e (left_comparison d s.1.1).1 in
    record {
      words = λ us. Fixed k.Not ∷ Fixed k.Between ∷ x.words (Fixed k.And ∷ y.words us);
      adds = adds_then n (adds_then o (adds_then x.adds (adds_then m y.adds)));
      reads = λ us. not_between (x.reads (Fixed k.And ∷ y.words us)) (y.reads us);
    }

not_stands : (inverse : Bool) (ts : List Terminal) → AllStand (not_before inverse ts) → AllStand ts
not_stands false ts s = s
not_stands true ts s = s.1

one_of_made : (inverse : Bool) {list : List OrTree} {ts us : List Terminal} → IsList list ts (Fixed k.Close ∷ us)
    → IsTest (test.OneOf inverse list) (not_before inverse (Fixed k.In ∷ Fixed k.Open ∷ ts)) us
one_of_made false d = one_of d
one_of_made true d = not_one_of d

pub one_of_spelled : {inverse : Bool} {list : List OrTree} {old a b c d new : List ℕ} → Adds (not_before inverse) old a
    → Adds (λ us. Fixed k.In ∷ us) a b → Adds (λ us. Fixed k.Open ∷ us) b c → Spelled IsList list c d
    → Adds (λ us. Fixed k.Close ∷ us) d new → Spelled IsTest (test.OneOf inverse list) old new
one_of_spelled {inverse = inverse} {list = list} n i o l m ts us d s =
    let c = one_of_cut inverse list d in let at = not_stands inverse _ (subst AllStand c.1 s) in let x = l _ _ c.2 at.1.1 in
    record {
      words = λ vs. not_before inverse (Fixed k.In ∷ Fixed k.Open ∷ x.words (Fixed k.Close ∷ vs));
      adds = adds_then n (adds_then i (adds_then o (adds_then x.adds m)));
      reads = λ vs. one_of_made inverse (x.reads (Fixed k.Close ∷ vs));
    }

pub like_spelled : {negated : Bool} {pattern : ComparisonTree} {old a b new : List ℕ} → Adds (not_before negated) old a
    → Adds (λ us. Fixed k.Like ∷ us) a b → Spelled IsComparison pattern b new
    → Spelled IsTest (test.Like negated pattern) old new
like_spelled n o l _ _ (like d) s = let x = l _ _ d s.1 in record {
  words = λ us. Fixed k.Like ∷ x.words us;
  adds = adds_then n (adds_then o x.adds);
  reads = λ us. like (x.reads us);
}
like_spelled n o l _ _ (not_like d) s = let x = l _ _ d s.1.1 in record {
  words = λ us. Fixed k.Not ∷ Fixed k.Like ∷ x.words us;
  adds = adds_then n (adds_then o x.adds);
  reads = λ us. not_like (x.reads us);
}

minus_needs : (t : Terminal) (ts : List Terminal) → sign_at (t ∷ ts) ≡ Some sign.Minus → number_first ts ≡ false
minus_needs (Fixed k.Minus) [] e = refl
minus_needs (Fixed k.Minus) (Fixed key ∷ ts) e = refl
minus_needs (Fixed k.Minus) (Name text quoted ∷ ts) e = refl
minus_needs (Fixed k.Minus) (Literal text ∷ ts) e = refl
minus_needs (Fixed k.Minus) (Mixed ∷ ts) e = refl
minus_needs _ _ e = cc

minus_made : (ts : List Terminal) → number_first ts ≡ false → sign_at (Fixed k.Minus ∷ ts) ≡ Some sign.Minus
minus_made [] e = refl
minus_made (Fixed key ∷ ts) e = refl
minus_made (Name text quoted ∷ ts) e = refl
minus_made (Literal text ∷ ts) e = refl
minus_made (Mixed ∷ ts) e = refl
minus_made (Number value long ∷ ts) e = cc

-- a sign stays one where what follows is of the same kind
sign_made : (op : Sign) (t : Terminal) (ts ws : List Terminal) → sign_at (t ∷ ts) ≡ Some op → number_first ts ≡ number_first ws
    → sign_at (Fixed (sign_key op) ∷ ws) ≡ Some op
sign_made sign.Plus t ts ws e f = refl
sign_made sign.Minus t ts ws e f = minus_made ws (sym f ∙ minus_needs t ts e)

-- an operand under its signs
record SignsRead (signs : List Sign) (operand : PrimaryTree) (old new : List ℕ) : Type 0 where
  words : List Terminal → List Terminal
  adds : Adds words old new
  reads : (us : List Terminal) → IsSigns signs operand (signs_before signs (words us)) us

signs_read : {signs : List Sign} {operand : PrimaryTree} {ts us : List Terminal} {old new : List ℕ} → Spelled IsPrimary operand old new
    → IsSigns signs operand ts us → AllStand ts → SignsRead signs operand old new
signs_read p (unsigned d) s = let x = p _ _ d s in record {
  words = x.words;
  adds = x.adds;
  reads = λ us. unsigned (x.reads us);
}
signs_read p (signed {op = op} {t = t} {ts = ts} e d) s = let x = signs_read p d s.1 in record {
  words = x.words;
  adds = x.adds;
  reads = λ us. signed (sign_made op t ts _ e (signs_first d (x.reads us))) (x.reads us);
}

pub sign_spelled : {signs : List Sign} {operand : PrimaryTree} {old mid new : List ℕ} → Adds (signs_before signs) old mid
    → Spelled IsPrimary operand mid new → Spelled IsSign (sign_tree signs operand) old new
sign_spelled {signs = signs} {operand = operand} a p ts us d s = let x = signs_read p (sign_cut signs operand d) s in record {
  words = λ us. signs_before signs (x.words us);
  adds = adds_then a x.adds;
  reads = λ us. sign_of (x.reads us);
}

pub paren_spelled : {value : OrTree} {old a b new : List ℕ} → Adds (λ us. Fixed k.Open ∷ us) old a → Spelled IsOr value a b
    → Adds (λ us. Fixed k.Close ∷ us) b new → Spelled IsPrimary (primary.Paren value) old new
paren_spelled {value = value} o v m ts us d s =
    let c = paren_cut value d in let at = subst AllStand c.1 s in let x = v _ _ c.2 at.1 in record {
      words = λ us. Fixed k.Open ∷ x.words (Fixed k.Close ∷ us);
      adds = adds_then o (adds_then x.adds m);
      reads = λ us. paren (x.reads (Fixed k.Close ∷ us));
    }

-- no word names the type that NULL has
named_type : (text : List ℕ) → type_named text ≡ Some kind.NullType → ⊥
named_type text e =
    let P : Option SqlType → Type 0 = λ o. o ≡ Some kind.NullType → ⊥ in
    if_has P (is_word (codes "int") text) (type_named text) _ _ refl (λ _ h. cc)
    (λ _. if_has P (is_word (codes "integer") text) _ _ _ refl (λ _ h. cc)
    (λ _. if_has P (is_word (codes "bigint") text) _ _ _ refl (λ _ h. cc)
    (λ _. if_has P (is_word (codes "long") text) _ _ _ refl (λ _ h. cc)
    (λ _. if_has P (is_word (codes "string") text) _ _ _ refl (λ _ h. cc)
    (λ _. if_has P (is_word (codes "boolean") text) _ _ _ refl (λ _ h. cc) (λ _ h. cc)))))) e

type_named_by : (t : Terminal) → type_of t ≡ Some kind.NullType → ⊥
type_named_by (Name text false) e = named_type text e
type_named_by (Name text true) e = absurd cc
type_named_by (Fixed key) e = absurd cc
type_named_by (Literal text) e = absurd cc
type_named_by (Number value long) e = absurd cc
type_named_by Mixed e = absurd cc

-- the word of a type names it, where one does
pub type_made : (type : SqlType) (t : Terminal) → type_of t ≡ Some type
    → (type_of (Name (type_text type) false) ≡ Some type) × (IsTrue (is_bare (type_text type)))
type_made kind.NullType t e = absurd (type_named_by t e)
type_made kind.Boolean t e = (refl, refl)
type_made kind.Int t e = (refl, refl)
type_made kind.BigInt t e = (refl, refl)
type_made kind.Text t e = (refl, refl)

pub cast_spelled : {value : OrTree} {type : SqlType} {old a b c d e new : List ℕ} → Adds (λ us. Fixed k.Cast ∷ us) old a
    → Adds (λ us. Fixed k.Open ∷ us) a b → Spelled IsOr value b c → Adds (λ us. Fixed k.As ∷ us) c d
    → (IsTrue (is_bare (type_text type)) → Adds (λ us. Name (type_text type) false ∷ us) d e)
    → Adds (λ us. Fixed k.Close ∷ us) e new → Spelled IsPrimary (primary.Cast value type) old new
cast_spelled {value = value} {type = type} h o v m t l ts us d s =
    let c = cast_cut value type d in let at = subst AllStand c.2 s in
    let x = v _ _ c.3 at.1.1 in let y = type_made type c.1 c.4 in
    record {
      words = λ us. Fixed k.Cast ∷ Fixed k.Open ∷ x.words (Fixed k.As ∷ Name (type_text type) false ∷ Fixed k.Close ∷ us);
      adds = adds_then h (adds_then o (adds_then x.adds (adds_then m (adds_then (t y.1) l))));
      reads = λ us. cast (x.reads (Fixed k.As ∷ Name (type_text type) false ∷ Fixed k.Close ∷ us)) y.0;
    }

pub case_alone_spelled : {old new : List ℕ} → Adds (λ us. Fixed k.Case ∷ us) old new → Spelled IsCaseOf None old new
case_alone_spelled a ts us d s = record { words = λ vs. Fixed k.Case ∷ vs; adds = a; reads = λ vs. case_alone }

pub case_operand_spelled : {operand : OrTree} {old mid new : List ℕ} → Adds (λ us. Fixed k.Case ∷ us) old mid
    → Spelled IsOr operand mid new → Spelled IsCaseOf (Some operand) old new
case_operand_spelled a v _ _ (case_operand d) s = let x = v _ _ d s.1 in record {
  words = λ us. Fixed k.Case ∷ x.words us;
  adds = adds_then a x.adds;
  reads = λ us. case_operand (x.reads us);
}

case_read : {operand : Option OrTree} {first : Arm} {rest : List Arm} {other : Option OrTree} {ts vs us : List Terminal}
    → IsCaseOf operand ts vs → IsArms (first ∷ rest) other vs us → IsPrimary (primary.Case operand (first ∷ rest) other) ts us
case_read case_alone d = case d
case_read (case_operand o) d = case_of o d

case_made : {operand : Option OrTree} {arms : List Arm} {first : Arm} {rest : List Arm} {other : Option OrTree} {ts vs us : List Terminal}
    → arms ≡ first ∷ rest → IsCaseOf operand ts vs → IsArms arms other vs us → IsPrimary (primary.Case operand arms other) ts us
case_made {operand = operand} {other = other} {ts = ts} {vs = vs} {us = us} e o =
    subst (λ l. IsArms l other vs us → IsPrimary (primary.Case operand l other) ts us) (sym e) (case_read o)

left_case : {operand : Option OrTree} {ts us : List Terminal} → IsCaseOf operand ts us → AllStand ts → AllStand us
left_case case_alone s = s.1
left_case (case_operand d) s = left_or d s.1

pub case_spelled : {operand : Option OrTree} {arms : List Arm} {other : Option OrTree} {old a b new : List ℕ}
    → Spelled IsCaseOf operand old a → ((last : Option OrTree) → Going (λ l. IsArms l last) arms [] a b)
    → Spelled (IsArms []) other b new → Spelled IsPrimary (primary.Case operand arms other) old new
case_spelled {operand = operand} {arms = arms} {other = other} o g n ts us d s =
    let c = case_cut operand arms other d in
    let first = c.1 in let rest = c.2 in let is = c.3 in
    let x = o _ _ c.4 s in let y = g other _ _ c.5 (left_case c.4 s) in
    let z = n _ _ y.is_rest y.stand in
    record {
      words = λ vs. x.words (y.words (z.words vs));
      adds = adds_then x.adds (adds_then y.adds z.adds);
      reads = λ vs. case_made is (x.reads (y.words (z.words vs))) (y.reads (z.words vs) vs (z.reads vs));
    }

pub arm_step : {left right : OrTree} {old a b c new : List ℕ} → Adds (λ us. Fixed k.When ∷ us) old a → Spelled IsOr left a b
    → Adds (λ us. Fixed k.Then ∷ us) b c → Spelled IsOr right c new → (last : Option OrTree) (more : List Arm)
    → Going (λ l. IsArms l last) (arm left right ∷ more) more old new
arm_step {left = left} {right = right} w l t r last more ts us d s =
    let c = arm_cut left right more last d in let at = subst AllStand c.3 s in
    let x = l _ _ c.4 at.1 in let behind = (left_or c.4 at.1).1 in
    let y = r _ _ c.5 behind in
    record {
      words = λ us. Fixed k.When ∷ x.words (Fixed k.Then ∷ y.words us);
      adds = adds_then w (adds_then x.adds (adds_then t y.adds));
      reads = λ vs ws g. when (x.reads (Fixed k.Then ∷ y.words vs)) (y.reads vs) g;
      rest = _;
      is_rest = c.6;
      stand = left_or c.5 behind;
    }

pub end_spelled : {old new : List ℕ} → Adds (λ us. Fixed k.End ∷ us) old new → Spelled (IsArms []) None old new
end_spelled a ts us d s = record { words = λ vs. Fixed k.End ∷ vs; adds = a; reads = λ vs. end }

pub otherwise_spelled : {value : OrTree} {old a b new : List ℕ} → Adds (λ us. Fixed k.Else ∷ us) old a → Spelled IsOr value a b
    → Adds (λ us. Fixed k.End ∷ us) b new → Spelled (IsArms []) (Some value) old new
otherwise_spelled e v a _ _ (otherwise d) s = let x = v _ _ d s.1 in record {
  words = λ us. Fixed k.Else ∷ x.words (Fixed k.End ∷ us);
  adds = adds_then e (adds_then x.adds a);
  reads = λ us. otherwise (x.reads (Fixed k.End ∷ us));
}

pub call_spelled : {name : List ℕ} {quoted : Bool} {arguments : List OrTree} {old a b c new : List ℕ}
    → (0 < length name → Adds (λ us. Name name quoted ∷ us) old a) → Adds (λ us. Fixed k.Open ∷ us) a b
    → Spelled IsList arguments b c → Adds (λ us. Fixed k.Close ∷ us) c new
    → Spelled IsPrimary (primary.Call name arguments) old new
call_spelled {name = name} {quoted = quoted} {arguments = arguments} n o l a ts us d s =
    let c = call_cut name arguments d in let at = subst AllStand c.2 s in let x = l _ _ c.3 at.1.1 in record {
      words = λ us. Name name quoted ∷ Fixed k.Open ∷ x.words (Fixed k.Close ∷ us);
      adds = adds_then (n at.0) (adds_then o (adds_then x.adds a));
      reads = λ us. call (x.reads (Fixed k.Close ∷ us));
    }

pub count_all_spelled : {old a b c new : List ℕ} → (IsTrue (is_bare (codes "count")) → Adds (λ us. Name (codes "count") false ∷ us) old a)
    → Adds (λ us. Fixed k.Open ∷ us) a b → Adds (λ us. Fixed k.Star ∷ us) b c → Adds (λ us. Fixed k.Close ∷ us) c new
    → Spelled IsPrimary primary.CountAll old new
count_all_spelled w o m l ts us d s = record {
  words = λ vs. Name (codes "count") false ∷ Fixed k.Open ∷ Fixed k.Star ∷ Fixed k.Close ∷ vs;
  adds = adds_then (w refl) (adds_then o (adds_then m l));
  reads = λ vs. count_all refl;
}
