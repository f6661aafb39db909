-- What the parts of a spelled tree are, by the tree.
use Rattle.std.proofs.Common.{ℕ, ◌≡◌, Bool, true, false, List, [], ◌∷◌, refl, sym, subst, ◌∙◌}
use Rattle.std.specs.Prelude.{Option, Some, None}
use Rattle.aqe_values.specs.declared.sql_type.SqlType.{SqlType}
use Rattle.aqe_trees.specs.declared.terminal.Key.TheVariants as k
use Rattle.aqe_trees.specs.declared.terminal.Terminal.{Terminal}
use Rattle.aqe_trees.specs.declared.terminal.Terminal.TheVariants.{Fixed, Name, Number}
use Rattle.aqe_trees.specs.declared.expression.OrTree.{OrTree, out-OrTree, out-roll-OrTree}
use Rattle.aqe_trees.specs.declared.expression.AndTree.{AndTree, out-AndTree, out-roll-AndTree}
use Rattle.aqe_trees.specs.declared.expression.NotTree.{NotTree, out-NotTree, out-roll-NotTree}
use Rattle.aqe_trees.specs.declared.expression.PredicateTree.{PredicateTree, out-PredicateTree, out-roll-PredicateTree}
use Rattle.aqe_trees.specs.declared.expression.Test.{Test, out-Test}
use Rattle.aqe_trees.specs.declared.expression.Test.TheVariants as test
use Rattle.aqe_trees.specs.declared.expression.CompareOp.{CompareOp}
use Rattle.aqe_trees.specs.declared.expression.ComparisonTree.{ComparisonTree, out-ComparisonTree, out-roll-ComparisonTree}
use Rattle.aqe_trees.specs.declared.expression.Sign.{Sign}
use Rattle.aqe_trees.specs.declared.expression.SumTree.{SumTree, out-SumTree, out-roll-SumTree}
use Rattle.aqe_trees.specs.declared.expression.ProductOp.{ProductOp}
use Rattle.aqe_trees.specs.declared.expression.ProductTree.{ProductTree, out-ProductTree, out-roll-ProductTree}
use Rattle.aqe_trees.specs.declared.expression.SignTree.{SignTree, out-SignTree, out-roll-SignTree}
use Rattle.aqe_trees.specs.declared.expression.PrimaryTree.{PrimaryTree, out-PrimaryTree}
use Rattle.aqe_trees.specs.declared.expression.PrimaryTree.TheVariants as primary
use Rattle.aqe_trees.specs.declared.expression.Arm.{Arm, out-Arm, out-roll-Arm}
use Rattle.aqe_trees.specs.Expressions.{IsOr, or_of, IsOrRest, IsAnd, and_of, IsAndRest, IsNot, not_of, IsNots, IsPredicate, predicate_of, IsTest, plain, between, not_between, one_of, not_one_of, like, not_like, is_truth, is_not_truth, IsList, IsComparison, comparison_of, IsComparisonRest, IsSum, sum_of_products, IsSumRest, IsProduct, product_of_signs, IsProductRest, IsSign, sign_of, IsSigns, unsigned, signed, IsPrimary, number, negative_number, literal, is_true, is_false, null, column, table_column, paren, cast, case, case_of, count_all, call, IsArms, end, otherwise, when}
use Rattle.aqe_trees.specs.declared.expression.PrimaryTree.TheOpen as open_primary
use Rattle.aqe_trees.specs.Shapes.{or_tree, and_tree, not_tree, predicate_tree, comparison_tree, sum_tree, product_tree, sign_tree, arm}
use Rattle.aqe_trees.specs.Words.{sign_at, type_of}
use Rattle.aqe_phrases.specs.Written.{IsCaseOf, case_alone, case_operand, not_before}

or_parts : {tree : OrTree} {ts us : List Terminal} → IsOr tree ts us
    → (vs : List Terminal) × IsAnd (out-OrTree tree).first ts vs × IsOrRest (out-OrTree tree).rest vs us
or_parts (or_of {first = a} {rest = b} {vs = vs} d e) =
    rw (out-roll-OrTree (record { first = a; rest = b })) (vs, d, e)

pub or_cut : (a : AndTree) (b : List AndTree) {ts us : List Terminal} → IsOr (or_tree a b) ts us
    → (vs : List Terminal) × IsAnd a ts vs × IsOrRest b vs us
or_cut a b {ts} {us} d =
    subst (λ x. (vs : List Terminal) × IsAnd x.first ts vs × IsOrRest x.rest vs us)
    (out-roll-OrTree (record { first = a; rest = b })) (or_parts d)

and_parts : {tree : AndTree} {ts us : List Terminal} → IsAnd tree ts us
    → (vs : List Terminal) × IsNot (out-AndTree tree).first ts vs × IsAndRest (out-AndTree tree).rest vs us
and_parts (and_of {first = a} {rest = b} {vs = vs} d e) =
    rw (out-roll-AndTree (record { first = a; rest = b })) (vs, d, e)

pub and_cut : (a : NotTree) (b : List NotTree) {ts us : List Terminal} → IsAnd (and_tree a b) ts us
    → (vs : List Terminal) × IsNot a ts vs × IsAndRest b vs us
and_cut a b {ts} {us} d =
    subst (λ x. (vs : List Terminal) × IsNot x.first ts vs × IsAndRest x.rest vs us)
    (out-roll-AndTree (record { first = a; rest = b })) (and_parts d)

predicate_parts : {tree : PredicateTree} {ts us : List Terminal} → IsPredicate tree ts us
    → (vs : List Terminal) × IsComparison (out-PredicateTree tree).value ts vs × IsTest (out-PredicateTree tree).test vs us
predicate_parts (predicate_of {value = a} {test = b} {vs = vs} d e) =
    rw (out-roll-PredicateTree (record { value = a; test = b })) (vs, d, e)

pub predicate_cut : (a : ComparisonTree) (b : Test) {ts us : List Terminal} → IsPredicate (predicate_tree a b) ts us
    → (vs : List Terminal) × IsComparison a ts vs × IsTest b vs us
predicate_cut a b {ts} {us} d =
    subst (λ x. (vs : List Terminal) × IsComparison x.value ts vs × IsTest x.test vs us)
    (out-roll-PredicateTree (record { value = a; test = b })) (predicate_parts d)

comparison_parts : {tree : ComparisonTree} {ts us : List Terminal} → IsComparison tree ts us
    → (vs : List Terminal) × IsSum (out-ComparisonTree tree).first ts vs × IsComparisonRest (out-ComparisonTree tree).rest vs us
comparison_parts (comparison_of {first = a} {rest = b} {vs = vs} d e) =
    rw (out-roll-ComparisonTree (record { first = a; rest = b })) (vs, d, e)

pub comparison_cut : (a : SumTree) (b : List (CompareOp × SumTree)) {ts us : List Terminal} → IsComparison (comparison_tree a b) ts us
    → (vs : List Terminal) × IsSum a ts vs × IsComparisonRest b vs us
comparison_cut a b {ts} {us} d =
    subst (λ x. (vs : List Terminal) × IsSum x.first ts vs × IsComparisonRest x.rest vs us)
    (out-roll-ComparisonTree (record { first = a; rest = b })) (comparison_parts d)

sum_parts : {tree : SumTree} {ts us : List Terminal} → IsSum tree ts us
    → (vs : List Terminal) × IsProduct (out-SumTree tree).first ts vs × IsSumRest (out-SumTree tree).rest vs us
sum_parts (sum_of_products {first = a} {rest = b} {vs = vs} d e) =
    rw (out-roll-SumTree (record { first = a; rest = b })) (vs, d, e)

pub sum_cut : (a : ProductTree) (b : List (Sign × ProductTree)) {ts us : List Terminal} → IsSum (sum_tree a b) ts us
    → (vs : List Terminal) × IsProduct a ts vs × IsSumRest b vs us
sum_cut a b {ts} {us} d =
    subst (λ x. (vs : List Terminal) × IsProduct x.first ts vs × IsSumRest x.rest vs us)
    (out-roll-SumTree (record { first = a; rest = b })) (sum_parts d)

product_parts : {tree : ProductTree} {ts us : List Terminal} → IsProduct tree ts us
    → (vs : List Terminal) × IsSign (out-ProductTree tree).first ts vs × IsProductRest (out-ProductTree tree).rest vs us
product_parts (product_of_signs {first = a} {rest = b} {vs = vs} d e) =
    rw (out-roll-ProductTree (record { first = a; rest = b })) (vs, d, e)

pub product_cut : (a : SignTree) (b : List (ProductOp × SignTree)) {ts us : List Terminal} → IsProduct (product_tree a b) ts us
    → (vs : List Terminal) × IsSign a ts vs × IsProductRest b vs us
product_cut a b {ts} {us} d =
    subst (λ x. (vs : List Terminal) × IsSign x.first ts vs × IsProductRest x.rest vs us)
    (out-roll-ProductTree (record { first = a; rest = b })) (product_parts d)

not_parts : {tree : NotTree} {ts us : List Terminal} → IsNot tree ts us
    → IsNots (out-NotTree tree).count (out-NotTree tree).operand ts us
not_parts (not_of {count = a} {operand = b} d) = rw (out-roll-NotTree (record { count = a; operand = b })) d

pub not_cut : (a : ℕ) (b : PredicateTree) {ts us : List Terminal} → IsNot (not_tree a b) ts us → IsNots a b ts us
not_cut a b {ts} {us} d = subst (λ x. IsNots x.count x.operand ts us) (out-roll-NotTree (record { count = a; operand = b })) (not_parts d)

sign_parts : {tree : SignTree} {ts us : List Terminal} → IsSign tree ts us
    → IsSigns (out-SignTree tree).signs (out-SignTree tree).operand ts us
sign_parts (sign_of {signs = a} {operand = b} {ts = ts} {us = us} d) =
    subst (λ x. IsSigns x.signs x.operand ts us) (sym (out-roll-SignTree (record { signs = a; operand = b }))) d

pub sign_cut : (a : List Sign) (b : PrimaryTree) {ts us : List Terminal} → IsSign (sign_tree a b) ts us → IsSigns a b ts us
sign_cut a b {ts} {us} d = subst (λ x. IsSigns x.signs x.operand ts us) (out-roll-SignTree (record { signs = a; operand = b })) (sign_parts d)

-- what stands behind IN, by the test
abbrev TestHas : open_primary.Test-F PrimaryTree Test AndTree Arm ComparisonTree NotTree OrTree PredicateTree ProductTree SignTree SumTree
    → List Terminal → List Terminal → Type 0
TestHas (open_primary.OneOf inverse list) ts us =
    (vs : List Terminal) × (ts ≡ not_before inverse (Fixed k.In ∷ Fixed k.Open ∷ vs)) × IsList list vs (Fixed k.Close ∷ us)
TestHas _ ts us = Unit {0}

test_has : {tree : Test} {ts us : List Terminal} → IsTest tree ts us → TestHas (out-Test tree) ts us
test_has plain = rw test.outs-Plain tt
test_has (between {low = a} {high = b} d e) = rw (test.outs-Between false a b) tt
test_has (not_between {low = a} {high = b} d e) = rw (test.outs-Between true a b) tt
test_has (one_of {list = a} d) = rw (test.outs-OneOf false a) (_, refl, d)
test_has (not_one_of {list = a} d) = rw (test.outs-OneOf true a) (_, refl, d)
test_has (like {pattern = a} d) = rw (test.outs-Like false a) tt
test_has (not_like {pattern = a} d) = rw (test.outs-Like true a) tt
test_has (is_truth {truth = a} e) = rw (test.outs-Is false a) tt
test_has (is_not_truth {truth = a} e) = rw (test.outs-Is true a) tt

pub one_of_cut : (inverse : Bool) (list : List OrTree) {ts us : List Terminal} → IsTest (test.OneOf inverse list) ts us
    → (vs : List Terminal) × (ts ≡ not_before inverse (Fixed k.In ∷ Fixed k.Open ∷ vs)) × IsList list vs (Fixed k.Close ∷ us)
one_of_cut inverse list {ts} {us} d = subst (λ x. TestHas x ts us) (test.outs-OneOf inverse list) (test_has d)

-- what stands within an operand, by the operand
abbrev PrimaryHas : open_primary.PrimaryTree-F PrimaryTree Test AndTree Arm ComparisonTree NotTree OrTree PredicateTree ProductTree SignTree SumTree
    → List Terminal → List Terminal → Type 0
PrimaryHas (open_primary.Paren value) ts us = (vs : List Terminal) × (ts ≡ Fixed k.Open ∷ vs) × IsOr value vs (Fixed k.Close ∷ us)
PrimaryHas (open_primary.Cast value type) ts us =
    (vs : List Terminal) × (t : Terminal) × (ts ≡ Fixed k.Cast ∷ Fixed k.Open ∷ vs)
    × IsOr value vs (Fixed k.As ∷ t ∷ Fixed k.Close ∷ us) × (type_of t ≡ Some type)
PrimaryHas (open_primary.Case operand arms other) ts us =
    (vs : List Terminal) × (first : Arm) × (rest : List Arm) × (arms ≡ first ∷ rest)
    × IsCaseOf operand ts vs × IsArms arms other vs us
PrimaryHas (open_primary.Call name arguments) ts us =
    (vs : List Terminal) × (quoted : Bool) × (ts ≡ Name name quoted ∷ Fixed k.Open ∷ vs) × IsList arguments vs (Fixed k.Close ∷ us)
PrimaryHas _ ts us = Unit {0}

primary_has : {tree : PrimaryTree} {ts us : List Terminal} → IsPrimary tree ts us → PrimaryHas (out-PrimaryTree tree) ts us
primary_has (number {value = a} {long = b} e) = rw (primary.outs-Number false a b) tt
primary_has (negative_number {value = a} {long = b}) = rw (primary.outs-Number true a b) tt
primary_has (literal {text = a}) = rw (primary.outs-Literal a) tt
primary_has is_true = rw (primary.outs-Boolean true) tt
primary_has is_false = rw (primary.outs-Boolean false) tt
primary_has null = rw primary.outs-Null tt
primary_has (column {name = a}) = rw (primary.outs-Column a) tt
primary_has (table_column {table = a} {name = b}) = rw (primary.outs-TableColumn a b) tt
primary_has (paren {value = a} d) = rw (primary.outs-Paren a) (_, refl, d)
primary_has (cast {value = a} {kind = b} d e) = rw (primary.outs-Cast a b) (_, _, refl, d, e)
primary_has (case {first = a} {rest = b} {otherwise = c} d) = rw (primary.outs-Case None (a ∷ b) c) (_, a, b, refl, case_alone, d)
primary_has (case_of {operand = o} {first = a} {rest = b} {otherwise = c} d e) =
    rw (primary.outs-Case (Some o) (a ∷ b) c) (_, a, b, refl, case_operand d, e)
primary_has (count_all e) = rw primary.outs-CountAll tt
primary_has (call {name = a} {arguments = b} d) = rw (primary.outs-Call a b) (_, _, refl, d)

pub paren_cut : (value : OrTree) {ts us : List Terminal} → IsPrimary (primary.Paren value) ts us
    → (vs : List Terminal) × (ts ≡ Fixed k.Open ∷ vs) × IsOr value vs (Fixed k.Close ∷ us)
paren_cut value {ts} {us} d = subst (λ x. PrimaryHas x ts us) (primary.outs-Paren value) (primary_has d)

pub cast_cut : (value : OrTree) (type : SqlType) {ts us : List Terminal} → IsPrimary (primary.Cast value type) ts us
    → (vs : List Terminal) × (t : Terminal) × (ts ≡ Fixed k.Cast ∷ Fixed k.Open ∷ vs)
    × IsOr value vs (Fixed k.As ∷ t ∷ Fixed k.Close ∷ us) × (type_of t ≡ Some type)
cast_cut value type {ts} {us} d = subst (λ x. PrimaryHas x ts us) (primary.outs-Cast value type) (primary_has d)

pub case_cut : (operand : Option OrTree) (arms : List Arm) (other : Option OrTree) {ts us : List Terminal}
    → IsPrimary (primary.Case operand arms other) ts us
    → (vs : List Terminal) × (first : Arm) × (rest : List Arm) × (arms ≡ first ∷ rest)
    × IsCaseOf operand ts vs × IsArms arms other vs us
case_cut operand arms other {ts} {us} d = subst (λ x. PrimaryHas x ts us) (primary.outs-Case operand arms other) (primary_has d)

pub call_cut : (name : List ℕ) (arguments : List OrTree) {ts us : List Terminal} → IsPrimary (primary.Call name arguments) ts us
    → (vs : List Terminal) × (quoted : Bool) × (ts ≡ Name name quoted ∷ Fixed k.Open ∷ vs) × IsList arguments vs (Fixed k.Close ∷ us)
call_cut name arguments {ts} {us} d = subst (λ x. PrimaryHas x ts us) (primary.outs-Call name arguments) (primary_has d)

-- what stands within WHEN and THEN, by the pair
abbrev ArmsHave : List Arm → Option OrTree → List Terminal → List Terminal → Type 0
ArmsHave [] other ts us = Unit {0}
ArmsHave (pair ∷ rest) other ts us =
    (ps : List Terminal) × (vs : List Terminal) × (ws : List Terminal) × (ts ≡ Fixed k.When ∷ ps)
    × IsOr (out-Arm pair).when ps (Fixed k.Then ∷ vs) × IsOr (out-Arm pair).gives vs ws × IsArms rest other ws us

arms_have : {arms : List Arm} {other : Option OrTree} {ts us : List Terminal} → IsArms arms other ts us → ArmsHave arms other ts us
arms_have end = tt
arms_have (otherwise d) = tt
arms_have (when {when = a} {gives = b} d e f) = rw (out-roll-Arm (record { when = a; gives = b })) (_, _, _, refl, d, e, f)

pub arm_cut : (a b : OrTree) (rest : List Arm) (other : Option OrTree) {ts us : List Terminal} → IsArms (arm a b ∷ rest) other ts us
    → (ps : List Terminal) × (vs : List Terminal) × (ws : List Terminal) × (ts ≡ Fixed k.When ∷ ps)
    × IsOr a ps (Fixed k.Then ∷ vs) × IsOr b vs ws × IsArms rest other ws us
arm_cut a b rest other {ts} {us} d =
    subst (λ x. (ps : List Terminal) × (vs : List Terminal) × (ws : List Terminal) × (ts ≡ Fixed k.When ∷ ps)
    × IsOr x.when ps (Fixed k.Then ∷ vs) × IsOr x.gives vs ws × IsArms rest other ws us)
    (out-roll-Arm (record { when = a; gives = b })) (arms_have d)

-- whether a number is the first terminal
abbrev pub number_first : List Terminal → Bool
number_first (Number value long ∷ ts) = true
number_first _ = false

-- whether an operand begins with its number
abbrev numeral : open_primary.PrimaryTree-F PrimaryTree Test AndTree Arm ComparisonTree NotTree OrTree PredicateTree ProductTree SignTree SumTree → Bool
numeral (open_primary.Number false value long) = true
numeral _ = false

primary_first : {tree : PrimaryTree} {ts us : List Terminal} → IsPrimary tree ts us → number_first ts ≡ numeral (out-PrimaryTree tree)
primary_first (number {value = a} {long = b} e) = rw (primary.outs-Number false a b) refl
primary_first (negative_number {value = a} {long = b}) = rw (primary.outs-Number true a b) refl
primary_first (literal {text = a}) = rw (primary.outs-Literal a) refl
primary_first is_true = rw (primary.outs-Boolean true) refl
primary_first is_false = rw (primary.outs-Boolean false) refl
primary_first null = rw primary.outs-Null refl
primary_first (column {name = a}) = rw (primary.outs-Column a) refl
primary_first (table_column {table = a} {name = b}) = rw (primary.outs-TableColumn a b) refl
primary_first (paren {value = a} d) = rw (primary.outs-Paren a) refl
primary_first (cast {value = a} {kind = b} d e) = rw (primary.outs-Cast a b) refl
primary_first (case {first = a} {rest = b} {otherwise = c} d) = rw (primary.outs-Case None (a ∷ b) c) refl
primary_first (case_of {operand = o} {first = a} {rest = b} {otherwise = c} d e) = rw (primary.outs-Case (Some o) (a ∷ b) c) refl
primary_first (count_all e) = rw primary.outs-CountAll refl
primary_first (call {name = a} {arguments = b} d) = rw (primary.outs-Call a b) refl

sign_first : (ts : List Terminal) (op : Sign) → sign_at ts ≡ Some op → number_first ts ≡ false
sign_first (Fixed k.Plus ∷ ts) op e = refl
sign_first (Fixed k.Minus ∷ ts) op e = refl
sign_first _ op e = cc

-- the first terminals of two spellings of a signed operand are both numbers, or none is
pub signs_first : {signs : List Sign} {tree : PrimaryTree} {ts us ws vs : List Terminal} → IsSigns signs tree ts us
    → IsSigns signs tree ws vs → number_first ts ≡ number_first ws
signs_first (unsigned d) (unsigned e) = primary_first d ∙ sym (primary_first e)
signs_first (signed {op = op} {t = t} {ts = ts} e d) (signed {t = u} {ts = us} f g) = sign_first (t ∷ ts) op e ∙ sym (sign_first (u ∷ us) op f)
