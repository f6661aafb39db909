-- The columns of each form of an expression, as the code makes it.
use Rattle.std.proofs.Common.{◌≡◌, ℕ, List, [], ◌∷◌, ◌++◌, ap, sym, refl, ◌∙◌, append_assoc}
use Rattle.aqe_expr.specs.declared.expr.UnaryOp.{UnaryOp}
use Rattle.aqe_expr.specs.declared.expr.BinaryOp.{BinaryOp}
use Rattle.aqe_expr.specs.declared.expr.Expr.{Expr}
use Rattle.aqe_expr.specs.declared.expr.Expr.TheVariants.{Unary, Binary, Between, OneOf, Case, Switch}
use Rattle.aqe_expr.specs.declared.expr.Operands.{Operands}
use Rattle.aqe_expr.specs.declared.expr.Operands.TheVariants as list
use Rattle.aqe_expr.specs.declared.expr.CasePairs.{CasePairs}
use Rattle.aqe_expr.specs.declared.expr.CasePairs.TheVariants as pairs
use Rattle.aqe_expr.proofs.Shapes.{is_unary, is_binary, is_between, is_one_of, is_case, is_switch, is_operand, is_pair}
use Rattle.aqe_columns.specs.Reading.{columns_of, columns_in_list, columns_in_pairs}

pub columns-unary : (e : Expr) (op : UnaryOp) (a : Expr) → e ≡ Unary op a → columns_of e ≡ columns_of a
columns-unary e op a is = ap columns_of (is ∙ is_unary op a)

pub columns-binary : (e : Expr) (op : BinaryOp) (l r : Expr) → e ≡ Binary op l r → columns_of e ≡ columns_of l ++ columns_of r
columns-binary e op l r is = ap columns_of (is ∙ is_binary op l r)

pub columns-between : (e : Expr) (v l h : Expr) → e ≡ Between v l h → columns_of e ≡ columns_of v ++ (columns_of l ++ columns_of h)
columns-between e v l h is = ap columns_of (is ∙ is_between v l h)

pub columns-one_of : (e : Expr) (v : Expr) (l : Operands) → e ≡ OneOf v l → columns_of e ≡ columns_of v ++ columns_in_list l
columns-one_of e v l is = ap columns_of (is ∙ is_one_of v l)

pub columns-case : (e : Expr) (p : CasePairs) (o : Expr) → e ≡ Case p o → columns_of e ≡ columns_in_pairs p ++ columns_of o
columns-case e p o is = ap columns_of (is ∙ is_case p o)

pub columns-switch : (e : Expr) (v : Expr) (p : CasePairs) (o : Expr) → e ≡ Switch v p o → columns_of e ≡ columns_of v ++ (columns_in_pairs p ++ columns_of o)
columns-switch e v p o is = ap columns_of (is ∙ is_switch v p o)

pub columns-more : (ls : Operands) (i : Expr) (r : Operands) → ls ≡ list.More i r → columns_in_list ls ≡ columns_of i ++ columns_in_list r
columns-more ls i r is = ap columns_in_list (is ∙ is_operand i r)

pub columns-pair : (ps : CasePairs) (t g : Expr) (r : CasePairs) → ps ≡ pairs.More t g r → columns_in_pairs ps ≡ columns_of t ++ (columns_of g ++ columns_in_pairs r)
columns-pair ps t g r is = ap columns_in_pairs (is ∙ is_pair t g r)

pub ruleset reading_steps = (columns-unary, columns-binary, columns-between, columns-one_of, columns-case, columns-switch, columns-more, columns-pair, append_assoc)

-- what was found, with what was pushed in two or three steps
pub two_pushed : (old mid new a b : List ℕ) → mid ≡ old ++ a → new ≡ mid ++ b → new ≡ old ++ (a ++ b)
two_pushed old mid new a b h k = k ∙ ap (λ xs. xs ++ b) h ∙ append_assoc old a b

pub three_pushed : (old one two new a b c : List ℕ) → one ≡ old ++ a → two ≡ one ++ b → new ≡ two ++ c → new ≡ old ++ (a ++ (b ++ c))
three_pushed old one two new a b c h k l = two_pushed one two new b c k l ∙ ap (λ xs. xs ++ (b ++ c)) h ∙ append_assoc old a (b ++ c)

-- one more item of a chain
pub item_pushed : (ls : Operands) (i : Expr) (r : Operands) (found new whole : List ℕ) → ls ≡ list.More i r → found ++ columns_in_list ls ≡ whole → new ≡ found ++ columns_of i → new ++ columns_in_list r ≡ whole
item_pushed ls i r found new whole is h k = ap (λ xs. xs ++ columns_in_list r) k ∙ append_assoc found (columns_of i) (columns_in_list r) ∙ ap (λ xs. found ++ xs) (sym (columns-more ls i r is)) ∙ h

pub pair_pushed : (ps : CasePairs) (t g : Expr) (r : CasePairs) (found mid new whole : List ℕ) → ps ≡ pairs.More t g r → found ++ columns_in_pairs ps ≡ whole → mid ≡ found ++ columns_of t → new ≡ mid ++ columns_of g → new ++ columns_in_pairs r ≡ whole
pair_pushed ps t g r found mid new whole is h k l =
    three_pushed found mid new (new ++ columns_in_pairs r) (columns_of t) (columns_of g) (columns_in_pairs r) k l refl ∙ ap (λ xs. found ++ xs) (sym (columns-pair ps t g r is)) ∙ h
