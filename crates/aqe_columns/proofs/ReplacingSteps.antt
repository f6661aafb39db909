-- The replacement in each form of an expression, as the code makes it.
use Rattle.std.proofs.Common.{◌≡◌, List, [], ◌∷◌, ◌++◌, ap, sym, ◌∙◌}
use Rattle.aqe_expr.specs.declared.expr.UnaryOp.{UnaryOp}
use Rattle.aqe_expr.specs.declared.expr.BinaryOp.{BinaryOp}
use Rattle.aqe_expr.specs.declared.expr.Expr.{Expr}
use Rattle.aqe_expr.specs.declared.expr.Expr.TheVariants.{Unary, Binary, Between, OneOf, Case, Switch}
use Rattle.aqe_expr.specs.declared.expr.Operands.{Operands}
use Rattle.aqe_expr.specs.declared.expr.Operands.TheVariants as list
use Rattle.aqe_expr.specs.declared.expr.CasePairs.{CasePairs}
use Rattle.aqe_expr.specs.declared.expr.CasePairs.TheVariants as pairs
use Rattle.aqe_expr.proofs.Shapes.{is_unary, is_binary, is_between, is_one_of, is_case, is_switch, is_operand, is_pair}
use Rattle.aqe_expr.specs.Chains.{in_front, pairs_in_front}
use Rattle.aqe_expr.proofs.InFront.{in_front_push, pairs_in_front_push}
use Rattle.aqe_columns.specs.Replacing.{replaced, replaced_list, replaced_pairs}

pub replaced-unary : (items : List Expr) (e : Expr) (op : UnaryOp) (a : Expr) → e ≡ Unary op a → replaced items e ≡ Unary op (replaced items a)
replaced-unary items e op a is = ap (replaced items) (is ∙ is_unary op a)

pub replaced-binary : (items : List Expr) (e : Expr) (op : BinaryOp) (l r : Expr) → e ≡ Binary op l r → replaced items e ≡ Binary op (replaced items l) (replaced items r)
replaced-binary items e op l r is = ap (replaced items) (is ∙ is_binary op l r)

pub replaced-between : (items : List Expr) (e : Expr) (v l h : Expr) → e ≡ Between v l h → replaced items e ≡ Between (replaced items v) (replaced items l) (replaced items h)
replaced-between items e v l h is = ap (replaced items) (is ∙ is_between v l h)

pub replaced-one_of : (items : List Expr) (e : Expr) (v : Expr) (l : Operands) → e ≡ OneOf v l → replaced items e ≡ OneOf (replaced items v) (replaced_list items l)
replaced-one_of items e v l is = ap (replaced items) (is ∙ is_one_of v l)

pub replaced-case : (items : List Expr) (e : Expr) (p : CasePairs) (o : Expr) → e ≡ Case p o → replaced items e ≡ Case (replaced_pairs items p) (replaced items o)
replaced-case items e p o is = ap (replaced items) (is ∙ is_case p o)

pub replaced-switch : (items : List Expr) (e : Expr) (v : Expr) (p : CasePairs) (o : Expr) → e ≡ Switch v p o → replaced items e ≡ Switch (replaced items v) (replaced_pairs items p) (replaced items o)
replaced-switch items e v p o is = ap (replaced items) (is ∙ is_switch v p o)

pub replaced-more : (items : List Expr) (ls : Operands) (i : Expr) (r : Operands) → ls ≡ list.More i r → replaced_list items ls ≡ list.More (replaced items i) (replaced_list items r)
replaced-more items ls i r is = ap (replaced_list items) (is ∙ is_operand i r)

pub replaced-pair : (items : List Expr) (ps : CasePairs) (t g : Expr) (r : CasePairs) → ps ≡ pairs.More t g r → replaced_pairs items ps ≡ pairs.More (replaced items t) (replaced items g) (replaced_pairs items r)
replaced-pair items ps t g r is = ap (replaced_pairs items) (is ∙ is_pair t g r)

pub ruleset replacing_steps = (replaced-unary, replaced-binary, replaced-between, replaced-one_of, replaced-case, replaced-switch)

-- one more item in front of what is left of a chain
pub item_made : (items : List Expr) (ls : Operands) (i x : Expr) (r : Operands) (made now : List Expr) (whole : Operands) → ls ≡ list.More i r → in_front made (replaced_list items ls) ≡ whole → x ≡ replaced items i → now ≡ made ++ x ∷ [] → in_front now (replaced_list items r) ≡ whole
item_made items ls i x r made now whole is h k e =
    ap (λ xs. in_front xs (replaced_list items r)) e ∙ (in_front_push made x (replaced_list items r) ∙ (ap (λ y. in_front made (list.More y (replaced_list items r))) k ∙ (ap (in_front made) (sym (replaced-more items ls i r is)) ∙ h)))

pub pair_made : (items : List Expr) (ps : CasePairs) (t g x y : Expr) (r : CasePairs) (made now : List (Expr × Expr)) (whole : CasePairs) → ps ≡ pairs.More t g r → pairs_in_front made (replaced_pairs items ps) ≡ whole → x ≡ replaced items t → y ≡ replaced items g → now ≡ made ++ (x, y) ∷ [] → pairs_in_front now (replaced_pairs items r) ≡ whole
pair_made items ps t g x y r made now whole is h k l e =
    ap (λ xs. pairs_in_front xs (replaced_pairs items r)) e ∙ (pairs_in_front_push made x y (replaced_pairs items r) ∙ ((λ i. pairs_in_front made (pairs.More (k i) (l i) (replaced_pairs items r))) ∙ (ap (pairs_in_front made) (sym (replaced-pair items ps t g r is)) ∙ h)))
