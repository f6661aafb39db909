-- Each form of an expression over the rows of groups, as the code makes it.
use Rattle.std.proofs.Common.{◌≡◌, ◌≢◌, ℕ, zero, suc, ◌+◌, arith, List, [], ◌∷◌, length, Option, Some, None, Result, Ok, Err, refl, ap, sym, subst, ◌∙◌}
use Rattle.std.specs.Prelude.{MatchResult, slice_get}
use Rattle.aqe_base.specs.declared.status.AnalysisKind.TheVariants.{NotGrouped}
use Rattle.aqe_values.specs.declared.value.Value.{Value}
use Rattle.aqe_expr.specs.declared.expr.UnaryOp.{UnaryOp}
use Rattle.aqe_expr.specs.declared.expr.BinaryOp.{BinaryOp}
use Rattle.aqe_expr.specs.declared.expr.Expr.{Expr, Column, Literal, Coalesce}
use Rattle.aqe_expr.specs.declared.expr.Expr.TheVariants.{Unary, Binary, Between, OneOf, Case, Switch}
use Rattle.aqe_expr.specs.declared.expr.Operands.{Operands}
use Rattle.aqe_expr.specs.declared.expr.CasePairs.{CasePairs}
use Rattle.aqe_expr.specs.Shapes.{unary_of, binary_of, between_of, one_of, case_of, switch_of}
use Rattle.aqe_expr.proofs.Shapes.{is_unary, is_binary, is_between, is_one_of, is_case, is_switch}
use Rattle.aqe_rules.specs.declared.fault.AnalysisFault.{AnalysisFault}
use Rattle.aqe_rules.specs.declared.names.Named.{Named}
use Rattle.aqe_rules.specs.declared.typed.Typed.{Typed}
use Rattle.aqe_rules.specs.Faults.{Says, Fails}
use Rattle.aqe_rules.specs.Grouping.{grouped, grouped_list, grouped_pairs, from_key, call_behind}
use Rattle.aqe_rules.specs.Operations.{typed}
use Rattle.aqe_rules.specs.Outcomes.{Outcome, refused, upon}
use Rattle.aqe_rules.specs.Selects.{built_of_groups}
use Rattle.aqe_rules.proofs.Steps.{memory_fails}
use Rattle.aqe_typing.proofs.StepLemmas.{upon_fails}
use Rattle.aqe_sources.specs.Given.{Gives}
use Rattle.aqe_sources.specs.Pairs.{both_of}
use Rattle.aqe_grouping.specs.Keys.{exprs_of, names_of, key_or}
use Rattle.aqe_grouping.proofs.PartSteps.{given, on_one, on_two, on_three}

-- a column that is no key
pub not_grouped : (keys : ℕ) (columns : List Named) (n : ℕ) (c : Named) → slice_get columns n ≡ Some c → call_behind keys (names_of columns) n ≡ Err (refused NotGrouped c.name)
not_grouped keys [] n c e = absurd (cc e)
not_grouped keys (d ∷ columns) zero c e = cc e
not_grouped keys (d ∷ columns) (suc n) c e = not_grouped keys columns n c e

call_at : (keys : ℕ) (columns : List Named) (call : ℕ) → call_behind keys (names_of columns) (length columns + call) ≡ Ok (Column (keys + call))
call_at keys [] call =
    let none : 0 + call ≡ call = omega arith in
    ap (λ n. Ok (Column (keys + n))) none
call_at keys (d ∷ columns) call =
    let next : suc (length columns) + call ≡ suc (length columns + call) = omega arith in
    ap (λ n. call_behind keys (names_of (d ∷ columns)) n) next ∙ call_at keys columns call

pub call_there : (keys : ℕ) (columns : List Named) (n call : ℕ) → n ≡ length columns + call → call_behind keys (names_of columns) n ≡ Ok (Column (keys + call))
call_there keys columns n call e = ap (λ m. call_behind keys (names_of columns) m) e ∙ call_at keys columns call

module _ (keys : List Expr) (names : List (List ℕ)) where
  -- an expression that equals no key
  abbrev by_form : Expr → Outcome Expr
  by_form (Column n) = call_behind (length keys) names n
  by_form (Literal v) = Ok (Literal v)
  by_form (unary_of op a) = upon (grouped keys names a) (λ x. Ok (unary_of op x))
  by_form (binary_of op a b) = upon (grouped keys names a) (λ x. upon (grouped keys names b) (λ y. Ok (binary_of op x y)))
  by_form (between_of a l h) = upon (grouped keys names a) (λ x. upon (grouped keys names l) (λ y. upon (grouped keys names h) (λ z. Ok (between_of x y z))))
  by_form (one_of a all) = upon (grouped keys names a) (λ x. upon (grouped_list keys names all) (λ y. Ok (one_of x y)))
  by_form (case_of arms e) = upon (grouped_pairs keys names arms) (λ x. upon (grouped keys names e) (λ y. Ok (case_of x y)))
  by_form (switch_of a arms e) = upon (grouped keys names a) (λ x. upon (grouped_pairs keys names arms) (λ y. upon (grouped keys names e) (λ z. Ok (switch_of x y z))))
  by_form (Coalesce all) = upon (grouped_list keys names all) (λ x. Ok (Coalesce x))

  in_steps : (e : Expr) → grouped keys names e ≡ from_key keys 0 e (by_form e)
  in_steps (Column n) = refl
  in_steps (Literal v) = refl
  in_steps (unary_of op a) = refl
  in_steps (binary_of op a b) = refl
  in_steps (between_of a l h) = refl
  in_steps (one_of a all) = refl
  in_steps (case_of arms e) = refl
  in_steps (switch_of a arms e) = refl
  in_steps (Coalesce all) = refl

  module _ (e : Expr) (found : Option ℕ) (h : (other : Outcome Expr) → key_or found other ≡ from_key keys 0 e other) where
    as_found : grouped keys names e ≡ key_or found (by_form e)
    as_found = in_steps e ∙ sym (h (by_form e))

    pub key_said : (place : ℕ) (r : Result Expr AnalysisFault) → found ≡ Some place → Gives r (λ x. x ≡ Column place) → Says r (grouped keys names e)
    key_said place r is g = given r (grouped keys names e) (Column place) (as_found ∙ ap (λ (o : Option ℕ). key_or o (by_form e)) is) g

    module _ (never : (place : ℕ) → found ≢ Some place) (r : Result Expr AnalysisFault) where
      without : (o : Option ℕ) (other : Outcome Expr) → ((place : ℕ) → o ≢ Some place) → key_or o other ≡ other
      without None other none = refl
      without (Some place) other none = absurd (none place refl)

      formed : (form : Expr) → e ≡ form → Says r (by_form form) → Says r (grouped keys names e)
      formed form is s =
          subst (λ (o : Outcome Expr). Says r o) (sym (as_found ∙ without found (by_form e) never ∙ ap by_form is)) s

      pub column_said : (n : ℕ) → e ≡ Column n → Says r (call_behind (length keys) names n) → Says r (grouped keys names e)
      column_said n is s = formed (Column n) is s

      pub literal_said : (v : Value) → e ≡ Literal v → Gives r (λ x. x ≡ Literal v) → Says r (grouped keys names e)
      literal_said v is g = formed (Literal v) is (given r (Ok (Literal v)) (Literal v) refl g)

      pub unary_said : (op : UnaryOp) (a : Expr) (x : Result Expr AnalysisFault) → e ≡ Unary op a → Says x (grouped keys names a) →
          MatchResult x (λ b. Gives r (λ y. y ≡ Unary op b)) (λ f. r ≡ Err f) → Says r (grouped keys names e)
      unary_said op a x is s m = formed (unary_of op a) (is ∙ is_unary op a)
          (subst (λ (o : Outcome Expr). Says r o) (λ i. upon (grouped keys names a) (λ b. Ok (is_unary op b i))) (on_one x r (grouped keys names a) (λ b. Unary op b) s m))

      pub binary_said : (op : BinaryOp) (a b : Expr) (x y : Result Expr AnalysisFault) (parts : Result (Expr × Expr) AnalysisFault) → e ≡ Binary op a b → Says x (grouped keys names a) →
          Says y (grouped keys names b) → parts ≡ both_of x y → MatchResult parts (λ p. Gives r (λ z. z ≡ Binary op p.0 p.1)) (λ f. r ≡ Err f) → Says r (grouped keys names e)
      binary_said op a b x y parts is s t both m =
          formed (binary_of op a b) (is ∙ is_binary op a b)
          (subst (λ (o : Outcome Expr). Says r o) (λ i. upon (grouped keys names a) (λ c. upon (grouped keys names b) (λ d. Ok (is_binary op c d i))))
          (on_two x y r (grouped keys names a) (grouped keys names b) (λ c d. Binary op c d) s t
          (subst (λ (q : Result (Expr × Expr) AnalysisFault). MatchResult q (λ p. Gives r (λ z. z ≡ Binary op p.0 p.1)) (λ f. r ≡ Err f)) both m)))

      pub between_said : (a l u : Expr) (x y z : Result Expr AnalysisFault) (ends : Result (Expr × Expr) AnalysisFault) (parts : Result (Expr × (Expr × Expr)) AnalysisFault) → e ≡ Between a l u →
          Says x (grouped keys names a) → Says y (grouped keys names l) → Says z (grouped keys names u) → ends ≡ both_of y z → parts ≡ both_of x ends →
          MatchResult parts (λ p. Gives r (λ w. w ≡ Between p.0 p.1.0 p.1.1)) (λ f. r ≡ Err f) → Says r (grouped keys names e)
      between_said a l u x y z ends parts is s t v both all m =
          formed (between_of a l u) (is ∙ is_between a l u)
          (subst (λ (o : Outcome Expr). Says r o) (λ i. upon (grouped keys names a) (λ b. upon (grouped keys names l) (λ c. upon (grouped keys names u) (λ d. Ok (is_between b c d i)))))
          (on_three x y z r (grouped keys names a) (grouped keys names l) (grouped keys names u) (λ b c d. Between b c d) s t v
          (subst (λ (q : Result (Expr × (Expr × Expr)) AnalysisFault). MatchResult q (λ p. Gives r (λ w. w ≡ Between p.0 p.1.0 p.1.1)) (λ f. r ≡ Err f))
          (all ∙ ap (λ (q : Result (Expr × Expr) AnalysisFault). both_of x q) both) m)))

      pub one_of_said : (a : Expr) (l : Operands) (x : Result Expr AnalysisFault) (y : Result Operands AnalysisFault) (parts : Result (Expr × Operands) AnalysisFault) → e ≡ OneOf a l →
          Says x (grouped keys names a) → Says y (grouped_list keys names l) → parts ≡ both_of x y → MatchResult parts (λ p. Gives r (λ z. z ≡ OneOf p.0 p.1)) (λ f. r ≡ Err f) →
          Says r (grouped keys names e)
      one_of_said a l x y parts is s t both m =
          formed (one_of a l) (is ∙ is_one_of a l)
          (subst (λ (o : Outcome Expr). Says r o) (λ i. upon (grouped keys names a) (λ b. upon (grouped_list keys names l) (λ c. Ok (is_one_of b c i))))
          (on_two x y r (grouped keys names a) (grouped_list keys names l) (λ b c. OneOf b c) s t
          (subst (λ (q : Result (Expr × Operands) AnalysisFault). MatchResult q (λ p. Gives r (λ z. z ≡ OneOf p.0 p.1)) (λ f. r ≡ Err f)) both m)))

      pub case_said : (arms : CasePairs) (o : Expr) (x : Result CasePairs AnalysisFault) (y : Result Expr AnalysisFault) (parts : Result (CasePairs × Expr) AnalysisFault) → e ≡ Case arms o →
          Says x (grouped_pairs keys names arms) → Says y (grouped keys names o) → parts ≡ both_of x y → MatchResult parts (λ p. Gives r (λ z. z ≡ Case p.0 p.1)) (λ f. r ≡ Err f) →
          Says r (grouped keys names e)
      case_said arms o x y parts is s t both m =
          formed (case_of arms o) (is ∙ is_case arms o)
          (subst (λ (o : Outcome Expr). Says r o) (λ i. upon (grouped_pairs keys names arms) (λ b. upon (grouped keys names o) (λ c. Ok (is_case b c i))))
          (on_two x y r (grouped_pairs keys names arms) (grouped keys names o) (λ b c. Case b c) s t
          (subst (λ (q : Result (CasePairs × Expr) AnalysisFault). MatchResult q (λ p. Gives r (λ z. z ≡ Case p.0 p.1)) (λ f. r ≡ Err f)) both m)))

      pub switch_said : (a : Expr) (arms : CasePairs) (o : Expr) (x : Result Expr AnalysisFault) (y : Result CasePairs AnalysisFault) (z : Result Expr AnalysisFault)
          (ends : Result (CasePairs × Expr) AnalysisFault) (parts : Result (Expr × (CasePairs × Expr)) AnalysisFault) → e ≡ Switch a arms o → Says x (grouped keys names a) →
          Says y (grouped_pairs keys names arms) → Says z (grouped keys names o) → ends ≡ both_of y z → parts ≡ both_of x ends →
          MatchResult parts (λ p. Gives r (λ w. w ≡ Switch p.0 p.1.0 p.1.1)) (λ f. r ≡ Err f) → Says r (grouped keys names e)
      switch_said a arms o x y z ends parts is s t v both all m =
          formed (switch_of a arms o) (is ∙ is_switch a arms o)
          (subst (λ (o : Outcome Expr). Says r o) (λ i. upon (grouped keys names a) (λ b. upon (grouped_pairs keys names arms) (λ c. upon (grouped keys names o) (λ d. Ok (is_switch b c d i)))))
          (on_three x y z r (grouped keys names a) (grouped_pairs keys names arms) (grouped keys names o) (λ b c d. Switch b c d) s t v
          (subst (λ (q : Result (Expr × (CasePairs × Expr)) AnalysisFault). MatchResult q (λ p. Gives r (λ w. w ≡ Switch p.0 p.1.0 p.1.1)) (λ f. r ≡ Err f))
          (all ∙ ap (λ (q : Result (CasePairs × Expr) AnalysisFault). both_of x q) both) m)))

      pub coalesce_said : (l : Operands) (x : Result Operands AnalysisFault) → e ≡ Coalesce l → Says x (grouped_list keys names l) →
          MatchResult x (λ b. Gives r (λ y. y ≡ Coalesce b)) (λ f. r ≡ Err f) → Says r (grouped keys names e)
      coalesce_said l x is s m = formed (Coalesce l) is (on_one x r (grouped_list keys names l) (λ b. Coalesce b) s m)

pub ruleset form_steps = (column_said, literal_said, coalesce_said)

-- the whole expression, with its type
module _ (keys : List Typed) (columns : List Named) (value : Typed) (a : Result Expr AnalysisFault) (h : Says a (grouped (exprs_of keys) (names_of columns) value.expr)) where
  pub built_there : (e : Expr) → a ≡ Ok e → built_of_groups keys columns value ≡ Ok (typed e value.kind)
  built_there e is =
      let there : grouped (exprs_of keys) (names_of columns) value.expr ≡ Ok e = subst (λ (r : Result Expr AnalysisFault). Says r (grouped (exprs_of keys) (names_of columns) value.expr)) is h in
      rw there refl

  pub built_fails : (f : AnalysisFault) → a ≡ Err f → Fails f (built_of_groups keys columns value)
  built_fails f is =
      upon_fails f (grouped (exprs_of keys) (names_of columns) value.expr) (λ e. Ok (typed e value.kind))
      (subst (λ (r : Result Expr AnalysisFault). Says r (grouped (exprs_of keys) (names_of columns) value.expr)) is h)

pub ruleset built_steps = (memory_fails, built_there, built_fails)
