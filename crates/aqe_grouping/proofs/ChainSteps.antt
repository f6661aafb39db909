-- Chains over the rows of groups, one item more at a time.
use Rattle.std.proofs.Common.{◌≡◌, ◌≢◌, ℕ, List, [], ◌∷◌, ◌++◌, Result, Ok, Err, refl, ap, sym, subst, ◌∙◌}
use Rattle.std.specs.Prelude.{MatchResult}
use Rattle.aqe_expr.specs.Chains.{in_front, pairs_in_front}
use Rattle.aqe_expr.specs.declared.expr.Expr.{Expr}
use Rattle.aqe_expr.specs.declared.expr.Operands.{Operands}
use Rattle.aqe_expr.specs.declared.expr.Operands as list
use Rattle.aqe_expr.specs.declared.expr.Operands.TheVariants as chain
use Rattle.aqe_expr.specs.declared.expr.CasePairs.{CasePairs}
use Rattle.aqe_expr.specs.declared.expr.CasePairs as pairs
use Rattle.aqe_expr.specs.declared.expr.CasePairs.TheVariants as arms
use Rattle.aqe_expr.specs.Shapes.{operand, pair}
use Rattle.aqe_expr.proofs.Shapes.{is_operand, is_pair}
use Rattle.aqe_expr.proofs.InFront.{in_front_push, pairs_in_front_push}
use Rattle.aqe_rules.specs.declared.fault.AnalysisFault.{AnalysisFault}
use Rattle.aqe_rules.specs.Faults.{Says}
use Rattle.aqe_rules.specs.Grouping.{grouped, grouped_list, grouped_pairs}
use Rattle.aqe_rules.specs.Outcomes.{Outcome, upon}
use Rattle.aqe_sources.specs.Given.{Gives}
use Rattle.aqe_sources.specs.Pairs.{both_of}
use Rattle.aqe_grouping.specs.Several.{with_next}
use Rattle.aqe_grouping.proofs.PartSteps.{on_one, on_two, both_outcomes, both_say}

-- one more behind those so far
pub more_said : {T : Type 0} (a : Result (List T) AnalysisFault) (b : Result T AnalysisFault) (r : Result (List T) AnalysisFault) (o : Outcome (List T)) (p : Outcome T) → Says a o → Says b p →
    MatchResult (both_of a b) (λ q. Gives r (λ all. all ≡ q.0 ++ q.1 ∷ [])) (λ f. r ≡ Err f) → Says r (with_next o p)
more_said a b r o p h k m = on_two a b r o p (λ ts t. ts ++ t ∷ []) h k m

as_it_is : {T : Type 0} (o : Outcome T) → upon o (λ t. Ok t) ≡ o
as_it_is (Ok t) = refl
as_it_is (Err check) = refl

module _ (keys : List Expr) (names : List (List ℕ)) where
  -- The items so far, in front of those that are left, make the whole chain.
  abbrev list_whole : Outcome (List Expr) → Operands → Outcome Operands
  list_whole o rest = upon o (λ es. upon (grouped_list keys names rest) (λ l. Ok (in_front es l)))

  abbrev pub ListLeft : Result (List Expr) AnalysisFault → Operands → Outcome Operands → Type 0
  ListLeft made rest whole = (o : Outcome (List Expr)) × Says made o × (list_whole o rest ≡ whole)

  pub list_begun : (rest : Operands) (made : Result (List Expr) AnalysisFault) → made ≡ Ok [] → ListLeft made rest (grouped_list keys names rest)
  list_begun rest made is = (Ok [], rw is refl, as_it_is (grouped_list keys names rest))

  list_step : (o : Outcome (List Expr)) (p : Outcome Expr) (q : Outcome Operands) → upon (with_next o p) (λ es. upon q (λ l. Ok (in_front es l))) ≡
      upon o (λ es. upon (upon p (λ x. upon q (λ y. Ok (operand x y)))) (λ l. Ok (in_front es l)))
  list_step (Ok es) (Ok e) (Ok l) = ap (λ (c : Operands). Ok c) (in_front_push es e l ∙ ap (in_front es) (is_operand e l))
  list_step (Ok es) (Ok e) (Err check) = refl
  list_step (Ok es) (Err check) q = refl
  list_step (Err check) p q = refl

  pub list_turned : (ls : Operands) (i : Expr) (r : Operands) (made now : Result (List Expr) AnalysisFault) (g : Result Expr AnalysisFault) {whole : Outcome Operands} → ls ≡ chain.More i r →
      ListLeft made ls whole → ((o : Outcome (List Expr)) (p : Outcome Expr) → Says made o → Says g p → Says now (with_next o p)) → Says g (grouped keys names i) → ListLeft now r whole
  list_turned ls i r made now g is left step said = (
    with_next left.0 (grouped keys names i),
    step left.0 (grouped keys names i) left.1 said,
    list_step left.0 (grouped keys names i) (grouped_list keys names r) ∙ ap (list_whole left.0) (sym (is ∙ is_operand i r)) ∙ left.2,
  )

  list_end : (o : Outcome (List Expr)) → upon o (λ es. Ok (in_front es list.End)) ≡ list_whole o list.End
  list_end (Ok es) = refl
  list_end (Err check) = refl

  pub list_ended : (ls : Operands) (made : Result (List Expr) AnalysisFault) (r : Result Operands AnalysisFault) {whole : Outcome Operands} → ((i : Expr) (more : Operands) → ls ≢ chain.More i more) →
      ListLeft made ls whole → MatchResult made (λ items. Gives r (λ l. l ≡ in_front items list.End)) (λ f. r ≡ Err f) → Says r whole
  list_ended list.End made r never left m =
      subst (λ (o : Outcome Operands). Says r o) (list_end left.0 ∙ left.2) (on_one made r left.0 (λ es. in_front es list.End) left.1 m)
  list_ended (operand i more) made r never left m = absurd (never i more (sym (is_operand i more)))

  -- the same of pairs
  abbrev pairs_whole : Outcome (List (Expr × Expr)) → CasePairs → Outcome CasePairs
  pairs_whole o rest = upon o (λ ps. upon (grouped_pairs keys names rest) (λ l. Ok (pairs_in_front ps l)))

  abbrev pub PairsLeft : Result (List (Expr × Expr)) AnalysisFault → CasePairs → Outcome CasePairs → Type 0
  PairsLeft made rest whole = (o : Outcome (List (Expr × Expr))) × Says made o × (pairs_whole o rest ≡ whole)

  pub pairs_begun : (rest : CasePairs) (made : Result (List (Expr × Expr)) AnalysisFault) → made ≡ Ok [] → PairsLeft made rest (grouped_pairs keys names rest)
  pairs_begun rest made is = (Ok [], rw is refl, as_it_is (grouped_pairs keys names rest))

  pairs_step : (o : Outcome (List (Expr × Expr))) (p q : Outcome Expr) (s : Outcome CasePairs) → upon (with_next o (both_outcomes p q)) (λ ps. upon s (λ l. Ok (pairs_in_front ps l))) ≡
      upon o (λ ps. upon (upon p (λ x. upon q (λ y. upon s (λ z. Ok (pair x y z))))) (λ l. Ok (pairs_in_front ps l)))
  pairs_step (Ok ps) (Ok t) (Ok g) (Ok l) = ap (λ (c : CasePairs). Ok c) (pairs_in_front_push ps t g l ∙ ap (pairs_in_front ps) (is_pair t g l))
  pairs_step (Ok ps) (Ok t) (Ok g) (Err check) = refl
  pairs_step (Ok ps) (Ok t) (Err check) s = refl
  pairs_step (Ok ps) (Err check) q s = refl
  pairs_step (Err check) p q s = refl

  pub pairs_turned : (ls : CasePairs) (t g : Expr) (r : CasePairs) (made now : Result (List (Expr × Expr)) AnalysisFault) (x y : Result Expr AnalysisFault) (z : Result (Expr × Expr) AnalysisFault)
      {whole : Outcome CasePairs} → ls ≡ arms.More t g r → PairsLeft made ls whole →
      ((o : Outcome (List (Expr × Expr))) (p : Outcome (Expr × Expr)) → Says made o → Says z p → Says now (with_next o p)) → z ≡ both_of x y → Says x (grouped keys names t) → Says y (grouped keys names g) →
      PairsLeft now r whole
  pairs_turned ls t g r made now x y z is left step both h k =
      let p = both_outcomes (grouped keys names t) (grouped keys names g) in
      let said : Says z p = rw both (both_say x y (grouped keys names t) (grouped keys names g) h k) in (
        with_next left.0 p,
        step left.0 p left.1 said,
        pairs_step left.0 (grouped keys names t) (grouped keys names g) (grouped_pairs keys names r) ∙ ap (pairs_whole left.0) (sym (is ∙ is_pair t g r)) ∙ left.2,
      )

  pairs_end : (o : Outcome (List (Expr × Expr))) → upon o (λ ps. Ok (pairs_in_front ps pairs.End)) ≡ pairs_whole o pairs.End
  pairs_end (Ok ps) = refl
  pairs_end (Err check) = refl

  pub pairs_ended : (ls : CasePairs) (made : Result (List (Expr × Expr)) AnalysisFault) (r : Result CasePairs AnalysisFault) {whole : Outcome CasePairs} →
      ((t g : Expr) (more : CasePairs) → ls ≢ arms.More t g more) → PairsLeft made ls whole →
      MatchResult made (λ items. Gives r (λ l. l ≡ pairs_in_front items pairs.End)) (λ f. r ≡ Err f) → Says r whole
  pairs_ended pairs.End made r never left m =
      subst (λ (o : Outcome CasePairs). Says r o) (pairs_end left.0 ∙ left.2) (on_one made r left.0 (λ ps. pairs_in_front ps pairs.End) left.1 m)
  pairs_ended (pair t g more) made r never left m = absurd (never t g more (sym (is_pair t g more)))
