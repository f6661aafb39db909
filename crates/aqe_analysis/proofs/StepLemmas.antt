-- The steps of the walk, over what their parts came to.
use Rattle.std.proofs.Common.{◌≡◌, ℕ, List, [], ◌∷◌, Option, None, Result, Ok, Err, refl, subst, sym, cond}
use Rattle.std.specs.Prelude.{MatchResult}
use Rattle.aqe_logical.specs.declared.plan.Logical.{Logical}
use Rattle.aqe_trees.specs.declared.query.SortTree.{SortTree}
use Rattle.aqe_rules.specs.declared.fault.AnalysisFault.{AnalysisFault}
use Rattle.aqe_rules.specs.Analysis.{cut}
use Rattle.aqe_rules.specs.Faults.{Says, Fails}
use Rattle.aqe_rules.specs.Limits.{within_limits}
use Rattle.aqe_rules.specs.Outcomes.{Outcome, upon}
use Rattle.aqe_rules.specs.Plans.{ordered}
use Rattle.aqe_rules.proofs.Steps.{memory_fails}
use Rattle.aqe_typing.proofs.StepLemmas.{upon_fails}
use Rattle.aqe_sources.specs.Pairs.{both_of}

-- the plan between OFFSET and LIMIT
pub cut_made : (limit offset : Option ℕ) (q p : Logical) (r : Result Logical AnalysisFault) → p ≡ cut limit offset q → Says r (within_limits p) → Says r (within_limits (cut limit offset q))
cut_made limit offset q p r e h = subst (λ (x : Logical). Says r (within_limits x)) e h

pub ruleset cut_steps = (memory_fails, cut_made)

-- a rule on both sides, over what they came to
pub sides_say : (rule : Logical → Logical → Outcome Logical) (o p : Outcome Logical) (a b r : Result Logical AnalysisFault) → Says a o → Says b p →
    MatchResult (both_of a b) (λ s. Says r (rule s.0 s.1)) (λ f. r ≡ Err f) → Says r (upon o (λ l. upon p (rule l)))
sides_say rule o p (Ok x) (Ok y) r h k g = rw (h, k) g
sides_say rule o p (Ok x) (Err f) r h k g = rw (g, h) (upon_fails f p (rule x) k)
sides_say rule o p (Err f) b r h k g = rw g (upon_fails f o (λ l. upon p (rule l)) h)
