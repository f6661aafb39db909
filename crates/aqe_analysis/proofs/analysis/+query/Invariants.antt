use Rattle.std.proofs.Common.{◌≡◌, drop, map}
use Rattle.aqe_logical.specs.declared.plan.Logical.{Logical}
use Rattle.aqe_rules.specs.Analysis as analysis
use Rattle.aqe_rules.specs.Outcomes.{Outcome}
use Rattle.aqe_rules.specs.QueryTrees.{made_of_union, made_of_joined}
use Rattle.aqe_rules.specs.Sources.{from_all}
use Rattle.aqe_sources.specs.Catalogs.{seen}
use Rattle.aqe_sources.specs.Seen.{from_seen}
use Rattle.aqe_analysis.specs.Steps.{union_in_order}
use Rattle.aqe_analysis.proofs.QuerySteps.{core_more, cross_more, join_more}
use Rattle.aqe_analysis.proofs.Turns.{Left}
use Rattle.aqe_analysis.proofs.analysis.+query.Given as goal

abbrev pub invariant-union-more : goal.invariant-union-more
invariant-union-more l =
    (w : Outcome Logical) × Left (λ (p : Logical). p) (core_more (seen l.catalog)) l.plan (drop l.next-index l.rest) w ×
    (made_of_union analysis.rules l.tree (seen l.catalog) l.order ≡ union_in_order l.lone l.order w)

abbrev pub invariant-from-more : goal.invariant-from-more
invariant-from-more l = Left from_seen (cross_more (seen l.catalog)) l.plan (drop l.next-index l.rest) (from_all (seen l.catalog) (map (made_of_joined analysis.rules) l.sources))

abbrev pub invariant-joined-steps : goal.invariant-joined-steps
invariant-joined-steps l = Left from_seen (join_more (seen l.catalog)) l.plan (drop l.step-index l.steps) (made_of_joined analysis.rules l.tree (seen l.catalog))
