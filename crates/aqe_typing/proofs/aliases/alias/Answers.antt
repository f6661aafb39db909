use Rattle.std.proofs.Common.{◌≡◌, ℕ, List, ◌∷◌, ap, subst, ◌∙◌}
use Rattle.aqe_base.specs.declared.status.AnalysisKind.TheVariants.{NoSuchColumn, Ambiguous}
use Rattle.aqe_trees.specs.declared.expression.OrTree.{OrTree}
use Rattle.aqe_rules.specs.Outcomes.{refused}
use Rattle.aqe_rules.specs.Faults.{Tells}
use Rattle.aqe_typing.specs.Calls.{calls_seen}
use Rattle.aqe_typing.specs.Aliases.{under_aliases}
use Rattle.aqe_typing.proofs.AliasSteps.{no_alias, several_aliases}
use Rattle.aqe_typing.proofs.aliases.alias.Goals as goal

pub returns-in_default : goal.returns-in_default
returns-in_default c =
    no_alias c.args.name.now c.args.columns.now (calls_seen c.args.calls.now) c.args.list.now c.refused.result c.in_default.ensures
    (subst (λ (name : List ℕ). Tells c.refused.result (refused NoSuchColumn name)) c.as_str.ensures.value c.refused.ensures)

pub returns-in-Some-first_named : goal.returns-in-Some-first_named
returns-in-Some-first_named c =
    let name = c.args.name.now in
    let value = c.in-Some.value.now in
    let next = c.in-Some-first_named.field-0 in
    let first : under_aliases name c.args.list.now ≡ value ∷ under_aliases name c.in-Some.behind.now = rw (c.in-Some.value-is, c.in-Some.behind-is) at c.in-Some.ensures in
    let second : under_aliases name c.in-Some.behind.now ≡ next.0.now ∷ under_aliases name next.1.now = c.in-Some-first_named.ensures in
    several_aliases name c.args.columns.now (calls_seen c.args.calls.now) c.args.list.now c.refused-in-Some-first_named.result value next.0.now (under_aliases name next.1.now)
    (first ∙ ap (λ (trees : List OrTree). value ∷ trees) second)
    (subst (λ (text : List ℕ). Tells c.refused-in-Some-first_named.result (refused Ambiguous text)) c.as_str-in-Some-first_named.ensures.value c.refused-in-Some-first_named.ensures)
