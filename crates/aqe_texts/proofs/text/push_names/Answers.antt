use Rattle.aqe_values.specs.declared.schema.Field.{Field}
use Rattle.aqe_texts.specs.ResultText.{escaped}
use Rattle.aqe_texts.proofs.TextFacts.{joined_parts}
use Rattle.aqe_texts.proofs.text.push_names.Goals as goal

pub returns-in_ok-push_next_names-in-Some : goal.returns-in_ok-push_next_names-in-Some
returns-in_ok-push_next_names-in-Some c =
    joined_parts 9 (λ (column : Field). escaped column.name) c.args.columns.now c.in-Some.rest.now c.in-Some.first.now c.args.text.now.items _ _ c.in-Some.ensures.cases.0
    c.in_ok-push_name-in-Some.ensures c.in_ok-push_next_names-in-Some.ensures
