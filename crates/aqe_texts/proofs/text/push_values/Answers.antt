use Rattle.aqe_texts.specs.ResultText.{value_text}
use Rattle.aqe_texts.proofs.TextFacts.{joined_parts}
use Rattle.aqe_texts.proofs.text.push_values.Goals as goal

pub returns-in_ok-push_next_values-in-Some : goal.returns-in_ok-push_next_values-in-Some
returns-in_ok-push_next_values-in-Some c =
    joined_parts 9 value_text c.args.values.now c.in-Some.rest.now c.in-Some.first.now c.args.text.now.items _ _ c.in-Some.ensures.cases.0
    c.in_ok-push_value-in-Some.ensures c.in_ok-push_next_values-in-Some.ensures
