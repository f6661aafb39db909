-- the text holds what was printed so far
use Rattle.std.proofs.Common.{◌≡◌, ◌++◌, ◌∷◌, take}
use Rattle.std.specs.List.{flat_map}
use Rattle.aqe_texts.specs.ResultText.{value_text}
use Rattle.aqe_texts.proofs.text.push_next_values.Given as goal

abbrev pub invariant-values : goal.invariant-values
invariant-values l = l.text.items ≡ l.initial.text.items ++ flat_map (λ value. 9 ∷ value_text value) (take l.value-index l.values)
