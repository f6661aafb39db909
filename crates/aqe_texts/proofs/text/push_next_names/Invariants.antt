-- the text holds what was printed so far
use Rattle.std.proofs.Common.{◌≡◌, ◌++◌, ◌∷◌, take}
use Rattle.std.specs.List.{flat_map}
use Rattle.aqe_texts.specs.ResultText.{escaped}
use Rattle.aqe_texts.proofs.text.push_next_names.Given as goal

abbrev pub invariant-columns : goal.invariant-columns
invariant-columns l = l.text.items ≡ l.initial.text.items ++ flat_map (λ column. 9 ∷ escaped column.name) (take l.column-index l.columns)
