-- the text holds what was printed so far
use Rattle.std.proofs.Common.{◌≡◌, ◌++◌, take}
use Rattle.std.specs.List.{flat_map}
use Rattle.aqe_texts.specs.ResultText.{row_text}
use Rattle.aqe_texts.proofs.text.push_rows.Given as goal

abbrev pub invariant-rows : goal.invariant-rows
invariant-rows l = l.text.items ≡ l.initial.text.items ++ flat_map row_text (take l.row-index l.rows)
