use Rattle.std.proofs.Common.{◌≡◌, ◌++◌, take}
use Rattle.std.specs.List.{flat_map}
use Rattle.aqe_phrases.specs.Texts as texts
use Rattle.aqe_phrases.proofs.word.all_escaped.Given as goal

abbrev pub invariant-bytes : goal.invariant-bytes
invariant-bytes l = l.out.items ≡ l.initial.out.items ++ flat_map texts.escaped (take l.b-index l.text)
