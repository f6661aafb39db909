use Rattle.std.proofs.Common.{length, string_bytes, All}
use Rattle.aqe_lexer.specs.Spans.{StandsIn}
use Rattle.aqe_script.proofs.SettingLemmas.{KeyLeft}
use Rattle.aqe_script.proofs.setting.setting_key.Given as goal

abbrev pub invariant-points : goal.invariant-points
invariant-points l = All (StandsIn l.source) l.rest × KeyLeft l.source l.tokens l.rest (string_bytes l.key)

abbrev pub decreases-points : goal.decreases-points
decreases-points l = length l.rest
