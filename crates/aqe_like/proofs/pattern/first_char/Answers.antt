use Rattle.std.proofs.Common.{rules}
use Rattle.std.proofs.lemmas.Str.{chars_past_char}
use Rattle.aqe_like.proofs.pattern.first_char.Goals as goal

pub returns-clause-char : goal.returns-clause-char
returns-clause-char c = search (rules, chars_past_char)
