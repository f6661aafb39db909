-- The faults of a source.
use Rattle.std.specs.Prelude.{ℕ, Bool, true, false}
use Rattle.aqe_lexer.specs.declared.fault.Fault.{Fault}
use Rattle.aqe_lexer.specs.declared.fault.Fault.TheVariants as fault
use Rattle.aqe_lexer.specs.declared.fault.LexFault.{LexFault}
use Rattle.aqe_lexer.specs.declared.fault.LexFault.TheVariants as lex

-- something that was begun has no end
abbrev pub is_open : Fault → Bool
is_open fault.BadByte = false
is_open fault.OpenComment = true
is_open fault.OpenString = true
is_open fault.OpenQuote = true
is_open fault.BadEscape = false
is_open fault.WideNumber = false

-- the fault as callers are told it: a comment without its end is a bad byte where it begins
abbrev pub told_of : Fault → ℕ → LexFault
told_of fault.BadByte at = lex.BadByte at
told_of fault.OpenComment at = lex.BadByte at
told_of fault.OpenString at = lex.OpenString at
told_of fault.OpenQuote at = lex.OpenQuote at
told_of fault.BadEscape at = lex.BadEscape at
told_of fault.WideNumber at = lex.WideNumber at
