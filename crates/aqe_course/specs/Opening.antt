-- The script that the words name, and why there is none.
use Rattle.std.specs.Prelude.{◌≡◌, ◌≤◌, ℕ, List, length, Some, IsTrue, IsFalse, Result, Ok, Err}
use Rattle.aqe_base.specs.declared.status.Status.{Status}
use Rattle.aqe_base.specs.declared.status.Status.TheVariants as status
use Rattle.aqe_base.specs.declared.status.SyntaxKind.TheVariants as syntax
use Rattle.aqe_base.specs.declared.status.LimitKind.TheVariants as limit
use Rattle.aqe_values.specs.Bounds.{text_limit}
use Rattle.aqe_store.specs.Files.{Entries, IsHeld, content_of}
use Rattle.aqe_store.specs.Reading.{IsLonger}
use Rattle.aqe_lexer.specs.declared.fault.LexFault.{LexFault}
use Rattle.aqe_lexer.specs.declared.fault.LexFault.TheVariants as lex
use Rattle.aqe_lexer.specs.declared.token.Token.{Token}
use Rattle.aqe_lexer.specs.TokenList.{IsTokenList, FirstFault}
use Rattle.aqe_trees.specs.declared.statement.Stmt.{Stmt}
use Rattle.aqe_script.specs.Statements.{IsScript}
use Rattle.aqe_script.specs.Depth.{IsTooOpen}
use Rattle.aqe_syntax.specs.Causes.{IsTaken, IsTooDeep}
use Rattle.aqe_built.specs.Built.{is_script_built}
use Rattle.aqe_course.specs.Command.{Command}

-- what is wrong at the first place without a token
abbrev pub of_lex : LexFault → Status
of_lex (lex.BadByte at) = status.Syntax syntax.BadByte
of_lex (lex.OpenString at) = status.Syntax syntax.OpenString
of_lex (lex.OpenQuote at) = status.Syntax syntax.OpenQuote
of_lex (lex.BadEscape at) = status.Syntax syntax.BadEscape
of_lex (lex.WideNumber at) = status.Syntax syntax.WideNumber
of_lex lex.Memory = status.Memory

-- a source is this script, which is carried out so far
pub record IsSource (source : List ℕ) (script : List Stmt) : Type 0 where
  pub tokens : List Token
  pub are : IsTokenList source tokens
  pub taken : IsTaken source tokens script
  pub built : IsTrue (is_script_built script)

-- A source is refused: it has no tokens; or they are no script, and none of them is open too deep; or they are open or nested
-- too deep; or they are a script with a form that is not carried out so far.
pub data IsRefusedSource (source : List ℕ) (end : Status) : Type 0 where
  no_tokens : (fault : LexFault) → FirstFault source fault → end ≡ of_lex fault → IsRefusedSource source end
  no_sentence : (tokens : List Token) → IsTokenList source tokens → ((script : List Stmt) → IsScript source tokens script → ⊥)
      → (IsTooOpen source tokens → ⊥) → end ≡ status.Syntax syntax.NotASentence → IsRefusedSource source end
  too_deep : (tokens : List Token) → IsTokenList source tokens → IsTooDeep source tokens → end ≡ status.Limit limit.Depth
      → IsRefusedSource source end
  not_built : (tokens : List Token) (script : List Stmt) → IsTokenList source tokens → IsTaken source tokens script
      → IsFalse (is_script_built script) → end ≡ status.NotBuilt → IsRefusedSource source end

-- What comes of a file that the run needs: its content, of at most 64 MiB, or the refusal that it is missing or too long.
pub data Needed (files : Entries) (path : List ℕ) (found : Result (List ℕ) Status) : Type 0 where
  there : (content : List ℕ) → content_of files path ≡ Some content → length content ≤ text_limit → found ≡ Ok content → Needed files path found
  missing : (IsHeld files path → ⊥) → found ≡ Err status.Missing → Needed files path found
  too_long : IsLonger files path text_limit → found ≡ Err (status.Limit limit.FileBytes) → Needed files path found

-- the command names this script
pub record IsOpened (files : Entries) (said : Command) (script : List Stmt) : Type 0 where
  pub source : List ℕ
  pub has : Needed files said.path (Ok source)
  pub is : IsSource source script

-- there is no script to carry out: its file is not had, or its source is refused
pub data IsNotOpened (files : Entries) (said : Command) (end : Status) : Type 0 where
  no_file : Needed files said.path (Err end) → IsNotOpened files said end
  refused : (source : List ℕ) → Needed files said.path (Ok source) → IsRefusedSource source end → IsNotOpened files said end
