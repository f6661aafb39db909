-- Which scripts are taken, and why others are not.
use Rattle.std.specs.Prelude.{ℕ, List, ◌≡◌, ◌≤◌, ◌<◌, ◌⊎◌, length, Any}
use Rattle.aqe_lexer.specs.declared.token.Token.{Token}
use Rattle.aqe_trees.specs.declared.statement.Stmt.{Stmt}
use Rattle.aqe_reader.specs.declared.fault.ReadFault.{ReadFault}
use Rattle.aqe_reader.specs.declared.fault.ReadFault.TheVariants as read
use Rattle.aqe_script.specs.Statements.{IsScript}
use Rattle.aqe_script.specs.Depth.{IsTooOpen, depth_limit}
use Rattle.aqe_script.specs.QueryNesting.{nesting}
use Rattle.aqe_syntax.specs.declared.fault.SyntaxFault.{SyntaxFault}
use Rattle.aqe_syntax.specs.declared.fault.SyntaxFault.TheVariants as syntax

-- a token of the source begins at the place, or it is the source's end
abbrev pub IsTokenPlace : List ℕ → List Token → ℕ → Type 0
IsTokenPlace source tokens at = (at ≤ length source) × (Any (λ token. token.start ≡ at) tokens ⊎ (at ≡ length source))

-- a refusal is told by a place in the source, want of memory as it is
abbrev pub IsPlaced : ReadFault → List ℕ → List Token → SyntaxFault → Type 0
IsPlaced (read.Refused left) source tokens fault = (at : ℕ) × (fault ≡ syntax.NotASentence at) × IsTokenPlace source tokens at
IsPlaced read.Memory source tokens fault = fault ≡ syntax.Memory

-- the tokens are no script, or memory was wanting
abbrev pub IsNoScript : List ℕ → List Token → SyntaxFault → Type 0
IsNoScript source tokens syntax.TooDeep = ⊥
IsNoScript source tokens (syntax.NotASentence at) = IsTokenPlace source tokens at × ((script : List Stmt) → IsScript source tokens script → ⊥)
IsNoScript source tokens syntax.Memory = Unit {0}

-- the statement is nested deeper than the limit
abbrev pub IsTooNested : Stmt → Type 0
IsTooNested one = depth_limit < nesting one

-- the tokens are the script, nothing in it is open too deep, and no statement is nested too deep
pub record IsTaken (source : List ℕ) (tokens : List Token) (script : List Stmt) : Type 0 where
  pub reads : IsScript source tokens script
  pub shallow : IsTooOpen source tokens → ⊥
  pub flat : Any IsTooNested script → ⊥

-- the script is open too deep somewhere, or it is a script with a statement that is nested too deep
abbrev pub IsTooDeep : List ℕ → List Token → Type 0
IsTooDeep source tokens = IsTooOpen source tokens ⊎ ((script : List Stmt) × IsScript source tokens script × Any IsTooNested script)

-- the cause of each fault; of want of memory there is none
abbrev pub IsCause : List ℕ → List Token → SyntaxFault → Type 0
IsCause source tokens syntax.TooDeep = IsTooDeep source tokens
IsCause source tokens (syntax.NotASentence at) =
    IsTokenPlace source tokens at × ((script : List Stmt) → IsScript source tokens script → ⊥) × (IsTooOpen source tokens → ⊥)
IsCause source tokens syntax.Memory = Unit {0}
