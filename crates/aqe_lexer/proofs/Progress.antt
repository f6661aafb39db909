-- How far a source was read.
use Rattle.std.proofs.Common.{ℕ, ◌≡◌, ◌+◌, List, [], ◌∷◌, ◌++◌, length, drop, sym, subst, append-nil, append_assoc, arith}
use Rattle.aqe_lexer.specs.declared.fault.Fault.{Fault}
use Rattle.aqe_lexer.specs.declared.piece.Piece.TheVariants as piece
use Rattle.aqe_lexer.specs.declared.token.Token.{Token}
use Rattle.aqe_lexer.specs.declared.token.TokenKind.{TokenKind}
use Rattle.aqe_lexer.specs.Pieces.{Begins}
use Rattle.aqe_lexer.specs.TokenList.{HasTokens, HasFault, token_at}
use Rattle.aqe_lexer.specs.TokenList.HasTokens.{none, gap, cut}
use Rattle.aqe_lexer.specs.TokenList.HasFault.{here, behind_gap, behind_cut}

-- The text has what is left, behind the tokens so far: further tokens, or a fault.
pub record Going (text : List ℕ) (tokens : List Token) (at : ℕ) (rest : List ℕ) : Type 0 where
  pub goes : (more : List Token) → HasTokens at rest more → HasTokens 0 text (tokens ++ more)
  pub stops : (fault : Fault) (place : ℕ) → HasFault at rest fault place → HasFault 0 text fault place

pub going_start : (text : List ℕ) → Going text [] 0 text
going_start text = record { goes = λ more h. h; stops = λ fault place h. h }

pub going_gap : (text : List ℕ) (tokens : List Token) (at len : ℕ) (rest left : List ℕ)
    → Going text tokens at rest → Begins rest (piece.Gap len) → left ≡ drop len rest
    → Going text tokens (at + len) left
going_gap text tokens at len rest left going begins is =
    let P : List ℕ → Type 0 = λ l. Going text tokens (at + len) l in
    subst P (sym is) (record {
      goes = λ more h. going.goes more (gap at len rest more begins h);
      stops = λ fault place h. going.stops fault place (behind_gap at len place fault rest begins h);
    })

pub going_cut : (text : List ℕ) (tokens : List Token) (at len : ℕ) (kind : TokenKind) (rest left : List ℕ)
    → Going text tokens at rest → Begins rest (piece.Cut kind len) → left ≡ drop len rest
    → Going text (tokens ++ token_at kind at len ∷ []) (at + len) left
going_cut text tokens at len kind rest left going begins is =
    let P : List ℕ → Type 0 = λ l. Going text (tokens ++ token_at kind at len ∷ []) (at + len) l in
    subst P (sym is) (record {
      goes = λ more h. rw append_assoc
          (going.goes (token_at kind at len ∷ more) (cut at len kind rest more begins h));
      stops = λ fault place h. going.stops fault place (behind_cut at len place kind fault rest begins h);
    })

pub going_end : (text : List ℕ) (tokens : List Token) (at : ℕ) (rest : List ℕ)
    → Going text tokens at rest → length rest ≡ 0 → HasTokens 0 text tokens
going_end text tokens at [] going empty =
    let P : List Token → Type 0 = λ l. HasTokens 0 text l in
    subst P (append-nil tokens) (going.goes [] (none at))
going_end text tokens at (b ∷ rest) going empty = absurd (omega arith)

pub going_fault : (text : List ℕ) (tokens : List Token) (at far : ℕ) (fault : Fault) (rest : List ℕ)
    → Going text tokens at rest → Begins rest (piece.Bad fault far) → HasFault 0 text fault (at + far)
going_fault text tokens at far fault rest going begins =
    going.stops fault (at + far) (here at far fault rest begins)

pub ruleset reads = (going_start, going_gap, going_cut, going_end, going_fault)
