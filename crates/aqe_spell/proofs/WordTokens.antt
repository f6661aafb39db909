-- The tokens of reserved words, symbols and bare names.
use Rattle.std.proofs.Common.{ℕ, ◌≡◌, ◌+◌, ◌&&◌, Bool, true, false, List, [], ◌∷◌, ◌++◌, length, drop, refl, sym, subst, ap, ◌∙◌, append_assoc, length-append, arith}
use Rattle.std.specs.Prelude.{Option, Some, None, codes, not, slice_index}
use Rattle.std.specs.Option.{is_some}
use Rattle.std.specs.List.{list_all}
use Rattle.std.proofs.lemmas.Bool.{and_parts}
use Rattle.aqe_lexer.specs.declared.piece.Piece.TheVariants as piece
use Rattle.aqe_lexer.specs.declared.token.Token.{Token}
use Rattle.aqe_lexer.specs.declared.token.TokenKind.{TokenKind}
use Rattle.aqe_lexer.specs.declared.token.TokenKind.TheVariants as kind
use Rattle.aqe_lexer.specs.Bytes.{is_word_byte, is_word_start}
use Rattle.aqe_lexer.specs.Content.{text_of, content_of}
use Rattle.aqe_lexer.specs.Pieces.{Begins}
use Rattle.aqe_lexer.specs.TokenList.{HasTokens, token_at}
use Rattle.aqe_trees.specs.declared.terminal.Key.{Key}
use Rattle.aqe_trees.specs.declared.terminal.Key.TheVariants as k
use Rattle.aqe_trees.specs.declared.terminal.Terminal.{Terminal}
use Rattle.aqe_trees.specs.declared.terminal.Terminal.TheVariants.{Fixed, Name}
use Rattle.aqe_trees.specs.Keywords.{key_text, word_key, symbol_key, is_reserved}
use Rattle.aqe_script.specs.Terminals.{terminal_of, key_of, key_of_text, fixed_or, content_terminal}
use Rattle.aqe_script.specs.Statements.{is_semicolon, ends_statement}
use Rattle.aqe_phrases.specs.Texts.{is_bare}
use Rattle.aqe_spell.specs.Tokens.{Gives}
use Rattle.aqe_spell.proofs.Cuts.{token_cut, blank_cut, text_at, word_begins}

-- one token, which is the terminal and ends no statement
pub record IsOne (terminal : Terminal) (source : List ℕ) (tokens : List Token) : Type 0 where
  pub token : Token
  pub alone : tokens ≡ token ∷ []
  pub is : terminal_of source token ≡ terminal
  pub joins : is_semicolon source token ≡ false

-- a token with a blank behind it
pub spaced_cut : (kind : TokenKind) (word rest : List ℕ) (at : ℕ) (more : List Token)
    → Begins (word ++ 32 ∷ rest) (piece.Cut kind (length word))
    → HasTokens (at + length (word ++ 32 ∷ [])) rest more → HasTokens at ((word ++ 32 ∷ []) ++ rest) (token_at kind at (length word) ∷ more)
spaced_cut kind word rest at more b h =
    let place : at + length (word ++ 32 ∷ []) ≡ at + length word + 1 = omega (arith, length-append word (32 ∷ [])) in
    let tail : HasTokens (at + length word + 1) rest more = subst (λ n. HasTokens n rest more) place h in
    subst (λ l. HasTokens at l (token_at kind at (length word) ∷ more)) (sym (append_assoc word (32 ∷ []) rest))
    (token_cut kind word (32 ∷ rest) at more b (blank_cut 32 rest (at + length word) more refl tail))

pub spaced_at : (source word rest : List ℕ) (at : ℕ) → drop at source ≡ (word ++ 32 ∷ []) ++ rest → drop at source ≡ word ++ 32 ∷ rest
spaced_at source word rest at e = e ∙ append_assoc word (32 ∷ []) rest

-- a reserved word or symbol
fixed_gives : (kind : TokenKind) (word : List ℕ) (key : Key) → key_of_text kind word ≡ Some key → ends_statement (Some key) ≡ false
    → ((rest : List ℕ) → Begins (word ++ 32 ∷ rest) (piece.Cut kind (length word)))
    → Gives (word ++ 32 ∷ []) (IsOne (Fixed key))
fixed_gives kind word key e p begins source at rest d =
    let token = token_at kind at (length word) in
    let text = text_at source word (32 ∷ rest) kind at (spaced_at source word rest at d) in
    let key_is : key_of source token ≡ Some key = ap (key_of_text kind) text ∙ e in
    record {
      tokens = token ∷ [];
      wanted = record {
        token = token;
        alone = refl;
        is = ap (λ o. fixed_or o (content_terminal kind (text_of source token) (content_of source token))) key_is;
        joins = ap ends_statement key_is ∙ p;
      };
      cut = λ more h. spaced_cut kind word rest at more (begins rest) h;
    }

keyword : (word : List ℕ) (key : Key) → word_key word ≡ Some key → ends_statement (Some key) ≡ false
    → is_word_start (slice_index word 0) ≡ true → list_all is_word_byte word ≡ true → Gives (word ++ 32 ∷ []) (IsOne (Fixed key))
keyword word key e p s f = fixed_gives kind.Word word key e p (λ rest. word_begins word 32 rest s f refl)

symbol : (word : List ℕ) (key : Key) → symbol_key word ≡ Some key → ends_statement (Some key) ≡ false
    → ((rest : List ℕ) → Begins (word ++ 32 ∷ rest) (piece.Cut kind.Symbol (length word))) → Gives (word ++ 32 ∷ []) (IsOne (Fixed key))
symbol word key e p begins = fixed_gives kind.Symbol word key e p begins

pub key_gives : (key : Key) → ends_statement (Some key) ≡ false → Gives (key_text key ++ 32 ∷ []) (IsOne (Fixed key))
key_gives k.All p = keyword (codes "ALL") k.All refl p refl refl
key_gives k.And p = keyword (codes "AND") k.And refl p refl refl
key_gives k.Anti p = keyword (codes "ANTI") k.Anti refl p refl refl
key_gives k.As p = keyword (codes "AS") k.As refl p refl refl
key_gives k.Asc p = keyword (codes "ASC") k.Asc refl p refl refl
key_gives k.Between p = keyword (codes "BETWEEN") k.Between refl p refl refl
key_gives k.By p = keyword (codes "BY") k.By refl p refl refl
key_gives k.Case p = keyword (codes "CASE") k.Case refl p refl refl
key_gives k.Cast p = keyword (codes "CAST") k.Cast refl p refl refl
key_gives k.Create p = keyword (codes "CREATE") k.Create refl p refl refl
key_gives k.Cross p = keyword (codes "CROSS") k.Cross refl p refl refl
key_gives k.Desc p = keyword (codes "DESC") k.Desc refl p refl refl
key_gives k.Distinct p = keyword (codes "DISTINCT") k.Distinct refl p refl refl
key_gives k.Div p = keyword (codes "DIV") k.Div refl p refl refl
key_gives k.Else p = keyword (codes "ELSE") k.Else refl p refl refl
key_gives k.End p = keyword (codes "END") k.End refl p refl refl
key_gives k.False p = keyword (codes "FALSE") k.False refl p refl refl
key_gives k.From p = keyword (codes "FROM") k.From refl p refl refl
key_gives k.Full p = keyword (codes "FULL") k.Full refl p refl refl
key_gives k.Group p = keyword (codes "GROUP") k.Group refl p refl refl
key_gives k.Having p = keyword (codes "HAVING") k.Having refl p refl refl
key_gives k.In p = keyword (codes "IN") k.In refl p refl refl
key_gives k.Inner p = keyword (codes "INNER") k.Inner refl p refl refl
key_gives k.Is p = keyword (codes "IS") k.Is refl p refl refl
key_gives k.Join p = keyword (codes "JOIN") k.Join refl p refl refl
key_gives k.Left p = keyword (codes "LEFT") k.Left refl p refl refl
key_gives k.Like p = keyword (codes "LIKE") k.Like refl p refl refl
key_gives k.Limit p = keyword (codes "LIMIT") k.Limit refl p refl refl
key_gives k.Not p = keyword (codes "NOT") k.Not refl p refl refl
key_gives k.Null p = keyword (codes "NULL") k.Null refl p refl refl
key_gives k.Nulls p = keyword (codes "NULLS") k.Nulls refl p refl refl
key_gives k.Offset p = keyword (codes "OFFSET") k.Offset refl p refl refl
key_gives k.On p = keyword (codes "ON") k.On refl p refl refl
key_gives k.Or p = keyword (codes "OR") k.Or refl p refl refl
key_gives k.Order p = keyword (codes "ORDER") k.Order refl p refl refl
key_gives k.Outer p = keyword (codes "OUTER") k.Outer refl p refl refl
key_gives k.Right p = keyword (codes "RIGHT") k.Right refl p refl refl
key_gives k.Select p = keyword (codes "SELECT") k.Select refl p refl refl
key_gives k.Semi p = keyword (codes "SEMI") k.Semi refl p refl refl
key_gives k.Set p = keyword (codes "SET") k.Set refl p refl refl
key_gives k.Then p = keyword (codes "THEN") k.Then refl p refl refl
key_gives k.True p = keyword (codes "TRUE") k.True refl p refl refl
key_gives k.Union p = keyword (codes "UNION") k.Union refl p refl refl
key_gives k.Using p = keyword (codes "USING") k.Using refl p refl refl
key_gives k.When p = keyword (codes "WHEN") k.When refl p refl refl
key_gives k.Where p = keyword (codes "WHERE") k.Where refl p refl refl
key_gives k.Open p = symbol (codes "(") k.Open refl p (λ rest. record { some = omega arith; fits = refl })
key_gives k.Close p = symbol (codes ")") k.Close refl p (λ rest. record { some = omega arith; fits = refl })
key_gives k.Comma p = symbol (codes ",") k.Comma refl p (λ rest. record { some = omega arith; fits = refl })
key_gives k.Dot p = symbol (codes ".") k.Dot refl p (λ rest. record { some = omega arith; fits = refl })
key_gives k.Star p = symbol (codes "*") k.Star refl p (λ rest. record { some = omega arith; fits = refl })
key_gives k.Plus p = symbol (codes "+") k.Plus refl p (λ rest. record { some = omega arith; fits = refl })
key_gives k.Minus p = symbol (codes "-") k.Minus refl p (λ rest. record { some = omega arith; fits = refl })
key_gives k.Percent p = symbol (codes "%") k.Percent refl p (λ rest. record { some = omega arith; fits = refl })
key_gives k.Equal p = symbol (codes "=") k.Equal refl p (λ rest. record { some = omega arith; fits = refl })
key_gives k.DoubleEqual p = symbol (codes "==") k.DoubleEqual refl p (λ rest. record { some = omega arith; fits = refl })
key_gives k.Same p = symbol (codes "<=>") k.Same refl p (λ rest. record { some = omega arith; fits = refl })
key_gives k.NotEqual p = symbol (codes "<>") k.NotEqual refl p (λ rest. record { some = omega arith; fits = refl })
key_gives k.Less p = symbol (codes "<") k.Less refl p (λ rest. record { some = omega arith; fits = refl })
key_gives k.AtMost p = symbol (codes "<=") k.AtMost refl p (λ rest. record { some = omega arith; fits = refl })
key_gives k.Greater p = symbol (codes ">") k.Greater refl p (λ rest. record { some = omega arith; fits = refl })
key_gives k.AtLeast p = symbol (codes ">=") k.AtLeast refl p (λ rest. record { some = omega arith; fits = refl })
key_gives k.Semicolon p = absurd cc

not_true : (b : Bool) → not b ≡ true → b ≡ false
not_true true e = absurd cc
not_true false e = refl

none_there : (found : Option Key) → is_some found ≡ false → found ≡ None
none_there (Some key) e = absurd cc
none_there None e = refl

pub name_gives : (text : List ℕ) → is_bare text ≡ true → Gives (text ++ 32 ∷ []) (IsOne (Name text false))
name_gives text e source at rest d =
    let first = and_parts (is_word_start (slice_index text 0) && list_all is_word_byte text) (not (is_reserved text)) e in
    let second = and_parts (is_word_start (slice_index text 0)) (list_all is_word_byte text) first.0 in
    let token = token_at kind.Word at (length text) in
    let is = text_at source text (32 ∷ rest) kind.Word at (spaced_at source text rest at d) in
    let key_is : key_of source token ≡ None = ap word_key is ∙ none_there (word_key text) (not_true (is_reserved text) first.1) in
    record {
      tokens = token ∷ [];
      wanted = record {
        token = token;
        alone = refl;
        is = ap (λ o. fixed_or o (Name (text_of source token) false)) key_is ∙ ap (λ l. Name l false) is;
        joins = ap ends_statement key_is;
      };
      cut = λ more h. spaced_cut kind.Word text rest at more (word_begins text 32 rest second.0 second.1 refl) h;
    }
