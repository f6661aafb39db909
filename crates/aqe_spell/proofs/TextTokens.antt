-- The tokens of a text of terminals.
use Rattle.std.proofs.Common.{ℕ, ◌≡◌, ◌+◌, Bool, true, false, List, [], ◌∷◌, ◌++◌, length, refl, sym, subst, ◌∙◌, append_assoc, length-append, arith}
use Rattle.std.specs.Prelude.{not}
use Rattle.aqe_lexer.specs.declared.token.Token.{Token}
use Rattle.aqe_lexer.specs.TokenList.{HasTokens}
use Rattle.aqe_trees.specs.declared.terminal.Terminal.{Terminal}
use Rattle.aqe_trees.specs.declared.terminal.Terminal.TheVariants.{Fixed, Name, Literal, Number, Mixed}
use Rattle.aqe_script.specs.Terminals.{terminals_of}
use Rattle.aqe_phrases.specs.Texts.{is_bare, spaced, text_of_all}
use Rattle.aqe_phrases.specs.Written.{Sound, AllSound}
use Rattle.aqe_spell.specs.Tokens.{Gives, NoneEnds}
use Rattle.aqe_spell.proofs.Cuts.{past}
use Rattle.aqe_spell.proofs.WordTokens.{IsOne, key_gives, name_gives}
use Rattle.aqe_spell.proofs.QuotedTokens.{quoted_name_gives, literal_gives}
use Rattle.aqe_spell.proofs.NumberTokens.{number_gives}

-- two texts one behind the other
pub gives_both : {A B C : List ℕ → List Token → Type 0} (a b : List ℕ) → Gives a A → Gives b B
    → ((source : List ℕ) (xs ys : List Token) → A source xs → B source ys → C source (xs ++ ys)) → Gives (a ++ b) C
gives_both a b g h f source at rest d =
    let x = g source at (b ++ rest) (d ∙ append_assoc a b rest) in
    let y = h source (at + length a) rest (past source a (b ++ rest) at (d ∙ append_assoc a b rest)) in
    let place : at + length (a ++ b) ≡ at + length a + length b = omega (arith, length-append a b) in
    record {
      tokens = x.tokens ++ y.tokens;
      wanted = f source x.tokens y.tokens x.wanted y.wanted;
      cut = λ more t.
          subst (λ l. HasTokens at l ((x.tokens ++ y.tokens) ++ more)) (sym (append_assoc a b rest))
          (subst (λ l. HasTokens at (a ++ (b ++ rest)) l) (sym (append_assoc x.tokens y.tokens more))
          (x.cut (y.tokens ++ more) (y.cut more (subst (λ n. HasTokens n rest more) place t))));
    }

pub gives_nothing : {A : List ℕ → List Token → Type 0} → ((source : List ℕ) → A source []) → Gives [] A
gives_nothing f source at rest d = record {
  tokens = [];
  wanted = f source;
  cut = λ more t. subst (λ n. HasTokens n rest more) (omega arith) t;
}

-- the same text with what it gives said otherwise
pub gives_as : {A B : List ℕ → List Token → Type 0} (a : List ℕ) → Gives a A → ((source : List ℕ) (xs : List Token) → A source xs → B source xs) → Gives a B
gives_as a g f source at rest d =
    let x = g source at rest d in record { tokens = x.tokens; wanted = f source x.tokens x.wanted; cut = x.cut }

-- the tokens are the terminals, and at none of them a statement ends
pub record Are (words : List Terminal) (source : List ℕ) (tokens : List Token) : Type 0 where
  pub are : terminals_of source tokens ≡ words
  pub none_ends : NoneEnds source tokens

bare : (b : Bool) → false ≡ not b → b ≡ true
bare true e = refl
bare false e = absurd cc

terminal_gives : (t : Terminal) → Sound t → Gives (spaced t) (IsOne t)
terminal_gives (Fixed key) s = key_gives key s
terminal_gives (Name text false) s = name_gives text (bare (is_bare text) s.2)
terminal_gives (Name text true) s = quoted_name_gives text s.0
terminal_gives (Literal text) s = literal_gives text
terminal_gives (Number value long) s = number_gives value long s
terminal_gives Mixed s = absurd s

pub words_give : (words : List Terminal) → AllSound words → Gives (text_of_all words) (Are words)
words_give [] s = gives_nothing (λ source. record { are = refl; none_ends = tt })
words_give (t ∷ words) s =
    gives_both (spaced t) (text_of_all words) (terminal_gives t s.0) (words_give words s.1)
    (λ source xs ys one all.
    subst (λ l. Are (t ∷ words) source (l ++ ys)) (sym one.alone) (record {
      are = rw (one.is, all.are) refl;
      none_ends = (one.joins, all.none_ends);
    }))
