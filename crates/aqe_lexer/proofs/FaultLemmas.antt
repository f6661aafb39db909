-- Each way to the first fault of a source.
use Rattle.std.proofs.Common.{ℕ, ◌≡◌, ◌≤◌, List, [], ◌∷◌, length, take, inl, inr, refl, sym, subst, ap, arith, true, false, Bool}
use Rattle.std.specs.Prelude.{IsUtf8}
use Rattle.std.specs.Str.Lossy.{utf8_valid_len}
use Rattle.std.proofs.lemmas.List.{length-take-le, take_all}
use Rattle.std.proofs.lemmas.Str.{utf8_valid_len-IsUtf8, utf8_valid_len_le}
use Rattle.aqe_lexer.specs.declared.fault.Fault.{Fault}
use Rattle.aqe_lexer.specs.declared.fault.LexFault.{LexFault}
use Rattle.aqe_lexer.specs.declared.fault.LexFault.TheVariants as lex
use Rattle.aqe_lexer.specs.declared.token.Token.{Token}
use Rattle.aqe_lexer.specs.Faults.{is_open, told_of}
use Rattle.aqe_lexer.specs.TokenList.{HasTokens, HasFault, FirstFault, IsCause, utf8_front}
use Rattle.aqe_lexer.specs.TokenList.FirstFault.{in_text, at_end, within, between}

-- the text of a source that is UTF-8 is the source
pub whole_text : (source : List ℕ) → IsUtf8 source → utf8_front source ≡ source
whole_text source u = take_all (utf8_valid_len source) source (omega (arith, utf8_valid_len-IsUtf8 source u))

pub cause_whole : (source : List ℕ) (fault : Fault) (at : ℕ) (e : LexFault) → IsUtf8 source
    → HasFault 0 source fault at → e ≡ told_of fault at → IsCause source e
cause_whole source fault at e u h is = inr (elim (is_open fault) as (λ b. is_open fault ≡ b → FirstFault source e) [
  | true ↦ λ o. at_end fault at u h o is
  | false ↦ λ o. in_text fault at (let P : List ℕ → Type 0 = λ l. HasFault 0 l fault at in
      subst P (sym (whole_text source u)) h) o is
] refl)

pub cause_in_text : (source : List ℕ) (valid : ℕ) (fault : Fault) (at : ℕ) (e : LexFault)
    → valid ≡ utf8_valid_len source → HasFault 0 (take valid source) fault at → is_open fault ≡ false
    → e ≡ told_of fault at → IsCause source e
cause_in_text source valid fault at e v h o is =
    let P : ℕ → Type 0 = λ n. HasFault 0 (take n source) fault at in
    inr (in_text fault at (subst P v h) o is)

pub cause_within : (source : List ℕ) (valid : ℕ) (fault : Fault) (at : ℕ) → ¬ (IsUtf8 source)
    → valid ≡ utf8_valid_len source → HasFault 0 (take valid source) fault at → is_open fault ≡ true
    → IsCause source (lex.BadByte valid)
cause_within source valid fault at broken v h o =
    let P : ℕ → Type 0 = λ n. HasFault 0 (take n source) fault at in
    inr (within fault at broken (subst P v h) o (ap (λ n. lex.BadByte n) v))

pub cause_between : (source : List ℕ) (valid : ℕ) (tokens : List Token) → ¬ (IsUtf8 source)
    → valid ≡ utf8_valid_len source → HasTokens 0 (take valid source) tokens
    → IsCause source (lex.BadByte valid)
cause_between source valid tokens broken v h =
    let P : ℕ → Type 0 = λ n. HasTokens 0 (take n source) tokens in
    inr (between tokens broken (subst P v h) (ap (λ n. lex.BadByte n) v))

pub valid_within : (source : List ℕ) (valid : ℕ) → valid ≡ utf8_valid_len source → valid ≤ length source
valid_within source valid v = omega (arith, v, utf8_valid_len_le source)

pub ruleset causes = (valid_within, length-take-le)
