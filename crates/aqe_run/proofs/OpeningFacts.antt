-- Why a source is no script.
use Rattle.std.proofs.Common.{◌≡◌, ◌⊎◌, inl, inr, ℕ, List, refl, ap, subst, ◌∙◌}
use Rattle.aqe_base.specs.declared.status.Status.{Status}
use Rattle.aqe_base.specs.declared.status.Status.TheVariants as status
use Rattle.aqe_base.specs.declared.status.SyntaxKind.TheVariants.{NotASentence}
use Rattle.aqe_base.specs.declared.status.LimitKind.TheVariants.{Depth}
use Rattle.aqe_lexer.specs.declared.fault.LexFault.{LexFault}
use Rattle.aqe_lexer.specs.declared.token.Token.{Token}
use Rattle.aqe_lexer.specs.TokenList.{IsTokenList, IsCause as IsLexCause}
use Rattle.aqe_syntax.specs.declared.fault.SyntaxFault.{SyntaxFault}
use Rattle.aqe_syntax.specs.declared.fault.SyntaxFault.TheVariants as syntax
use Rattle.aqe_syntax.specs.Causes.{IsCause}
use Rattle.aqe_course.specs.Opening.{IsRefusedSource, of_lex}
use Rattle.aqe_course.specs.Opening.IsRefusedSource.{no_tokens, no_sentence, too_deep}

pub lex_refused : (source : List ℕ) (fault : LexFault) (end : Status) → IsLexCause source fault → end ≡ of_lex fault → IsRefusedSource source end ⊎ (end ≡ status.Memory)
lex_refused source fault end (inl e) h = inr (h ∙ ap of_lex e)
lex_refused source fault end (inr f) h = inl (no_tokens fault f h)

pub deep_refused : (source : List ℕ) (tokens : List Token) (fault : SyntaxFault) → IsTokenList source tokens → IsCause source tokens fault → fault ≡ syntax.TooDeep
    → IsRefusedSource source (status.Limit Depth) ⊎ (status.Limit Depth ≡ status.Memory)
deep_refused source tokens fault are h e = inl (too_deep tokens are (subst (IsCause source tokens) e h) refl)

pub sentence_refused : (source : List ℕ) (tokens : List Token) (fault : SyntaxFault) (at : ℕ) → IsTokenList source tokens → IsCause source tokens fault → fault ≡ syntax.NotASentence at
    → IsRefusedSource source (status.Syntax NotASentence) ⊎ (status.Syntax NotASentence ≡ status.Memory)
sentence_refused source tokens fault at are h e =
    let cause : IsCause source tokens (syntax.NotASentence at) = subst (IsCause source tokens) e h in
    inl (no_sentence tokens are cause.1 cause.2 refl)
