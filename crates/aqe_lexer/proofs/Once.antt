-- At most one piece begins at a place, so a source has at most one token list or first fault.
use Rattle.std.proofs.Common.{ℕ, ◌≡◌, ◌+◌, Option, None, List, [], drop, refl, sym, subst, ap, ◌∙◌, arith}
use Rattle.aqe_lexer.specs.declared.fault.Fault.{Fault}
use Rattle.aqe_lexer.specs.declared.fault.LexFault.{LexFault}
use Rattle.aqe_lexer.specs.declared.front.Front.{Front}
use Rattle.aqe_lexer.specs.declared.front.Front.TheVariants as front
use Rattle.aqe_lexer.specs.declared.piece.Piece.{Piece}
use Rattle.aqe_lexer.specs.declared.token.Token.{Token}
use Rattle.aqe_lexer.specs.Bytes.{front_of}
use Rattle.aqe_lexer.specs.Parts.{Passes, EndsIn}
use Rattle.aqe_lexer.specs.Parts.Passes.{here as stay, next}
use Rattle.aqe_lexer.specs.Pieces.{Begins, Fits}
use Rattle.aqe_lexer.specs.TokenList.{HasTokens, HasFault, IsTokenList, FirstFault, utf8_front}
use Rattle.aqe_lexer.specs.TokenList.HasTokens.{none, gap, cut}
use Rattle.aqe_lexer.specs.TokenList.HasFault.{here, behind_gap, behind_cut}
use Rattle.aqe_lexer.specs.TokenList.FirstFault.{in_text, at_end, within, between}
use Rattle.aqe_lexer.proofs.FaultLemmas.{whole_text}

passes_once : {S : Type 0} (step : S → Option S) (s a b : S) → Passes step s a → step a ≡ None
    → Passes step s b → step b ≡ None → a ≡ b
passes_once step _ _ _ (stay s) n (stay _) m = refl
passes_once step _ _ b (stay s) n (next _ t _ e p) m = absurd cc
passes_once step _ a _ (next s t _ e p) n (stay _) m = absurd cc
passes_once step _ a b (next s t _ e p) n (next _ u _ f q) m =
    let same : t ≡ u = cc in
    let P : _ → Type 0 = λ x. Passes step x b in
    passes_once step t a b p n (subst P (sym same) q) m

ends_once : {S X : Type 0} (step : S → Option S) (start : S) (end : S → X) (x y : X)
    → EndsIn step start end x → EndsIn step start end y → x ≡ y
ends_once step start end x y h k =
    h.value ∙ (ap end (passes_once step start h.stop k.stop h.stops.passes h.stops.stuck k.stops.passes k.stops.stuck)
    ∙ sym k.value)

fits_once : (f : Front) (bytes : List ℕ) (x y : Piece) → Fits f bytes x → Fits f bytes y → x ≡ y
fits_once front.Blank bytes x y h k = h ∙ sym k
fits_once front.Line bytes x y h k = h ∙ sym k
fits_once front.Comment bytes x y h k = ends_once _ _ _ x y h k
fits_once front.Word bytes x y h k = h ∙ sym k
fits_once front.Run bytes x y h k = h ∙ sym k
fits_once front.String bytes x y h k = ends_once _ _ _ x y h k
fits_once front.Name bytes x y h k = ends_once _ _ _ x y h k
fits_once front.Symbol bytes x y h k = h ∙ sym k

pub begins_once : (bytes : List ℕ) (x y : Piece) → Begins bytes x → Begins bytes y → x ≡ y
begins_once bytes x y h k = fits_once (front_of bytes) bytes x y h.fits k.fits

-- nothing begins at the end
no_piece : (x : Piece) → Begins [] x → ⊥
no_piece x h = omega (arith, h.some)

has_tokens_once : (at : ℕ) (bytes : List ℕ) (ts us : List Token) → HasTokens at bytes ts
    → HasTokens at bytes us → ts ≡ us
has_tokens_once _ _ _ _ (none at) (none _) = refl
has_tokens_once _ _ _ us (none at) (gap _ len _ _ b h) = absurd (no_piece _ b)
has_tokens_once _ _ _ us (none at) (cut _ len kind _ _ b h) = absurd (no_piece _ b)
has_tokens_once _ _ ts _ (gap at len _ _ b h) (none _) = absurd (no_piece _ b)
has_tokens_once _ _ _ _ (cut at len kind _ _ b h) (none _) = absurd (no_piece _ b)
has_tokens_once _ _ ts us (gap at len bytes _ b h) (gap _ len' _ _ b' h') =
    let e = begins_once bytes _ _ b b' in
    let same : len ≡ len' = cc in
    let P : ℕ → Type 0 = λ n. HasTokens (at + n) (drop n bytes) us in
    has_tokens_once (at + len) (drop len bytes) ts us h (subst P (sym same) h')
has_tokens_once _ _ ts _ (gap at len bytes _ b h) (cut _ len' kind' _ _ b' h') =
    let e = begins_once bytes _ _ b b' in absurd cc
has_tokens_once _ _ _ us (cut at len kind bytes _ b h) (gap _ len' _ _ b' h') =
    let e = begins_once bytes _ _ b b' in absurd cc
has_tokens_once _ _ _ _ (cut at len kind bytes ts b h) (cut _ len' kind' _ us b' h') =
    let e = begins_once bytes _ _ b b' in
    let same : len ≡ len' = cc in
    let P : ℕ → Type 0 = λ n. HasTokens (at + n) (drop n bytes) us in
    let rest : ts ≡ us = has_tokens_once (at + len) (drop len bytes) ts us h (subst P (sym same) h') in
    cc

has_fault_once : (at : ℕ) (bytes : List ℕ) (f g : Fault) (x y : ℕ) → HasFault at bytes f x
    → HasFault at bytes g y → (f ≡ g) × (x ≡ y)
has_fault_once _ _ _ _ _ _ (here at far f bytes b) (here _ far' g _ b') =
    let e = begins_once bytes _ _ b b' in (cc, cc)
has_fault_once _ _ _ _ _ _ (here at far f bytes b) (behind_gap _ len' y g _ b' h') =
    let e = begins_once bytes _ _ b b' in absurd cc
has_fault_once _ _ _ _ _ _ (here at far f bytes b) (behind_cut _ len' y kind' g _ b' h') =
    let e = begins_once bytes _ _ b b' in absurd cc
has_fault_once _ _ _ _ _ _ (behind_gap at len x f bytes b h) (here _ far' g _ b') =
    let e = begins_once bytes _ _ b b' in absurd cc
has_fault_once _ _ _ _ _ _ (behind_cut at len x kind f bytes b h) (here _ far' g _ b') =
    let e = begins_once bytes _ _ b b' in absurd cc
has_fault_once _ _ _ _ _ _ (behind_gap at len x f bytes b h) (behind_gap _ len' y g _ b' h') =
    let e = begins_once bytes _ _ b b' in
    let same : len ≡ len' = cc in
    let P : ℕ → Type 0 = λ n. HasFault (at + n) (drop n bytes) g y in
    has_fault_once (at + len) (drop len bytes) f g x y h (subst P (sym same) h')
has_fault_once _ _ _ _ _ _ (behind_gap at len x f bytes b h) (behind_cut _ len' y kind' g _ b' h') =
    let e = begins_once bytes _ _ b b' in absurd cc
has_fault_once _ _ _ _ _ _ (behind_cut at len x kind f bytes b h) (behind_gap _ len' y g _ b' h') =
    let e = begins_once bytes _ _ b b' in absurd cc
has_fault_once _ _ _ _ _ _ (behind_cut at len x kind f bytes b h) (behind_cut _ len' y kind' g _ b' h') =
    let e = begins_once bytes _ _ b b' in
    let same : len ≡ len' = cc in
    let P : ℕ → Type 0 = λ n. HasFault (at + n) (drop n bytes) g y in
    has_fault_once (at + len) (drop len bytes) f g x y h (subst P (sym same) h')

not_both : (at : ℕ) (bytes : List ℕ) (ts : List Token) (f : Fault) (x : ℕ) → HasTokens at bytes ts
    → HasFault at bytes f x → ⊥
not_both _ _ _ _ _ (none at) (here _ far f _ b) = no_piece _ b
not_both _ _ _ _ _ (none at) (behind_gap _ len x f _ b h) = no_piece _ b
not_both _ _ _ _ _ (none at) (behind_cut _ len x kind f _ b h) = no_piece _ b
not_both _ _ _ _ _ (gap at len bytes ts b h) (here _ far f _ b') =
    let e = begins_once bytes _ _ b b' in cc
not_both _ _ _ _ _ (cut at len kind bytes ts b h) (here _ far f _ b') =
    let e = begins_once bytes _ _ b b' in cc
not_both _ _ _ _ _ (gap at len bytes ts b h) (behind_gap _ len' x f _ b' h') =
    let e = begins_once bytes _ _ b b' in
    let same : len ≡ len' = cc in
    let P : ℕ → Type 0 = λ n. HasFault (at + n) (drop n bytes) f x in
    not_both (at + len) (drop len bytes) ts f x h (subst P (sym same) h')
not_both _ _ _ _ _ (gap at len bytes ts b h) (behind_cut _ len' x kind' f _ b' h') =
    let e = begins_once bytes _ _ b b' in cc
not_both _ _ _ _ _ (cut at len kind bytes ts b h) (behind_gap _ len' x f _ b' h') =
    let e = begins_once bytes _ _ b b' in cc
not_both _ _ _ _ _ (cut at len kind bytes ts b h) (behind_cut _ len' x kind' f _ b' h') =
    let e = begins_once bytes _ _ b b' in
    let same : len ≡ len' = cc in
    let P : ℕ → Type 0 = λ n. HasFault (at + n) (drop n bytes) f x in
    not_both (at + len) (drop len bytes) ts f x h (subst P (sym same) h')

-- a source has at most one token list
pub one_list : (source : List ℕ) (ts us : List Token) → IsTokenList source ts → IsTokenList source us → ts ≡ us
one_list source ts us h k = has_tokens_once 0 source ts us h.cut k.cut

-- a source that has a first fault has no token list
pub no_list : (source : List ℕ) (ts : List Token) (e : LexFault) → FirstFault source e → IsTokenList source ts → ⊥
no_list source ts e (in_text f at h o is) k =
    let P : List ℕ → Type 0 = λ l. HasFault 0 l f at in
    not_both 0 source ts f at k.cut (subst P (whole_text source k.is_text) h)
no_list source ts e (at_end f at u h o is) k = not_both 0 source ts f at k.cut h
no_list source ts e (within f at broken h o is) k = broken k.is_text
no_list source ts e (between us broken h is) k = broken k.is_text

-- a source has at most one first fault
pub one_fault : (source : List ℕ) (e d : LexFault) → FirstFault source e → FirstFault source d → e ≡ d
one_fault source e d (in_text f at h o is) (in_text g at' h' o' is') =
    let same = has_fault_once 0 (utf8_front source) f g at at' h h' in
    let same_fault : f ≡ g = same.0 in let same_place : at ≡ at' = same.1 in cc
one_fault source e d (in_text f at h o is) (at_end g at' u h' o' is') =
    let P : List ℕ → Type 0 = λ l. HasFault 0 l f at in
    let same = has_fault_once 0 source f g at at' (subst P (whole_text source u) h) h' in
    let same_fault : f ≡ g = same.0 in absurd cc
one_fault source e d (in_text f at h o is) (within g at' broken h' o' is') =
    let same = has_fault_once 0 (utf8_front source) f g at at' h h' in
    let same_fault : f ≡ g = same.0 in absurd cc
one_fault source e d (in_text f at h o is) (between ts broken h' is') =
    absurd (not_both 0 (utf8_front source) ts f at h' h)
one_fault source e d (at_end f at u h o is) (in_text g at' h' o' is') =
    let P : List ℕ → Type 0 = λ l. HasFault 0 l g at' in
    let same = has_fault_once 0 source f g at at' h (subst P (whole_text source u) h') in
    let same_fault : f ≡ g = same.0 in absurd cc
one_fault source e d (at_end f at u h o is) (at_end g at' u' h' o' is') =
    let same = has_fault_once 0 source f g at at' h h' in
    let same_fault : f ≡ g = same.0 in let same_place : at ≡ at' = same.1 in cc
one_fault source e d (at_end f at u h o is) (within g at' broken h' o' is') = absurd (broken u)
one_fault source e d (at_end f at u h o is) (between ts broken h' is') = absurd (broken u)
one_fault source e d (within f at broken h o is) (in_text g at' h' o' is') =
    let same = has_fault_once 0 (utf8_front source) f g at at' h h' in
    let same_fault : f ≡ g = same.0 in absurd cc
one_fault source e d (within f at broken h o is) (at_end g at' u h' o' is') = absurd (broken u)
one_fault source e d (within f at broken h o is) (within g at' broken' h' o' is') = is ∙ sym is'
one_fault source e d (within f at broken h o is) (between ts broken' h' is') = is ∙ sym is'
one_fault source e d (between ts broken h is) (in_text g at' h' o' is') =
    absurd (not_both 0 (utf8_front source) ts g at' h h')
one_fault source e d (between ts broken h is) (at_end g at' u h' o' is') = absurd (broken u)
one_fault source e d (between ts broken h is) (within g at' broken' h' o' is') = is ∙ sym is'
one_fault source e d (between ts broken h is) (between us broken' h' is') = is ∙ sym is'
