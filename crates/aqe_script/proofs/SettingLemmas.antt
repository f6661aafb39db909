-- Reading the key of a SET word by word.
use Rattle.std.proofs.Common.{ℕ, List, [], ◌∷◌, ◌++◌, ◌≡◌, ◌≤◌, ◌<◌, ◌+◌, ◌-◌, length, drop, refl, sym, subst, ap, arith, ◌∙◌, append_assoc, length-append, Some, All}
use Rattle.std.specs.List.{slice_range, slice_get}
use Rattle.std.proofs.lemmas.List.{length-take, nil_from_length}
use Rattle.std.proofs.lemmas.List.Elements.{All-head, All-tail}
use Rattle.aqe_lexer.specs.declared.token.Token.{Token}
use Rattle.aqe_lexer.specs.declared.token.TokenKind.TheVariants as kind
use Rattle.aqe_lexer.specs.Content.{text_of}
use Rattle.aqe_lexer.specs.Spans.{StandsIn, InOrder}
use Rattle.aqe_trees.specs.declared.terminal.Key.TheVariants as k
use Rattle.aqe_script.specs.Terminals.{key_of}
use Rattle.aqe_trees.specs.declared.statement.SetForm.{SetForm}
use Rattle.aqe_trees.specs.Shapes.{set_form}
use Rattle.aqe_script.specs.Settings.{IsSettingKey, word, pointed, IsSet, set, value_of, last_of}
use Rattle.aqe_script.specs.SettingSteps.{BeginsEqual, equal, KeyRead, NoKey}

-- how a key goes on that began with `key`, from what is left: it ends, or a point and a further key follow
pub data GoesOn (source key : List ℕ) : List Token → List ℕ → List Token → Type 0 where
  ends : {us : List Token} → GoesOn source key us key us
  goes : {rest : List ℕ} {point : Token} {ts us : List Token} → key_of source point ≡ Some k.Dot → IsSettingKey source rest ts us →
      GoesOn source key (point ∷ ts) (key ++ (46 ∷ rest)) us

-- the key so far, and every key that the tokens begin with
pub record KeyLeft (source : List ℕ) (tokens rest : List Token) (key : List ℕ) : Type 0 where
  pub found : IsSettingKey source key tokens rest
  pub back : (other : List ℕ) (us : List Token) → IsSettingKey source other tokens us → BeginsEqual source us → GoesOn source key rest other us
  pub shorter : length rest < length tokens

begun_back : {source other : List ℕ} {t : Token} {rest us : List Token} → IsSettingKey source other (t ∷ rest) us → GoesOn source (text_of source t) rest other us
begun_back (word w) = ends
begun_back (pointed w p d) = goes p d

-- a word begins a key
pub key_begun : {source : List ℕ} {t : Token} {rest : List Token} → t.kind ≡ kind.Word → KeyLeft source (t ∷ rest) rest (text_of source t)
key_begun {source = source} {t = t} {rest = rest} w = record {
  found = word w;
  back = λ other us d e. begun_back d;
  shorter = omega arith;
}

-- a point and a word behind a key make a longer key
longer : {source key : List ℕ} {ts us : List Token} {point t : Token} → IsSettingKey source key ts (point ∷ t ∷ us) → key_of source point ≡ Some k.Dot →
    t.kind ≡ kind.Word → IsSettingKey source (key ++ (46 ∷ text_of source t)) ts us
longer (word w) p v = pointed w p (word v)
longer {source = source} {us = us} {t = t} (pointed {rest = rest} {t = s} {point = dot} {ts = ts} w q d) p v =
    subst (λ (key : List ℕ). IsSettingKey source key (s ∷ dot ∷ ts) us) (sym (append_assoc (text_of source s) (46 ∷ rest) (46 ∷ text_of source t))) (pointed {point = dot} w q (longer d p v))

-- the key and the point and word behind it, and how it goes on
on : {source key other : List ℕ} {point t : Token} {left us : List Token} → GoesOn source key (point ∷ t ∷ left) other us → key_of source point ≡ Some k.Dot →
    BeginsEqual source us → GoesOn source (key ++ (46 ∷ text_of source t)) left other us
on ends p (equal e) = absurd (cc)
on {source = source} {key = key} {left = left} {us = us} (goes q (word w)) p e = ends
on {source = source} {key = key} {t = t} {left = left} {us = us} (goes q (pointed {rest = rest} w r d)) p e =
    subst (λ (other : List ℕ). GoesOn source (key ++ (46 ∷ text_of source t)) left other us) (append_assoc key (46 ∷ text_of source t) (46 ∷ rest)) (goes r d)

pub key_step : {source key : List ℕ} {tokens left : List Token} {point t : Token} → KeyLeft source tokens (point ∷ t ∷ left) key → key_of source point ≡ Some k.Dot →
    t.kind ≡ kind.Word → KeyLeft source tokens left (key ++ (46 ∷ text_of source t))
key_step l p w = record {
  found = longer l.found p w;
  back = λ other us d e. on (l.back other us d e) p e;
  shorter = let s = l.shorter in omega (arith, s);
}

-- where no point follows, the key ends
stays : {source key other : List ℕ} {rest us : List Token} → ((t : Token) (ts : List Token) → rest ≡ t ∷ ts → key_of source t ≡ Some k.Dot → ⊥) →
    GoesOn source key rest other us → (other ≡ key) × (us ≡ rest)
stays end ends = (refl, refl)
stays end (goes p d) = absurd (end _ _ refl p)

pub key_done : {source key : List ℕ} {tokens rest : List Token} → KeyLeft source tokens rest key →
    ((t : Token) (ts : List Token) → rest ≡ t ∷ ts → key_of source t ≡ Some k.Dot → ⊥) → KeyRead source tokens rest key
key_done l end = record { found = l.found; only = λ other us d e. stays end (l.back other us d e) }

-- where no word comes first, there is no key
pub no_word : {source : List ℕ} {tokens : List Token} → ((t : Token) (us : List Token) → tokens ≡ t ∷ us → t.kind ≡ kind.Word → ⊥) → NoKey source tokens
no_word none key us (word w) e = none _ _ refl w
no_word none key us (pointed w p d) e = none _ _ refl w

-- where a point follows but no word, there is no key
lost : {source key other : List ℕ} {point : Token} {after us : List Token} → GoesOn source key (point ∷ after) other us → key_of source point ≡ Some k.Dot →
    ((t : Token) (ts : List Token) → after ≡ t ∷ ts → t.kind ≡ kind.Word → ⊥) → BeginsEqual source us → ⊥
lost ends p none (equal e) = absurd (cc)
lost (goes q d) p none e = no_word none _ _ d e

pub no_word_behind : {source key : List ℕ} {tokens after : List Token} {point : Token} → KeyLeft source tokens (point ∷ after) key → key_of source point ≡ Some k.Dot →
    ((t : Token) (ts : List Token) → after ≡ t ∷ ts → t.kind ≡ kind.Word → ⊥) → NoKey source tokens
no_word_behind l p none key us d e = lost (l.back key us d e) p none e

-- the same, by what the steps of reading say

pub begin : {source key : List ℕ} {t : Token} {tokens rest : List Token} → tokens ≡ t ∷ rest → t.kind ≡ kind.Word → key ≡ text_of source t → KeyLeft source tokens rest key
begin {source = source} {key = key} {t = t} {rest = rest} e w same =
    subst (λ (ts : List Token). KeyLeft source ts rest key) (sym e) (subst (λ (x : List ℕ). KeyLeft source (t ∷ rest) rest x) (sym same) (key_begun w))

pub go_on : {source key longer_key : List ℕ} {point t : Token} {tokens rest after left : List Token} → KeyLeft source tokens rest key → rest ≡ point ∷ after →
    key_of source point ≡ Some k.Dot → after ≡ t ∷ left → t.kind ≡ kind.Word → longer_key ≡ key ++ (46 ∷ text_of source t) → KeyLeft source tokens left longer_key
go_on {source = source} {key = key} {point = point} {tokens = tokens} {left = left} l e p f w same =
    subst (λ (x : List ℕ). KeyLeft source tokens left x) (sym same)
    (key_step (subst (λ (ts : List Token). KeyLeft source tokens (point ∷ ts) key) f (subst (λ (ts : List Token). KeyLeft source tokens ts key) e l)) p w)

pub give_up : {source key : List ℕ} {point : Token} {tokens rest after : List Token} → KeyLeft source tokens rest key → rest ≡ point ∷ after →
    key_of source point ≡ Some k.Dot → ((t : Token) (ts : List Token) → after ≡ t ∷ ts → t.kind ≡ kind.Word → ⊥) → NoKey source tokens
give_up {source = source} {key = key} {tokens = tokens} l e p none = no_word_behind (subst (λ (ts : List Token). KeyLeft source tokens ts key) e l) p none

-- a part of a list is as long as its bounds let it be
span : (xs : List ℕ) (a b : ℕ) → length (slice_range xs a b) ≤ b - a
span xs a b = omega (arith, length-take (b - a) (drop a xs))

-- a key is no longer than the source from its first token on
key_fits : {source key : List ℕ} {ts us : List Token} (at : ℕ) → IsSettingKey source key ts us → All (StandsIn source) ts → InOrder at ts →
    length key + at ≤ length source
key_fits {source = source} at (word {t = t} {us = us} w) s o =
    let h = All-head (StandsIn source) t us s in
    omega (arith, span source t.start t.end, h.within, h.some, o.0)
key_fits {source = source} at (pointed {rest = rest} {t = t} {point = point} {ts = ts} w p d) s o =
    let h = All-head (StandsIn source) t (point ∷ ts) s in
    let tail = All-tail (StandsIn source) t (point ∷ ts) s in
    let q = All-head (StandsIn source) point ts tail in
    let more = key_fits point.end d (All-tail (StandsIn source) point ts tail) o.1.1 in
    omega (arith, span source t.start t.end, length-append (text_of source t) (46 ∷ rest), h.within, h.some, q.some, o.0, o.1.0, more)

pub key_is_short : {source key : List ℕ} {t : Token} {tokens rest left : List Token} → tokens ≡ t ∷ rest → All (StandsIn source) tokens → InOrder 0 tokens →
    KeyRead source rest left key → length key ≤ length source
key_is_short {source = source} {t = t} {rest = rest} e s o r =
    let whole = subst (λ (ts : List Token). InOrder 0 ts) e o in
    let all = subst (λ (ts : List Token). All (StandsIn source) ts) e s in
    let n = key_fits t.end r.found (All-tail (StandsIn source) t rest all) whole.1 in
    omega (arith, n)

-- a SET and what it is not

pub no_set : {source : List ℕ} {form : SetForm} {tokens : List Token} → ((t : Token) (us : List Token) → tokens ≡ t ∷ us → key_of source t ≡ Some k.Set → ⊥) →
    IsSet source form tokens → ⊥
no_set none (set d s e) = none _ _ refl d

keyless : {source : List ℕ} {form : SetForm} {t : Token} {rest : List Token} → NoKey source rest → IsSet source form (t ∷ rest) → ⊥
keyless none (set d s e) = none _ _ s (equal e)

pub no_key : {source : List ℕ} {form : SetForm} {t : Token} {tokens rest : List Token} → tokens ≡ t ∷ rest → NoKey source rest → IsSet source form tokens → ⊥
no_key {source = source} {form = form} e none d = keyless none (subst (λ (ts : List Token). IsSet source form ts) e d)

without_equal : {source key : List ℕ} {form : SetForm} {t : Token} {rest left : List Token} → KeyRead source rest left key →
    ((t : Token) (us : List Token) → left ≡ t ∷ us → key_of source t ≡ Some k.Equal → ⊥) → IsSet source form (t ∷ rest) → ⊥
without_equal r none (set d s e) = let p = r.only _ _ s (equal e) in none _ _ (sym p.1) e

pub no_equal : {source key : List ℕ} {form : SetForm} {t : Token} {tokens rest left : List Token} → tokens ≡ t ∷ rest → KeyRead source rest left key →
    ((t : Token) (us : List Token) → left ≡ t ∷ us → key_of source t ≡ Some k.Equal → ⊥) → IsSet source form tokens → ⊥
no_equal {source = source} {form = form} e r none d = without_equal r none (subst (λ (ts : List Token). IsSet source form ts) e d)

without_value : {source key : List ℕ} {form : SetForm} {t q : Token} {rest left after : List Token} → KeyRead source rest left key → left ≡ q ∷ after → after ≡ [] →
    IsSet source form (t ∷ rest) → ⊥
without_value r f none (set d s e) = let p = r.only _ _ s (equal e) in absurd (cc)

pub no_value : {source key : List ℕ} {form : SetForm} {t q : Token} {tokens rest left after : List Token} → tokens ≡ t ∷ rest → KeyRead source rest left key →
    left ≡ q ∷ after → after ≡ [] → IsSet source form tokens → ⊥
no_value {source = source} {form = form} e r f none d = without_value r f none (subst (λ (ts : List Token). IsSet source form ts) e d)

pub set_read : {source key value : List ℕ} {t q first : Token} {tokens rest left after more : List Token} → tokens ≡ t ∷ rest → key_of source t ≡ Some k.Set →
    KeyRead source rest left key → left ≡ q ∷ after → key_of source q ≡ Some k.Equal → after ≡ first ∷ more → value ≡ value_of source first more →
    IsSet source (set_form key value) tokens
set_read {source = source} {key = key} {value = value} {t = t} {q = q} {first = first} {rest = rest} {more = more} e d r f g h same =
    let found : IsSettingKey source key rest (q ∷ first ∷ more) = subst (λ (us : List Token). IsSettingKey source key rest us) (f ∙ ap (λ (us : List Token). q ∷ us) h) r.found in
    subst (λ (ts : List Token). IsSet source (set_form key value) ts) (sym e)
    (subst (λ (v : List ℕ). IsSet source (set_form key v) (t ∷ rest)) (sym same) (set d found g))

-- the last of some tokens, by its place
last_at : (next : Token) (rest : List Token) → slice_get (next ∷ rest) (length rest) ≡ Some (last_of next rest)
last_at next [] = refl
last_at next (t ∷ rest) = last_at t rest

last_token : (next : Token) (rest : List Token) (t : Token) → Some t ≡ slice_get (next ∷ rest) (length (next ∷ rest) - 1) → last_of next rest ≡ t
last_token next rest t e =
    let here : slice_get (next ∷ rest) (length (next ∷ rest) - 1) ≡ Some (last_of next rest) =
    subst (λ (n : ℕ). slice_get (next ∷ rest) n ≡ Some (last_of next rest)) (omega arith) (last_at next rest) in
    cc

-- the value of more than one token is the source's text
pub value_of_many : (source : List ℕ) (more : List Token) (first t : Token) → Some t ≡ slice_get more (length more - 1) →
    value_of source first more ≡ slice_range source first.start t.end
value_of_many source [] first t e = absurd (cc)
value_of_many source (next ∷ rest) first t e = ap (λ (x : Token). slice_range source first.start x.end) (last_token next rest t e)

-- a part that ends before it begins is empty
pub nothing_between : (xs : List ℕ) (a b : ℕ) → b < a → slice_range xs a b ≡ []
nothing_between xs a b h = nil_from_length (slice_range xs a b) (omega (arith, span xs a b, h))
