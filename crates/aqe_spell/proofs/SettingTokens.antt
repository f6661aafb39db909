-- The tokens of settings.
use Rattle.std.proofs.Common.{ℕ, ◌≡◌, ◌+◌, Bool, true, false, List, [], ◌∷◌, ◌++◌, length, IsUtf8, refl, sym, subst, ap, ◌∙◌, append_assoc, append-nil, length-append, arith}
use Rattle.std.specs.Prelude.{cond, find, nat_lt, Option, Some, None, not, slice_index}
use Rattle.std.specs.List.{list_all}
use Rattle.std.proofs.lemmas.Bool.{and_parts}
use Rattle.std.proofs.lemmas.Bool.Decides.{nat_tests}
use Rattle.std.proofs.lemmas.Str.{IsUtf8-append}
use Rattle.aqe_lexer.specs.declared.token.Token.{Token}
use Rattle.aqe_lexer.specs.declared.token.TokenKind.{TokenKind}
use Rattle.aqe_lexer.specs.declared.token.TokenKind.TheVariants as kind
use Rattle.aqe_lexer.specs.Bytes.{is_word_byte, is_word_start}
use Rattle.aqe_lexer.specs.Content.{text_of, content_of}
use Rattle.aqe_lexer.specs.TokenList.{HasTokens, token_at}
use Rattle.aqe_trees.specs.declared.statement.SetForm.{SetForm}
use Rattle.aqe_trees.specs.declared.statement.Stmt.TheVariants as stmt
use Rattle.aqe_trees.specs.declared.terminal.Key.{Key}
use Rattle.aqe_trees.specs.declared.terminal.Key.TheVariants as k
use Rattle.aqe_trees.specs.declared.terminal.Terminal.{Terminal}
use Rattle.aqe_trees.specs.declared.terminal.Terminal.TheVariants.{Fixed, Literal}
use Rattle.aqe_trees.specs.Shapes.{set_form}
use Rattle.aqe_trees.specs.Keywords.{key_text, word_keys, spells, word_key, symbol_key}
use Rattle.aqe_script.specs.Terminals.{key_of, key_of_text, fixed_or, content_terminal}
use Rattle.aqe_script.specs.Settings.{IsSettingKey, string_value, value_of, IsSet}
use Rattle.aqe_script.specs.Settings.IsSettingKey.{word as key_word, pointed as key_pointed}
use Rattle.aqe_script.specs.Settings.IsSet.{set as setting}
use Rattle.aqe_script.specs.Statements.{IsStatement, ends_statement}
use Rattle.aqe_script.specs.Statements.IsStatement.{set as said_set}
use Rattle.aqe_phrases.specs.Texts.{literal_text, spaced}
use Rattle.aqe_phrases.specs.Written.{Adds}
use Rattle.aqe_spell.specs.Tokens.{Gives, NoneEnds, IsFine, AllFine, Writable, IsWhole, StatementText}
use Rattle.aqe_spell.proofs.Cuts.{token_cut, text_at, past, word_begins}
use Rattle.aqe_spell.proofs.WordTokens.{spaced_cut, spaced_at, key_gives}
use Rattle.aqe_spell.proofs.QuotedTokens.{string_gives_token}
use Rattle.aqe_spell.proofs.TextTokens.{gives_both}
use Rattle.aqe_spell.proofs.Utf8Texts.{one_ascii, low_utf8, key_utf8, literal_utf8}

not_true : (b : Bool) → not b ≡ true → b ≡ false
not_true true e = absurd cc
not_true false e = refl

-- no statement ends at a word
keys_join : (keys : List Key) (text : List ℕ) → list_all (λ key. not (ends_statement (Some key))) keys ≡ true
    → ends_statement (find (λ key. spells text key) keys) ≡ false
keys_join [] text e = refl
keys_join (key ∷ more) text e =
    let both = and_parts (not (ends_statement (Some key))) (list_all (λ key. not (ends_statement (Some key))) more) e in
    elim (spells text key) as (λ b. ends_statement (cond b (Some key) (find (λ key. spells text key) more)) ≡ false) [
      | true ↦ not_true (ends_statement (Some key)) both.0
      | false ↦ keys_join more text both.1
    ]

word_joins : (text : List ℕ) → ends_statement (word_key text) ≡ false
word_joins text = keys_join word_keys text refl

none_append : (source : List ℕ) (xs ys : List Token) → NoneEnds source xs → NoneEnds source ys → NoneEnds source (xs ++ ys)
none_append source [] ys p q = q
none_append source (x ∷ xs) ys p q = (p.0, none_append source xs ys p.1 q)

word_low : (text : List ℕ) → list_all is_word_byte text ≡ true → list_all (λ b. nat_lt b 128) text ≡ true
word_low [] e = refl
word_low (b ∷ text) e =
    let both = and_parts (is_word_byte b) (list_all is_word_byte text) e in
    let low : nat_lt b 128 ≡ true = grind (arith, nat_tests, both.0) in
    rw (low, word_low text both.1) refl

-- the tokens are a setting's key, whatever follows
record IsKey (key : List ℕ) (source : List ℕ) (tokens : List Token) : Type 0 where
  is : (us : List Token) → IsSettingKey source key (tokens ++ us) us
  none_ends : NoneEnds source tokens

record KeyGives (key : List ℕ) : Type 0 where
  is_text : IsUtf8 key
  gives : Gives (key ++ 32 ∷ []) (IsKey key)

last_word : (word : List ℕ) → is_word_start (slice_index word 0) ≡ true → list_all is_word_byte word ≡ true → Gives (word ++ 32 ∷ []) (IsKey word)
last_word word s f source at rest d =
    let token = token_at kind.Word at (length word) in
    let text = text_at source word (32 ∷ rest) kind.Word at (spaced_at source word rest at d) in
    record {
      tokens = token ∷ [];
      wanted = record {
        is = λ us. subst (λ l. IsSettingKey source l (token ∷ us) us) text (key_word refl);
        none_ends = (ap (λ l. ends_statement (word_key l)) text ∙ word_joins word, tt);
      };
      cut = λ more h. spaced_cut kind.Word word rest at more (word_begins word 32 rest s f refl) h;
    }

-- a word and the point behind it
record IsPointed (word : List ℕ) (source : List ℕ) (tokens : List Token) : Type 0 where
  first : Token
  point : Token
  both : tokens ≡ first ∷ point ∷ []
  is_word : first.kind ≡ kind.Word
  text : text_of source first ≡ word
  is_point : key_of source point ≡ Some k.Dot
  none_ends : NoneEnds source tokens

pointed_word : (word : List ℕ) → is_word_start (slice_index word 0) ≡ true → list_all is_word_byte word ≡ true → Gives (word ++ 46 ∷ []) (IsPointed word)
pointed_word word s f source at rest d =
    let e = d ∙ append_assoc word (46 ∷ []) rest in
    let first = token_at kind.Word at (length word) in let point = token_at kind.Symbol (at + length word) 1 in
    let text = text_at source word (46 ∷ rest) kind.Word at e in
    let dot = text_at source (46 ∷ []) rest kind.Symbol (at + length word) (past source word (46 ∷ rest) at e) in
    let place : at + length (word ++ 46 ∷ []) ≡ at + length word + 1 = omega (arith, length-append word (46 ∷ [])) in
    record {
      tokens = first ∷ point ∷ [];
      wanted = record {
        first = first;
        point = point;
        both = refl;
        is_word = refl;
        text = text;
        is_point = ap symbol_key dot;
        none_ends = (ap (λ l. ends_statement (word_key l)) text ∙ word_joins word, (ap (λ l. ends_statement (symbol_key l)) dot, tt));
      };
      cut = λ more h. subst (λ l. HasTokens at l (first ∷ point ∷ more)) (sym (append_assoc word (46 ∷ []) rest))
          (token_cut kind.Word word (46 ∷ rest) at (point ∷ more) (word_begins word 46 rest s f refl)
          (token_cut kind.Symbol (46 ∷ []) rest (at + length word) more (record { some = omega arith; fits = refl })
          (subst (λ n. HasTokens n rest more) place h)));
    }

pointed_key : (word key : List ℕ) → Gives (word ++ 46 ∷ []) (IsPointed word) → Gives (key ++ 32 ∷ []) (IsKey key)
    → Gives ((word ++ 46 ∷ key) ++ 32 ∷ []) (IsKey (word ++ 46 ∷ key))
pointed_key word key g h =
    let whole : (word ++ 46 ∷ []) ++ (key ++ 32 ∷ []) ≡ (word ++ 46 ∷ key) ++ 32 ∷ [] =
    append_assoc word (46 ∷ []) (key ++ 32 ∷ []) ∙ sym (append_assoc word (46 ∷ key) (32 ∷ [])) in
    subst (λ l. Gives l (IsKey (word ++ 46 ∷ key))) whole
    (gives_both (word ++ 46 ∷ []) (key ++ 32 ∷ []) g h (λ source xs ys p q. record {
      is = λ us. subst (λ l. IsSettingKey source (word ++ 46 ∷ key) ((l ++ ys) ++ us) us) (sym p.both)
          (subst (λ l. IsSettingKey source (l ++ 46 ∷ key) (p.first ∷ p.point ∷ (ys ++ us)) us) p.text
          (key_pointed p.is_word p.is_point (q.is us)));
      none_ends = none_append source xs ys p.none_ends q.none_ends;
    }))

key_gives_tokens : {source key : List ℕ} {ts us : List Token} → IsSettingKey source key ts us → AllFine source ts → KeyGives key
key_gives_tokens {source = source} (key_word {t = t} e) f =
    let fine = subst (λ x. IsFine x (text_of source t) (content_of source t)) e f.0 in
    record { is_text = low_utf8 (text_of source t) (word_low (text_of source t) fine.1); gives = last_word (text_of source t) fine.0 fine.1 }
key_gives_tokens {source = source} (key_pointed {rest = rest} {t = t} e p d) f =
    let fine = subst (λ x. IsFine x (text_of source t) (content_of source t)) e f.0 in
    let more = key_gives_tokens d f.1.1 in
    record {
      is_text = IsUtf8-append (text_of source t) (46 ∷ rest) (low_utf8 (text_of source t) (word_low (text_of source t) fine.1))
          (IsUtf8-append (46 ∷ []) rest (one_ascii 46 (omega arith)) more.is_text);
      gives = pointed_key (text_of source t) rest (pointed_word (text_of source t) fine.0 fine.1) more.gives;
    }

-- a token that is a reserved word or symbol as a terminal has its key
no_content : (kind : TokenKind) (text content : List ℕ) (key : Key) → content_terminal kind text content ≡ Fixed key → ⊥
no_content kind.Word text content key e = absurd cc
no_content kind.Quoted text content key e = absurd cc
no_content kind.Literal text content key e = absurd cc
no_content kind.Number text content key e = absurd cc
no_content kind.Mixed text content key e = absurd cc
no_content kind.Symbol text content key e = absurd cc

key_is : (found : Option Key) (kind : TokenKind) (text content : List ℕ) (key : Key) → fixed_or found (content_terminal kind text content) ≡ Fixed key
    → found ≡ Some key
key_is (Some other) kind text content key e = cc
key_is None kind text content key e = absurd (no_content kind text content key e)

-- `=` and the value
record IsTail (value : List ℕ) (source : List ℕ) (tokens : List Token) : Type 0 where
  equal : Token
  first : Token
  both : tokens ≡ equal ∷ first ∷ []
  is_equal : key_of source equal ≡ Some k.Equal
  is_value : value_of source first [] ≡ value
  none_ends : NoneEnds source tokens

tail_gives : (value : List ℕ) → Gives (spaced (Fixed k.Equal) ++ spaced (Literal value)) (IsTail value)
tail_gives value =
    gives_both (spaced (Fixed k.Equal)) (spaced (Literal value)) (key_gives k.Equal refl) (string_gives_token value)
    (λ source xs ys one string.
    let equal = one.token in let first = string.token in
    let all : xs ++ ys ≡ equal ∷ first ∷ [] = rw (one.alone, string.alone) refl in
    record {
      equal = equal;
      first = first;
      both = all;
      is_equal = key_is (key_of source equal) equal.kind (text_of source equal) (content_of source equal) k.Equal one.is;
      is_value = ap (λ x. string_value x (text_of source first) (content_of source first)) string.is_literal ∙ string.stands_for;
      none_ends = subst (NoneEnds source) (sym all)
          (one.joins, (ap (λ x. ends_statement (key_of_text x (text_of source first))) string.is_literal, tt));
    })

set_read : (source key value : List ℕ) (t equal first : Token) (ts : List Token) → key_of source t ≡ Some k.Set
    → IsSettingKey source key ts (equal ∷ first ∷ []) → key_of source equal ≡ Some k.Equal → value_of source first [] ≡ value
    → IsSet source (set_form key value) (t ∷ ts)
set_read source key value t equal first ts e s q v = subst (λ l. IsSet source (set_form key l) (t ∷ ts)) v (setting e s q)

set_gives : (key value : List ℕ) → Gives (key ++ 32 ∷ []) (IsKey key)
    → Gives (spaced (Fixed k.Set) ++ ((key ++ 32 ∷ []) ++ (spaced (Fixed k.Equal) ++ spaced (Literal value)))) (IsWhole (stmt.Set (set_form key value)))
set_gives key value g =
    gives_both
    {B = λ source ts. (equal : Token) × (first : Token) × IsSettingKey source key ts (equal ∷ first ∷ []) × (key_of source equal ≡ Some k.Equal)
    × (value_of source first [] ≡ value) × NoneEnds source ts}
    (spaced (Fixed k.Set)) ((key ++ 32 ∷ []) ++ (spaced (Fixed k.Equal) ++ spaced (Literal value)))
    (key_gives k.Set refl)
    (gives_both (key ++ 32 ∷ []) (spaced (Fixed k.Equal) ++ spaced (Literal value)) g (tail_gives value)
    (λ source xs ys a b. (
      b.equal,
      b.first,
      subst (λ l. IsSettingKey source key (xs ++ l) (b.equal ∷ b.first ∷ [])) (sym b.both) (a.is (b.equal ∷ b.first ∷ [])),
      b.is_equal,
      b.is_value,
      none_append source xs ys a.none_ends b.none_ends,
    )))
    (λ source xs ys one b.
    subst (λ l. IsWhole (stmt.Set (set_form key value)) source (l ++ ys)) (sym one.alone) (record {
      is_statement = said_set (set_read source key value one.token b.0 b.1 ys
          (key_is (key_of source one.token) one.token.kind (text_of source one.token) (content_of source one.token) k.Set one.is) b.2 b.3 b.4);
      some = omega arith;
      none_ends = (one.joins, b.5);
    }))

is_set : {source : List ℕ} {form : SetForm} {ts : List Token} → IsStatement source (stmt.Set form) ts → IsSet source form ts
is_set (said_set d) = d

set_key_of : {source : List ℕ} {form : SetForm} {ts : List Token} → IsSet source form ts → AllFine source ts → KeyGives form.key
set_key_of (setting e s q) f = key_gives_tokens s f.1

set_key : (form : SetForm) (source : List ℕ) (ts : List Token) → IsStatement source (stmt.Set form) ts → AllFine source ts → KeyGives form.key
set_key form source ts d f = set_key_of (is_set d) f

-- what one word added
adds_text : {t : Terminal} {old new : List ℕ} → Adds (λ us. t ∷ us) old new → new ≡ old ++ spaced t
adds_text {t = t} {old = old} {new = new} a =
    sym (append-nil new) ∙ (a.added [] ∙ ap (λ l. old ++ l) (append-nil (spaced t)))

regroup : (o s k b e l : List ℕ) → ((((o ++ s) ++ k) ++ b) ++ e) ++ l ≡ o ++ (s ++ ((k ++ b) ++ (e ++ l)))
regroup o s k b e l =
    append_assoc (((o ++ s) ++ k) ++ b) e l ∙ (append_assoc ((o ++ s) ++ k) b (e ++ l) ∙ (append_assoc (o ++ s) k (b ++ (e ++ l))
    ∙ (append_assoc o s (k ++ (b ++ (e ++ l))) ∙ ap (λ x. o ++ (s ++ x)) (sym (append_assoc k b (e ++ l))))))

spaced_utf8 : (word : List ℕ) → IsUtf8 word → IsUtf8 (word ++ 32 ∷ [])
spaced_utf8 word u = IsUtf8-append word (32 ∷ []) u (one_ascii 32 (omega arith))

pub set_text : (form : SetForm) (old a b c d new : List ℕ) → Adds (λ us. Fixed k.Set ∷ us) old a → b ≡ a ++ form.key → c ≡ b ++ 32 ∷ []
    → Adds (λ us. Fixed k.Equal ∷ us) c d → Adds (λ us. Literal form.value ∷ us) d new → IsUtf8 form.value
    → Writable (stmt.Set form) → StatementText (stmt.Set form) old new
set_text form old a b c d new p q r s t u w =
    let key : List ℕ = form.key in let value : List ℕ = form.value in
    let g : KeyGives key = set_key form w.source w.tokens w.is_statement w.fine in
    record {
      text = spaced (Fixed k.Set) ++ ((key ++ 32 ∷ []) ++ (spaced (Fixed k.Equal) ++ spaced (Literal value)));
      added = rw (adds_text t, adds_text s, r, q, adds_text p)
          (regroup old (spaced (Fixed k.Set)) key (32 ∷ []) (spaced (Fixed k.Equal)) (spaced (Literal value)));
      is_text = IsUtf8-append (spaced (Fixed k.Set)) _ (spaced_utf8 (key_text k.Set) (key_utf8 k.Set))
          (IsUtf8-append (key ++ 32 ∷ []) _ (spaced_utf8 key g.is_text)
          (IsUtf8-append (spaced (Fixed k.Equal)) (spaced (Literal value)) (spaced_utf8 (key_text k.Equal) (key_utf8 k.Equal))
          (spaced_utf8 (literal_text value) (literal_utf8 value u))));
      gives = set_gives key value g.gives;
    }
