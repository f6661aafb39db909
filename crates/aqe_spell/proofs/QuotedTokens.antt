-- The tokens of quoted names and strings.
use Rattle.std.proofs.Common.{ℕ, suc, ◌≡◌, ◌<◌, ◌≤◌, ◌+◌, ◌-◌, ◌==◌, ◌||◌, Bool, true, false, None, List, [], ◌∷◌, ◌++◌, length, drop, refl, sym, subst, ap, ◌∙◌, append_assoc, length-append, arith}
use Rattle.std.specs.Prelude.{if◌then◌else◌, nat_lt}
use Rattle.std.specs.List.{flat_map}
use Rattle.std.proofs.lemmas.Bool.Decides.{nat_tests}
use Rattle.aqe_lexer.specs.declared.piece.Piece.TheVariants as piece
use Rattle.aqe_lexer.specs.declared.token.Token.{Token}
use Rattle.aqe_lexer.specs.declared.token.TokenKind.{TokenKind}
use Rattle.aqe_lexer.specs.declared.token.TokenKind.TheVariants as kind
use Rattle.aqe_lexer.specs.Content.{text_of, content_of, unescape, undouble}
use Rattle.aqe_lexer.specs.Parts.{Passes, step_by, string_part, string_end, name_part, name_end}
use Rattle.aqe_lexer.specs.Parts.Passes.{here, next}
use Rattle.aqe_lexer.specs.Pieces.{Begins}
use Rattle.aqe_lexer.specs.TokenList.{HasTokens, token_at}
use Rattle.aqe_trees.specs.declared.terminal.Terminal.{Terminal}
use Rattle.aqe_trees.specs.declared.terminal.Terminal.TheVariants.{Name, Literal}
use Rattle.aqe_script.specs.Terminals.{key_of, key_of_text, fixed_or, content_terminal}
use Rattle.aqe_script.specs.Statements.{ends_statement}
use Rattle.aqe_phrases.specs.Texts.{doubled, escaped, name_text, literal_text}
use Rattle.aqe_spell.specs.Tokens.{Gives}
use Rattle.aqe_spell.proofs.Cuts.{content_at}
use Rattle.aqe_spell.proofs.WordTokens.{IsOne, spaced_cut, spaced_at}

no_less : (n : ℕ) → (suc n == 0) ≡ false
no_less n = grind (arith, nat_tests)

no_fewer : (n : ℕ) → nat_lt (suc (suc n)) 2 ≡ false
no_fewer n = grind (arith, nat_tests)

-- what is read of a name and of a string, by the length of what stops it
name_end_is : (inner stop : List ℕ) (n : ℕ) → length inner ≡ n + length stop → 0 < n → 0 < length stop
    → piece.Cut kind.Quoted (n + 2) ≡ name_end inner stop
name_end_is inner stop n e some more =
    let read : length inner - length stop ≡ n = omega arith in
    let a : (length stop == 0) ≡ false = grind (arith, nat_tests) in
    let b : (n == 0) ≡ false = grind (arith, nat_tests) in
    rw (a, read, b) refl

name_passes : (text rest : List ℕ) → Passes (step_by name_part) (flat_map doubled text ++ 96 ∷ 32 ∷ rest) (96 ∷ 32 ∷ rest)
name_passes [] rest = here (96 ∷ 32 ∷ rest)
name_passes (b ∷ text) rest =
    let behind : List ℕ = flat_map doubled text ++ 96 ∷ 32 ∷ rest in
    let more = name_passes text rest in
    let pick : (t : Bool) → (b == 96) ≡ t → Passes (step_by name_part) ((if t then 96 ∷ 96 ∷ [] else b ∷ []) ++ behind) (96 ∷ 32 ∷ rest) =
    λ t. elim t as (λ u. (b == 96) ≡ u → Passes (step_by name_part) ((if u then 96 ∷ 96 ∷ [] else b ∷ []) ++ behind) (96 ∷ 32 ∷ rest)) [
      | true ↦ λ e. next (96 ∷ 96 ∷ behind) behind (96 ∷ 32 ∷ rest) (rw (no_less (suc (length behind))) refl) more
      | false ↦ λ e. next (b ∷ behind) behind (96 ∷ 32 ∷ rest) (rw (no_less (length behind), e) refl) more
    ] in
    subst (λ l. Passes (step_by name_part) l (96 ∷ 32 ∷ rest)) (sym (append_assoc (doubled b) (flat_map doubled text) (96 ∷ 32 ∷ rest)))
    (pick (b == 96) refl)

name_undoubles : (text : List ℕ) → undouble (flat_map doubled text) ≡ text
name_undoubles [] = refl
name_undoubles (b ∷ text) =
    let more = name_undoubles text in
    let pick : (t : Bool) → (b == 96) ≡ t → undouble ((if t then 96 ∷ 96 ∷ [] else b ∷ []) ++ flat_map doubled text) ≡ b ∷ text =
    λ t. elim t as (λ u. (b == 96) ≡ u → undouble ((if u then 96 ∷ 96 ∷ [] else b ∷ []) ++ flat_map doubled text) ≡ b ∷ text) [
      | true ↦ λ e. let is : b ≡ 96 = grind (arith, nat_tests) in rw (is, more) refl
      | false ↦ λ e. rw (e, more) refl
    ] in
    pick (b == 96) refl

long_doubled : (text : List ℕ) → length text ≤ length (flat_map doubled text)
long_doubled [] = omega arith
long_doubled (b ∷ text) =
    let more = long_doubled text in
    let pick : (t : Bool) → length (b ∷ text) ≤ length ((if t then 96 ∷ 96 ∷ [] else b ∷ []) ++ flat_map doubled text) =
    λ t. elim t as (λ u. length (b ∷ text) ≤ length ((if u then 96 ∷ 96 ∷ [] else b ∷ []) ++ flat_map doubled text)) [
      | true ↦ omega arith
      | false ↦ omega arith
    ] in
    pick (b == 96)

-- a text with one byte before it and one behind it
pub quoted_gives : (q : ℕ) (inner : List ℕ) (kind : TokenKind) (terminal : Terminal)
    → ((rest : List ℕ) → Begins (q ∷ (inner ++ q ∷ 32 ∷ rest)) (piece.Cut kind (length inner + 2)))
    → ((text : List ℕ) → key_of_text kind text ≡ None) → ((text : List ℕ) → content_terminal kind text inner ≡ terminal)
    → (source : List ℕ) (at : ℕ) (rest : List ℕ) → drop at source ≡ ((q ∷ inner ++ q ∷ []) ++ 32 ∷ []) ++ rest
    → (token : List Token) × (token ≡ token_at kind at (length inner + 2) ∷ []) × (content_of source (token_at kind at (length inner + 2)) ≡ inner)
    × IsOne terminal source token
    × ((more : List Token) → HasTokens (at + length ((q ∷ inner ++ q ∷ []) ++ 32 ∷ [])) rest more
    → HasTokens at (((q ∷ inner ++ q ∷ []) ++ 32 ∷ []) ++ rest) (token ++ more))
quoted_gives q inner kind terminal begins none is source at rest d =
    let word : List ℕ = q ∷ inner ++ q ∷ [] in
    let size : length word ≡ length inner + 2 = omega (arith, length-append inner (q ∷ [])) in
    let token = token_at kind at (length inner + 2) in
    let whole : word ++ 32 ∷ rest ≡ q ∷ (inner ++ q ∷ 32 ∷ rest) = ap (λ l. q ∷ l) (append_assoc inner (q ∷ []) (32 ∷ rest)) in
    let content : content_of source token ≡ inner =
    content_at source inner (32 ∷ rest) q q kind at (spaced_at source word rest at d ∙ whole) in
    let key_is : key_of source token ≡ None = none (text_of source token) in
    let starts : Begins (word ++ 32 ∷ rest) (piece.Cut kind (length word)) =
    subst (λ n. Begins (word ++ 32 ∷ rest) (piece.Cut kind n)) (sym size)
    (subst (λ l. Begins l (piece.Cut kind (length inner + 2))) (sym whole) (begins rest)) in (
      token ∷ [],
      refl,
      content,
      record {
        token = token;
        alone = refl;
        is = ap (λ o. fixed_or o (content_terminal kind (text_of source token) (content_of source token))) key_is
            ∙ (ap (λ l. content_terminal kind (text_of source token) l) content ∙ is (text_of source token));
        joins = ap ends_statement key_is;
      },
      λ more h. subst (λ n. HasTokens at ((word ++ 32 ∷ []) ++ rest) (token_at kind at n ∷ more)) size
          (spaced_cut kind word rest at more starts h),
    )

quoted_begins : (text rest : List ℕ) → 0 < length text
    → Begins (96 ∷ (flat_map doubled text ++ 96 ∷ 32 ∷ rest)) (piece.Cut kind.Quoted (length (flat_map doubled text) + 2))
quoted_begins text rest some =
    let inner : List ℕ = flat_map doubled text ++ 96 ∷ 32 ∷ rest in
    record {
      some = omega arith;
      fits = record {
        stop = 96 ∷ 32 ∷ rest;
        stops = record { passes = name_passes text rest; stuck = rw (no_less (suc (length rest))) refl };
        value = name_end_is inner (96 ∷ 32 ∷ rest) (length (flat_map doubled text)) (length-append (flat_map doubled text) (96 ∷ 32 ∷ rest))
            (omega (arith, long_doubled text)) (omega arith);
      };
    }

pub quoted_name_gives : (text : List ℕ) → 0 < length text → Gives (name_text text true ++ 32 ∷ []) (IsOne (Name text true))
quoted_name_gives text some source at rest d =
    let g = quoted_gives 96 (flat_map doubled text) kind.Quoted (Name text true) (λ more. quoted_begins text more some) (λ l. refl)
    (λ l. ap (λ x. Name x true) (name_undoubles text)) source at rest d in
    record { tokens = g.0; wanted = g.3; cut = g.4 }

string_end_is : (inner stop : List ℕ) (n : ℕ) → length inner ≡ n + length (39 ∷ stop)
    → piece.Cut kind.Literal (n + 2) ≡ string_end 39 inner (39 ∷ stop)
string_end_is inner stop n e =
    let read : length inner - length (39 ∷ stop) ≡ n = omega arith in
    rw (no_less (length stop), read) refl

string_passes : (text rest : List ℕ) → Passes (step_by (string_part 39)) (flat_map escaped text ++ 39 ∷ 32 ∷ rest) (39 ∷ 32 ∷ rest)
string_passes [] rest = here (39 ∷ 32 ∷ rest)
string_passes (b ∷ text) rest =
    let behind : List ℕ = flat_map escaped text ++ 39 ∷ 32 ∷ rest in
    let more = string_passes text rest in
    let pick : (s t : Bool) → (b == 92) ≡ s → (b == 39) ≡ t
    → Passes (step_by (string_part 39)) ((if s || t then 92 ∷ b ∷ [] else b ∷ []) ++ behind) (39 ∷ 32 ∷ rest) =
    λ s t. elim s as (λ u. (b == 92) ≡ u → (b == 39) ≡ t
    → Passes (step_by (string_part 39)) ((if u || t then 92 ∷ b ∷ [] else b ∷ []) ++ behind) (39 ∷ 32 ∷ rest)) [
      | true ↦ λ e f. let is : b ≡ 92 = grind (arith, nat_tests) in
          subst (λ x. Passes (step_by (string_part 39)) (92 ∷ x ∷ behind) (39 ∷ 32 ∷ rest)) (sym is)
          (next (92 ∷ 92 ∷ behind) behind (39 ∷ 32 ∷ rest) (rw (no_less (suc (length behind)), no_fewer (length behind)) refl) more)
      | false ↦ λ e. elim t as (λ u. (b == 39) ≡ u
          → Passes (step_by (string_part 39)) ((if u then 92 ∷ b ∷ [] else b ∷ []) ++ behind) (39 ∷ 32 ∷ rest)) [
            | true ↦ λ f. let is : b ≡ 39 = grind (arith, nat_tests) in
                subst (λ x. Passes (step_by (string_part 39)) (92 ∷ x ∷ behind) (39 ∷ 32 ∷ rest)) (sym is)
                (next (92 ∷ 39 ∷ behind) behind (39 ∷ 32 ∷ rest) (rw (no_less (suc (length behind)), no_fewer (length behind)) refl) more)
            | false ↦ λ f. next (b ∷ behind) behind (39 ∷ 32 ∷ rest) (rw (no_less (length behind), f, e) refl) more
          ]
    ] in
    subst (λ l. Passes (step_by (string_part 39)) l (39 ∷ 32 ∷ rest)) (sym (append_assoc (escaped b) (flat_map escaped text) (39 ∷ 32 ∷ rest)))
    (pick (b == 92) (b == 39) refl refl)

string_unescapes : (text : List ℕ) → unescape (flat_map escaped text) ≡ text
string_unescapes [] = refl
string_unescapes (b ∷ text) =
    let more = string_unescapes text in
    let behind : List ℕ = flat_map escaped text in
    let pick : (s t : Bool) → (b == 92) ≡ s → (b == 39) ≡ t
    → unescape ((if s || t then 92 ∷ b ∷ [] else b ∷ []) ++ behind) ≡ b ∷ text =
    λ s t. elim s as (λ u. (b == 92) ≡ u → (b == 39) ≡ t
    → unescape ((if u || t then 92 ∷ b ∷ [] else b ∷ []) ++ behind) ≡ b ∷ text) [
      | true ↦ λ e f. let is : b ≡ 92 = grind (arith, nat_tests) in rw (is, more) refl
      | false ↦ λ e. elim t as (λ u. (b == 39) ≡ u → unescape ((if u then 92 ∷ b ∷ [] else b ∷ []) ++ behind) ≡ b ∷ text) [
        | true ↦ λ f. let is : b ≡ 39 = grind (arith, nat_tests) in rw (is, more) refl
        | false ↦ λ f. rw (e, more) refl
      ]
    ] in
    pick (b == 92) (b == 39) refl refl

literal_begins : (text rest : List ℕ)
    → Begins (39 ∷ (flat_map escaped text ++ 39 ∷ 32 ∷ rest)) (piece.Cut kind.Literal (length (flat_map escaped text) + 2))
literal_begins text rest =
    let inner : List ℕ = flat_map escaped text ++ 39 ∷ 32 ∷ rest in
    record {
      some = omega arith;
      fits = record {
        stop = 39 ∷ 32 ∷ rest;
        stops = record { passes = string_passes text rest; stuck = rw (no_less (suc (length rest))) refl };
        value = string_end_is inner (32 ∷ rest) (length (flat_map escaped text)) (length-append (flat_map escaped text) (39 ∷ 32 ∷ rest));
      };
    }

-- a string: one token, which stands for the text
pub record IsString (text : List ℕ) (source : List ℕ) (tokens : List Token) : Type 0 where
  pub token : Token
  pub alone : tokens ≡ token ∷ []
  pub is_literal : token.kind ≡ kind.Literal
  pub stands_for : unescape (content_of source token) ≡ text

pub string_gives_token : (text : List ℕ) → Gives (literal_text text ++ 32 ∷ []) (IsString text)
string_gives_token text source at rest d =
    let g = quoted_gives 39 (flat_map escaped text) kind.Literal (Literal text) (literal_begins text) (λ l. refl)
    (λ l. ap Literal (string_unescapes text)) source at rest d in
    record {
      tokens = g.0;
      wanted = record {
        token = token_at kind.Literal at (length (flat_map escaped text) + 2);
        alone = g.1;
        is_literal = refl;
        stands_for = ap unescape g.2 ∙ string_unescapes text;
      };
      cut = g.4;
    }

pub literal_gives : (text : List ℕ) → Gives (literal_text text ++ 32 ∷ []) (IsOne (Literal text))
literal_gives text source at rest d =
    let g = quoted_gives 39 (flat_map escaped text) kind.Literal (Literal text) (literal_begins text) (λ l. refl)
    (λ l. ap Literal (string_unescapes text)) source at rest d in
    record { tokens = g.0; wanted = g.3; cut = g.4 }
