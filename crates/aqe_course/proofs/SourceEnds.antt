-- A source is a script, or is refused.
use Rattle.std.proofs.Common.{◌≡◌, ◌⊎◌, inl, inr, ℕ, zero, suc, ◌+◌, ◌-◌, ◌<◌, ◌≤◌, ◌==◌, Bool, true, false, List, [], ◌∷◌, Option, Some, None, Result, Ok, Err, length, drop, refl, sym, ap, subst, ◌∙◌, arith, Decides, IsTrue}
use Rattle.std.specs.Prelude.{IsUtf8, IsFalse, Any, if◌then◌else◌, slice_index}
use Rattle.std.specs.List.{prefix_len}
use Rattle.std.proofs.lemmas.Bool.Decides.{Decides-eqb}
use Rattle.std.proofs.lemmas.List.{length-drop}
use Rattle.aqe_base.specs.declared.status.Status.{Status}
use Rattle.aqe_base.specs.declared.status.Status.TheVariants as status
use Rattle.aqe_base.specs.declared.status.SyntaxKind.TheVariants as syntax
use Rattle.aqe_base.specs.declared.status.LimitKind.TheVariants as limit
use Rattle.aqe_values.specs.Bounds.{text_limit}
use Rattle.aqe_store.specs.Files.{Entries, content_of}
use Rattle.aqe_store.specs.Reading.{IsLonger}
use Rattle.aqe_lexer.specs.declared.fault.Fault.{Fault}
use Rattle.aqe_lexer.specs.declared.fault.LexFault.{LexFault}
use Rattle.aqe_lexer.specs.declared.front.Front.{Front}
use Rattle.aqe_lexer.specs.declared.front.Front.TheVariants as front
use Rattle.aqe_lexer.specs.declared.piece.Piece.{Piece}
use Rattle.aqe_lexer.specs.declared.piece.Piece.TheVariants as piece
use Rattle.aqe_lexer.specs.declared.token.Token.{Token}
use Rattle.aqe_lexer.specs.declared.token.TokenKind.{TokenKind}
use Rattle.aqe_lexer.specs.declared.token.TokenKind.TheVariants as kind
use Rattle.aqe_lexer.specs.Bytes.{front_of, is_in_line, is_pair, is_word_byte}
use Rattle.aqe_lexer.specs.Faults.{is_open, told_of}
use Rattle.aqe_lexer.specs.Numbers.{run_of}
use Rattle.aqe_lexer.specs.Parts.{Stops, comment_end, comment_step, name_end, name_part, step_by, string_end, string_part}
use Rattle.aqe_lexer.specs.Parts.Passes.{here, next}
use Rattle.aqe_lexer.specs.Pieces.{Begins, Fits, symbol_of}
use Rattle.aqe_lexer.specs.Symbols.{symbol_len}
use Rattle.aqe_lexer.specs.TokenList.{FirstFault, HasFault, HasTokens, IsTokenList, token_at, utf8_front}
use Rattle.aqe_lexer.specs.TokenList.FirstFault.{in_text, at_end, within, between}
use Rattle.aqe_lexer.specs.TokenList.HasFault.{here as bad_here, behind_gap, behind_cut}
use Rattle.aqe_lexer.specs.TokenList.HasTokens.{none, gap, cut}
use Rattle.aqe_lexer.proofs.FaultLemmas.{whole_text}
use Rattle.aqe_lexer.proofs.Within.{begins_within, if_has}
use Rattle.aqe_trees.specs.declared.statement.Stmt.{Stmt}
use Rattle.aqe_script.specs.Depth.{IsTooOpen}
use Rattle.aqe_script.specs.Statements.{IsScript}
use Rattle.aqe_syntax.specs.Causes.{IsTaken, IsTooDeep, IsTooNested}
use Rattle.aqe_built.specs.Built.{is_script_built}
use Rattle.aqe_course.specs.Command.{Command}
use Rattle.aqe_course.specs.Opening.{IsNotOpened, IsOpened, IsRefusedSource, IsSource, Needed, of_lex}
use Rattle.aqe_course.specs.Opening.IsRefusedSource.{no_tokens, no_sentence, too_deep, not_built}
use Rattle.aqe_course.specs.Opening.Needed.{there, missing, too_long}
use Rattle.aqe_course.specs.Opening.IsNotOpened.{no_file, refused}
use Rattle.aqe_course.proofs.Surely.{Surely, sure, onwards, holds_or_not}

-- Steps that each leave less come to a stop.

stops_below : {S : Type 0} (step : S → Option S) (size : S → ℕ) → ((s t : S) → step s ≡ Some t → size t < size s) → (n : ℕ) (s : S) → size s < n → (t : S) × Stops step s t
stops_below step size less zero s h = absurd (omega (arith, h))
stops_below {S} step size less (suc n) s h = by (step s) refl (λ t k. stops_below step size less n t k)
  where
    by : (o : Option S) → step s ≡ o → ((t : S) → size t < n → (u : S) × Stops step t u) → (t : S) × Stops step s t
    by None e more = (s, record { passes = here s; stuck = e })
    by (Some t) e more =
        let later = more t (omega (arith, less s t e, h)) in
        (later.0, record { passes = next s t later.0 e later.1.passes; stuck = later.1.stuck })

stops : {S : Type 0} (step : S → Option S) (size : S → ℕ) → ((s t : S) → step s ≡ Some t → size t < size s) → (s : S) → (t : S) × Stops step s t
stops step size less s = stops_below step size less (suc (size s)) s (omega arith)

part_less : (part : List ℕ → ℕ) → part [] ≡ 0 → (s t : List ℕ) → step_by part s ≡ Some t → length t < length s
part_less part zero_at_end s t e =
    let P : Option (List ℕ) → Type 0 = λ o. o ≡ Some t → length t < length s in
    if_has P (part s == 0) (step_by part s) None (Some (drop (part s) s)) refl (λ _ h. absurd cc)
    (λ no h.
    let is : drop (part s) s ≡ t = cc h in
    let some : part s ≡ 0 → ⊥ = λ z. let yes = (Decides-eqb (part s) 0).1 z in let bad : true ≡ false = sym yes ∙ no in cc bad in
    rw (← is) (shorter s (part s) (λ z. some z) (λ z. some (ap part z ∙ zero_at_end)))) e
  where
    shorter : (xs : List ℕ) (n : ℕ) → (n ≡ 0 → ⊥) → (xs ≡ [] → ⊥) → length (drop n xs) < length xs
    shorter [] n some full = absurd (full refl)
    shorter (x ∷ xs) zero some full = absurd (some refl)
    shorter (x ∷ xs) (suc n) some full = omega (arith, length-drop (suc n) (x ∷ xs))

comment_less : (s t : ℕ × List ℕ) → comment_step s ≡ Some t → length t.1 < length s.1
comment_less s t e =
    let P : Option (ℕ × List ℕ) → Type 0 = λ o. o ≡ Some t → length t.1 < length s.1 in
    let gone : (length s.1 == 0) ≡ false → (d n : ℕ) → 0 < n → Some (d, drop n s.1) ≡ Some t → length t.1 < length s.1 =
    λ some d n more h. let is : t ≡ (d, drop n s.1) = cc in rw is (shorter s.1 n more some) in
    if_has P (length s.1 == 0) (comment_step s) None _ refl (λ _ h. absurd cc)
    (λ some. if_has P (is_pair 42 47 s.1) _ _ _ refl
    (λ _. if_has P (s.0 == 1) _ None _ refl (λ _ h. absurd cc) (λ _ h. gone some _ 2 (omega arith) h))
    (λ _. if_has P (is_pair 47 42 s.1) _ _ _ refl (λ _ h. gone some _ 2 (omega arith) h) (λ _ h. gone some _ 1 (omega arith) h))) e
  where
    shorter : (xs : List ℕ) (n : ℕ) → 0 < n → (length xs == 0) ≡ false → length (drop n xs) < length xs
    shorter [] n more some = cc some
    shorter (x ∷ xs) n more some = omega (arith, more, length-drop n (x ∷ xs))

-- Each place that is not the end begins a piece.

fits : (f : Front) (bytes : List ℕ) → (x : Piece) × Fits f bytes x
fits front.Blank bytes = (piece.Gap 1, refl)
fits front.Line bytes = (piece.Gap (prefix_len is_in_line bytes), refl)
fits front.Comment bytes =
    let inner : List ℕ = drop 2 bytes in
    let end = stops comment_step (λ s. length s.1) comment_less (1, inner) in
    (comment_end inner end.0, record { stop = end.0; stops = end.1; value = refl })
fits front.Word bytes = (piece.Cut kind.Word (prefix_len is_word_byte bytes), refl)
fits front.Run bytes = (run_of (Rattle.std.proofs.Common.take (prefix_len is_word_byte bytes) bytes), refl)
fits front.String bytes =
    let quote : ℕ = slice_index bytes 0 in
    let inner : List ℕ = drop 1 bytes in
    let end = stops (step_by (string_part quote)) length (part_less (string_part quote) refl) inner in
    (string_end quote inner end.0, record { stop = end.0; stops = end.1; value = refl })
fits front.Name bytes =
    let inner : List ℕ = drop 1 bytes in
    let end = stops (step_by name_part) length (part_less name_part refl) inner in
    (name_end inner end.0, record { stop = end.0; stops = end.1; value = refl })
fits front.Symbol bytes = (symbol_of (symbol_len bytes), refl)

begins : (bytes : List ℕ) → 0 < length bytes → (x : Piece) × Begins bytes x
begins bytes some = let one = fits (front_of bytes) bytes in (one.0, record { some = some; fits = one.1 })

-- Bytes have tokens, or a fault.

abbrev Read : ℕ → List ℕ → Type 0
Read at bytes = ((tokens : List Token) × HasTokens at bytes tokens) ⊎ ((fault : Fault) × (place : ℕ) × HasFault at bytes fault place)

past_gap : (at len : ℕ) (bytes : List ℕ) → Begins bytes (piece.Gap len) → Read (at + len) (drop len bytes) → Read at bytes
past_gap at len bytes b (inl (tokens, h)) = inl (tokens, gap at len bytes tokens b h)
past_gap at len bytes b (inr (fault, place, h)) = inr (fault, place, behind_gap at len place fault bytes b h)

past_cut : (at len : ℕ) (kind : TokenKind) (bytes : List ℕ) → Begins bytes (piece.Cut kind len) → Read (at + len) (drop len bytes) → Read at bytes
past_cut at len kind bytes b (inl (tokens, h)) = inl (token_at kind at len ∷ tokens, cut at len kind bytes tokens b h)
past_cut at len kind bytes b (inr (fault, place, h)) = inr (fault, place, behind_cut at len place kind fault bytes b h)

reads_below : (n at : ℕ) (bytes : List ℕ) → length bytes < n → Read at bytes
reads_below zero at bytes h = absurd (omega (arith, h))
reads_below (suc n) at [] h = inl ([], none at)
reads_below (suc n) at (b ∷ bs) h =
    let one = begins (b ∷ bs) (omega arith) in
    by one.0 one.1 (λ at rest k. reads_below n at rest k)
  where
    shorter : (len : ℕ) → 0 < len → len ≤ length (b ∷ bs) → length (drop len (b ∷ bs)) < n
    shorter len some fits = omega (arith, some, fits, h, length-drop len (b ∷ bs))

    by : (x : Piece) → Begins (b ∷ bs) x → ((at : ℕ) (rest : List ℕ) → length rest < n → Read at rest) → Read at (b ∷ bs)
    by (piece.Gap len) g more = let w = begins_within (b ∷ bs) (piece.Gap len) g in past_gap at len (b ∷ bs) g (more (at + len) (drop len (b ∷ bs)) (shorter len w.0 w.1))
    by (piece.Cut kind len) g more = let w = begins_within (b ∷ bs) (piece.Cut kind len) g in past_cut at len kind (b ∷ bs) g (more (at + len) (drop len (b ∷ bs)) (shorter len w.0 w.1))
    by (piece.Bad fault far) g more = inr (fault, at + far, bad_here at far fault (b ∷ bs) g)

reads : (bytes : List ℕ) → Read 0 bytes
reads bytes = reads_below (suc (length bytes)) 0 bytes (omega arith)

-- A source has tokens, or a first fault.

abbrev Lexed : List ℕ → Type 0
Lexed source = ((tokens : List Token) × IsTokenList source tokens) ⊎ ((fault : LexFault) × FirstFault source fault)

text_lexed : (source : List ℕ) → IsUtf8 source → Read 0 source → Lexed source
text_lexed source u (inl (tokens, h)) = inl (tokens, record { is_text = u; cut = h })
text_lexed source u (inr (fault, place, h)) = by (is_open fault) refl
  where
    by : (b : Bool) → is_open fault ≡ b → Lexed source
    by true e = inr (told_of fault place, at_end fault place u h e refl)
    by false e = inr (told_of fault place, in_text fault place (subst (λ s. HasFault 0 s fault place) (sym (whole_text source u)) h) e refl)

broken_lexed : (source : List ℕ) → (IsUtf8 source → ⊥) → Read 0 (utf8_front source) → Lexed source
broken_lexed source u (inl (tokens, h)) = inr (_, between tokens u h refl)
broken_lexed source u (inr (fault, place, h)) = by (is_open fault) refl
  where
    by : (b : Bool) → is_open fault ≡ b → Lexed source
    by true e = inr (_, within fault place u h e refl)
    by false e = inr (told_of fault place, in_text fault place h e refl)

lexed : (source : List ℕ) → Surely (Lexed source)
lexed source = onwards (holds_or_not (IsUtf8 source)) (λ way. sure (by way))
  where
    by : IsUtf8 source ⊎ (IsUtf8 source → ⊥) → Lexed source
    by (inl u) = text_lexed source u (reads source)
    by (inr u) = broken_lexed source u (reads (utf8_front source))

-- Tokens are a script that is carried out so far, or are refused.

abbrev Sourced : List ℕ → Type 0
Sourced source = ((script : List Stmt) × IsSource source script) ⊎ ((end : Status) × IsRefusedSource source end)

taken_sourced : (source : List ℕ) (tokens : List Token) (script : List Stmt) → IsTokenList source tokens → IsTaken source tokens script → Sourced source
taken_sourced source tokens script are taken = by (is_script_built script) refl
  where
    by : (b : Bool) → is_script_built script ≡ b → Sourced source
    by true e = inl (script, record { tokens = tokens; are = are; taken = taken; built = e })
    by false e = inr (status.NotBuilt, not_built tokens script are taken e refl)

deep : (source : List ℕ) (tokens : List Token) → IsTokenList source tokens → IsTooDeep source tokens → Sourced source
deep source tokens are h = inr (status.Limit limit.Depth, too_deep tokens are h refl)

read_sourced : (source : List ℕ) (tokens : List Token) (script : List Stmt) → IsTokenList source tokens → (IsTooOpen source tokens → ⊥) → IsScript source tokens script → Surely (Sourced source)
read_sourced source tokens script are shallow is = onwards (holds_or_not (Any IsTooNested script)) (λ way. sure (by way))
  where
    by : Any IsTooNested script ⊎ (Any IsTooNested script → ⊥) → Sourced source
    by (inl nested) = deep source tokens are (inr (script, is, nested))
    by (inr flat) = taken_sourced source tokens script are (record { reads = is; shallow = shallow; flat = flat })

shallow_sourced : (source : List ℕ) (tokens : List Token) → IsTokenList source tokens → (IsTooOpen source tokens → ⊥) → Surely (Sourced source)
shallow_sourced source tokens are shallow = onwards (holds_or_not ((script : List Stmt) × IsScript source tokens script)) by
  where
    by : ((script : List Stmt) × IsScript source tokens script) ⊎ (((script : List Stmt) × IsScript source tokens script) → ⊥) → Surely (Sourced source)
    by (inl (script, is)) = read_sourced source tokens script are shallow is
    by (inr nay) = sure (inr (status.Syntax syntax.NotASentence, no_sentence tokens are (λ script is. nay (script, is)) shallow refl))

tokens_sourced : (source : List ℕ) (tokens : List Token) → IsTokenList source tokens → Surely (Sourced source)
tokens_sourced source tokens are = onwards (holds_or_not (IsTooOpen source tokens)) by
  where
    by : IsTooOpen source tokens ⊎ (IsTooOpen source tokens → ⊥) → Surely (Sourced source)
    by (inl open_deep) = sure (deep source tokens are (inl open_deep))
    by (inr shallow) = shallow_sourced source tokens are shallow

sourced : (source : List ℕ) → Surely (Sourced source)
sourced source = onwards (lexed source) by
  where
    by : Lexed source → Surely (Sourced source)
    by (inl (tokens, are)) = tokens_sourced source tokens are
    by (inr (fault, is)) = sure (inr (of_lex fault, no_tokens fault is refl))

-- A command names a script, or there is none.

abbrev pub Opened : Entries → Command → Type 0
Opened files said = ((script : List Stmt) × IsOpened files said script) ⊎ ((end : Status) × IsNotOpened files said end)

pub opened : (files : Entries) (said : Command) → Surely (Opened files said)
opened files said = by (content_of files said.path) refl
  where
    read : (source : List ℕ) → Needed files said.path (Ok source) → Sourced source → Opened files said
    read source has (inl (script, is)) = inl (script, record { source = source; has = has; is = is })
    read source has (inr (end, is)) = inr (end, refused source has is)

    sized : (source : List ℕ) → content_of files said.path ≡ Some source → (length source ≤ text_limit) ⊎ ((length source ≤ text_limit) → ⊥) → Surely (Opened files said)
    sized source e (inl few) = onwards (sourced source) (λ s. sure (read source (there source e few refl) s))
    sized source e (inr nay) =
        let more : text_limit < length source = omega (arith, nay) in
        let long : IsLonger files said.path text_limit = subst (λ o. Rattle.std.specs.Prelude.IsSomeAnd o (λ content. text_limit < length content)) (sym e) more in
        sure (inr (status.Limit limit.FileBytes, no_file (too_long long refl)))

    by : (o : Option (List ℕ)) → content_of files said.path ≡ o → Surely (Opened files said)
    by None e = sure (inr (status.Missing, no_file (missing (λ held. let no = subst Rattle.std.specs.Prelude.IsSome e held in cc no) refl)))
    by (Some source) e = onwards (holds_or_not (length source ≤ text_limit)) (sized source e)
