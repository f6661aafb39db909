-- Statements and scripts as texts.
use Rattle.std.proofs.Common.{ℕ, ◌≡◌, ◌<◌, ◌+◌, true, false, List, [], ◌∷◌, ◌++◌, length, refl, sym, subst, ap, ◌∙◌, append_assoc, append-nil, arith}
use Rattle.std.specs.List.{All}
use Rattle.std.proofs.lemmas.List.{length-map}
use Rattle.std.proofs.lemmas.List.Elements.{All-cons, All-nil}
use Rattle.std.proofs.lemmas.List.Splits.{slice_split_at}
use Rattle.std.proofs.lemmas.Str.{IsUtf8-append, IsUtf8-nil}
use Rattle.aqe_lexer.specs.declared.token.Token.{Token}
use Rattle.aqe_lexer.specs.declared.token.TokenKind.TheVariants as kind
use Rattle.aqe_lexer.specs.TokenList.{HasTokens, token_at}
use Rattle.aqe_lexer.specs.TokenList.HasTokens.{none}
use Rattle.aqe_trees.specs.declared.query.CoreTree.{CoreTree}
use Rattle.aqe_trees.specs.declared.query.QueryTree.{QueryTree}
use Rattle.aqe_trees.specs.declared.query.UnionTree.{UnionTree}
use Rattle.aqe_trees.specs.declared.statement.Stmt.{Stmt}
use Rattle.aqe_trees.specs.declared.statement.Stmt.TheVariants as stmt
use Rattle.aqe_trees.specs.declared.statement.TableForm.{TableForm}
use Rattle.aqe_trees.specs.declared.terminal.Terminal.{Terminal}
use Rattle.aqe_trees.specs.Queries.{IsQuery, query_of, IsUnion, union_of, IsCore, core_paren, core_select}
use Rattle.aqe_trees.specs.Tables.{IsCreate, create}
use Rattle.aqe_trees.specs.Keywords.{symbol_key}
use Rattle.aqe_script.specs.Terminals.{terminal_of, terminals_of}
use Rattle.aqe_script.specs.Statements.{IsStatement, is_semicolon, ends_statement, parts_of, AreStatements, finished, nothing, statement}
use Rattle.aqe_script.specs.Statements.IsStatement.{create as said_create, query as said_query}
use Rattle.aqe_phrases.specs.Texts.{text_of_all}
use Rattle.aqe_phrases.specs.Written.{AllSound, Adds, Spelled}
use Rattle.aqe_spell.specs.Clauses.{SpelledWhole}
use Rattle.aqe_spell.specs.Tokens.{Gives, NoneEnds, Writable, AllWritable, IsWhole, StatementText, Leads, ScriptText, HasScript, IsSpelling}
use Rattle.aqe_spell.proofs.Cuts.{token_cut, blank_cut, text_at}
use Rattle.aqe_spell.proofs.Sources.{terminals_stand, script_writable}
use Rattle.aqe_spell.proofs.TextTokens.{words_give, gives_both, gives_nothing, gives_as}
use Rattle.aqe_spell.proofs.Utf8Texts.{words_utf8, low_utf8}

-- words that are a statement, of which there are some, are a text of it
words_text : (x : Stmt) (words : List Terminal → List Terminal) (old new : List ℕ) → Adds words old new → 0 < length (words [])
    → ((source : List ℕ) (ts : List Token) → terminals_of source ts ≡ words [] → IsStatement source x ts) → StatementText x old new
words_text x words old new a some f =
    let sound : AllSound (words []) = a.sound [] tt in
    record {
      text = text_of_all (words []);
      added = sym (append-nil new) ∙ a.added [];
      is_text = words_utf8 (words []) sound;
      gives = gives_as (text_of_all (words [])) (words_give (words []) sound) (λ source ts are. record {
        is_statement = f source ts are.are;
        some = subst (λ n. 0 < n) (sym (ap length are.are) ∙ length-map ts (terminal_of source)) some;
        none_ends = are.none_ends;
      });
    }

core_some : {tree : CoreTree} {ts us : List Terminal} → IsCore tree ts us → 0 < length ts
core_some (core_paren d) = omega arith
core_some (core_select d) = omega arith

union_some : {tree : UnionTree} {ts us : List Terminal} → IsUnion tree ts us → 0 < length ts
union_some (union_of d r) = core_some d

query_some : {tree : QueryTree} {ts us : List Terminal} → IsQuery tree ts us → 0 < length ts
query_some (query_of d e f g) = union_some d

create_some : {form : TableForm} {ts : List Terminal} → IsCreate form ts → 0 < length ts
create_some (create e d f p) = omega arith

is_query : {source : List ℕ} {tree : QueryTree} {ts : List Token} → IsStatement source (stmt.Query tree) ts → IsQuery tree (terminals_of source ts) []
is_query (said_query d) = d

is_create : {source : List ℕ} {form : TableForm} {ts : List Token} → IsStatement source (stmt.CreateTable form) ts → IsCreate form (terminals_of source ts)
is_create (said_create d) = d

pub query_text : (tree : QueryTree) (old new : List ℕ) → Spelled IsQuery tree old new → Writable (stmt.Query tree) → StatementText (stmt.Query tree) old new
query_text tree old new s w =
    let x = s (terminals_of w.source w.tokens) [] (is_query w.is_statement) (terminals_stand w.source w.tokens w.fine) in
    words_text (stmt.Query tree) x.words old new x.adds (query_some (x.reads []))
    (λ source ts e. said_query (subst (λ l. IsQuery tree l []) (sym e) (x.reads [])))

pub table_text : (form : TableForm) (old new : List ℕ) → SpelledWhole (IsCreate form) old new → Writable (stmt.CreateTable form)
    → StatementText (stmt.CreateTable form) old new
table_text form old new s w =
    let x = s (terminals_of w.source w.tokens) (is_create w.is_statement) (terminals_stand w.source w.tokens w.fine) in
    words_text (stmt.CreateTable form) x.words old new x.adds (create_some x.reads)
    (λ source ts e. said_create (subst (IsCreate form) (sym e) x.reads))

-- a `;`
record IsEnd (source : List ℕ) (tokens : List Token) : Type 0 where
  token : Token
  alone : tokens ≡ token ∷ []
  ends : is_semicolon source token ≡ true

end_gives : Gives (59 ∷ 10 ∷ []) IsEnd
end_gives source at rest d =
    let token = token_at kind.Symbol at 1 in
    record {
      tokens = token ∷ [];
      wanted = record {
        token = token;
        alone = refl;
        ends = ap (λ l. ends_statement (symbol_key l)) (text_at source (59 ∷ []) (10 ∷ rest) kind.Symbol at d);
      };
      cut = λ more h. token_cut kind.Symbol (59 ∷ []) (10 ∷ rest) at more (record { some = omega arith; fits = refl })
          (blank_cut 10 rest (at + 1) more refl (subst (λ n. HasTokens n rest more) (omega arith) h));
    }

-- no statement ends at one of the tokens, by their index
all_join : (source : List ℕ) (ts : List Token) → NoneEnds source ts → All (λ t. is_semicolon source t ≡ false) ts
all_join source [] p = All-nil (λ t. is_semicolon source t ≡ false)
all_join source (t ∷ ts) p = All-cons (λ t. is_semicolon source t ≡ false) t ts p.0 (all_join source ts p.1)

first_statement : (source : List ℕ) (x : Stmt) (left : List Stmt) (ts : List Token) (rest : List (List Token)) → 0 < length ts
    → IsStatement source x ts → AreStatements source left rest → AreStatements source (x ∷ left) (ts ∷ rest)
first_statement source x left [] rest some s d = absurd (omega (arith, some))
first_statement source x left (t ∷ ts) rest some s d = statement s d

-- a statement and its `;` lead from what is left to what was left before
leads_on : (source : List ℕ) (x : Stmt) (left : List Stmt) (ts : List Token) (end : Token) → IsWhole x source ts
    → is_semicolon source end ≡ true → Leads (x ∷ left) left source (ts ++ end ∷ [])
leads_on source x left ts end w e more d =
    let cut : parts_of source (ts ++ end ∷ more) ≡ ts ∷ parts_of source more =
    slice_split_at (is_semicolon source) ts end more (all_join source ts w.none_ends) e in
    let whole : (ts ++ end ∷ []) ++ more ≡ ts ++ end ∷ more = append_assoc ts (end ∷ []) more in
    subst (λ l. AreStatements source (x ∷ left) (parts_of source l)) (sym whole)
    (subst (AreStatements source (x ∷ left)) (sym cut) (first_statement source x left ts (parts_of source more) w.some w.is_statement d))

line_gives : (x : Stmt) (left : List Stmt) (text : List ℕ) → Gives text (IsWhole x) → Gives (text ++ 59 ∷ 10 ∷ []) (Leads (x ∷ left) left)
line_gives x left text g =
    gives_both text (59 ∷ 10 ∷ []) g end_gives
    (λ source xs ys w e. subst (λ l. Leads (x ∷ left) left source (xs ++ l)) (sym e.alone) (leads_on source x left xs e.token w e.ends))

pub script_begin : (script : List Stmt) → ScriptText script script []
script_begin script = record { is_text = IsUtf8-nil; gives = gives_nothing (λ source more d. d) }

pub script_step : (script : List Stmt) (x : Stmt) (left : List Stmt) (old mid new : List ℕ) → ScriptText script (x ∷ left) old
    → StatementText x old mid → new ≡ mid ++ 59 ∷ 10 ∷ [] → ScriptText script left new
script_step script x left old mid new s t e =
    let line : List ℕ = t.text ++ 59 ∷ 10 ∷ [] in
    let is : new ≡ old ++ line = e ∙ (ap (λ l. l ++ 59 ∷ 10 ∷ []) t.added ∙ append_assoc old t.text (59 ∷ 10 ∷ [])) in
    subst (ScriptText script left) (sym is) (record {
      is_text = IsUtf8-append old line s.is_text (IsUtf8-append t.text (59 ∷ 10 ∷ []) t.is_text (low_utf8 (59 ∷ 10 ∷ []) refl));
      gives = gives_both old line s.gives (line_gives x left t.text t.gives)
          (λ source xs ys f g more d. subst (λ l. AreStatements source script (parts_of source l)) (sym (append_assoc xs ys more)) (f (ys ++ more) (g more d)));
    })

has_script : (script : List Stmt) (text : List ℕ) → ScriptText script [] text → HasScript text script
has_script script text s =
    let g = s.gives text 0 [] (sym (append-nil text)) in
    let list : HasTokens 0 text g.tokens =
    subst (λ l. HasTokens 0 l g.tokens) (append-nil text)
    (subst (λ l. HasTokens 0 (text ++ []) l) (append-nil g.tokens) (g.cut [] (none (0 + length text)))) in
    record {
      tokens = g.tokens;
      is_list = record { is_text = s.is_text; cut = list };
      is_script = subst (λ l. AreStatements text script (parts_of text l)) (append-nil g.tokens) (g.wanted [] (nothing finished));
    }

pub spelling : (script : List Stmt) (text : List ℕ) → (AllWritable script → ScriptText script [] text) → IsSpelling script text
spelling script text f source tokens list d = has_script script text (f (script_writable source tokens script list d))

pub record Reached (script left : List Stmt) (bytes : List ℕ) : Type 0 where
  pub writable : AllWritable left
  pub text : ScriptText script left bytes

pub reached_begin : (script : List Stmt) → AllWritable script → Reached script script []
reached_begin script w = record { writable = w; text = script_begin script }

pub reached_step : (script : List Stmt) (x : Stmt) (rest left : List Stmt) (old mid new : List ℕ) → rest ≡ x ∷ left → Reached script rest old
    → (Writable x → StatementText x old mid) → new ≡ mid ++ 59 ∷ 10 ∷ [] → Reached script left new
reached_step script x rest left old mid new e r f h =
    let q : Reached script (x ∷ left) old = subst (λ l. Reached script l old) e r in
    record { writable = q.writable.1; text = script_step script x left old mid new q.text (f q.writable.0) h }

pub reached_all : (script left : List Stmt) (bytes : List ℕ) → left ≡ [] → Reached script left bytes → ScriptText script [] bytes
reached_all script left bytes e r = subst (λ l. ScriptText script l bytes) e r.text
