-- Statements and scripts: from the reading of the parts to that of the whole.
use Rattle.std.proofs.Common.{ℕ, List, [], ◌∷◌, ◌++◌, ◌≡◌, ◌<◌, inl, inr, length, refl, sym, subst, arith, lit<, Result, Ok, Err, MatchResult, MatchOption, Bor}
use Rattle.std.specs.Prelude.{Option, Some, None, All, ◌≤◌}
use Rattle.std.specs.List.{slice_index_or}
use Rattle.std.specs.Slice.{IsItemAt}
use Rattle.std.proofs.lemmas.List.{append-nil}
use Rattle.std.proofs.Math.Seq.{append_snoc}
use Rattle.aqe_lexer.specs.declared.token.Token.{Token}
use Rattle.aqe_lexer.specs.Spans.{StandsIn}
use Rattle.aqe_trees.specs.declared.terminal.Key.{Key}
use Rattle.aqe_trees.specs.declared.terminal.Key.TheVariants as k
use Rattle.aqe_trees.specs.declared.terminal.Terminal.{Terminal}
use Rattle.aqe_trees.specs.declared.terminal.Terminal.TheVariants.{Fixed}
use Rattle.aqe_trees.specs.declared.query.QueryTree.{QueryTree}
use Rattle.aqe_trees.specs.declared.query.UnionTree.{UnionTree}
use Rattle.aqe_trees.specs.declared.query.CoreTree.{CoreTree}
use Rattle.aqe_trees.specs.declared.statement.Stmt.{Stmt}
use Rattle.aqe_trees.specs.declared.statement.TableForm.{TableForm}
use Rattle.aqe_trees.specs.declared.statement.SetForm.{SetForm}
use Rattle.aqe_trees.specs.Queries.{IsQuery, query_of, IsUnion, union_of, IsCore, core_paren, core_select}
use Rattle.aqe_trees.specs.Tables.{IsCreate, create}
use Rattle.aqe_reader.specs.declared.fault.ReadFault.{ReadFault}
use Rattle.aqe_reader.specs.declared.fault.ReadFault.TheVariants as read
use Rattle.aqe_syntax.specs.declared.fault.SyntaxFault.{SyntaxFault}
use Rattle.aqe_syntax.specs.Causes.{IsTokenPlace, IsPlaced, IsNoScript}
use Rattle.aqe_reader.specs.Reading.{Read, Refuses, IsRefusal}
use Rattle.aqe_script.specs.Terminals.{terminals_of}
use Rattle.aqe_script.specs.Settings.{IsSet, set}
use Rattle.aqe_script.specs.Statements as st
use Rattle.aqe_syntax.specs.Sentences.{BeginsSet, IsSentence, table_sentence, query_sentence, Adds, adds_nothing, adds_one, HasNone}

-- a query and nothing behind it

pub whole_read : {t : QueryTree} {ts us : List Terminal} → Read IsQuery 1 ts t us → us ≡ [] → IsQuery t ts []
whole_read {t = t} {ts = ts} r e = subst (λ (x : List Terminal). IsQuery t ts x) e r.found

pub whole_refused : {ts : List Terminal} → Refuses IsQuery 1 ts → (v : QueryTree) → IsQuery v ts [] → ⊥
whole_refused n v d = n v [] d (lit< tt)

pub whole_left : {t : QueryTree} {ts us : List Terminal} → Read IsQuery 1 ts t us → (us ≡ [] → ⊥) → (v : QueryTree) → IsQuery v ts [] → ⊥
whole_left r n v d = let o = r.only v [] d (lit< tt) in n o.1

-- create | query

no_create_core : {v : CoreTree} {ts us : List Terminal} → IsCore v (Fixed k.Create ∷ ts) us → ⊥
no_create_core d = elim d [ ]

no_create_union : {v : UnionTree} {ts us : List Terminal} → IsUnion v (Fixed k.Create ∷ ts) us → ⊥
no_create_union (union_of d r) = no_create_core d

no_create_query : {v : QueryTree} {ts us : List Terminal} → IsQuery v (Fixed k.Create ∷ ts) us → ⊥
no_create_query (query_of d o l f) = no_create_union d

no_table : {v : Stmt} {ts after : List Terminal} → ts ≡ Fixed k.Create ∷ after → ((form : TableForm) → IsCreate form ts → ⊥) → IsSentence v ts → ⊥
no_table e n (table_sentence d) = n _ d
no_table e n (query_sentence {tree = tree} d) = no_create_query (subst (λ (x : List Terminal). IsQuery tree x []) e d)

pub table_refused : {ts after : List Terminal} → ts ≡ Fixed k.Create ∷ after → ((form : TableForm) → IsCreate form ts → ⊥) →
    (v : Stmt) → IsSentence v ts → ⊥
table_refused e n v d = no_table e n d

no_query : {v : Stmt} {ts : List Terminal} → ((us : List Terminal) → ts ≡ Fixed k.Create ∷ us → ⊥) → ((tree : QueryTree) → IsQuery tree ts [] → ⊥) →
    IsSentence v ts → ⊥
no_query m n (table_sentence (create d a e l)) = m _ refl
no_query m n (query_sentence d) = n _ d

pub query_sentence_refused : {ts : List Terminal} → ((us : List Terminal) → ts ≡ Fixed k.Create ∷ us → ⊥) →
    ((tree : QueryTree) → IsQuery tree ts [] → ⊥) → (v : Stmt) → IsSentence v ts → ⊥
query_sentence_refused m n v d = no_query m n d

-- a statement

sentence_statement : {v : Stmt} {source : List ℕ} {ts : List Token} {us : List Terminal} → us ≡ terminals_of source ts → IsSentence v us →
    st.IsStatement source v ts
sentence_statement e (table_sentence {form = form} d) = st.create (subst (λ (x : List Terminal). IsCreate form x) e d)
sentence_statement e (query_sentence {tree = tree} d) = st.query (subst (λ (x : List Terminal). IsQuery tree x []) e d)

no_sentence : {v : Stmt} {source : List ℕ} {ts : List Token} {us : List Terminal} → us ≡ terminals_of source ts →
    ((form : SetForm) → IsSet source form ts → ⊥) → ((x : Stmt) → IsSentence x us → ⊥) → st.IsStatement source v ts → ⊥
no_sentence e m n (st.create {form = form} d) = n _ (table_sentence (subst (λ (x : List Terminal). IsCreate form x) (sym e) d))
no_sentence e m n (st.set d) = m _ d
no_sentence e m n (st.query {tree = tree} d) = n _ (query_sentence (subst (λ (x : List Terminal). IsQuery tree x []) (sym e) d))

-- what the reader of a sentence answers is what that of a statement does, where there is no SET
pub statement_answer : {source : List ℕ} {ts : List Token} {us : List Terminal} (r : Result Stmt ReadFault) → us ≡ terminals_of source ts →
    ((form : SetForm) → IsSet source form ts → ⊥) →
    MatchResult r (λ v. IsSentence v us) (λ e. IsRefusal e → (v : Stmt) → IsSentence v us → ⊥) →
    MatchResult r (λ v. st.IsStatement source v ts) (λ e. IsRefusal e → (v : Stmt) → st.IsStatement source v ts → ⊥)
statement_answer (Ok v) e m d = sentence_statement e d
statement_answer (Err f) e m n = λ r v d. no_sentence e m (n r) d

-- SET

pub no_set : {source : List ℕ} {ts : List Token} → (BeginsSet source ts → ⊥) → (form : SetForm) → IsSet source form ts → ⊥
no_set n form (set d s e) = n d

-- the key that terminals begin with
abbrev first_key : List Terminal → Option Key
first_key (Fixed key ∷ ts) = Some key
first_key _ = None

set_key : (source : List ℕ) (ts : List Token) → BeginsSet source ts → first_key (terminals_of source ts) ≡ Some k.Set
set_key source [] h = absurd h
set_key source (t ∷ ts) h = cc

not_set_core : {v : CoreTree} {ts us : List Terminal} → IsCore v ts us → first_key ts ≡ Some k.Set → ⊥
not_set_core (core_paren d) e = cc
not_set_core (core_select d) e = cc

not_set_query : {v : QueryTree} {ts us : List Terminal} → IsQuery v ts us → first_key ts ≡ Some k.Set → ⊥
not_set_query (query_of (union_of d r) o l f) e = not_set_core d e

not_set_table : {v : TableForm} {ts : List Terminal} → IsCreate v ts → first_key ts ≡ Some k.Set → ⊥
not_set_table (create d a e l) f = cc

no_other : {v : Stmt} {source : List ℕ} {ts : List Token} → BeginsSet source ts → ((form : SetForm) → IsSet source form ts → ⊥) →
    st.IsStatement source v ts → ⊥
no_other {source = source} {ts = ts} b n (st.create d) = not_set_table d (set_key source ts b)
no_other b n (st.set d) = n _ d
no_other {source = source} {ts = ts} b n (st.query d) = not_set_query d (set_key source ts b)

pub set_refused : {source : List ℕ} {ts : List Token} → BeginsSet source ts → ((form : SetForm) → IsSet source form ts → ⊥) →
    (v : Stmt) → st.IsStatement source v ts → ⊥
set_refused b n v d = no_other b n d

-- scripts

-- the statements of the first parts are read, and these parts are left
pub record ScriptSoFar (source : List ℕ) (whole : List (List Token)) (script : List Stmt) (parts : List (List Token)) : Type 0 where
  pub more : (ys : List Stmt) → st.AreStatements source ys parts → st.AreStatements source (script ++ ys) whole
  pub back : (zs : List Stmt) → st.AreStatements source zs whole → (ys : List Stmt) × st.AreStatements source ys parts

none_so_far : {source : List ℕ} {whole : List (List Token)} → ScriptSoFar source whole [] whole
none_so_far = record { more = λ ys d. d; back = λ zs d. (zs, d) }

pub script_begin : {source : List ℕ} {whole : List (List Token)} {script : List Stmt} → script ≡ [] → ScriptSoFar source whole script whole
script_begin e = rw e none_so_far

-- the rest of a script behind its first part
behind_nothing : {source : List ℕ} {zs : List Stmt} {parts : List (List Token)} → st.AreStatements source zs ([] ∷ parts) → st.AreStatements source zs parts
behind_nothing (st.nothing d) = d

behind_one : {source : List ℕ} {zs : List Stmt} {t : Token} {ts : List Token} {parts : List (List Token)} →
    st.AreStatements source zs ((t ∷ ts) ∷ parts) → (ys : List Stmt) × st.AreStatements source ys parts
behind_one (st.statement {script = ys} d r) = (ys, r)

step_at : {source : List ℕ} {whole parts : List (List Token)} {script next : List Stmt} {part : List Token} →
    ScriptSoFar source whole script (part ∷ parts) → Adds source script next part → ScriptSoFar source whole next parts
step_at c adds_nothing = record {
  more = λ ys d. c.more ys (st.nothing d);
  back = λ zs d. let b = c.back zs d in (b.0, behind_nothing b.1);
}
step_at {source = source} {whole = whole} c (adds_one {script = script} {one = one} d) = record {
  more = λ ys r. subst (λ (x : List Stmt). st.AreStatements source x whole) (sym (append_snoc script one ys)) (c.more (one ∷ ys) (st.statement d r));
  back = λ zs r. let b = c.back zs r in behind_one b.1;
}

pub script_step : {source : List ℕ} {whole now parts : List (List Token)} {script next : List Stmt} {part : List Token} →
    ScriptSoFar source whole script now → now ≡ part ∷ parts → Adds source script next part → ScriptSoFar source whole next parts
script_step {source = source} {whole = whole} {script = script} c e a =
    step_at (subst (λ (x : List (List Token)). ScriptSoFar source whole script x) e c) a

pub script_done : {source : List ℕ} {whole now : List (List Token)} {script next : List Stmt} {part : List Token} →
    ScriptSoFar source whole script now → now ≡ part ∷ [] → Adds source script next part → st.AreStatements source next whole
script_done {source = source} {whole = whole} {next = next} c e a =
    let last = script_step c e a in
    subst (λ (x : List Stmt). st.AreStatements source x whole) (append-nil next) (last.more [] st.finished)

pub script_refused : {source : List ℕ} {whole now parts : List (List Token)} {script : List Stmt} {part : List Token} →
    ScriptSoFar source whole script now → now ≡ part ∷ parts → HasNone source part → (zs : List Stmt) → st.AreStatements source zs whole → ⊥
script_refused {source = source} c e n zs d =
    let b = c.back zs d in
    n b.0 _ (subst (λ (x : List (List Token)). st.AreStatements source b.0 x) e b.1)

-- what `cut` answers, whichever it is: the first part, and some further ones
pub cut_first : (source : List ℕ) {now : List (List Token)} {part : List Token} (more : Option (Bor (List Token))) →
    MatchOption more (now ≡ part ∷ []) (λ rest. now ≡ part ∷ st.parts_of source rest.now) → (parts : List (List Token)) × (now ≡ part ∷ parts)
cut_first source None e = ([], e)
cut_first source (Some rest) e = (st.parts_of source rest.now, e)

placed_cause : (source : List ℕ) (tokens : List Token) (e : SyntaxFault) (f : ReadFault) → IsPlaced f source tokens e →
    (IsRefusal f → (zs : List Stmt) → st.IsScript source tokens zs → ⊥) → IsNoScript source tokens e
placed_cause source tokens e (read.Refused left) p n = rw p.1 (p.2, n tt)
placed_cause source tokens e read.Memory p n = rw p tt

pub script_fault : (source : List ℕ) (tokens : List Token) (e : SyntaxFault) {part : List Token} {now : List (List Token)} {script : List Stmt} (f : ReadFault)
    (more : Option (Bor (List Token))) → ScriptSoFar source (st.parts_of source tokens) script now →
    MatchOption more (now ≡ part ∷ []) (λ rest. now ≡ part ∷ st.parts_of source rest.now) → (IsRefusal f → HasNone source part) →
    IsPlaced f source tokens e → IsNoScript source tokens e
script_fault source tokens e f more c m n p = placed_cause source tokens e f p (λ r. let known = cut_first source more m in script_refused c known.1 (n r))

-- the place of a token, and the source's end

start_within : {source : List ℕ} {t : Token} → StandsIn source t → t.start ≤ length source
start_within s = let a = s.some in let b = s.within in omega arith

token_begins : {source : List ℕ} (tokens : List Token) (i : ℕ) (t : Token) → All (StandsIn source) tokens → i < length tokens →
    slice_index_or tokens i t ≡ t → IsTokenPlace source tokens t.start
token_begins {source = source} tokens i t a l e = (start_within (subst (StandsIn source) e (a i t l)), inl (i, t, l, e, refl))

pub token_place : (source : List ℕ) (tokens : List Token) (i : ℕ) (r : Option (Bor Token)) (t : Bor Token) → All (StandsIn source) tokens →
    IsItemAt tokens i r → r ≡ Some t → IsTokenPlace source tokens t.now.start
token_place source tokens i r t a g e =
    let h = subst (λ (x : Option (Bor Token)). IsItemAt tokens i x) e g in
    token_begins tokens i t.now a h.3.0 (sym (h.3.1 t.now))

pub end_place : (source : List ℕ) (tokens : List Token) → IsTokenPlace source tokens (length source)
end_place source tokens = (omega arith, inr refl)

-- one part

no_statement : {source : List ℕ} {zs : List Stmt} {part : List Token} {parts : List (List Token)} → (part ≡ [] → ⊥) →
    ((v : Stmt) → st.IsStatement source v part → ⊥) → st.AreStatements source zs (part ∷ parts) → ⊥
no_statement m n (st.nothing d) = m refl
no_statement m n (st.statement d r) = n _ d

pub part_refused : {source : List ℕ} {part : List Token} → (part ≡ [] → ⊥) → ((v : Stmt) → st.IsStatement source v part → ⊥) → HasNone source part
part_refused m n zs parts d = no_statement m n d

pub nothing_added : {source : List ℕ} {script next : List Stmt} (part : List Token) → part ≡ [] → next ≡ script → Adds source script next part
nothing_added {script = script} part e f = rw (e, f) adds_nothing

pub one_added : {source : List ℕ} {script next : List Stmt} {one : Stmt} (part : List Token) → (part ≡ [] → ⊥) → st.IsStatement source one part →
    next ≡ script ++ one ∷ [] → Adds source script next part
one_added [] n d e = absurd (n refl)
one_added (t ∷ ts) n d e = rw e (adds_one d)
