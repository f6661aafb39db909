-- The tokens of a source are at most one script.
use Rattle.std.proofs.Common.{ℕ, List, ◌∷◌, ◌≡◌, refl, lit<, Bool, true, false}
use Rattle.std.specs.Prelude.{Option, Some, None}
use Rattle.aqe_lexer.specs.declared.token.Token.{Token}
use Rattle.aqe_trees.specs.declared.terminal.Key.{Key}
use Rattle.aqe_trees.specs.declared.terminal.Key.TheVariants as k
use Rattle.aqe_trees.specs.declared.terminal.Terminal.{Terminal}
use Rattle.aqe_trees.specs.declared.terminal.Terminal.TheVariants.{Fixed}
use Rattle.aqe_trees.specs.declared.query.QueryTree.{QueryTree}
use Rattle.aqe_trees.specs.declared.query.UnionTree.{UnionTree}
use Rattle.aqe_trees.specs.declared.query.CoreTree.{CoreTree}
use Rattle.aqe_trees.specs.declared.statement.Stmt.{Stmt}
use Rattle.aqe_trees.specs.declared.statement.TableForm.{TableForm}
use Rattle.aqe_trees.specs.declared.statement.SetForm.{SetForm}
use Rattle.aqe_trees.specs.Queries.{IsQuery, query_of, IsUnion, union_of, IsCore, core_paren, core_select}
use Rattle.aqe_trees.specs.Tables.{IsCreate, create}
use Rattle.aqe_trees.proofs.OneQuery.{one_query, one_create}
use Rattle.aqe_script.specs.Terminals.{key_of, terminals_of}
use Rattle.aqe_script.specs.Settings.{IsSettingKey, word, pointed, IsSet, set}
use Rattle.aqe_script.specs.Statements as st

-- a query begins with SELECT or `(`
abbrev begins_query : Option Key → Bool
begins_query (Some k.Select) = true
begins_query (Some k.Open) = true
begins_query _ = false

-- the key that terminals begin with
abbrev first_key : List Terminal → Option Key
first_key (Fixed key ∷ ts) = Some key
first_key _ = None

create_begins : {form : TableForm} {ts : List Terminal} → IsCreate form ts → first_key ts ≡ Some k.Create
create_begins (create d a e l) = refl

core_begins : {tree : CoreTree} {ts us : List Terminal} → IsCore tree ts us → begins_query (first_key ts) ≡ true
core_begins (core_paren d) = refl
core_begins (core_select d) = refl

union_begins : {tree : UnionTree} {ts us : List Terminal} → IsUnion tree ts us → begins_query (first_key ts) ≡ true
union_begins (union_of d r) = core_begins d

query_begins : {tree : QueryTree} {ts us : List Terminal} → IsQuery tree ts us → begins_query (first_key ts) ≡ true
query_begins (query_of d o l f) = union_begins d

set_begins : {source : List ℕ} {form : SetForm} {ts : List Token} → IsSet source form ts → first_key (terminals_of source ts) ≡ Some k.Set
set_begins (set d s e) = cc

one_key : {source a b : List ℕ} {e f : Token} {ts us vs : List Token} →
    IsSettingKey source a ts (e ∷ us) → IsSettingKey source b ts (f ∷ vs) →
    key_of source e ≡ Some k.Equal → key_of source f ≡ Some k.Equal → (a ≡ b) × (e ∷ us ≡ f ∷ vs)
one_key (word d) (word e) p q = (refl, refl)
one_key (word d) (pointed e g r) p q = absurd (cc)
one_key (pointed d g r) (word e) p q = absurd (cc)
one_key (pointed d g r) (pointed e h s) p q = let n = one_key r s p q in (cc, n.1)

one_set : {source : List ℕ} {a b : SetForm} {ts : List Token} → IsSet source a ts → IsSet source b ts → a ≡ b
one_set (set d s e) (set f t g) = let n = one_key s t e g in cc

one_statement : {source : List ℕ} {a b : Stmt} {ts : List Token} → st.IsStatement source a ts → st.IsStatement source b ts → a ≡ b
one_statement (st.create d) (st.create e) = let n = one_create d e in cc
one_statement (st.create d) (st.set e) = let n = create_begins d in let m = set_begins e in absurd (cc)
one_statement (st.create d) (st.query e) = let n = create_begins d in let m = query_begins e in absurd (cc)
one_statement (st.set d) (st.create e) = let n = set_begins d in let m = create_begins e in absurd (cc)
one_statement (st.set d) (st.set e) = let n = one_set d e in cc
one_statement (st.set d) (st.query e) = let n = set_begins d in let m = query_begins e in absurd (cc)
one_statement (st.query d) (st.create e) = let n = query_begins d in let m = create_begins e in absurd (cc)
one_statement (st.query d) (st.set e) = let n = query_begins d in let m = set_begins e in absurd (cc)
one_statement (st.query d) (st.query e) = let n = one_query d e (lit< tt) (lit< tt) in cc

one_list : {source : List ℕ} {a b : List Stmt} {parts : List (List Token)} → st.AreStatements source a parts → st.AreStatements source b parts → a ≡ b
one_list st.finished st.finished = refl
one_list (st.nothing d) (st.nothing e) = one_list d e
one_list (st.statement d r) (st.statement e s) = let n = one_statement d e in let m = one_list r s in cc

pub one_script : (source : List ℕ) (tokens : List Token) (these others : List Stmt) → st.IsScript source tokens these → st.IsScript source tokens others → these ≡ others
one_script source tokens these others d e = one_list d e
