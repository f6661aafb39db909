-- The causes of a source's faults.
use Rattle.std.proofs.Common.{ℕ, List, [], ◌∷◌, ◌≡◌, subst, arith}
use Rattle.std.specs.Prelude.{Any}
use Rattle.aqe_lexer.specs.declared.token.Token.{Token}
use Rattle.aqe_trees.specs.declared.statement.Stmt.{Stmt}
use Rattle.aqe_script.specs.Statements.{IsScript}
use Rattle.aqe_script.specs.Depth.{IsTooOpen}
use Rattle.aqe_script.proofs.AnyLemmas.{any_here, any_later, any_rest}
use Rattle.aqe_syntax.specs.declared.fault.SyntaxFault.{SyntaxFault}
use Rattle.aqe_syntax.specs.declared.fault.SyntaxFault.TheVariants as syntax
use Rattle.aqe_syntax.specs.Causes.{IsNoScript, IsTooNested, IsCause}

-- the statements that are passed are flat
pub record FlatSoFar (whole left : List Stmt) : Type 0 where
  pub forth : Any IsTooNested left → Any IsTooNested whole
  pub back : Any IsTooNested whole → Any IsTooNested left

pub flat_begin : {whole : List Stmt} → FlatSoFar whole whole
flat_begin = record { forth = λ a. a; back = λ a. a }

at_left : {whole left others : List Stmt} → left ≡ others → FlatSoFar whole left → FlatSoFar whole others
at_left {whole = whole} e f = subst (λ (l : List Stmt). FlatSoFar whole l) e f

pub flat_step : {whole left more : List Stmt} {one : Stmt} → FlatSoFar whole left → left ≡ one ∷ more → (IsTooNested one → ⊥) → FlatSoFar whole more
flat_step {more = more} {one = one} f e n =
    let g = at_left e f in
    record { forth = λ a. g.forth (any_later IsTooNested one more a); back = λ a. any_rest IsTooNested one more n (g.back a) }

pub flat_found : {whole left more : List Stmt} {one : Stmt} → FlatSoFar whole left → left ≡ one ∷ more → IsTooNested one → Any IsTooNested whole
flat_found {more = more} {one = one} f e h = (at_left e f).forth (any_here IsTooNested one more h)

nothing_nested : Any IsTooNested [] → ⊥
nothing_nested (i, y, l, e, h) = absurd (omega (arith, l))

pub flat_done : {whole left : List Stmt} → FlatSoFar whole left → left ≡ [] → Any IsTooNested whole → ⊥
flat_done f e a = nothing_nested ((at_left e f).back a)

-- a fault of the reader
pub read_cause : (source : List ℕ) (tokens : List Token) (e : SyntaxFault) → (IsTooOpen source tokens → ⊥) → IsNoScript source tokens e → IsCause source tokens e
read_cause source tokens syntax.TooDeep n c = absurd c
read_cause source tokens (syntax.NotASentence at) n c = (c.0, c.1, n)
read_cause source tokens syntax.Memory n c = tt

-- over the same bytes
pub same_open : {a b : List ℕ} {ts us : List Token} → a ≡ b → ts ≡ us → IsTooOpen a ts → IsTooOpen b us
same_open {a = a} {b = b} {ts = ts} e f h = subst (λ (x : List Token). IsTooOpen b x) f (subst (λ (x : List ℕ). IsTooOpen x ts) e h)

pub same_script : {a b : List ℕ} {ts us : List Token} {script : List Stmt} → a ≡ b → ts ≡ us → IsScript a ts script → IsScript b us script
same_script {a = a} {b = b} {ts = ts} {script = script} e f h =
    subst (λ (x : List Token). IsScript b x script) f (subst (λ (x : List ℕ). IsScript x ts script) e h)

pub same_fault : {a b : List ℕ} {ts us : List Token} (e : SyntaxFault) → a ≡ b → ts ≡ us → IsNoScript a ts e → IsNoScript b us e
same_fault {a = a} {b = b} {ts = ts} x e f h =
    subst (λ (l : List Token). IsNoScript b l x) f (subst (λ (s : List ℕ). IsNoScript s ts x) e h)
