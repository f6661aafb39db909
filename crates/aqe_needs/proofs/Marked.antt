-- Which flags are set, by each form of a plan.
use Rattle.std.proofs.Common.{◌≡◌, ℕ, zero, suc, ◌+◌, ◌<◌, ◌≤◌, Bool, true, false, ◌||◌, ◌&&◌, ◌==◌, List, [], ◌∷◌, ◌++◌, map, length, set, replicate, Option, Some, None, refl, ap, sym, ◌∙◌, arith}
use Rattle.std.specs.List.{range_with_len, list_any}
use Rattle.std.proofs.lemmas.List.Folds.{list_any-append}
use Rattle.std.proofs.Math.Dec.{eqb-suc-suc, eqb-zero-suc, eqb-suc-zero}
use Rattle.aqe_base.specs.declared.stage_id.StageId.{StageId}
use Rattle.aqe_base.specs.declared.cells.Rect.{Rect}
use Rattle.aqe_base.specs.declared.join_kind.JoinKind.{JoinKind}
use Rattle.aqe_expr.specs.declared.expr.Expr.{Expr}
use Rattle.aqe_logical.specs.declared.plan.AggCall.{AggCall}
use Rattle.aqe_logical.specs.declared.plan.SortKey.{SortKey}
use Rattle.aqe_join_rows.specs.declared.join_keys.JoinKeys.{JoinKeys}
use Rattle.aqe_physical.specs.declared.target.Target.{Target}
use Rattle.aqe_physical.specs.declared.target.Target.TheVariants.{Hash, Range, Single, Broadcast}
use Rattle.aqe_physical.specs.declared.target.StageKind.{StageKind}
use Rattle.aqe_physical.specs.declared.target.StageKind.TheVariants as kind
use Rattle.aqe_physical.specs.declared.target.JoinWay.{JoinWay}
use Rattle.aqe_physical.specs.declared.plan.Plan.{Plan, OneRow, Scan, Nothing, Read, ReadBroadcast}
use Rattle.aqe_physical.specs.declared.plan.Plan.TheVariants.{Filter, Project, Exchange, Join, PartialAgg, FinalAgg, Sort, LocalLimit, GlobalLimit, Union}
use Rattle.aqe_physical.specs.Nodes.{nodes}
use Rattle.aqe_physical.proofs.Shapes.{is_kept, is_mapped, is_moved, is_matched, is_grouped, is_finished, is_ordered, is_cut_locally, is_cut_globally, is_both_of}
use Rattle.aqe_journal.specs.Needed.{node_reads, plan_reads, target_reads, kind_reads, stage_reads}
use Rattle.aqe_stages.specs.Stages.{Stage}
use Rattle.aqe_needs.specs.Flags.{noted, is_named, sample_of, sample_of_kind}

or_false : (b : Bool) → (b || false) ≡ b
or_false true = refl
or_false false = refl

or_true : (b : Bool) → (b || true) ≡ true
or_true true = refl
or_true false = refl

or_assoc : (a b c : Bool) → ((a || b) || c) ≡ (a || (b || c))
or_assoc true b c = refl
or_assoc false b c = refl

-- tests that pass alike set the same flags
pub same_test : (p q : ℕ → Bool) (n : ℕ) (fs : List Bool) → ((s : ℕ) → p s ≡ q s) → noted p n fs ≡ noted q n fs
same_test p q n fs same = λ i. noted (λ s. same s i) n fs

-- no flag is set whose number does not pass
pub none_set : (p : ℕ → Bool) (n : ℕ) (fs : List Bool) → ((s : ℕ) → n ≤ s → s < n + length fs → p s ≡ false) → noted p n fs ≡ fs
none_set p n [] never = refl
none_set p n (f ∷ fs) never =
    let here : (f || p n) ≡ f = ap (λ b. f || b) (never n (omega arith) (omega arith)) ∙ or_false f in
    let rest : noted p (n + 1) fs ≡ fs = none_set p (n + 1) fs (λ s low high. never s (omega (arith, low)) (omega (arith, high))) in
    λ i. here i ∷ rest i

-- flags that are set one after the other
pub set_twice : (p q : ℕ → Bool) (n : ℕ) (fs : List Bool) → noted q n (noted p n fs) ≡ noted (λ s. p s || q s) n fs
set_twice p q n [] = refl
set_twice p q n (f ∷ fs) = λ i. or_assoc f (p n) (q n) i ∷ set_twice p q (n + 1) fs i

-- one flag is set
at_place : (n i x : ℕ) (fs : List Bool) → x ≡ n + i → i < length fs → set fs i true ≡ noted (λ s. x == s) n fs
at_place n i x [] is below = absurd (omega (arith, below))
at_place n zero x (f ∷ fs) is below =
    let same : x ≡ n = omega (arith, is) in
    let here : (f || (x == n)) ≡ true = ap (λ k. f || (k == n)) same ∙ (ap (λ b. f || b) (equal n) ∙ or_true f) in
    let rest : noted (λ s. x == s) (n + 1) fs ≡ fs = none_set (λ s. x == s) (n + 1) fs (λ s low high. other x s (omega (arith, low, same))) in
    sym (λ j. here j ∷ rest j)
  where
    equal : (k : ℕ) → (k == k) ≡ true
    equal zero = refl
    equal (suc k) = eqb-suc-suc k k ∙ equal k

    other : (k s : ℕ) → k < s → (k == s) ≡ false
    other k zero w = absurd (omega (arith, w))
    other zero (suc s) w = eqb-zero-suc s
    other (suc k) (suc s) w = eqb-suc-suc k s ∙ other k s (omega (arith, w))
at_place n (suc i) x (f ∷ fs) is below =
    let here : (f || (x == n)) ≡ f = ap (λ b. f || b) (other x n (omega (arith, is))) ∙ or_false f in
    λ j. sym here j ∷ at_place (n + 1) i x fs (omega (arith, is)) (omega (arith, below)) j
  where
    other : (k s : ℕ) → s < k → (k == s) ≡ false
    other zero s w = absurd (omega (arith, w))
    other (suc k) zero w = eqb-suc-zero k
    other (suc k) (suc s) w = eqb-suc-suc k s ∙ other k s (omega (arith, w))

pub one_set : (x : ℕ) (fs : List Bool) → x < length fs → set fs x true ≡ noted (λ s. x == s) 0 fs
one_set x fs below = at_place 0 x x fs (omega arith) below

pub none_beyond : (x : ℕ) (fs : List Bool) → length fs ≤ x → fs ≡ noted (λ s. x == s) 0 fs
none_beyond x fs past = sym (none_set (λ s. x == s) 0 fs (λ s low high. other x s (omega (arith, high, past))))
  where
    other : (k s : ℕ) → s < k → (k == s) ≡ false
    other zero s w = absurd (omega (arith, w))
    other (suc k) zero w = eqb-suc-zero k
    other (suc k) (suc s) w = eqb-suc-suc k s ∙ other k s (omega (arith, w))

-- a test that never passes
pub never_set : (fs : List Bool) → fs ≡ noted (λ s. false) 0 fs
never_set fs = sym (none_set (λ s. false) 0 fs (λ s low high. refl))

-- the flags of the plan below, for each form over it
below_set : (x q z : Plan) (old new : List Bool) → plan_reads x ≡ plan_reads q → z ≡ q → new ≡ noted (plan_reads z) 0 old → new ≡ noted (plan_reads x) 0 old
below_set x q z old new same is made = made ∙ ap (λ r. noted r 0 old) (ap plan_reads is ∙ sym same)

pub set-filter : (x : Plan) (c : Expr) (q z : Plan) (old new : List Bool) → x ≡ Filter c q → z ≡ q → new ≡ noted (plan_reads z) 0 old → new ≡ noted (plan_reads x) 0 old
set-filter x c q z old new e = below_set x q z old new (ap plan_reads (e ∙ is_kept c q))

pub set-project : (x : Plan) (i : List Expr) (q z : Plan) (old new : List Bool) → x ≡ Project i q → z ≡ q → new ≡ noted (plan_reads z) 0 old → new ≡ noted (plan_reads x) 0 old
set-project x i q z old new e = below_set x q z old new (ap plan_reads (e ∙ is_mapped i q))

pub set-partial : (x : Plan) (ks : List Expr) (cs : List AggCall) (q z : Plan) (old new : List Bool) → x ≡ PartialAgg ks cs q → z ≡ q → new ≡ noted (plan_reads z) 0 old → new ≡ noted (plan_reads x) 0 old
set-partial x ks cs q z old new e = below_set x q z old new (ap plan_reads (e ∙ is_grouped ks cs q))

pub set-last : (x : Plan) (k : ℕ) (cs : List AggCall) (q z : Plan) (old new : List Bool) → x ≡ FinalAgg k cs q → z ≡ q → new ≡ noted (plan_reads z) 0 old → new ≡ noted (plan_reads x) 0 old
set-last x k cs q z old new e = below_set x q z old new (ap plan_reads (e ∙ is_finished k cs q))

pub set-sort : (x : Plan) (ks : List SortKey) (q z : Plan) (old new : List Bool) → x ≡ Sort ks q → z ≡ q → new ≡ noted (plan_reads z) 0 old → new ≡ noted (plan_reads x) 0 old
set-sort x ks q z old new e = below_set x q z old new (ap plan_reads (e ∙ is_ordered ks q))

pub set-local : (x : Plan) (k : ℕ) (q z : Plan) (old new : List Bool) → x ≡ LocalLimit k q → z ≡ q → new ≡ noted (plan_reads z) 0 old → new ≡ noted (plan_reads x) 0 old
set-local x k q z old new e = below_set x q z old new (ap plan_reads (e ∙ is_cut_locally k q))

pub set-global : (x : Plan) (k : Option ℕ) (s : ℕ) (q z : Plan) (old new : List Bool) → x ≡ GlobalLimit k s q → z ≡ q → new ≡ noted (plan_reads z) 0 old → new ≡ noted (plan_reads x) 0 old
set-global x k s q z old new e = below_set x q z old new (ap plan_reads (e ∙ is_cut_globally k s q))

target_read : (t : Target) (s : ℕ) → is_named (sample_of t) s ≡ target_reads s t
target_read (Hash keys n) s = refl
target_read (Range keys n None) s = refl
target_read (Range keys n (Some stage)) s = refl
target_read Single s = refl
target_read Broadcast s = refl

kind_read : (k : StageKind) (s : ℕ) → is_named (sample_of_kind k) s ≡ kind_reads s k
kind_read (kind.Shuffle to) s = target_read to s
kind_read kind.Broadcast s = refl
kind_read (kind.Sample keys) s = refl
kind_read kind.Result s = refl

pub set-exchange : (x : Plan) (t : Target) (q z : Plan) (o : Option StageId) (old mid new : List Bool) → x ≡ Exchange t q → z ≡ q → o ≡ sample_of t →
    mid ≡ noted (is_named o) 0 old → new ≡ noted (plan_reads z) 0 mid → new ≡ noted (plan_reads x) 0 old
set-exchange x t q z o old mid new e is named first then =
    then ∙ (ap (noted (plan_reads z) 0) first ∙ (set_twice (is_named o) (plan_reads z) 0 old ∙
    ((λ i. noted (λ s. is_named (named i) s || plan_reads (is i) s) 0 old) ∙
    ((λ i. noted (λ s. target_read t s i || plan_reads q s) 0 old) ∙ ap (λ (p : Plan). noted (plan_reads p) 0 old) (sym (e ∙ is_moved t q))))))

-- the flags of both sides
both_set : (l r zl zr : Plan) (old mid new : List Bool) → zl ≡ l → zr ≡ r → mid ≡ noted (plan_reads zl) 0 old → new ≡ noted (plan_reads zr) 0 mid →
    new ≡ noted (λ s. list_any (node_reads s) (nodes l ++ nodes r)) 0 old
both_set l r zl zr old mid new il ir first then =
    then ∙ (ap (noted (plan_reads zr) 0) first ∙ (set_twice (plan_reads zl) (plan_reads zr) 0 old ∙
    ((λ i. noted (λ s. plan_reads (il i) s || plan_reads (ir i) s) 0 old) ∙
    (λ i. noted (λ s. sym (list_any-append (node_reads s) (nodes l) (nodes r)) i) 0 old))))

pub set-join : (x : Plan) (y : JoinWay) (k : JoinKind) (ks : JoinKeys) (v w : ℕ) (l r zl zr : Plan) (old mid new : List Bool) → x ≡ Join y k ks v w l r → zl ≡ l → zr ≡ r →
    mid ≡ noted (plan_reads zl) 0 old → new ≡ noted (plan_reads zr) 0 mid → new ≡ noted (plan_reads x) 0 old
set-join x y k ks v w l r zl zr old mid new e il ir first then =
    both_set l r zl zr old mid new il ir first then ∙ ap (λ (p : Plan). noted (plan_reads p) 0 old) (sym (e ∙ is_matched y k ks v w l r))

pub set-union : (x l r zl zr : Plan) (old mid new : List Bool) → x ≡ Union l r → zl ≡ l → zr ≡ r →
    mid ≡ noted (plan_reads zl) 0 old → new ≡ noted (plan_reads zr) 0 mid → new ≡ noted (plan_reads x) 0 old
set-union x l r zl zr old mid new e il ir first then =
    both_set l r zl zr old mid new il ir first then ∙ ap (λ (p : Plan). noted (plan_reads p) 0 old) (sym (e ∙ is_both_of l r))

pub set-read : (x : Plan) (stage : StageId) (maps reducers : ℕ) (rects : List Rect) (old new : List Bool) → x ≡ Read stage maps reducers rects →
    new ≡ noted (λ s. stage.0 == s) 0 old → new ≡ noted (plan_reads x) 0 old
set-read x stage maps reducers rects old new e made =
    made ∙ ((λ i. noted (λ s. sym (or_false (stage.0 == s)) i) 0 old) ∙ ap (λ (p : Plan). noted (plan_reads p) 0 old) (sym e))

pub set-broadcast : (x : Plan) (stage : StageId) (old new : List Bool) → x ≡ ReadBroadcast stage →
    new ≡ noted (λ s. stage.0 == s) 0 old → new ≡ noted (plan_reads x) 0 old
set-broadcast x stage old new e made =
    made ∙ ((λ i. noted (λ s. sym (or_false (stage.0 == s)) i) 0 old) ∙ ap (λ (p : Plan). noted (plan_reads p) 0 old) (sym e))

-- what reads nothing sets no flag
pub set-one-row : (x : Plan) (fs : List Bool) → x ≡ OneRow → fs ≡ noted (plan_reads x) 0 fs
set-one-row x fs e = never_set fs ∙ ap (λ (p : Plan). noted (plan_reads p) 0 fs) (sym e)

pub set-scan : (x : Plan) (t n : ℕ) (fs : List Bool) → x ≡ Scan t n → fs ≡ noted (plan_reads x) 0 fs
set-scan x t n fs e = never_set fs ∙ ap (λ (p : Plan). noted (plan_reads p) 0 fs) (sym e)

pub set-nothing : (x : Plan) (n w : ℕ) (fs : List Bool) → x ≡ Nothing n w → fs ≡ noted (plan_reads x) 0 fs
set-nothing x n w fs e = never_set fs ∙ ap (λ (p : Plan). noted (plan_reads p) 0 fs) (sym e)

pub ruleset leaf_steps = (set-one-row, set-scan, set-nothing)

-- the flags of a stage that is still to be carried out, and of one that is not
pub stage_set : (stage : Stage) (b : Bool) (o : Option StageId) (old mid new : List Bool) → b ≡ true → o ≡ sample_of_kind stage.kind → mid ≡ noted (is_named o) 0 old →
    new ≡ noted (plan_reads stage.body) 0 mid → new ≡ noted (λ s. b && stage_reads stage s) 0 old
stage_set stage b o old mid new so named first then =
    then ∙ (ap (noted (plan_reads stage.body) 0) first ∙ (set_twice (is_named o) (plan_reads stage.body) 0 old ∙
    ((λ i. noted (λ s. is_named (named i) s || plan_reads stage.body s) 0 old) ∙ ((λ i. noted (λ s. kind_read stage.kind s i || plan_reads stage.body s) 0 old) ∙
    ap (λ (v : Bool). noted (λ s. v && stage_reads stage s) 0 old) (sym so)))))

pub stage_passed : (stage : Stage) (b : Bool) (fs : List Bool) → b ≡ false → fs ≡ noted (λ s. b && stage_reads stage s) 0 fs
stage_passed stage b fs so = never_set fs ∙ ap (λ (o : Bool). noted (λ s. o && stage_reads stage s) 0 fs) (sym so)

-- no flag is set of so many
pub all_false : (p : ℕ → Bool) (a n : ℕ) → noted p a (replicate n false) ≡ map p (range_with_len a n)
all_false p a zero = refl
all_false p a (suc n) = ap (λ (bs : List Bool). p a ∷ bs) (all_false p (a + 1) n)

pub all_set : (p : ℕ → Bool) (n : ℕ) (old new : List Bool) → old ≡ replicate n false → new ≡ noted p 0 old → new ≡ map p (range_with_len 0 n)
all_set p n old new is made = made ∙ (ap (noted p 0) is ∙ all_false p 0 n)
