-- What each part of a plan reads, by each form of a plan.
use Rattle.std.proofs.Common.{◌≡◌, ℕ, zero, suc, ◌+◌, ◌-◌, ◌<◌, ◌≤◌, ◌^◌, Bool, cond, List, [], ◌∷◌, ◌++◌, map, flat_map, Option, None, Some, slice_get, refl, ap, sym, ◌∙◌, subst, arith, append_assoc, append-nil}
use Rattle.std.specs.Prelude.{OnOk, IfOk, MatchResult, Result, Ok, Err, slice_index_or}
use Rattle.std.specs.List.{range_with_len}
use Rattle.std.proofs.lemmas.List.Elements.{All-tail}
use Rattle.std.proofs.lemmas.List.FromFn.{map-range_with_len_more}
use Rattle.std.proofs.lemmas.Bool.{lt-ltb, le-ltb}
use Rattle.aqe_base.specs.declared.stage_id.StageId.{StageId}
use Rattle.aqe_base.specs.declared.cells.Rect.{Rect}
use Rattle.aqe_base.specs.declared.join_kind.JoinKind.{JoinKind}
use Rattle.aqe_expr.specs.declared.expr.Expr.{Expr}
use Rattle.aqe_logical.specs.declared.plan.AggCall.{AggCall}
use Rattle.aqe_logical.specs.declared.plan.SortKey.{SortKey}
use Rattle.aqe_join_rows.specs.declared.join_keys.JoinKeys.{JoinKeys}
use Rattle.aqe_physical.specs.declared.target.Target.{Target}
use Rattle.aqe_physical.specs.declared.target.StageKind.{StageKind}
use Rattle.aqe_physical.specs.declared.target.JoinWay.{JoinWay}
use Rattle.aqe_physical.specs.declared.plan.Plan.{Plan, Read}
use Rattle.aqe_physical.specs.declared.plan.Plan.TheVariants.{Filter, Project, Exchange, Join, PartialAgg, FinalAgg, Sort, LocalLimit, GlobalLimit, Union}
use Rattle.aqe_physical.specs.Shapes.{moved, both_of}
use Rattle.aqe_physical.specs.Nodes.{nodes}
use Rattle.aqe_physical.proofs.Shapes.{is_kept, is_mapped, is_moved, is_matched, is_grouped, is_finished, is_ordered, is_cut_locally, is_cut_globally, is_both_of}
use Rattle.aqe_base.specs.declared.memory.Memory.{Memory}
use Rattle.aqe_base.specs.declared.join_kind.Side.TheVariants.{Left, Right}
use Rattle.aqe_physical.specs.declared.target.JoinWay.TheVariants as way
use Rattle.aqe_physical.specs.Counts.{part_count, PartsFit}
use Rattle.aqe_scheduler.specs.declared.need.Need.{Need}
use Rattle.aqe_stages.specs.Reads as reads
use Rattle.aqe_stages.specs.Reads.{needs, all_needs, sample_needs, rect_needs, join_needs, task_needs}
use Rattle.aqe_needs.specs.Maps.{need_with, sample_reads, part_reads, all_reads, side_reads, takes_left, takes_right, counts_of, task_reads}
use Rattle.aqe_journal.specs.declared.record.StageNote.{StageNote}
use Rattle.aqe_journal.specs.Needed.{map_count, need_over, reads_of}
use Rattle.aqe_needs.specs.Noted.{stages_of}

map_both : {X Y : Type 0} (f : X → Y) (xs ys : List X) → map f (xs ++ ys) ≡ map f xs ++ map f ys
map_both f [] ys = refl
map_both {X} {Y} f (x ∷ xs) ys = ap (λ (zs : List Y). f x ∷ zs) (map_both f xs ys)

-- a result that is handed on
pub same_reads : {T : Type 0} (r : Result T Memory) (old new a b : List Need) → a ≡ b → OnOk r (new ≡ old ++ a) → OnOk r (new ≡ old ++ b)
same_reads r old new a b e h = subst (λ (l : List Need). OnOk r (new ≡ old ++ l)) e h

-- an item that is pushed
pub pushed : {T E : Type 0} (r : Result T E) (old new : List Need) (x : Need) (b : List Need) → x ∷ [] ≡ b → MatchResult r (λ _. new ≡ old ++ x ∷ []) (λ _. new ≡ old) → OnOk r (new ≡ old ++ b)
pushed (Ok v) old new x b e h = h ∙ ap (λ (l : List Need). old ++ l) e
pushed (Err v) old new x b e h = tt

-- a result that is handed on behind what was appended before it
pub more_reads : {T : Type 0} (r : Result T Memory) (old mid new a b c : List Need) → mid ≡ old ++ a → a ++ b ≡ c → OnOk r (new ≡ mid ++ b) → OnOk r (new ≡ old ++ c)
more_reads r old mid new a b c first both h =
    subst (λ (l : List Need). OnOk r (new ≡ l)) (ap (λ (l : List Need). l ++ b) first ∙ (append_assoc old a b ∙ ap (λ (l : List Need). old ++ l) both)) h

pub reads-filter : (counts : List ℕ) (k : ℕ) (x : Plan) (c : Expr) (q z : Plan) → x ≡ Filter c q → z ≡ q → part_reads counts z k ≡ part_reads counts x k
reads-filter counts k x c q z e is = ap (λ (p : Plan). part_reads counts p k) is ∙ ap (λ (p : Plan). part_reads counts p k) (sym (e ∙ is_kept c q))

pub reads-project : (counts : List ℕ) (k : ℕ) (x : Plan) (i : List Expr) (q z : Plan) → x ≡ Project i q → z ≡ q → part_reads counts z k ≡ part_reads counts x k
reads-project counts k x i q z e is = ap (λ (p : Plan). part_reads counts p k) is ∙ ap (λ (p : Plan). part_reads counts p k) (sym (e ∙ is_mapped i q))

pub reads-partial : (counts : List ℕ) (k : ℕ) (x : Plan) (ks : List Expr) (cs : List AggCall) (q z : Plan) → x ≡ PartialAgg ks cs q → z ≡ q → part_reads counts z k ≡ part_reads counts x k
reads-partial counts k x ks cs q z e is = ap (λ (p : Plan). part_reads counts p k) is ∙ ap (λ (p : Plan). part_reads counts p k) (sym (e ∙ is_grouped ks cs q))

pub reads-last : (counts : List ℕ) (k : ℕ) (x : Plan) (n : ℕ) (cs : List AggCall) (q z : Plan) → x ≡ FinalAgg n cs q → z ≡ q → part_reads counts z k ≡ part_reads counts x k
reads-last counts k x n cs q z e is = ap (λ (p : Plan). part_reads counts p k) is ∙ ap (λ (p : Plan). part_reads counts p k) (sym (e ∙ is_finished n cs q))

pub reads-sort : (counts : List ℕ) (k : ℕ) (x : Plan) (ks : List SortKey) (q z : Plan) → x ≡ Sort ks q → z ≡ q → part_reads counts z k ≡ part_reads counts x k
reads-sort counts k x ks q z e is = ap (λ (p : Plan). part_reads counts p k) is ∙ ap (λ (p : Plan). part_reads counts p k) (sym (e ∙ is_ordered ks q))

pub reads-local : (counts : List ℕ) (k : ℕ) (x : Plan) (n : ℕ) (q z : Plan) → x ≡ LocalLimit n q → z ≡ q → part_reads counts z k ≡ part_reads counts x k
reads-local counts k x n q z e is = ap (λ (p : Plan). part_reads counts p k) is ∙ ap (λ (p : Plan). part_reads counts p k) (sym (e ∙ is_cut_locally n q))

pub reads-global : (counts : List ℕ) (k : ℕ) (x : Plan) (n : Option ℕ) (s : ℕ) (q z : Plan) → x ≡ GlobalLimit n s q → z ≡ q → part_reads counts z k ≡ part_reads counts x k
reads-global counts k x n s q z e is = ap (λ (p : Plan). part_reads counts p k) is ∙ ap (λ (p : Plan). part_reads counts p k) (sym (e ∙ is_cut_globally n s q))

pub reads-exchange : (counts : List ℕ) (k : ℕ) (x : Plan) (t : Target) (q z : Plan) → x ≡ Exchange t q → z ≡ q → sample_reads counts t ++ all_reads counts z ≡ part_reads counts x k
reads-exchange counts k x t q z e is =
    ap (λ (p : Plan). sample_reads counts t ++ all_reads counts p) is ∙ (sym (map_both (need_with counts) (sample_needs t) (all_needs q (needs q))) ∙
    ap (λ (p : Plan). part_reads counts p k) (sym (e ∙ is_moved t q)))

sides : (f : reads.Need → Need) (y : JoinWay) (a all_a b all_b : List reads.Need) →
    cond (takes_left y) (map f all_a) (map f a) ++ cond (takes_right y) (map f all_b) (map f b) ≡ map f (join_needs y a all_a b all_b)
sides f way.SortMerge a all_a b all_b = sym (map_both f a b)
sides f (way.ShuffledHash side) a all_a b all_b = sym (map_both f a b)
sides f (way.Broadcast Left) a all_a b all_b = sym (map_both f all_a b)
sides f (way.Broadcast Right) a all_a b all_b = sym (map_both f a all_b)
sides f way.NestedLoop a all_a b all_b = sym (map_both f all_a all_b)

pub reads-join : (counts : List ℕ) (m : ℕ) (x : Plan) (y : JoinWay) (k : JoinKind) (ks : JoinKeys) (v w : ℕ) (l r zl zr : Plan) (tl tr : Bool) → x ≡ Join y k ks v w l r → zl ≡ l → zr ≡ r →
    tl ≡ takes_left y → tr ≡ takes_right y → side_reads tl counts zl m ++ side_reads tr counts zr m ≡ part_reads counts x m
reads-join counts m x y k ks v w l r zl zr tl tr e il ir el er =
    (λ i. side_reads (el i) counts (il i) m ++ side_reads (er i) counts (ir i) m) ∙ (sides (need_with counts) y (needs l m) (all_needs l (needs l)) (needs r m) (all_needs r (needs r)) ∙
    ap (λ (p : Plan). part_reads counts p m) (sym (e ∙ is_matched y k ks v w l r)))

union_left : (l r : Plan) (k : ℕ) → k < part_count l → needs l k ≡ needs (both_of l r) k
union_left l r k h = sym (ap (λ (b : Bool). cond b (needs l k) (needs r (k - part_count l))) (lt-ltb k (part_count l) h))

union_right : (l r : Plan) (k : ℕ) → part_count l ≤ k → needs r (k - part_count l) ≡ needs (both_of l r) k
union_right l r k h = sym (ap (λ (b : Bool). cond b (needs l k) (needs r (k - part_count l))) (le-ltb k (part_count l) h))

pub reads-left : (counts : List ℕ) (k n : ℕ) (x l r z : Plan) → x ≡ Union l r → z ≡ l → n ≡ part_count z → k < n → part_reads counts z k ≡ part_reads counts x k
reads-left counts k n x l r z e is count h =
    ap (λ (p : Plan). part_reads counts p k) is ∙ (ap (map (need_with counts)) (union_left l r k (subst (λ (m : ℕ). k < m) (count ∙ ap part_count is) h)) ∙
    ap (λ (p : Plan). part_reads counts p k) (sym (e ∙ is_both_of l r)))

pub reads-right : (counts : List ℕ) (k n : ℕ) (x l r zl zr : Plan) → x ≡ Union l r → zl ≡ l → zr ≡ r → n ≡ part_count zl → n ≤ k → part_reads counts zr (k - n) ≡ part_reads counts x k
reads-right counts k n x l r zl zr e il ir count h =
    let is : n ≡ part_count l = count ∙ ap part_count il in
    (λ i. part_reads counts (ir i) (k - is i)) ∙ (ap (map (need_with counts)) (union_right l r k (subst (λ (m : ℕ). m ≤ k) is h)) ∙
    ap (λ (p : Plan). part_reads counts p k) (sym (e ∙ is_both_of l r)))

-- the need of a rectangle is the same whatever the maps are counted as
rect_same : (counts : List ℕ) (stage : StageId) (rects : List Rect) (k : ℕ) → map (need_with []) (rect_needs stage rects k) ≡ map (need_with counts) (rect_needs stage rects k)
rect_same counts stage [] k = refl
rect_same counts stage (rect ∷ rects) zero = refl
rect_same counts stage (rect ∷ rects) (suc k) = rect_same counts stage rects k

pub reads-read : (counts : List ℕ) (k : ℕ) (x : Plan) (stage : StageId) (maps reducers : ℕ) (rects : List Rect) → x ≡ Read stage maps reducers rects →
    map (need_with []) (rect_needs stage rects k) ≡ part_reads counts x k
reads-read counts k x stage maps reducers rects e = rect_same counts stage rects k ∙ ap (λ (p : Plan). part_reads counts p k) (sym e)

-- a rectangle that is there, and one that is not
pub rect_there : (stage : StageId) (rects : List Rect) (k : ℕ) (rect : Rect) → slice_get rects k ≡ Some rect →
    record { stage = stage; m0 = rect.m0; m1 = rect.m1 } ∷ [] ≡ map (need_with []) (rect_needs stage rects k)
rect_there stage [] k rect e = absurd (cc (e))
rect_there stage (r ∷ rects) zero rect e = ap (λ (o : Option Rect). made o) (sym e)
  where
    made : Option Rect → List Need
    made (Some x) = record { stage = stage; m0 = x.m0; m1 = x.m1 } ∷ []
    made None = []
rect_there stage (r ∷ rects) (suc k) rect e = rect_there stage rects k rect e

pub rect_missing : (stage : StageId) (rects : List Rect) (k : ℕ) → slice_get rects k ≡ None → [] ≡ map (need_with []) (rect_needs stage rects k)
rect_missing stage [] k e = refl
rect_missing stage (r ∷ rects) zero e = absurd (cc (e))
rect_missing stage (r ∷ rects) (suc k) e = rect_missing stage rects k e

-- the parts of the plan below an exchange can be numbered
pub fits-exchange : (p : Plan) (t : Target) (q : Plan) (z : Plan) → p ≡ Exchange t q → z ≡ q → PartsFit p → PartsFit z
fits-exchange p t q z e f h = subst PartsFit (sym f) (All-tail (λ node. part_count node < 2 ^ 32) (moved t q) (nodes q) (subst PartsFit (e ∙ is_moved t q) h))

-- what one part more reads
flat_more : {X Y : Type 0} (f : X → List Y) (xs : List X) (x : X) → flat_map f (xs ++ x ∷ []) ≡ flat_map f xs ++ f x
flat_more f [] x = append-nil (f x)
flat_more {X} {Y} f (y ∷ xs) x = ap (λ (zs : List Y). f y ++ zs) (flat_more f xs x) ∙ sym (append_assoc (f y) (flat_map f xs) (f x))

abbrev pub first_reads : List ℕ → Plan → ℕ → List Need
first_reads counts plan n = map (need_with counts) (flat_map (needs plan) (range_with_len 0 n))

range_more : (a n : ℕ) → range_with_len a (suc n) ≡ range_with_len a n ++ (a + n) ∷ []
range_more a zero = let e : a ≡ a + 0 = omega arith in ap (λ (k : ℕ). k ∷ []) e
range_more a (suc n) = let e : a + 1 + n ≡ a + suc n = omega arith in ap (λ (ks : List ℕ). a ∷ ks) (range_more (a + 1) n ∙ ap (λ (k : ℕ). range_with_len (a + 1) n ++ k ∷ []) e)

pub part_more : (counts : List ℕ) (plan : Plan) (n : ℕ) (old mid new : List Need) → mid ≡ old ++ first_reads counts plan n → new ≡ mid ++ part_reads counts plan n → new ≡ old ++ first_reads counts plan (n + 1)
part_more counts plan n old mid new before e =
    let same : 0 + n ≡ n = omega arith in
    let next : n + 1 ≡ suc n = omega arith in
    e ∙ (ap (λ (l : List Need). l ++ part_reads counts plan n) before ∙ (append_assoc old (first_reads counts plan n) (part_reads counts plan n) ∙
    ap (λ (l : List Need). old ++ l) (sym (map_both (need_with counts) (flat_map (needs plan) (range_with_len 0 n)) (needs plan n)) ∙
    ap (map (need_with counts)) (sym (flat_more (needs plan) (range_with_len 0 n) n) ∙ ap (flat_map (needs plan)) (ap (λ (k : ℕ). range_with_len 0 n ++ k ∷ []) (sym same) ∙ (sym (range_more 0 n) ∙ ap (range_with_len 0) (sym next)))))))

pub task_more : (f : ℕ → List Need) (k : ℕ) (old new : List (List Need)) (x : List Need) → old ≡ map f (range_with_len 0 k) → x ≡ f k → new ≡ old ++ x ∷ [] → new ≡ map f (range_with_len 0 (k + 1))
task_more f k old new x before is pushed =
    pushed ∙ ((λ i. before i ++ is i ∷ []) ∙ sym (map-range_with_len_more f 0 k k (omega arith)))

-- the number of maps that is counted is the one that the stage has
count_at : (notes : List StageNote) (s : ℕ) → slice_index_or (counts_of notes) s 0 ≡ map_count (stages_of notes) s
count_at [] zero = refl
count_at [] (suc s) = refl
count_at (note ∷ notes) zero = refl
count_at (note ∷ notes) (suc s) = count_at notes s

need_same : (notes : List StageNote) (need : reads.Need) → need_with (counts_of notes) need ≡ need_over (stages_of notes) need
need_same notes (reads.some_maps s m0 m1) = refl
need_same notes (reads.all_maps s) = ap (λ (n : ℕ). record { stage = record { 0 = s }; m0 = 0; m1 = n }) (count_at notes s)

pub all_read : (r : Result (List (List Need)) Memory) (notes : List StageNote) (counts lent : List ℕ) (kind : StageKind) (body : Plan) → lent ≡ counts → counts ≡ counts_of notes →
    IfOk r (λ x. x ≡ map (task_reads lent kind body) (range_with_len 0 (part_count body))) → IfOk r (λ x. x ≡ reads_of (stages_of notes) (record { kind = kind; body = body }))
all_read r notes counts lent kind body is counted h =
    subst (λ (l : List (List Need)). IfOk r (λ x. x ≡ l))
    (ap (λ (l : List ℕ). map (task_reads l kind body) (range_with_len 0 (part_count body))) (is ∙ counted) ∙
    (λ i. map (λ k. map (λ need. need_same notes need i) (task_needs kind body k)) (range_with_len 0 (part_count body)))) h
