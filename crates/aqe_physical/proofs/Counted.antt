-- The counts of each form of a plan, as the code makes it, and what its conditions say of the plans below.
use Rattle.std.proofs.Common.{◌≡◌, ℕ, ◌+◌, ◌<◌, ◌^◌, ◌++◌, List, [], Option, ap, sym, ◌∙◌, subst, arith}
use Rattle.std.proofs.lemmas.List.Elements.{All-head, All-tail}
use Rattle.aqe_base.specs.declared.join_kind.JoinKind.{JoinKind}
use Rattle.aqe_expr.specs.declared.expr.Expr.{Expr}
use Rattle.aqe_logical.specs.declared.plan.AggCall.{AggCall}
use Rattle.aqe_logical.specs.declared.plan.SortKey.{SortKey}
use Rattle.aqe_join_rows.specs.declared.join_keys.JoinKeys.{JoinKeys}
use Rattle.aqe_physical.specs.declared.target.Target.{Target}
use Rattle.aqe_physical.specs.declared.target.JoinWay.{JoinWay}
use Rattle.aqe_physical.specs.declared.plan.Plan.{Plan, OneRow, Scan, Nothing, Read, ReadBroadcast}
use Rattle.aqe_physical.specs.declared.plan.Plan.TheVariants.{Filter, Project, Exchange, Join, PartialAgg, FinalAgg, Sort, LocalLimit, GlobalLimit, Union}
use Rattle.aqe_physical.specs.Shapes.{kept, mapped, moved, matched, grouped, finished, ordered, cut_locally, cut_globally, both_of}
use Rattle.aqe_physical.specs.Nodes.{nodes}
use Rattle.aqe_physical.specs.Counts.{part_count, target_count, join_count, shuffles, shuffles_at, PartsFit}
use Rattle.aqe_physical.proofs.Shapes.{is_kept, is_mapped, is_moved, is_matched, is_grouped, is_finished, is_ordered, is_cut_locally, is_cut_globally, is_both_of}
use Rattle.aqe_physical.proofs.Walk.{all_left, all_right}

pub shuffles-filter : (p : Plan) (c : Expr) (q : Plan) → p ≡ Filter c q → shuffles p ≡ shuffles q
shuffles-filter p c q e = ap shuffles (e ∙ is_kept c q)

pub count-filter : (p : Plan) (c : Expr) (q : Plan) → p ≡ Filter c q → part_count p ≡ part_count q
count-filter p c q e = ap part_count (e ∙ is_kept c q)

pub less-filter : (p : Plan) (c : Expr) (q : Plan) (z : Plan) → p ≡ Filter c q → z ≡ q → shuffles p < 4294967296 → shuffles z < 4294967296
less-filter p c q z e f h = let a = shuffles-filter p c q e in let b : shuffles z ≡ shuffles q = ap shuffles f in omega (arith, a, b, h)

pub fits-filter : (p : Plan) (c : Expr) (q : Plan) (z : Plan) → p ≡ Filter c q → z ≡ q → PartsFit p → PartsFit z
fits-filter p c q z e f h = subst PartsFit (sym f) (All-tail (λ node. part_count node < 2 ^ 32) (kept c q) (nodes q) (subst PartsFit (e ∙ is_kept c q) h))

pub shuffles-project : (p : Plan) (i : List Expr) (q : Plan) → p ≡ Project i q → shuffles p ≡ shuffles q
shuffles-project p i q e = ap shuffles (e ∙ is_mapped i q)

pub count-project : (p : Plan) (i : List Expr) (q : Plan) → p ≡ Project i q → part_count p ≡ part_count q
count-project p i q e = ap part_count (e ∙ is_mapped i q)

pub less-project : (p : Plan) (i : List Expr) (q : Plan) (z : Plan) → p ≡ Project i q → z ≡ q → shuffles p < 4294967296 → shuffles z < 4294967296
less-project p i q z e f h = let a = shuffles-project p i q e in let b : shuffles z ≡ shuffles q = ap shuffles f in omega (arith, a, b, h)

pub fits-project : (p : Plan) (i : List Expr) (q : Plan) (z : Plan) → p ≡ Project i q → z ≡ q → PartsFit p → PartsFit z
fits-project p i q z e f h = subst PartsFit (sym f) (All-tail (λ node. part_count node < 2 ^ 32) (mapped i q) (nodes q) (subst PartsFit (e ∙ is_mapped i q) h))

pub shuffles-exchange : (p : Plan) (t : Target) (q : Plan) → p ≡ Exchange t q → shuffles p ≡ shuffles_at t + shuffles q
shuffles-exchange p t q e = ap shuffles (e ∙ is_moved t q)

pub count-exchange : (p : Plan) (t : Target) (q : Plan) → p ≡ Exchange t q → part_count p ≡ target_count t
count-exchange p t q e = ap part_count (e ∙ is_moved t q)

pub less-exchange : (p : Plan) (t : Target) (q : Plan) (z : Plan) → p ≡ Exchange t q → z ≡ q → shuffles p < 4294967296 → shuffles z < 4294967296
less-exchange p t q z e f h = let a = shuffles-exchange p t q e in let b : shuffles z ≡ shuffles q = ap shuffles f in omega (arith, a, b, h)

pub shuffles-join : (p : Plan) (y : JoinWay) (k : JoinKind) (ks : JoinKeys) (v : ℕ) (w : ℕ) (l r : Plan) → p ≡ Join y k ks v w l r → shuffles p ≡ shuffles l + shuffles r
shuffles-join p y k ks v w l r e = ap shuffles (e ∙ is_matched y k ks v w l r)

pub count-join : (p : Plan) (y : JoinWay) (k : JoinKind) (ks : JoinKeys) (v : ℕ) (w : ℕ) (l r : Plan) → p ≡ Join y k ks v w l r → part_count p ≡ join_count y (part_count l) (part_count r)
count-join p y k ks v w l r e = ap part_count (e ∙ is_matched y k ks v w l r)

pub less-join-left : (p : Plan) (y : JoinWay) (k : JoinKind) (ks : JoinKeys) (v : ℕ) (w : ℕ) (l r : Plan) (z : Plan) → p ≡ Join y k ks v w l r → z ≡ l → shuffles p < 4294967296 → shuffles z < 4294967296
less-join-left p y k ks v w l r z e f h = let a = shuffles-join p y k ks v w l r e in let b : shuffles z ≡ shuffles l = ap shuffles f in omega (arith, a, b, h)

pub fits-join-left : (p : Plan) (y : JoinWay) (k : JoinKind) (ks : JoinKeys) (v : ℕ) (w : ℕ) (l r : Plan) (z : Plan) → p ≡ Join y k ks v w l r → z ≡ l → PartsFit p → PartsFit z
fits-join-left p y k ks v w l r z e f h = subst PartsFit (sym f) (all_left (λ node. part_count node < 2 ^ 32) (nodes l) (nodes r) (All-tail (λ node. part_count node < 2 ^ 32) (matched y k ks v w l r) (nodes l ++ nodes r) (subst PartsFit (e ∙ is_matched y k ks v w l r) h)))

pub less-join-right : (p : Plan) (y : JoinWay) (k : JoinKind) (ks : JoinKeys) (v : ℕ) (w : ℕ) (l r : Plan) (z : Plan) → p ≡ Join y k ks v w l r → z ≡ r → shuffles p < 4294967296 → shuffles z < 4294967296
less-join-right p y k ks v w l r z e f h = let a = shuffles-join p y k ks v w l r e in let b : shuffles z ≡ shuffles r = ap shuffles f in omega (arith, a, b, h)

pub fits-join-right : (p : Plan) (y : JoinWay) (k : JoinKind) (ks : JoinKeys) (v : ℕ) (w : ℕ) (l r : Plan) (z : Plan) → p ≡ Join y k ks v w l r → z ≡ r → PartsFit p → PartsFit z
fits-join-right p y k ks v w l r z e f h = subst PartsFit (sym f) (all_right (λ node. part_count node < 2 ^ 32) (nodes l) (nodes r) (All-tail (λ node. part_count node < 2 ^ 32) (matched y k ks v w l r) (nodes l ++ nodes r) (subst PartsFit (e ∙ is_matched y k ks v w l r) h)))

pub shuffles-partialagg : (p : Plan) (ks : List Expr) (cs : List AggCall) (q : Plan) → p ≡ PartialAgg ks cs q → shuffles p ≡ shuffles q
shuffles-partialagg p ks cs q e = ap shuffles (e ∙ is_grouped ks cs q)

pub count-partialagg : (p : Plan) (ks : List Expr) (cs : List AggCall) (q : Plan) → p ≡ PartialAgg ks cs q → part_count p ≡ part_count q
count-partialagg p ks cs q e = ap part_count (e ∙ is_grouped ks cs q)

pub less-partialagg : (p : Plan) (ks : List Expr) (cs : List AggCall) (q : Plan) (z : Plan) → p ≡ PartialAgg ks cs q → z ≡ q → shuffles p < 4294967296 → shuffles z < 4294967296
less-partialagg p ks cs q z e f h = let a = shuffles-partialagg p ks cs q e in let b : shuffles z ≡ shuffles q = ap shuffles f in omega (arith, a, b, h)

pub fits-partialagg : (p : Plan) (ks : List Expr) (cs : List AggCall) (q : Plan) (z : Plan) → p ≡ PartialAgg ks cs q → z ≡ q → PartsFit p → PartsFit z
fits-partialagg p ks cs q z e f h = subst PartsFit (sym f) (All-tail (λ node. part_count node < 2 ^ 32) (grouped ks cs q) (nodes q) (subst PartsFit (e ∙ is_grouped ks cs q) h))

pub shuffles-finalagg : (p : Plan) (n : ℕ) (cs : List AggCall) (q : Plan) → p ≡ FinalAgg n cs q → shuffles p ≡ shuffles q
shuffles-finalagg p n cs q e = ap shuffles (e ∙ is_finished n cs q)

pub count-finalagg : (p : Plan) (n : ℕ) (cs : List AggCall) (q : Plan) → p ≡ FinalAgg n cs q → part_count p ≡ part_count q
count-finalagg p n cs q e = ap part_count (e ∙ is_finished n cs q)

pub less-finalagg : (p : Plan) (n : ℕ) (cs : List AggCall) (q : Plan) (z : Plan) → p ≡ FinalAgg n cs q → z ≡ q → shuffles p < 4294967296 → shuffles z < 4294967296
less-finalagg p n cs q z e f h = let a = shuffles-finalagg p n cs q e in let b : shuffles z ≡ shuffles q = ap shuffles f in omega (arith, a, b, h)

pub fits-finalagg : (p : Plan) (n : ℕ) (cs : List AggCall) (q : Plan) (z : Plan) → p ≡ FinalAgg n cs q → z ≡ q → PartsFit p → PartsFit z
fits-finalagg p n cs q z e f h = subst PartsFit (sym f) (All-tail (λ node. part_count node < 2 ^ 32) (finished n cs q) (nodes q) (subst PartsFit (e ∙ is_finished n cs q) h))

pub shuffles-sort : (p : Plan) (ks : List SortKey) (q : Plan) → p ≡ Sort ks q → shuffles p ≡ shuffles q
shuffles-sort p ks q e = ap shuffles (e ∙ is_ordered ks q)

pub count-sort : (p : Plan) (ks : List SortKey) (q : Plan) → p ≡ Sort ks q → part_count p ≡ part_count q
count-sort p ks q e = ap part_count (e ∙ is_ordered ks q)

pub less-sort : (p : Plan) (ks : List SortKey) (q : Plan) (z : Plan) → p ≡ Sort ks q → z ≡ q → shuffles p < 4294967296 → shuffles z < 4294967296
less-sort p ks q z e f h = let a = shuffles-sort p ks q e in let b : shuffles z ≡ shuffles q = ap shuffles f in omega (arith, a, b, h)

pub fits-sort : (p : Plan) (ks : List SortKey) (q : Plan) (z : Plan) → p ≡ Sort ks q → z ≡ q → PartsFit p → PartsFit z
fits-sort p ks q z e f h = subst PartsFit (sym f) (All-tail (λ node. part_count node < 2 ^ 32) (ordered ks q) (nodes q) (subst PartsFit (e ∙ is_ordered ks q) h))

pub shuffles-locallimit : (p : Plan) (n : ℕ) (q : Plan) → p ≡ LocalLimit n q → shuffles p ≡ shuffles q
shuffles-locallimit p n q e = ap shuffles (e ∙ is_cut_locally n q)

pub count-locallimit : (p : Plan) (n : ℕ) (q : Plan) → p ≡ LocalLimit n q → part_count p ≡ part_count q
count-locallimit p n q e = ap part_count (e ∙ is_cut_locally n q)

pub less-locallimit : (p : Plan) (n : ℕ) (q : Plan) (z : Plan) → p ≡ LocalLimit n q → z ≡ q → shuffles p < 4294967296 → shuffles z < 4294967296
less-locallimit p n q z e f h = let a = shuffles-locallimit p n q e in let b : shuffles z ≡ shuffles q = ap shuffles f in omega (arith, a, b, h)

pub fits-locallimit : (p : Plan) (n : ℕ) (q : Plan) (z : Plan) → p ≡ LocalLimit n q → z ≡ q → PartsFit p → PartsFit z
fits-locallimit p n q z e f h = subst PartsFit (sym f) (All-tail (λ node. part_count node < 2 ^ 32) (cut_locally n q) (nodes q) (subst PartsFit (e ∙ is_cut_locally n q) h))

pub shuffles-globallimit : (p : Plan) (n : Option ℕ) (s : ℕ) (q : Plan) → p ≡ GlobalLimit n s q → shuffles p ≡ shuffles q
shuffles-globallimit p n s q e = ap shuffles (e ∙ is_cut_globally n s q)

pub count-globallimit : (p : Plan) (n : Option ℕ) (s : ℕ) (q : Plan) → p ≡ GlobalLimit n s q → part_count p ≡ part_count q
count-globallimit p n s q e = ap part_count (e ∙ is_cut_globally n s q)

pub less-globallimit : (p : Plan) (n : Option ℕ) (s : ℕ) (q : Plan) (z : Plan) → p ≡ GlobalLimit n s q → z ≡ q → shuffles p < 4294967296 → shuffles z < 4294967296
less-globallimit p n s q z e f h = let a = shuffles-globallimit p n s q e in let b : shuffles z ≡ shuffles q = ap shuffles f in omega (arith, a, b, h)

pub fits-globallimit : (p : Plan) (n : Option ℕ) (s : ℕ) (q : Plan) (z : Plan) → p ≡ GlobalLimit n s q → z ≡ q → PartsFit p → PartsFit z
fits-globallimit p n s q z e f h = subst PartsFit (sym f) (All-tail (λ node. part_count node < 2 ^ 32) (cut_globally n s q) (nodes q) (subst PartsFit (e ∙ is_cut_globally n s q) h))

pub shuffles-union : (p : Plan) (l r : Plan) → p ≡ Union l r → shuffles p ≡ shuffles l + shuffles r
shuffles-union p l r e = ap shuffles (e ∙ is_both_of l r)

pub count-union : (p : Plan) (l r : Plan) → p ≡ Union l r → part_count p ≡ part_count l + part_count r
count-union p l r e = ap part_count (e ∙ is_both_of l r)

pub less-union-left : (p : Plan) (l r : Plan) (z : Plan) → p ≡ Union l r → z ≡ l → shuffles p < 4294967296 → shuffles z < 4294967296
less-union-left p l r z e f h = let a = shuffles-union p l r e in let b : shuffles z ≡ shuffles l = ap shuffles f in omega (arith, a, b, h)

pub fits-union-left : (p : Plan) (l r : Plan) (z : Plan) → p ≡ Union l r → z ≡ l → PartsFit p → PartsFit z
fits-union-left p l r z e f h = subst PartsFit (sym f) (all_left (λ node. part_count node < 2 ^ 32) (nodes l) (nodes r) (All-tail (λ node. part_count node < 2 ^ 32) (both_of l r) (nodes l ++ nodes r) (subst PartsFit (e ∙ is_both_of l r) h)))

pub less-union-right : (p : Plan) (l r : Plan) (z : Plan) → p ≡ Union l r → z ≡ r → shuffles p < 4294967296 → shuffles z < 4294967296
less-union-right p l r z e f h = let a = shuffles-union p l r e in let b : shuffles z ≡ shuffles r = ap shuffles f in omega (arith, a, b, h)

pub fits-union-right : (p : Plan) (l r : Plan) (z : Plan) → p ≡ Union l r → z ≡ r → PartsFit p → PartsFit z
fits-union-right p l r z e f h = subst PartsFit (sym f) (all_right (λ node. part_count node < 2 ^ 32) (nodes l) (nodes r) (All-tail (λ node. part_count node < 2 ^ 32) (both_of l r) (nodes l ++ nodes r) (subst PartsFit (e ∙ is_both_of l r) h)))

pub ruleset shuffle_steps = (shuffles-filter, shuffles-project, shuffles-exchange, shuffles-join, shuffles-partialagg, shuffles-finalagg, shuffles-sort, shuffles-locallimit, shuffles-globallimit, shuffles-union)

pub ruleset less_steps = (less-filter, less-project, less-exchange, less-join-left, less-join-right, less-partialagg, less-finalagg, less-sort, less-locallimit, less-globallimit, less-union-left, less-union-right)

pub ruleset part_steps = (count-filter, count-project, count-exchange, count-join, count-partialagg, count-finalagg, count-sort, count-locallimit, count-globallimit, count-union)

pub ruleset fit_steps = (fits-filter, fits-project, fits-join-left, fits-join-right, fits-partialagg, fits-finalagg, fits-sort, fits-locallimit, fits-globallimit, fits-union-left, fits-union-right)

-- the number of the parts of the plan itself fits
pub own_fits : (p : Plan) → PartsFit p → part_count p < 4294967296
own_fits OneRow h = All-head (λ node. part_count node < 2 ^ 32) OneRow [] h
own_fits (Scan table files) h = All-head (λ node. part_count node < 2 ^ 32) (Scan table files) [] h
own_fits (Nothing parts width) h = All-head (λ node. part_count node < 2 ^ 32) (Nothing parts width) [] h
own_fits (Read stage maps reducers rects) h = All-head (λ node. part_count node < 2 ^ 32) (Read stage maps reducers rects) [] h
own_fits (ReadBroadcast stage) h = All-head (λ node. part_count node < 2 ^ 32) (ReadBroadcast stage) [] h
own_fits (kept cond child) h = All-head (λ node. part_count node < 2 ^ 32) (kept cond child) (nodes child) h
own_fits (mapped items child) h = All-head (λ node. part_count node < 2 ^ 32) (mapped items child) (nodes child) h
own_fits (moved target child) h = All-head (λ node. part_count node < 2 ^ 32) (moved target child) (nodes child) h
own_fits (grouped keys calls child) h = All-head (λ node. part_count node < 2 ^ 32) (grouped keys calls child) (nodes child) h
own_fits (finished keys calls child) h = All-head (λ node. part_count node < 2 ^ 32) (finished keys calls child) (nodes child) h
own_fits (ordered keys child) h = All-head (λ node. part_count node < 2 ^ 32) (ordered keys child) (nodes child) h
own_fits (cut_locally count child) h = All-head (λ node. part_count node < 2 ^ 32) (cut_locally count child) (nodes child) h
own_fits (cut_globally count skip child) h = All-head (λ node. part_count node < 2 ^ 32) (cut_globally count skip child) (nodes child) h
own_fits (matched way kind keys v w left right) h = All-head (λ node. part_count node < 2 ^ 32) (matched way kind keys v w left right) (nodes left ++ nodes right) h
own_fits (both_of left right) h = All-head (λ node. part_count node < 2 ^ 32) (both_of left right) (nodes left ++ nodes right) h
