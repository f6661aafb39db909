-- What the code's walks need of each form of a plan, as the code makes it.
use Rattle.std.proofs.Common.{◌≡◌, ℕ, Bool, false, ◌+◌, ◌++◌, List, [], ◌∷◌, map, Option, Some, None, zero, suc, arith, ap, refl, sym, ◌∙◌, subst, append_assoc, append-nil}
use Rattle.std.specs.Prelude.{IfOk, OnOk, Result, Ok, Err, ◌&&◌}
use Rattle.std.specs.List.{range_with_len}
use Rattle.aqe_base.specs.declared.join_kind.JoinKind.{JoinKind}
use Rattle.aqe_base.specs.declared.join_kind.Side.{Side}
use Rattle.aqe_base.specs.declared.join_kind.Side.TheVariants.{Left, Right}
use Rattle.aqe_base.specs.declared.stage_id.StageId.{StageId}
use Rattle.aqe_base.specs.declared.memory.Memory.{Memory}
use Rattle.aqe_expr.specs.declared.expr.Expr.{Expr}
use Rattle.aqe_logical.specs.declared.plan.AggCall.{AggCall}
use Rattle.aqe_logical.specs.declared.plan.SortKey.{SortKey}
use Rattle.aqe_join_rows.specs.declared.join_keys.JoinKeys.{JoinKeys}
use Rattle.aqe_physical.specs.declared.target.Target.{Target}
use Rattle.aqe_physical.specs.declared.target.Target.TheVariants.{Range}
use Rattle.aqe_physical.specs.declared.target.StageKind.{StageKind}
use Rattle.aqe_physical.specs.declared.plan.Joining.{Joining}
use Rattle.aqe_physical.specs.Forms.{join_of}
use Rattle.aqe_physical.specs.declared.target.JoinWay.{JoinWay}
use Rattle.aqe_physical.specs.declared.plan.Plan.{Plan}
use Rattle.aqe_physical.specs.declared.plan.Plan.TheVariants.{Filter, Project, Exchange, Join, PartialAgg, FinalAgg, Sort, LocalLimit, GlobalLimit, Union}
use Rattle.aqe_physical.proofs.Shapes.{is_kept, is_mapped, is_moved, is_matched, is_grouped, is_finished, is_ordered, is_cut_locally, is_cut_globally, is_both_of}
use Rattle.aqe_base.specs.declared.cells.Rect.{Rect}
use Rattle.aqe_rects.specs.Rectangles.{plain_rect, plain_rects}
use Rattle.aqe_making.specs.Ready.{is_ready}
use Rattle.aqe_making.specs.Makings as spec
use Rattle.aqe_making.specs.Makings.{makings, made_here, below, stage_of}
use Rattle.aqe_making.proofs.Standing.{body_of}
use Rattle.aqe_replan.specs.declared.making.Making.{Making}
use Rattle.aqe_replan.specs.Seen.{standing, all_standing, both_standing}
use Rattle.aqe_replan.specs.Reading.{read_with, replaced_with}

pub joining_is : (r : Result Joining Memory) (c j : Joining) → r ≡ Ok c → IfOk r (λ q. q ≡ j) → c ≡ j
joining_is r c j e h = subst (λ (x : Result Joining Memory). IfOk x (λ q. q ≡ j)) e h

-- a result that is there is what it has to be
pub it_is : (r : Result Plan Memory) (c p : Plan) → r ≡ Ok c → IfOk r (λ q. q ≡ p) → c ≡ p
it_is r c p e h = subst (λ (x : Result Plan Memory). IfOk x (λ q. q ≡ p)) e h

pub ready-filter : (whole : ℕ → Bool) (x : Plan) (c : Expr) (q : Plan) → x ≡ Filter c q → is_ready whole x ≡ is_ready whole q
ready-filter whole x c q e = ap (is_ready whole) (e ∙ is_kept c q)

pub ready-project : (whole : ℕ → Bool) (x : Plan) (i : List Expr) (q : Plan) → x ≡ Project i q → is_ready whole x ≡ is_ready whole q
ready-project whole x i q e = ap (is_ready whole) (e ∙ is_mapped i q)

pub ready-exchange : (whole : ℕ → Bool) (x : Plan) (t : Target) (q : Plan) → x ≡ Exchange t q → is_ready whole x ≡ false
ready-exchange whole x t q e = ap (is_ready whole) (e ∙ is_moved t q)

pub ready-partial : (whole : ℕ → Bool) (x : Plan) (ks : List Expr) (cs : List AggCall) (q : Plan) → x ≡ PartialAgg ks cs q → is_ready whole x ≡ is_ready whole q
ready-partial whole x ks cs q e = ap (is_ready whole) (e ∙ is_grouped ks cs q)

pub ready-last : (whole : ℕ → Bool) (x : Plan) (k : ℕ) (cs : List AggCall) (q : Plan) → x ≡ FinalAgg k cs q → is_ready whole x ≡ is_ready whole q
ready-last whole x k cs q e = ap (is_ready whole) (e ∙ is_finished k cs q)

pub ready-sort : (whole : ℕ → Bool) (x : Plan) (ks : List SortKey) (q : Plan) → x ≡ Sort ks q → is_ready whole x ≡ is_ready whole q
ready-sort whole x ks q e = ap (is_ready whole) (e ∙ is_ordered ks q)

pub ready-local : (whole : ℕ → Bool) (x : Plan) (k : ℕ) (q : Plan) → x ≡ LocalLimit k q → is_ready whole x ≡ is_ready whole q
ready-local whole x k q e = ap (is_ready whole) (e ∙ is_cut_locally k q)

pub ready-global : (whole : ℕ → Bool) (x : Plan) (k : Option ℕ) (s : ℕ) (q : Plan) → x ≡ GlobalLimit k s q → is_ready whole x ≡ is_ready whole q
ready-global whole x k s q e = ap (is_ready whole) (e ∙ is_cut_globally k s q)

pub ready-join : (whole : ℕ → Bool) (x : Plan) (y : JoinWay) (k : JoinKind) (ks : JoinKeys) (v w : ℕ) (l r : Plan) → x ≡ Join y k ks v w l r → is_ready whole x ≡ (is_ready whole l && is_ready whole r)
ready-join whole x y k ks v w l r e = ap (is_ready whole) (e ∙ is_matched y k ks v w l r)

pub ready-union : (whole : ℕ → Bool) (x l r : Plan) → x ≡ Union l r → is_ready whole x ≡ (is_ready whole l && is_ready whole r)
ready-union whole x l r e = ap (is_ready whole) (e ∙ is_both_of l r)

pub ruleset ready_steps = (ready-filter, ready-project, ready-exchange, ready-partial, ready-last, ready-sort, ready-local, ready-global, ready-join, ready-union)

-- the makings below a side, of a plan that stands at a place
lifted : (place : spec.Place) (side : Side) (ms : List spec.Making) → all_standing (place ++ side ∷ []) ms ≡ all_standing place (map (below side) ms)
lifted place side [] = refl
lifted place side (m ∷ ms) =
    let one : standing (place ++ side ∷ []) m ≡ standing place (below side m) =
    ap (λ (p : spec.Place). record { place = p; kind = m.stage.kind; body = m.stage.body }) (append_assoc place (side ∷ []) m.place) in
    (λ i. one i ∷ lifted place side ms i)

split : (place : spec.Place) (xs ys : List spec.Making) → all_standing place (xs ++ ys) ≡ all_standing place xs ++ all_standing place ys
split place [] ys = refl
split place (x ∷ xs) ys = ap (λ (zs : List Making). standing place x ∷ zs) (split place xs ys)

-- a result that is handed on, and what follows of what it says
on_ok : {T : Type 0} (r : Result T Memory) (P Q : Type 0) → (P → Q) → OnOk r P → OnOk r Q
on_ok (Ok x) P Q f h = f h
on_ok (Err fault) P Q f h = h

here-makings-filter : (whole : ℕ → Bool) (place : spec.Place) (x : Plan) (c : Expr) (q : Plan) (old new : List Making) → x ≡ Filter c q → new ≡ old ++ all_standing (place ++ Left ∷ []) (makings whole q) → new ≡ old ++ all_standing place (makings whole x)
here-makings-filter whole place x c q old new e h = h ∙ ap (λ (zs : List Making). old ++ zs) (lifted place Left (makings whole q) ∙ sym (ap (λ (p : Plan). all_standing place (makings whole p)) (e ∙ is_kept c q)))

pub makings-filter : {T : Type 0} (r : Result T Memory) (whole : ℕ → Bool) (place : spec.Place) (x : Plan) (c : Expr) (q : Plan) (old new : List Making) → x ≡ Filter c q → OnOk r (new ≡ old ++ all_standing (place ++ Left ∷ []) (makings whole q)) → OnOk r (new ≡ old ++ all_standing place (makings whole x))
makings-filter r whole place x c q old new e0 h = on_ok r (new ≡ old ++ all_standing (place ++ Left ∷ []) (makings whole q)) (new ≡ old ++ all_standing place (makings whole x)) (here-makings-filter whole place x c q old new e0) h

here-makings-project : (whole : ℕ → Bool) (place : spec.Place) (x : Plan) (i : List Expr) (q : Plan) (old new : List Making) → x ≡ Project i q → new ≡ old ++ all_standing (place ++ Left ∷ []) (makings whole q) → new ≡ old ++ all_standing place (makings whole x)
here-makings-project whole place x i q old new e h = h ∙ ap (λ (zs : List Making). old ++ zs) (lifted place Left (makings whole q) ∙ sym (ap (λ (p : Plan). all_standing place (makings whole p)) (e ∙ is_mapped i q)))

pub makings-project : {T : Type 0} (r : Result T Memory) (whole : ℕ → Bool) (place : spec.Place) (x : Plan) (i : List Expr) (q : Plan) (old new : List Making) → x ≡ Project i q → OnOk r (new ≡ old ++ all_standing (place ++ Left ∷ []) (makings whole q)) → OnOk r (new ≡ old ++ all_standing place (makings whole x))
makings-project r whole place x i q old new e0 h = on_ok r (new ≡ old ++ all_standing (place ++ Left ∷ []) (makings whole q)) (new ≡ old ++ all_standing place (makings whole x)) (here-makings-project whole place x i q old new e0) h

here-makings-partial : (whole : ℕ → Bool) (place : spec.Place) (x : Plan) (ks : List Expr) (cs : List AggCall) (q : Plan) (old new : List Making) → x ≡ PartialAgg ks cs q → new ≡ old ++ all_standing (place ++ Left ∷ []) (makings whole q) → new ≡ old ++ all_standing place (makings whole x)
here-makings-partial whole place x ks cs q old new e h = h ∙ ap (λ (zs : List Making). old ++ zs) (lifted place Left (makings whole q) ∙ sym (ap (λ (p : Plan). all_standing place (makings whole p)) (e ∙ is_grouped ks cs q)))

pub makings-partial : {T : Type 0} (r : Result T Memory) (whole : ℕ → Bool) (place : spec.Place) (x : Plan) (ks : List Expr) (cs : List AggCall) (q : Plan) (old new : List Making) → x ≡ PartialAgg ks cs q → OnOk r (new ≡ old ++ all_standing (place ++ Left ∷ []) (makings whole q)) → OnOk r (new ≡ old ++ all_standing place (makings whole x))
makings-partial r whole place x ks cs q old new e0 h = on_ok r (new ≡ old ++ all_standing (place ++ Left ∷ []) (makings whole q)) (new ≡ old ++ all_standing place (makings whole x)) (here-makings-partial whole place x ks cs q old new e0) h

here-makings-last : (whole : ℕ → Bool) (place : spec.Place) (x : Plan) (k : ℕ) (cs : List AggCall) (q : Plan) (old new : List Making) → x ≡ FinalAgg k cs q → new ≡ old ++ all_standing (place ++ Left ∷ []) (makings whole q) → new ≡ old ++ all_standing place (makings whole x)
here-makings-last whole place x k cs q old new e h = h ∙ ap (λ (zs : List Making). old ++ zs) (lifted place Left (makings whole q) ∙ sym (ap (λ (p : Plan). all_standing place (makings whole p)) (e ∙ is_finished k cs q)))

pub makings-last : {T : Type 0} (r : Result T Memory) (whole : ℕ → Bool) (place : spec.Place) (x : Plan) (k : ℕ) (cs : List AggCall) (q : Plan) (old new : List Making) → x ≡ FinalAgg k cs q → OnOk r (new ≡ old ++ all_standing (place ++ Left ∷ []) (makings whole q)) → OnOk r (new ≡ old ++ all_standing place (makings whole x))
makings-last r whole place x k cs q old new e0 h = on_ok r (new ≡ old ++ all_standing (place ++ Left ∷ []) (makings whole q)) (new ≡ old ++ all_standing place (makings whole x)) (here-makings-last whole place x k cs q old new e0) h

here-makings-sort : (whole : ℕ → Bool) (place : spec.Place) (x : Plan) (ks : List SortKey) (q : Plan) (old new : List Making) → x ≡ Sort ks q → new ≡ old ++ all_standing (place ++ Left ∷ []) (makings whole q) → new ≡ old ++ all_standing place (makings whole x)
here-makings-sort whole place x ks q old new e h = h ∙ ap (λ (zs : List Making). old ++ zs) (lifted place Left (makings whole q) ∙ sym (ap (λ (p : Plan). all_standing place (makings whole p)) (e ∙ is_ordered ks q)))

pub makings-sort : {T : Type 0} (r : Result T Memory) (whole : ℕ → Bool) (place : spec.Place) (x : Plan) (ks : List SortKey) (q : Plan) (old new : List Making) → x ≡ Sort ks q → OnOk r (new ≡ old ++ all_standing (place ++ Left ∷ []) (makings whole q)) → OnOk r (new ≡ old ++ all_standing place (makings whole x))
makings-sort r whole place x ks q old new e0 h = on_ok r (new ≡ old ++ all_standing (place ++ Left ∷ []) (makings whole q)) (new ≡ old ++ all_standing place (makings whole x)) (here-makings-sort whole place x ks q old new e0) h

here-makings-local : (whole : ℕ → Bool) (place : spec.Place) (x : Plan) (k : ℕ) (q : Plan) (old new : List Making) → x ≡ LocalLimit k q → new ≡ old ++ all_standing (place ++ Left ∷ []) (makings whole q) → new ≡ old ++ all_standing place (makings whole x)
here-makings-local whole place x k q old new e h = h ∙ ap (λ (zs : List Making). old ++ zs) (lifted place Left (makings whole q) ∙ sym (ap (λ (p : Plan). all_standing place (makings whole p)) (e ∙ is_cut_locally k q)))

pub makings-local : {T : Type 0} (r : Result T Memory) (whole : ℕ → Bool) (place : spec.Place) (x : Plan) (k : ℕ) (q : Plan) (old new : List Making) → x ≡ LocalLimit k q → OnOk r (new ≡ old ++ all_standing (place ++ Left ∷ []) (makings whole q)) → OnOk r (new ≡ old ++ all_standing place (makings whole x))
makings-local r whole place x k q old new e0 h = on_ok r (new ≡ old ++ all_standing (place ++ Left ∷ []) (makings whole q)) (new ≡ old ++ all_standing place (makings whole x)) (here-makings-local whole place x k q old new e0) h

here-makings-global : (whole : ℕ → Bool) (place : spec.Place) (x : Plan) (k : Option ℕ) (s : ℕ) (q : Plan) (old new : List Making) → x ≡ GlobalLimit k s q → new ≡ old ++ all_standing (place ++ Left ∷ []) (makings whole q) → new ≡ old ++ all_standing place (makings whole x)
here-makings-global whole place x k s q old new e h = h ∙ ap (λ (zs : List Making). old ++ zs) (lifted place Left (makings whole q) ∙ sym (ap (λ (p : Plan). all_standing place (makings whole p)) (e ∙ is_cut_globally k s q)))

pub makings-global : {T : Type 0} (r : Result T Memory) (whole : ℕ → Bool) (place : spec.Place) (x : Plan) (k : Option ℕ) (s : ℕ) (q : Plan) (old new : List Making) → x ≡ GlobalLimit k s q → OnOk r (new ≡ old ++ all_standing (place ++ Left ∷ []) (makings whole q)) → OnOk r (new ≡ old ++ all_standing place (makings whole x))
makings-global r whole place x k s q old new e0 h = on_ok r (new ≡ old ++ all_standing (place ++ Left ∷ []) (makings whole q)) (new ≡ old ++ all_standing place (makings whole x)) (here-makings-global whole place x k s q old new e0) h

pushed : (place : spec.Place) (old mid new xs ys : List Making) → mid ≡ old ++ xs → new ≡ mid ++ ys → new ≡ old ++ (xs ++ ys)
pushed place old mid new xs ys first then = then ∙ (ap (λ (zs : List Making). zs ++ ys) first ∙ append_assoc old xs ys)

here-makings-exchange : (whole : ℕ → Bool) (place : spec.Place) (x : Plan) (t : Target) (q : Plan) (old mid new : List Making) → x ≡ Exchange t q →
    mid ≡ old ++ all_standing (place ++ Left ∷ []) (makings whole q) → new ≡ mid ++ all_standing place (made_here whole t q) → new ≡ old ++ all_standing place (makings whole x)
here-makings-exchange whole place x t q old mid new e first then =
    pushed place old mid new (all_standing (place ++ Left ∷ []) (makings whole q)) (all_standing place (made_here whole t q)) first then ∙
    ap (λ (zs : List Making). old ++ zs) (ap (λ (ys : List Making). ys ++ all_standing place (made_here whole t q)) (lifted place Left (makings whole q)) ∙
    (sym (split place (map (below Left) (makings whole q)) (made_here whole t q)) ∙ sym (ap (λ (p : Plan). all_standing place (makings whole p)) (e ∙ is_moved t q))))

pub makings-exchange : {T : Type 0} (done : Result T Memory) (whole : ℕ → Bool) (place : spec.Place) (x : Plan) (t : Target) (q : Plan) (old mid new : List Making) → x ≡ Exchange t q →
    mid ≡ old ++ all_standing (place ++ Left ∷ []) (makings whole q) → OnOk done (new ≡ mid ++ all_standing place (made_here whole t q)) → OnOk done (new ≡ old ++ all_standing place (makings whole x))
makings-exchange done whole place x t q old mid new e first then =
    on_ok done (new ≡ mid ++ all_standing place (made_here whole t q)) (new ≡ old ++ all_standing place (makings whole x)) (here-makings-exchange whole place x t q old mid new e first) then

-- the makings of the two plans below a node, one after the other
here-both : (whole : ℕ → Bool) (place : spec.Place) (l r : Plan) (old mid new : List Making) →
    mid ≡ old ++ all_standing (place ++ Left ∷ []) (makings whole l) → new ≡ mid ++ all_standing (place ++ Right ∷ []) (makings whole r) → new ≡ old ++ both_standing whole place l r
here-both whole place l r old mid new first then =
    pushed place old mid new (all_standing (place ++ Left ∷ []) (makings whole l)) (all_standing (place ++ Right ∷ []) (makings whole r)) first then

pub both_pushed : {T : Type 0} (done : Result T Memory) (whole : ℕ → Bool) (place : spec.Place) (l r : Plan) (old mid new : List Making) →
    mid ≡ old ++ all_standing (place ++ Left ∷ []) (makings whole l) → OnOk done (new ≡ mid ++ all_standing (place ++ Right ∷ []) (makings whole r)) → OnOk done (new ≡ old ++ both_standing whole place l r)
both_pushed done whole place l r old mid new first then =
    on_ok done (new ≡ mid ++ all_standing (place ++ Right ∷ []) (makings whole r)) (new ≡ old ++ both_standing whole place l r) (here-both whole place l r old mid new first) then

two : (whole : ℕ → Bool) (place : spec.Place) (x l r : Plan) (old new : List Making) → makings whole x ≡ map (below Left) (makings whole l) ++ map (below Right) (makings whole r) →
    new ≡ old ++ both_standing whole place l r → new ≡ old ++ all_standing place (makings whole x)
two whole place x l r old new e h =
    h ∙ ap (λ (zs : List Making). old ++ zs) ((λ i. lifted place Left (makings whole l) i ++ lifted place Right (makings whole r) i) ∙
    (sym (split place (map (below Left) (makings whole l)) (map (below Right) (makings whole r))) ∙ sym (ap (all_standing place) e)))

here-makings-join : (whole : ℕ → Bool) (place : spec.Place) (x : Plan) (y : JoinWay) (k : JoinKind) (ks : JoinKeys) (v w : ℕ) (l r : Plan) (old new : List Making) → x ≡ Join y k ks v w l r →
    new ≡ old ++ both_standing whole place l r → new ≡ old ++ all_standing place (makings whole x)
here-makings-join whole place x y k ks v w l r old new e h = two whole place x l r old new (ap (makings whole) (e ∙ is_matched y k ks v w l r)) h

pub makings-join : {T : Type 0} (done : Result T Memory) (whole : ℕ → Bool) (place : spec.Place) (x : Plan) (y : JoinWay) (k : JoinKind) (ks : JoinKeys) (v w : ℕ) (l r : Plan) (old new : List Making) → x ≡ Join y k ks v w l r →
    OnOk done (new ≡ old ++ both_standing whole place l r) → OnOk done (new ≡ old ++ all_standing place (makings whole x))
makings-join done whole place x y k ks v w l r old new e h =
    on_ok done (new ≡ old ++ both_standing whole place l r) (new ≡ old ++ all_standing place (makings whole x)) (here-makings-join whole place x y k ks v w l r old new e) h

here-makings-union : (whole : ℕ → Bool) (place : spec.Place) (x l r : Plan) (old new : List Making) → x ≡ Union l r →
    new ≡ old ++ both_standing whole place l r → new ≡ old ++ all_standing place (makings whole x)
here-makings-union whole place x l r old new e h = two whole place x l r old new (ap (makings whole) (e ∙ is_both_of l r)) h

pub makings-union : {T : Type 0} (done : Result T Memory) (whole : ℕ → Bool) (place : spec.Place) (x : Plan) (l r : Plan) (old new : List Making) → x ≡ Union l r →
    OnOk done (new ≡ old ++ both_standing whole place l r) → OnOk done (new ≡ old ++ all_standing place (makings whole x))
makings-union done whole place x l r old new e h =
    on_ok done (new ≡ old ++ both_standing whole place l r) (new ≡ old ++ all_standing place (makings whole x)) (here-makings-union whole place x l r old new e) h

pub ruleset making_steps = (makings-filter, makings-project, makings-partial, makings-last, makings-sort, makings-local, makings-global, makings-exchange, makings-join, makings-union, both_pushed)

-- what a function gives of the results of those that it calls is what has to be given
abbrev Is : Result Plan Memory → Plan → Type 0
Is r p = IfOk r (λ q. q ≡ p)

is_so : (r : Result Plan Memory) (p q : Plan) → p ≡ q → Is r p → Is r q
is_so r p q e h = subst (Is r) e h

pub left-filter : (stage : StageId) (maps : ℕ) (place : spec.Place) (child r : Result Plan Memory) (x : Plan) (c : Expr) (q : Plan) → x ≡ Filter c q →
    ((p : Plan) → IfOk child (λ d. d ≡ p) → IfOk r (λ z. z ≡ Filter c p)) → IfOk child (λ d. d ≡ replaced_with stage maps place q) → IfOk r (λ z. z ≡ replaced_with stage maps (Left ∷ place) x)
left-filter stage maps place child r x c q e h k =
    is_so r (Filter c (replaced_with stage maps place q)) (replaced_with stage maps (Left ∷ place) x)
    (is_kept c (replaced_with stage maps place q) ∙ sym (ap (replaced_with stage maps (Left ∷ place)) (e ∙ is_kept c q))) (h (replaced_with stage maps place q) k)

pub left-project : (stage : StageId) (maps : ℕ) (place : spec.Place) (child r : Result Plan Memory) (x : Plan) (i : List Expr) (q : Plan) → x ≡ Project i q →
    ((p : Plan) → IfOk child (λ d. d ≡ p) → IfOk r (λ z. z ≡ Project i p)) → IfOk child (λ d. d ≡ replaced_with stage maps place q) → IfOk r (λ z. z ≡ replaced_with stage maps (Left ∷ place) x)
left-project stage maps place child r x i q e h k =
    is_so r (Project i (replaced_with stage maps place q)) (replaced_with stage maps (Left ∷ place) x)
    (is_mapped i (replaced_with stage maps place q) ∙ sym (ap (replaced_with stage maps (Left ∷ place)) (e ∙ is_mapped i q))) (h (replaced_with stage maps place q) k)

pub left-exchange : (stage : StageId) (maps : ℕ) (place : spec.Place) (child r : Result Plan Memory) (x : Plan) (t : Target) (q : Plan) → x ≡ Exchange t q →
    ((p : Plan) → IfOk child (λ d. d ≡ p) → IfOk r (λ z. z ≡ Exchange t p)) → IfOk child (λ d. d ≡ replaced_with stage maps place q) → IfOk r (λ z. z ≡ replaced_with stage maps (Left ∷ place) x)
left-exchange stage maps place child r x t q e h k =
    is_so r (Exchange t (replaced_with stage maps place q)) (replaced_with stage maps (Left ∷ place) x)
    (is_moved t (replaced_with stage maps place q) ∙ sym (ap (replaced_with stage maps (Left ∷ place)) (e ∙ is_moved t q))) (h (replaced_with stage maps place q) k)

pub left-partial : (stage : StageId) (maps : ℕ) (place : spec.Place) (child r : Result Plan Memory) (x : Plan) (ks : List Expr) (cs : List AggCall) (q : Plan) → x ≡ PartialAgg ks cs q →
    ((p : Plan) → IfOk child (λ d. d ≡ p) → IfOk r (λ z. z ≡ PartialAgg ks cs p)) → IfOk child (λ d. d ≡ replaced_with stage maps place q) → IfOk r (λ z. z ≡ replaced_with stage maps (Left ∷ place) x)
left-partial stage maps place child r x ks cs q e h k =
    is_so r (PartialAgg ks cs (replaced_with stage maps place q)) (replaced_with stage maps (Left ∷ place) x)
    (is_grouped ks cs (replaced_with stage maps place q) ∙ sym (ap (replaced_with stage maps (Left ∷ place)) (e ∙ is_grouped ks cs q))) (h (replaced_with stage maps place q) k)

pub left-last : (stage : StageId) (maps : ℕ) (place : spec.Place) (child r : Result Plan Memory) (x : Plan) (k : ℕ) (cs : List AggCall) (q : Plan) → x ≡ FinalAgg k cs q →
    ((p : Plan) → IfOk child (λ d. d ≡ p) → IfOk r (λ z. z ≡ FinalAgg k cs p)) → IfOk child (λ d. d ≡ replaced_with stage maps place q) → IfOk r (λ z. z ≡ replaced_with stage maps (Left ∷ place) x)
left-last stage maps place child r x k cs q e h g =
    is_so r (FinalAgg k cs (replaced_with stage maps place q)) (replaced_with stage maps (Left ∷ place) x)
    (is_finished k cs (replaced_with stage maps place q) ∙ sym (ap (replaced_with stage maps (Left ∷ place)) (e ∙ is_finished k cs q))) (h (replaced_with stage maps place q) g)

pub left-sort : (stage : StageId) (maps : ℕ) (place : spec.Place) (child r : Result Plan Memory) (x : Plan) (ks : List SortKey) (q : Plan) → x ≡ Sort ks q →
    ((p : Plan) → IfOk child (λ d. d ≡ p) → IfOk r (λ z. z ≡ Sort ks p)) → IfOk child (λ d. d ≡ replaced_with stage maps place q) → IfOk r (λ z. z ≡ replaced_with stage maps (Left ∷ place) x)
left-sort stage maps place child r x ks q e h k =
    is_so r (Sort ks (replaced_with stage maps place q)) (replaced_with stage maps (Left ∷ place) x)
    (is_ordered ks (replaced_with stage maps place q) ∙ sym (ap (replaced_with stage maps (Left ∷ place)) (e ∙ is_ordered ks q))) (h (replaced_with stage maps place q) k)

pub left-local : (stage : StageId) (maps : ℕ) (place : spec.Place) (child r : Result Plan Memory) (x : Plan) (k : ℕ) (q : Plan) → x ≡ LocalLimit k q →
    ((p : Plan) → IfOk child (λ d. d ≡ p) → IfOk r (λ z. z ≡ LocalLimit k p)) → IfOk child (λ d. d ≡ replaced_with stage maps place q) → IfOk r (λ z. z ≡ replaced_with stage maps (Left ∷ place) x)
left-local stage maps place child r x k q e h g =
    is_so r (LocalLimit k (replaced_with stage maps place q)) (replaced_with stage maps (Left ∷ place) x)
    (is_cut_locally k (replaced_with stage maps place q) ∙ sym (ap (replaced_with stage maps (Left ∷ place)) (e ∙ is_cut_locally k q))) (h (replaced_with stage maps place q) g)

pub left-global : (stage : StageId) (maps : ℕ) (place : spec.Place) (child r : Result Plan Memory) (x : Plan) (k : Option ℕ) (s : ℕ) (q : Plan) → x ≡ GlobalLimit k s q →
    ((p : Plan) → IfOk child (λ d. d ≡ p) → IfOk r (λ z. z ≡ GlobalLimit k s p)) → IfOk child (λ d. d ≡ replaced_with stage maps place q) → IfOk r (λ z. z ≡ replaced_with stage maps (Left ∷ place) x)
left-global stage maps place child r x k s q e h g =
    is_so r (GlobalLimit k s (replaced_with stage maps place q)) (replaced_with stage maps (Left ∷ place) x)
    (is_cut_globally k s (replaced_with stage maps place q) ∙ sym (ap (replaced_with stage maps (Left ∷ place)) (e ∙ is_cut_globally k s q))) (h (replaced_with stage maps place q) g)

pub left-join : (stage : StageId) (maps : ℕ) (place : spec.Place) (shape : Result Joining Memory) (first second result : Result Plan Memory) (x : Plan) (y : JoinWay) (k : JoinKind) (ks : JoinKeys) (v w : ℕ) (l r : Plan) →
    x ≡ Join y k ks v w l r →
    ((j : Joining) (a b : Plan) → IfOk shape (λ c. c ≡ j) → IfOk first (λ c. c ≡ a) → IfOk second (λ c. c ≡ b) → IfOk result (λ q. q ≡ join_of j a b)) →
    IfOk shape (λ j. j ≡ record { way = y; kind = k; keys = ks; left_width = v; right_width = w }) → IfOk first (λ c. c ≡ replaced_with stage maps place l) → IfOk second (λ c. c ≡ r) →
    IfOk result (λ z. z ≡ replaced_with stage maps (Left ∷ place) x)
left-join stage maps place shape first second result x y k ks v w l r e h g f s =
    is_so result (Join y k ks v w (replaced_with stage maps place l) r) (replaced_with stage maps (Left ∷ place) x)
    (is_matched y k ks v w (replaced_with stage maps place l) r ∙ sym (ap (replaced_with stage maps (Left ∷ place)) (e ∙ is_matched y k ks v w l r)))
    (h (record { way = y; kind = k; keys = ks; left_width = v; right_width = w }) (replaced_with stage maps place l) r g f s)

pub left-union : (stage : StageId) (maps : ℕ) (place : spec.Place) (first second result : Result Plan Memory) (x l r : Plan) → x ≡ Union l r →
    ((a b : Plan) → IfOk first (λ c. c ≡ a) → IfOk second (λ c. c ≡ b) → IfOk result (λ q. q ≡ Union a b)) → IfOk first (λ c. c ≡ replaced_with stage maps place l) → IfOk second (λ c. c ≡ r) →
    IfOk result (λ z. z ≡ replaced_with stage maps (Left ∷ place) x)
left-union stage maps place first second result x l r e h f s =
    is_so result (Union (replaced_with stage maps place l) r) (replaced_with stage maps (Left ∷ place) x)
    (is_both_of (replaced_with stage maps place l) r ∙ sym (ap (replaced_with stage maps (Left ∷ place)) (e ∙ is_both_of l r))) (h (replaced_with stage maps place l) r f s)

pub right-join : (stage : StageId) (maps : ℕ) (place : spec.Place) (shape : Result Joining Memory) (first second result : Result Plan Memory) (x : Plan) (y : JoinWay) (k : JoinKind) (ks : JoinKeys) (v w : ℕ) (l r : Plan) →
    x ≡ Join y k ks v w l r →
    ((j : Joining) (a b : Plan) → IfOk shape (λ c. c ≡ j) → IfOk first (λ c. c ≡ a) → IfOk second (λ c. c ≡ b) → IfOk result (λ q. q ≡ join_of j a b)) →
    IfOk shape (λ j. j ≡ record { way = y; kind = k; keys = ks; left_width = v; right_width = w }) → IfOk first (λ c. c ≡ l) → IfOk second (λ c. c ≡ replaced_with stage maps place r) →
    IfOk result (λ z. z ≡ replaced_with stage maps (Right ∷ place) x)
right-join stage maps place shape first second result x y k ks v w l r e h g f s =
    is_so result (Join y k ks v w l (replaced_with stage maps place r)) (replaced_with stage maps (Right ∷ place) x)
    (is_matched y k ks v w l (replaced_with stage maps place r) ∙ sym (ap (replaced_with stage maps (Right ∷ place)) (e ∙ is_matched y k ks v w l r)))
    (h (record { way = y; kind = k; keys = ks; left_width = v; right_width = w }) l (replaced_with stage maps place r) g f s)

pub right-union : (stage : StageId) (maps : ℕ) (place : spec.Place) (first second result : Result Plan Memory) (x l r : Plan) → x ≡ Union l r →
    ((a b : Plan) → IfOk first (λ c. c ≡ a) → IfOk second (λ c. c ≡ b) → IfOk result (λ q. q ≡ Union a b)) → IfOk first (λ c. c ≡ l) → IfOk second (λ c. c ≡ replaced_with stage maps place r) →
    IfOk result (λ z. z ≡ replaced_with stage maps (Right ∷ place) x)
right-union stage maps place first second result x l r e h f s =
    is_so result (Union l (replaced_with stage maps place r)) (replaced_with stage maps (Right ∷ place) x)
    (is_both_of l (replaced_with stage maps place r) ∙ sym (ap (replaced_with stage maps (Right ∷ place)) (e ∙ is_both_of l r))) (h l (replaced_with stage maps place r) f s)

pub ruleset left_steps = (left-filter, left-project, left-exchange, left-partial, left-last, left-sort, left-local, left-global, left-join, left-union)

pub right-filter : (stage : StageId) (maps : ℕ) (place : spec.Place) (x : Plan) (c : Expr) (q : Plan) → x ≡ Filter c q → x ≡ replaced_with stage maps (Right ∷ place) x
right-filter stage maps place x c q e = (e ∙ is_kept c q) ∙ sym (ap (replaced_with stage maps (Right ∷ place)) (e ∙ is_kept c q))

pub right-project : (stage : StageId) (maps : ℕ) (place : spec.Place) (x : Plan) (i : List Expr) (q : Plan) → x ≡ Project i q → x ≡ replaced_with stage maps (Right ∷ place) x
right-project stage maps place x i q e = (e ∙ is_mapped i q) ∙ sym (ap (replaced_with stage maps (Right ∷ place)) (e ∙ is_mapped i q))

pub right-exchange : (stage : StageId) (maps : ℕ) (place : spec.Place) (x : Plan) (t : Target) (q : Plan) → x ≡ Exchange t q → x ≡ replaced_with stage maps (Right ∷ place) x
right-exchange stage maps place x t q e = (e ∙ is_moved t q) ∙ sym (ap (replaced_with stage maps (Right ∷ place)) (e ∙ is_moved t q))

pub right-partial : (stage : StageId) (maps : ℕ) (place : spec.Place) (x : Plan) (ks : List Expr) (cs : List AggCall) (q : Plan) → x ≡ PartialAgg ks cs q → x ≡ replaced_with stage maps (Right ∷ place) x
right-partial stage maps place x ks cs q e = (e ∙ is_grouped ks cs q) ∙ sym (ap (replaced_with stage maps (Right ∷ place)) (e ∙ is_grouped ks cs q))

pub right-last : (stage : StageId) (maps : ℕ) (place : spec.Place) (x : Plan) (k : ℕ) (cs : List AggCall) (q : Plan) → x ≡ FinalAgg k cs q → x ≡ replaced_with stage maps (Right ∷ place) x
right-last stage maps place x k cs q e = (e ∙ is_finished k cs q) ∙ sym (ap (replaced_with stage maps (Right ∷ place)) (e ∙ is_finished k cs q))

pub right-sort : (stage : StageId) (maps : ℕ) (place : spec.Place) (x : Plan) (ks : List SortKey) (q : Plan) → x ≡ Sort ks q → x ≡ replaced_with stage maps (Right ∷ place) x
right-sort stage maps place x ks q e = (e ∙ is_ordered ks q) ∙ sym (ap (replaced_with stage maps (Right ∷ place)) (e ∙ is_ordered ks q))

pub right-local : (stage : StageId) (maps : ℕ) (place : spec.Place) (x : Plan) (k : ℕ) (q : Plan) → x ≡ LocalLimit k q → x ≡ replaced_with stage maps (Right ∷ place) x
right-local stage maps place x k q e = (e ∙ is_cut_locally k q) ∙ sym (ap (replaced_with stage maps (Right ∷ place)) (e ∙ is_cut_locally k q))

pub right-global : (stage : StageId) (maps : ℕ) (place : spec.Place) (x : Plan) (k : Option ℕ) (s : ℕ) (q : Plan) → x ≡ GlobalLimit k s q → x ≡ replaced_with stage maps (Right ∷ place) x
right-global stage maps place x k s q e = (e ∙ is_cut_globally k s q) ∙ sym (ap (replaced_with stage maps (Right ∷ place)) (e ∙ is_cut_globally k s q))

pub ruleset right_steps = (right-join, right-union, right-filter, right-project, right-exchange, right-partial, right-last, right-sort, right-local, right-global)

pub here-exchange : (stage : StageId) (maps : ℕ) (r : Result Plan Memory) (x : Plan) (t : Target) (q : Plan) → x ≡ Exchange t q →
    IfOk r (λ z. z ≡ read_with stage maps t q) → IfOk r (λ z. z ≡ replaced_with stage maps [] x)
here-exchange stage maps r x t q e h = is_so r (read_with stage maps t q) (replaced_with stage maps [] x) (sym (ap (replaced_with stage maps []) (e ∙ is_moved t q))) h

pub ruleset here_steps = (here-exchange)

-- a range of which a sample was made names it
pub read-sampled : (stage : StageId) (maps n : ℕ) (r : Result Plan Memory) (t : Target) (ks : List SortKey) (s : Option StageId) (q : Plan) → t ≡ Range ks n s → s ≡ None →
    IfOk r (λ z. z ≡ Exchange (Range ks n (Some stage)) q) → IfOk r (λ z. z ≡ read_with stage maps t q)
read-sampled stage maps n r t ks s q e f h =
    is_so r (Exchange (Range ks n (Some stage)) q) (read_with stage maps t q)
    (is_moved (Range ks n (Some stage)) q ∙ sym (ap (λ (u : Target). read_with stage maps u q) (e ∙ ap (Range ks n) f))) h

pub ruleset read_steps = (read-sampled)

-- the making of an exchange that stands at a place
pub making_is : (place p : spec.Place) (t : Target) (q body : Plan) (kind : StageKind) → p ≡ place → kind ≡ (stage_of t q).kind → body ≡ q →
    record { place = p; kind = kind; body = body } ≡ standing place (record { place = []; stage = stage_of t q })
making_is place p t q body kind e f g =
    λ i. record { place = (e ∙ sym (append-nil place)) i; kind = f i; body = (g ∙ sym (body_of t q)) i }

-- the makings of the exchanges, and then the result
pub all_found : (mid found : List Making) (xs ys : List spec.Making) → mid ≡ all_standing [] xs → found ≡ mid ++ all_standing [] ys → found ≡ all_standing [] (xs ++ ys)
all_found mid found xs ys first then = then ∙ (ap (λ (zs : List Making). zs ++ all_standing [] ys) first ∙ sym (split [] xs ys))

-- the plain rectangles, one more at a time
from_more : (maps a k : ℕ) → map (plain_rect maps) (range_with_len a (suc k)) ≡ map (plain_rect maps) (range_with_len a k) ++ plain_rect maps (a + k) ∷ []
from_more maps a zero = let e : a ≡ a + 0 = omega arith in ap (λ (r : ℕ). plain_rect maps r ∷ []) e
from_more maps a (suc k) =
    let e : a + 1 + k ≡ a + suc k = omega arith in
    ap (λ (rs : List Rect). plain_rect maps a ∷ rs) (from_more maps (a + 1) k ∙ ap (λ (r : ℕ). map (plain_rect maps) (range_with_len (a + 1) k) ++ plain_rect maps r ∷ []) e)

pub one_more : (maps r : ℕ) (old new : List Rect) → old ≡ plain_rects maps r → new ≡ old ++ plain_rect maps r ∷ [] → new ≡ plain_rects maps (r + 1)
one_more maps r old new h e =
    let next : r + 1 ≡ suc r = omega arith in
    let here : r ≡ 0 + r = omega arith in
    e ∙ (ap (λ (rs : List Rect). rs ++ plain_rect maps r ∷ []) h ∙ (ap (λ (k : ℕ). plain_rects maps r ++ plain_rect maps k ∷ []) here ∙
    (sym (from_more maps 0 r) ∙ ap (λ (n : ℕ). map (plain_rect maps) (range_with_len 0 n)) (sym next))))
