-- What is required of a plan is so of the plans below it.
use Rattle.std.proofs.Common.{◌≡◌, refl, sym, subst, ap, ◌∙◌, ℕ, ◌<◌, Bool, true, false, ◌&&◌, List, [], ◌∷◌, ◌++◌, Option}
use Rattle.std.specs.Prelude.{All}
use Rattle.std.proofs.lemmas.List.Elements.{All-head, All-tail}
use Rattle.aqe_base.specs.declared.join_kind.JoinKind.{JoinKind}
use Rattle.aqe_base.specs.declared.stage_id.StageId.{StageId}
use Rattle.aqe_values.specs.declared.schema.Field.{Field}
use Rattle.aqe_expr.specs.declared.expr.Expr.{Expr}
use Rattle.aqe_logical.specs.declared.plan.AggCall.{AggCall}
use Rattle.aqe_logical.specs.declared.plan.SortKey.{SortKey}
use Rattle.aqe_logical.specs.declared.plan.Logical as logical
use Rattle.aqe_logical.specs.declared.plan.Logical.{Logical}
use Rattle.aqe_logical.specs.Shapes.{filtered, projected, joined, aggregated, united, sorted, limited}
use Rattle.aqe_logical.specs.Nodes.{nodes}
use Rattle.aqe_logical.specs.WellFormed.{IsLimitCount, IsLimitNumber}
use Rattle.aqe_logical.proofs.Shapes as shapes
use Rattle.aqe_physical.proofs.Walk.{all_left, all_right}
use Rattle.aqe_planner.specs.Built.{is_built, IsBuilt, IsReached, Reaches, HasLimitNumbers, LimitsFit}

-- both sides are built where a node with two sides is
pub left_built : (a b : Bool) → (a && b) ≡ true → a ≡ true
left_built true b h = refl
left_built false b h = h

pub right_built : (a b : Bool) → (a && b) ≡ true → b ≡ true
right_built true b h = h
right_built false b h = cc (h)

abbrev pub Required : ℕ → Logical → Type 0
Required n x = IsBuilt x × (Reaches n x × LimitsFit x)

below : (n : ℕ) (x node y z : Logical) → x ≡ node → is_built node ≡ is_built y → nodes node ≡ node ∷ nodes y → z ≡ y → Required n x → Required n z
below n x node y z e built parts f h =
    let of_node : Required n node = subst (Required n) e h in
    subst (Required n) (sym f)
    (sym built ∙ of_node.0, (All-tail (IsReached n) node (nodes y) (subst (All (IsReached n)) parts of_node.1.0), All-tail HasLimitNumbers node (nodes y) (subst (All HasLimitNumbers) parts of_node.1.1)))

sides : (n : ℕ) (x node y z : Logical) → x ≡ node → is_built node ≡ (is_built y && is_built z) → nodes node ≡ node ∷ (nodes y ++ nodes z) → Required n x → Required n y × Required n z
sides n x node y z e built parts h =
    let of_node : Required n node = subst (Required n) e h in
    let both = sym built ∙ of_node.0 in
    let reached = All-tail (IsReached n) node (nodes y ++ nodes z) (subst (All (IsReached n)) parts of_node.1.0) in
    let fit = All-tail HasLimitNumbers node (nodes y ++ nodes z) (subst (All HasLimitNumbers) parts of_node.1.1) in (
      (left_built (is_built y) (is_built z) both, (all_left (IsReached n) (nodes y) (nodes z) reached, all_left HasLimitNumbers (nodes y) (nodes z) fit)),
      (right_built (is_built y) (is_built z) both, (all_right (IsReached n) (nodes y) (nodes z) reached, all_right HasLimitNumbers (nodes y) (nodes z) fit)),
    )

pub below-filter : (n : ℕ) (x : Logical) (c : Expr) (y z : Logical) → x ≡ logical.Filter c y → z ≡ y → Required n x → Required n z
below-filter n x c y z e f = below n x (filtered c y) y z (e ∙ shapes.is_filtered c y) refl refl f

pub below-project : (n : ℕ) (x : Logical) (items : List Expr) (schema : List Field) (y z : Logical) → x ≡ logical.Project items schema y → z ≡ y → Required n x → Required n z
below-project n x items schema y z e f = below n x (projected items schema y) y z (e ∙ shapes.is_projected items schema y) refl refl f

pub below-groups : (n : ℕ) (x : Logical) (keys : List Expr) (calls : List AggCall) (schema : List Field) (y z : Logical) → x ≡ logical.Aggregate keys calls schema y → z ≡ y →
    Required n x → Required n z
below-groups n x keys calls schema y z e f = below n x (aggregated keys calls schema y) y z (e ∙ shapes.is_aggregated keys calls schema y) refl refl f

pub below-sort : (n : ℕ) (x : Logical) (keys : List SortKey) (y z : Logical) → x ≡ logical.Sort keys y → z ≡ y → Required n x → Required n z
below-sort n x keys y z e f = below n x (sorted keys y) y z (e ∙ shapes.is_sorted keys y) refl refl f

pub below-limit : (n : ℕ) (x : Logical) (count : Option ℕ) (skip : ℕ) (y z : Logical) → x ≡ logical.Limit count skip y → z ≡ y → Required n x → Required n z
below-limit n x count skip y z e f = below n x (limited count skip y) y z (e ∙ shapes.is_limited count skip y) refl refl f

pub below-join : (n : ℕ) (x : Logical) (kind : JoinKind) (c : Expr) (y z : Logical) → x ≡ logical.Join kind c y z → Required n x → Required n y × Required n z
below-join n x kind c y z e = sides n x (joined kind c y z) y z (e ∙ shapes.is_joined kind c y z) refl refl

pub below-union : (n : ℕ) (x y z : Logical) → x ≡ logical.Union y z → Required n x → Required n y × Required n z
below-union n x y z e = sides n x (united y z) y z (e ∙ shapes.is_united y z) refl refl

-- a table that is scanned has an estimate, and a limit has numbers that fit
pub reach-scan : (n : ℕ) (x : Logical) (t : ℕ) (schema : List Field) → x ≡ logical.Scan t schema → Reaches n x → t < n
reach-scan n x t schema e h = All-head (IsReached n) (logical.Scan t schema) [] (subst (Reaches n) e h)

pub limit-numbers : (x : Logical) (count : Option ℕ) (skip : ℕ) (y : Logical) → x ≡ logical.Limit count skip y → LimitsFit x → IsLimitCount count × IsLimitNumber skip
limit-numbers x count skip y e h = All-head HasLimitNumbers (limited count skip y) (nodes y) (subst LimitsFit (e ∙ shapes.is_limited count skip y) h)

-- the form that is not planned yet
pub built-sampled : (x : Logical) (s : StageId) (y : Logical) → x ≡ logical.Sampled s y → is_built x ≡ false
built-sampled x s y e = ap is_built (e ∙ shapes.is_sampled s y)

pub ruleset not_built = (built-sampled)
