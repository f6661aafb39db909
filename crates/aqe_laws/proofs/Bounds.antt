-- A plan that is laid out right and keeps the limits is well formed.
use Rattle.std.proofs.Common.{◌≡◌, ◌+◌, ◌≤◌, Bool, true, false, length, Ok, arith, refl, le_trans, leb-true}
use Rattle.std.specs.Prelude.{nat_le}
use Rattle.aqe_expr.specs.Below.{ColumnsBelow}
use Rattle.aqe_logical.specs.declared.plan.Logical.{Logical, OneRow, Scan, Empty, Held, HeldPartial}
use Rattle.aqe_logical.specs.Shapes.{filtered, projected, joined, aggregated, united, sorted, limited, sampled}
use Rattle.aqe_logical.specs.Columns.{width}
use Rattle.aqe_logical.specs.Nodes.{leaf_count, is_leaf}
use Rattle.aqe_logical.specs.WellFormed.{WellFormed, Sound, IsSound, Closed, IsOfAQuery, IsLimitCount, IsLimitNumber, ItemsBelow, CallsBelow, KeysBelow, column_limit}
use Rattle.aqe_logical.proofs.Nodes.{Each, all_nodes, count_two}
use Rattle.aqe_rules.specs.Outcomes.{Check, Outcome, provided, too_many_operators, too_many_columns}
use Rattle.aqe_rules.specs.Limits.{operator_limit, operator_count, most_columns, within_limits}
use Rattle.aqe_rules.proofs.Gives.{Gives}

-- closed, and sound but for the limits
abbrev pub Laid : Logical → Type 0
Laid OneRow = Unit {0}
Laid (Scan table schema) = Unit {0}
Laid (filtered condition child) = Laid child × ColumnsBelow (width child) condition
Laid (projected items schema child) = Laid child × (length schema ≡ length items) × ItemsBelow (width child) items
Laid (joined kind condition left right) = Laid left × Laid right × ColumnsBelow (width left + width right) condition
Laid (aggregated keys calls schema child) =
    Laid child × (length schema ≡ length keys + length calls) × ItemsBelow (width child) keys × CallsBelow (width child) calls
Laid (united left right) = Laid left × Laid right × (width left ≡ width right)
Laid (sorted keys child) = Laid child × KeysBelow (width child) keys
Laid (limited count skip child) = Laid child × IsLimitCount count × IsLimitNumber skip
Laid (Empty schema) = ⊥
Laid (Held stage place schema) = ⊥
Laid (HeldPartial stage calls schema) = ⊥
Laid (sampled stage child) = ⊥

laid-each : (p : Logical) → Laid p → Each IsOfAQuery p
laid-each OneRow h = tt
laid-each (Scan table schema) h = tt
laid-each (filtered condition child) (h, k) = (tt, laid-each child h)
laid-each (projected items schema child) (h, k, l) = (tt, laid-each child h)
laid-each (joined kind condition left right) (h, k, l) = (tt, laid-each left h, laid-each right k)
laid-each (aggregated keys calls schema child) (h, k, l, m) = (tt, laid-each child h)
laid-each (united left right) (h, k, l) = (tt, laid-each left h, laid-each right k)
laid-each (sorted keys child) (h, k) = (tt, laid-each child h)
laid-each (limited count skip child) (h, k, l) = (tt, laid-each child h)
laid-each (Empty schema) h = absurd h
laid-each (Held stage place schema) h = absurd h
laid-each (HeldPartial stage calls schema) h = absurd h
laid-each (sampled stage child) h = absurd h

pub laid-closed : (p : Logical) → Laid p → Closed p
laid-closed p h = all_nodes IsOfAQuery p (laid-each p h)

sound-each : (p : Logical) → Laid p → most_columns p ≤ 256 → Each IsSound p
sound-each OneRow h le = tt
sound-each (Scan table schema) h le = le
sound-each (filtered condition child) (h, k) le = (k, sound-each child h le)
sound-each (projected items schema child) (h, k, l) le = ((k, omega (arith, le, k), l), sound-each child h (omega (arith, le)))
sound-each (joined kind condition left right) (h, k, l) le =
    ((omega (arith, le), l), sound-each left h (omega (arith, le)), sound-each right k (omega (arith, le)))
sound-each (aggregated keys calls schema child) (h, k, l, m) le = ((k, omega (arith, le, k), l, m), sound-each child h (omega (arith, le)))
sound-each (united left right) (h, k, l) le = (l, sound-each left h (omega (arith, le)), sound-each right k (omega (arith, le)))
sound-each (sorted keys child) (h, k) le = ((omega (arith, le), k), sound-each child h (omega (arith, le)))
sound-each (limited count skip child) (h, k, l) le = ((k, l), sound-each child h le)
sound-each (Empty schema) h le = absurd h
sound-each (Held stage place schema) h le = absurd h
sound-each (HeldPartial stage calls schema) h le = absurd h
sound-each (sampled stage child) h le = absurd h

laid-sound : (p : Logical) → Laid p → most_columns p ≤ 256 → Sound p
laid-sound p h le = all_nodes IsSound p (sound-each p h le)

-- each leaf is an operator
leaves-few : (p : Logical) → leaf_count p ≤ operator_count p
leaves-few OneRow = omega arith
leaves-few (Scan table schema) = omega arith
leaves-few (filtered condition child) = omega (arith, leaves-few child)
leaves-few (projected items schema child) = omega (arith, leaves-few child)
leaves-few (joined kind condition left right) = omega (arith, count_two is_leaf left right, leaves-few left, leaves-few right)
leaves-few (aggregated keys calls schema child) = omega (arith, leaves-few child)
leaves-few (united left right) = omega (arith, count_two is_leaf left right, leaves-few left, leaves-few right)
leaves-few (sorted keys child) = omega (arith, leaves-few child)
leaves-few (limited count skip child) = omega (arith, leaves-few child)
leaves-few (Empty schema) = omega arith
leaves-few (Held stage place schema) = omega arith
leaves-few (HeldPartial stage calls schema) = omega arith
leaves-few (sampled stage child) = omega (arith, leaves-few child)

-- what keeps both limits
abbrev pub Bounded : Logical → Type 0
Bounded p = (operator_count p ≤ operator_limit) × (most_columns p ≤ column_limit)

pub laid-well_formed : (p : Logical) → Laid p → Bounded p → WellFormed p
laid-well_formed p h (few, narrow) = (laid-sound p h narrow, le_trans (leaves-few p) few)

-- the checks let pass what keeps the limits
pub passed : {T : Type 0} (P : T → Type 0) (b : Bool) (check : Check) (next : Outcome T) → ((b ≡ true) → Gives P next) → Gives P (provided b check next)
passed P true check next h = h refl
passed P false check next h = tt

pub within-bounded : (P : Logical → Type 0) (p : Logical) → P p → Gives (λ q. P q × Bounded q) (within_limits p)
within-bounded P p h =
    passed (λ q. P q × Bounded q) (nat_le (operator_count p) operator_limit) too_many_operators
    (provided (nat_le (most_columns p) column_limit) too_many_columns (Ok p)) (λ few.
    passed (λ q. P q × Bounded q) (nat_le (most_columns p) column_limit) too_many_columns (Ok p) (λ narrow.
    (h, (leb-true (operator_count p) operator_limit few, leb-true (most_columns p) column_limit narrow))))
