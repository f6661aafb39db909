use Rattle.std.proofs.Common.{rules}
use Rattle.aqe_logical.specs.Columns.{width}
use Rattle.aqe_rules.specs.Limits.{most_columns}
use Rattle.aqe_sources.proofs.ColumnSteps.{within-project, within-aggregate, within-union, within-sort, within-join}
use Rattle.aqe_sources.proofs.limits.+width_within.Goals as goal

pub returns-in-Project : goal.returns-in-Project
returns-in-Project t c =
    let q = c.in-Project.child in
    within-project c.args.plan.now c.in-Project.items c.in-Project.schema q c.over.result c.in-Project.is
    (rw (← c.len.ensures, ← c.len-in-Project.ensures) (c.over.ensures (most_columns q) (width q) (search rules)))

pub returns-in-Join : goal.returns-in-Join
returns-in-Join t c =
    let l = c.in-Join.left in
    let r = c.in-Join.right in
    within-join c.args.plan.now c.in-Join.kind c.in-Join.cond l r c.join.result c.in-Join.is
    (c.join.ensures (most_columns l) (width l) (most_columns r) (width r) (search rules) (search rules))

pub returns-in-Aggregate : goal.returns-in-Aggregate
returns-in-Aggregate t c =
    let q = c.in-Aggregate.child in
    within-aggregate c.args.plan.now c.in-Aggregate.keys c.in-Aggregate.calls c.in-Aggregate.schema q c.over_two.result c.in-Aggregate.is
    (rw (← c.len-in-Aggregate.ensures, ← c.len-in-Aggregate-2.ensures, ← c.len-in-Aggregate-3.ensures) (c.over_two.ensures (most_columns q) (width q) (search rules)))

pub returns-in-Union : goal.returns-in-Union
returns-in-Union t c =
    let l = c.in-Union.left in
    let r = c.in-Union.right in
    within-union c.args.plan.now l r c.union.result c.in-Union.is
    (c.union.ensures (most_columns l) (width l) (most_columns r) (width r) (search rules) (search rules))

pub returns-in-Sort : goal.returns-in-Sort
returns-in-Sort t c =
    let q = c.in-Sort.child in
    within-sort c.args.plan.now c.in-Sort.keys q c.keeping.result c.in-Sort.is
    (rw (← c.len-in-Sort.ensures) (c.keeping.ensures (most_columns q) (width q) (search rules)))
