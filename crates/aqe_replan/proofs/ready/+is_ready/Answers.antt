use Rattle.std.proofs.Common.{ap, sym, ◌∙◌, ◌&&◌}
use Rattle.aqe_making.specs.Ready.{is_ready}
use Rattle.aqe_replan.specs.Seen.{listed}
use Rattle.aqe_replan.proofs.Steps.{ready-filter, ready-project, ready-exchange, ready-partial, ready-last, ready-sort, ready-local, ready-global, ready-join, ready-union}
use Rattle.aqe_replan.proofs.ready.+is_ready.Goals as goal

pub returns-in-Exchange : goal.returns-in-Exchange
returns-in-Exchange t c = sym (ready-exchange (listed c.args.whole.now) c.args.plan.now c.in-Exchange.to c.in-Exchange.child c.in-Exchange.is)

pub returns-in-Filter : goal.returns-in-Filter
returns-in-Filter t c =
    c.is_ready.ensures ∙ (ap (is_ready (listed c.args.whole.now)) c.get.ensures ∙
    sym (ready-filter (listed c.args.whole.now) c.args.plan.now c.in-Filter.cond c.in-Filter.child c.in-Filter.is))

pub returns-in-Project : goal.returns-in-Project
returns-in-Project t c =
    c.is_ready-in-Project.ensures ∙ (ap (is_ready (listed c.args.whole.now)) c.get-in-Project.ensures ∙
    sym (ready-project (listed c.args.whole.now) c.args.plan.now c.in-Project.items c.in-Project.child c.in-Project.is))

pub returns-in-PartialAgg : goal.returns-in-PartialAgg
returns-in-PartialAgg t c =
    c.is_ready-in-PartialAgg.ensures ∙ (ap (is_ready (listed c.args.whole.now)) c.get-in-PartialAgg.ensures ∙
    sym (ready-partial (listed c.args.whole.now) c.args.plan.now c.in-PartialAgg.keys c.in-PartialAgg.calls c.in-PartialAgg.child c.in-PartialAgg.is))

pub returns-in-FinalAgg : goal.returns-in-FinalAgg
returns-in-FinalAgg t c =
    c.is_ready-in-FinalAgg.ensures ∙ (ap (is_ready (listed c.args.whole.now)) c.get-in-FinalAgg.ensures ∙
    sym (ready-last (listed c.args.whole.now) c.args.plan.now c.in-FinalAgg.keys c.in-FinalAgg.calls c.in-FinalAgg.child c.in-FinalAgg.is))

pub returns-in-Sort : goal.returns-in-Sort
returns-in-Sort t c =
    c.is_ready-in-Sort.ensures ∙ (ap (is_ready (listed c.args.whole.now)) c.get-in-Sort.ensures ∙
    sym (ready-sort (listed c.args.whole.now) c.args.plan.now c.in-Sort.keys c.in-Sort.child c.in-Sort.is))

pub returns-in-LocalLimit : goal.returns-in-LocalLimit
returns-in-LocalLimit t c =
    c.is_ready-in-LocalLimit.ensures ∙ (ap (is_ready (listed c.args.whole.now)) c.get-in-LocalLimit.ensures ∙
    sym (ready-local (listed c.args.whole.now) c.args.plan.now c.in-LocalLimit.count c.in-LocalLimit.child c.in-LocalLimit.is))

pub returns-in-GlobalLimit : goal.returns-in-GlobalLimit
returns-in-GlobalLimit t c =
    c.is_ready-in-GlobalLimit.ensures ∙ (ap (is_ready (listed c.args.whole.now)) c.get-in-GlobalLimit.ensures ∙
    sym (ready-global (listed c.args.whole.now) c.args.plan.now c.in-GlobalLimit.count c.in-GlobalLimit.skip c.in-GlobalLimit.child c.in-GlobalLimit.is))

pub returns-in-Join : goal.returns-in-Join
returns-in-Join t c =
    c.are_both.ensures ∙ ((λ i. (c.is_ready-left.ensures ∙ ap (is_ready (listed c.args.whole.now)) c.get-in-Join.ensures) i && (c.is_ready-in-Join.ensures ∙ ap (is_ready (listed c.args.whole.now)) c.get-in-Join-2.ensures) i) ∙
    sym (ready-join (listed c.args.whole.now) c.args.plan.now c.in-Join.way c.in-Join.kind _ c.in-Join.left_width c.in-Join.right_width c.in-Join.left c.in-Join.right c.in-Join.is))

pub returns-in-Union : goal.returns-in-Union
returns-in-Union t c =
    c.are_both-in-Union.ensures ∙ ((λ i. (c.is_ready-left-in-Union.ensures ∙ ap (is_ready (listed c.args.whole.now)) c.get-in-Union.ensures) i && (c.is_ready-in-Union.ensures ∙ ap (is_ready (listed c.args.whole.now)) c.get-in-Union-2.ensures) i) ∙
    sym (ready-union (listed c.args.whole.now) c.args.plan.now c.in-Union.left c.in-Union.right c.in-Union.is))
