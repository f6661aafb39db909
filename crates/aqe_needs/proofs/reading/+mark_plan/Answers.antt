use Rattle.aqe_needs.proofs.Marked.{set-filter, set-project, set-exchange, set-partial, set-last, set-sort, set-local, set-global, set-join, set-union}
use Rattle.aqe_needs.proofs.reading.+mark_plan.Goals as goal

pub returns-in-Filter : goal.returns-in-Filter
returns-in-Filter t c =
    set-filter c.args.plan.now c.in-Filter.cond c.in-Filter.child c.get.result.now c.args.flags.now c.mark_plan.new.flags c.in-Filter.is c.get.ensures c.mark_plan.ensures

pub returns-in-Project : goal.returns-in-Project
returns-in-Project t c =
    set-project c.args.plan.now c.in-Project.items c.in-Project.child c.get-in-Project.result.now c.args.flags.now c.mark_plan-in-Project.new.flags c.in-Project.is c.get-in-Project.ensures c.mark_plan-in-Project.ensures

pub returns-in-PartialAgg : goal.returns-in-PartialAgg
returns-in-PartialAgg t c =
    set-partial c.args.plan.now c.in-PartialAgg.keys c.in-PartialAgg.calls c.in-PartialAgg.child c.get-in-PartialAgg.result.now c.args.flags.now c.mark_plan-in-PartialAgg.new.flags c.in-PartialAgg.is c.get-in-PartialAgg.ensures c.mark_plan-in-PartialAgg.ensures

pub returns-in-FinalAgg : goal.returns-in-FinalAgg
returns-in-FinalAgg t c =
    set-last c.args.plan.now c.in-FinalAgg.keys c.in-FinalAgg.calls c.in-FinalAgg.child c.get-in-FinalAgg.result.now c.args.flags.now c.mark_plan-in-FinalAgg.new.flags c.in-FinalAgg.is c.get-in-FinalAgg.ensures c.mark_plan-in-FinalAgg.ensures

pub returns-in-Sort : goal.returns-in-Sort
returns-in-Sort t c =
    set-sort c.args.plan.now c.in-Sort.keys c.in-Sort.child c.get-in-Sort.result.now c.args.flags.now c.mark_plan-in-Sort.new.flags c.in-Sort.is c.get-in-Sort.ensures c.mark_plan-in-Sort.ensures

pub returns-in-LocalLimit : goal.returns-in-LocalLimit
returns-in-LocalLimit t c =
    set-local c.args.plan.now c.in-LocalLimit.count c.in-LocalLimit.child c.get-in-LocalLimit.result.now c.args.flags.now c.mark_plan-in-LocalLimit.new.flags c.in-LocalLimit.is c.get-in-LocalLimit.ensures c.mark_plan-in-LocalLimit.ensures

pub returns-in-GlobalLimit : goal.returns-in-GlobalLimit
returns-in-GlobalLimit t c =
    set-global c.args.plan.now c.in-GlobalLimit.count c.in-GlobalLimit.skip c.in-GlobalLimit.child c.get-in-GlobalLimit.result.now c.args.flags.now c.mark_plan-in-GlobalLimit.new.flags c.in-GlobalLimit.is c.get-in-GlobalLimit.ensures c.mark_plan-in-GlobalLimit.ensures

pub returns-in-Exchange : goal.returns-in-Exchange
returns-in-Exchange t c =
    set-exchange c.args.plan.now c.in-Exchange.to c.in-Exchange.child c.get-in-Exchange.result.now c.sample_of.result c.args.flags.now c.set_named.new.self c.mark_plan-in-Exchange.new.flags
    c.in-Exchange.is c.get-in-Exchange.ensures c.sample_of.ensures c.set_named.ensures c.mark_plan-in-Exchange.ensures

pub returns-in-Join : goal.returns-in-Join
returns-in-Join t c =
    set-join c.args.plan.now c.in-Join.way c.in-Join.kind _ c.in-Join.left_width c.in-Join.right_width c.in-Join.left c.in-Join.right c.get-in-Join.result.now c.get-in-Join-2.result.now
    c.args.flags.now c.mark_plan-in-Join.new.flags c.mark_plan-in-Join-2.new.flags c.in-Join.is c.get-in-Join.ensures c.get-in-Join-2.ensures c.mark_plan-in-Join.ensures c.mark_plan-in-Join-2.ensures

pub returns-in-Union : goal.returns-in-Union
returns-in-Union t c =
    set-union c.args.plan.now c.in-Union.left c.in-Union.right c.get-in-Union.result.now c.get-in-Union-2.result.now
    c.args.flags.now c.mark_plan-in-Union.new.flags c.mark_plan-in-Union-2.new.flags c.in-Union.is c.get-in-Union.ensures c.get-in-Union-2.ensures c.mark_plan-in-Union.ensures c.mark_plan-in-Union-2.ensures
