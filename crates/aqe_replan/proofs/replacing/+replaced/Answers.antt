use Rattle.std.proofs.Common.{ap, sym, ◌∙◌}
use Rattle.aqe_physical.specs.declared.plan.Plan.TheVariants.{Filter, Project, Exchange, Join, PartialAgg, FinalAgg, Sort, LocalLimit, GlobalLimit, Union}
use Rattle.aqe_replan.proofs.Steps.{left-filter, left-project, left-exchange, left-partial, left-last, left-sort, left-local, left-global, left-join, left-union, right-join, right-union}
use Rattle.aqe_replan.proofs.replacing.+replaced.Goals as goal

pub on_left-returns-in-Filter : goal.on_left-returns-in-Filter
on_left-returns-in-Filter t c =
    left-filter c.args.newest.stage c.args.newest.maps c.args.place.now c.replaced.result c.filter.result c.args.plan.now c.in-Filter.cond c.get.result.now
    (c.in-Filter.is ∙ ap (Filter c.in-Filter.cond) (sym c.get.ensures)) c.filter.ensures c.replaced.ensures

pub on_left-returns-in-Project : goal.on_left-returns-in-Project
on_left-returns-in-Project t c =
    left-project c.args.newest.stage c.args.newest.maps c.args.place.now c.replaced-in-Project.result c.project.result c.args.plan.now c.in-Project.items c.get-in-Project.result.now
    (c.in-Project.is ∙ ap (Project c.in-Project.items) (sym c.get-in-Project.ensures)) c.project.ensures c.replaced-in-Project.ensures

pub on_left-returns-in-Exchange : goal.on_left-returns-in-Exchange
on_left-returns-in-Exchange t c =
    left-exchange c.args.newest.stage c.args.newest.maps c.args.place.now c.replaced-in-Exchange.result c.exchange.result c.args.plan.now c.in-Exchange.to c.get-in-Exchange.result.now
    (c.in-Exchange.is ∙ ap (Exchange c.in-Exchange.to) (sym c.get-in-Exchange.ensures)) c.exchange.ensures c.replaced-in-Exchange.ensures

pub on_left-returns-in-PartialAgg : goal.on_left-returns-in-PartialAgg
on_left-returns-in-PartialAgg t c =
    left-partial c.args.newest.stage c.args.newest.maps c.args.place.now c.replaced-in-PartialAgg.result c.partial.result c.args.plan.now c.in-PartialAgg.keys c.in-PartialAgg.calls c.get-in-PartialAgg.result.now
    (c.in-PartialAgg.is ∙ ap (PartialAgg c.in-PartialAgg.keys c.in-PartialAgg.calls) (sym c.get-in-PartialAgg.ensures)) c.partial.ensures c.replaced-in-PartialAgg.ensures

pub on_left-returns-in-FinalAgg : goal.on_left-returns-in-FinalAgg
on_left-returns-in-FinalAgg t c =
    left-last c.args.newest.stage c.args.newest.maps c.args.place.now c.replaced-in-FinalAgg.result c.last.result c.args.plan.now c.in-FinalAgg.keys c.in-FinalAgg.calls c.get-in-FinalAgg.result.now
    (c.in-FinalAgg.is ∙ ap (FinalAgg c.in-FinalAgg.keys c.in-FinalAgg.calls) (sym c.get-in-FinalAgg.ensures)) c.last.ensures c.replaced-in-FinalAgg.ensures

pub on_left-returns-in-Sort : goal.on_left-returns-in-Sort
on_left-returns-in-Sort t c =
    left-sort c.args.newest.stage c.args.newest.maps c.args.place.now c.replaced-in-Sort.result c.sort.result c.args.plan.now c.in-Sort.keys c.get-in-Sort.result.now
    (c.in-Sort.is ∙ ap (Sort c.in-Sort.keys) (sym c.get-in-Sort.ensures)) c.sort.ensures c.replaced-in-Sort.ensures

pub on_left-returns-in-LocalLimit : goal.on_left-returns-in-LocalLimit
on_left-returns-in-LocalLimit t c =
    left-local c.args.newest.stage c.args.newest.maps c.args.place.now c.replaced-in-LocalLimit.result c.local_limit.result c.args.plan.now c.in-LocalLimit.count c.get-in-LocalLimit.result.now
    (c.in-LocalLimit.is ∙ ap (LocalLimit c.in-LocalLimit.count) (sym c.get-in-LocalLimit.ensures)) c.local_limit.ensures c.replaced-in-LocalLimit.ensures

pub on_left-returns-in-GlobalLimit : goal.on_left-returns-in-GlobalLimit
on_left-returns-in-GlobalLimit t c =
    left-global c.args.newest.stage c.args.newest.maps c.args.place.now c.replaced-in-GlobalLimit.result c.global_limit.result c.args.plan.now c.in-GlobalLimit.count c.in-GlobalLimit.skip c.get-in-GlobalLimit.result.now
    (c.in-GlobalLimit.is ∙ ap (GlobalLimit c.in-GlobalLimit.count c.in-GlobalLimit.skip) (sym c.get-in-GlobalLimit.ensures)) c.global_limit.ensures c.replaced-in-GlobalLimit.ensures

pub on_left-returns-in-Join : goal.on_left-returns-in-Join
on_left-returns-in-Join t c =
    left-join c.args.newest.stage c.args.newest.maps c.args.place.now c.joining-shape.result c.replaced-left.result c.copy.result c.join.result c.args.plan.now c.in-Join.way c.in-Join.kind c.in-Join.keys c.in-Join.left_width c.in-Join.right_width c.get-in-Join.result.now c.get-in-Join-2.result.now
    (c.in-Join.is ∙ (λ i. Join c.in-Join.way c.in-Join.kind c.in-Join.keys c.in-Join.left_width c.in-Join.right_width (sym c.get-in-Join.ensures i) (sym c.get-in-Join-2.ensures i))) c.join.ensures c.joining-shape.ensures c.replaced-left.ensures c.copy.ensures

pub on_left-returns-in-Union : goal.on_left-returns-in-Union
on_left-returns-in-Union t c =
    left-union c.args.newest.stage c.args.newest.maps c.args.place.now c.replaced-left-in-Union.result c.copy-in-Union.result c.union.result c.args.plan.now c.get-in-Union.result.now c.get-in-Union-2.result.now
    (c.in-Union.is ∙ (λ i. Union (sym c.get-in-Union.ensures i) (sym c.get-in-Union-2.ensures i))) c.union.ensures c.replaced-left-in-Union.ensures c.copy-in-Union.ensures

pub on_right-returns-in-Join : goal.on_right-returns-in-Join
on_right-returns-in-Join t c =
    right-join c.args.newest.stage c.args.newest.maps c.args.place.now c.joining-shape.result c.copy.result c.replaced-right.result c.join.result c.args.plan.now c.in-Join.way c.in-Join.kind c.in-Join.keys c.in-Join.left_width c.in-Join.right_width c.get-in-Join.result.now c.get.result.now
    (c.in-Join.is ∙ (λ i. Join c.in-Join.way c.in-Join.kind c.in-Join.keys c.in-Join.left_width c.in-Join.right_width (sym c.get-in-Join.ensures i) (sym c.get.ensures i))) c.join.ensures c.joining-shape.ensures c.copy.ensures c.replaced-right.ensures

pub on_right-returns-in-Union : goal.on_right-returns-in-Union
on_right-returns-in-Union t c =
    right-union c.args.newest.stage c.args.newest.maps c.args.place.now c.copy-in-Union.result c.replaced-right-in-Union.result c.union.result c.args.plan.now c.get-in-Union-2.result.now c.get-in-Union.result.now
    (c.in-Union.is ∙ (λ i. Union (sym c.get-in-Union-2.ensures i) (sym c.get-in-Union.ensures i))) c.union.ensures c.copy-in-Union.ensures c.replaced-right-in-Union.ensures
