use Rattle.std.proofs.Common.{ap, sym, ◌∙◌, ◌≡◌, subst, [], ◌∷◌, ◌++◌}
use Rattle.std.specs.Prelude.{OnOk}
use Rattle.aqe_base.specs.declared.join_kind.Side.TheVariants.{Left}
use Rattle.aqe_physical.specs.declared.plan.Plan.{Plan}
use Rattle.aqe_physical.specs.declared.plan.Plan.TheVariants.{Filter, Project, Join, PartialAgg, FinalAgg, Sort, LocalLimit, GlobalLimit, Union}
use Rattle.aqe_making.specs.Makings.{makings, made_here}
use Rattle.aqe_replan.specs.Seen.{listed, all_standing}
use Rattle.aqe_replan.proofs.Steps.{makings-filter, makings-project, makings-exchange, makings-partial, makings-last, makings-sort, makings-local, makings-global, makings-join, makings-union, both_pushed}
use Rattle.aqe_replan.proofs.ready.+push_makings.Goals as goal

pub push_makings-returns-in-Filter : goal.push_makings-returns-in-Filter
push_makings-returns-in-Filter t c =
    makings-filter c.push_below.result (listed c.args.whole.now) c.args.place.now c.args.plan.now c.in-Filter.cond c.get.result.now c.args.found.now c.push_below.new.found
    (c.in-Filter.is ∙ ap (Filter c.in-Filter.cond) (sym c.get.ensures)) c.push_below.ensures

pub push_makings-returns-in-Project : goal.push_makings-returns-in-Project
push_makings-returns-in-Project t c =
    makings-project c.push_below-in-Project.result (listed c.args.whole.now) c.args.place.now c.args.plan.now c.in-Project.items c.get-in-Project.result.now c.args.found.now c.push_below-in-Project.new.found
    (c.in-Project.is ∙ ap (Project c.in-Project.items) (sym c.get-in-Project.ensures)) c.push_below-in-Project.ensures

pub push_makings-returns-in-PartialAgg : goal.push_makings-returns-in-PartialAgg
push_makings-returns-in-PartialAgg t c =
    makings-partial c.push_below-in-PartialAgg.result (listed c.args.whole.now) c.args.place.now c.args.plan.now c.in-PartialAgg.keys c.in-PartialAgg.calls c.get-in-PartialAgg.result.now c.args.found.now c.push_below-in-PartialAgg.new.found
    (c.in-PartialAgg.is ∙ ap (PartialAgg c.in-PartialAgg.keys c.in-PartialAgg.calls) (sym c.get-in-PartialAgg.ensures)) c.push_below-in-PartialAgg.ensures

pub push_makings-returns-in-FinalAgg : goal.push_makings-returns-in-FinalAgg
push_makings-returns-in-FinalAgg t c =
    makings-last c.push_below-in-FinalAgg.result (listed c.args.whole.now) c.args.place.now c.args.plan.now c.in-FinalAgg.keys c.in-FinalAgg.calls c.get-in-FinalAgg.result.now c.args.found.now c.push_below-in-FinalAgg.new.found
    (c.in-FinalAgg.is ∙ ap (FinalAgg c.in-FinalAgg.keys c.in-FinalAgg.calls) (sym c.get-in-FinalAgg.ensures)) c.push_below-in-FinalAgg.ensures

pub push_makings-returns-in-Sort : goal.push_makings-returns-in-Sort
push_makings-returns-in-Sort t c =
    makings-sort c.push_below-in-Sort.result (listed c.args.whole.now) c.args.place.now c.args.plan.now c.in-Sort.keys c.get-in-Sort.result.now c.args.found.now c.push_below-in-Sort.new.found
    (c.in-Sort.is ∙ ap (Sort c.in-Sort.keys) (sym c.get-in-Sort.ensures)) c.push_below-in-Sort.ensures

pub push_makings-returns-in-LocalLimit : goal.push_makings-returns-in-LocalLimit
push_makings-returns-in-LocalLimit t c =
    makings-local c.push_below-in-LocalLimit.result (listed c.args.whole.now) c.args.place.now c.args.plan.now c.in-LocalLimit.count c.get-in-LocalLimit.result.now c.args.found.now c.push_below-in-LocalLimit.new.found
    (c.in-LocalLimit.is ∙ ap (LocalLimit c.in-LocalLimit.count) (sym c.get-in-LocalLimit.ensures)) c.push_below-in-LocalLimit.ensures

pub push_makings-returns-in-GlobalLimit : goal.push_makings-returns-in-GlobalLimit
push_makings-returns-in-GlobalLimit t c =
    makings-global c.push_below-in-GlobalLimit.result (listed c.args.whole.now) c.args.place.now c.args.plan.now c.in-GlobalLimit.count c.in-GlobalLimit.skip c.get-in-GlobalLimit.result.now c.args.found.now c.push_below-in-GlobalLimit.new.found
    (c.in-GlobalLimit.is ∙ ap (GlobalLimit c.in-GlobalLimit.count c.in-GlobalLimit.skip) (sym c.get-in-GlobalLimit.ensures)) c.push_below-in-GlobalLimit.ensures

pub push_makings-returns-in_ok-push_below-in-Exchange : goal.push_makings-returns-in_ok-push_below-in-Exchange
push_makings-returns-in_ok-push_below-in-Exchange t c =
    makings-exchange c.push_here.result (listed c.args.whole.now) c.args.place.now c.args.plan.now c.in-Exchange.to c.in-Exchange.child c.args.found.now c.push_below-in-Exchange.new.found c.push_here.new.found
    c.in-Exchange.is
    (c.in_ok-push_below-in-Exchange.ensures ∙ ap (λ (q : Plan). c.args.found.now ++ all_standing (c.args.place.now ++ Left ∷ []) (makings (listed c.args.whole.now) q)) c.get-in-Exchange.ensures)
    (subst (λ (q : Plan). OnOk c.push_here.result (c.push_here.new.found ≡ c.push_below-in-Exchange.new.found ++ all_standing c.args.place.now (made_here (listed c.args.whole.now) c.in-Exchange.to q))) c.get-in-Exchange-2.ensures
    c.push_here.ensures)

pub push_makings-returns-in_ok-push_below-in-Join : goal.push_makings-returns-in_ok-push_below-in-Join
push_makings-returns-in_ok-push_below-in-Join t c =
    makings-join c.push_below-in-Join-2.result (listed c.args.whole.now) c.args.place.now c.args.plan.now c.in-Join.way c.in-Join.kind c.in-Join.keys c.in-Join.left_width c.in-Join.right_width c.get-in-Join.result.now c.get-in-Join-2.result.now c.args.found.now c.push_below-in-Join-2.new.found
    (c.in-Join.is ∙ (λ i. Join c.in-Join.way c.in-Join.kind c.in-Join.keys c.in-Join.left_width c.in-Join.right_width (sym c.get-in-Join.ensures i) (sym c.get-in-Join-2.ensures i)))
    (both_pushed c.push_below-in-Join-2.result (listed c.args.whole.now) c.args.place.now c.get-in-Join.result.now c.get-in-Join-2.result.now c.args.found.now c.push_below-in-Join.new.found c.push_below-in-Join-2.new.found c.in_ok-push_below-in-Join.ensures c.push_below-in-Join-2.ensures)

pub push_makings-returns-in_ok-push_below-in-Union : goal.push_makings-returns-in_ok-push_below-in-Union
push_makings-returns-in_ok-push_below-in-Union t c =
    makings-union c.push_below-in-Union-2.result (listed c.args.whole.now) c.args.place.now c.args.plan.now c.get-in-Union.result.now c.get-in-Union-2.result.now c.args.found.now c.push_below-in-Union-2.new.found
    (c.in-Union.is ∙ (λ i. Union (sym c.get-in-Union.ensures i) (sym c.get-in-Union-2.ensures i)))
    (both_pushed c.push_below-in-Union-2.result (listed c.args.whole.now) c.args.place.now c.get-in-Union.result.now c.get-in-Union-2.result.now c.args.found.now c.push_below-in-Union.new.found c.push_below-in-Union-2.new.found c.in_ok-push_below-in-Union.ensures c.push_below-in-Union-2.ensures)
