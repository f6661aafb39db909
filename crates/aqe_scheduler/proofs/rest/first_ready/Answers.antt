use Rattle.std.proofs.Common.{◌≡◌, ◌<◌, ◌≤◌, ◌-◌, ◌+◌, ◌∙◌, sym, ap, subst, arith, true, false, cond, Some, map}
use Rattle.std.specs.List.{find, range_with_len}
use Rattle.aqe_scheduler.specs.Looks.{task_count}
use Rattle.aqe_scheduler.specs.Rest.{may_end}
use Rattle.aqe_scheduler.specs.Tables.{births_on, done_on, needed_on}
use Rattle.aqe_scheduler.proofs.Ranges.{find_step, find_over}
use Rattle.aqe_scheduler.proofs.Ready.{none_of, none_before, ready_is}
use Rattle.aqe_scheduler.proofs.rest.first_ready.Goals as goal

pub returns-then-not-is_needed-clause-first : goal.returns-then-not-is_needed-clause-first
returns-then-not-is_needed-clause-first c = sym (none_of c.args.stages.now c.args.stage (sym c.is_needed.ensures ∙ c.if-not-is_needed.true))

pub loop-task-init : goal.loop-task-init
loop-task-init c =
    subst (λ n. find (may_end (births_on c.args.stages.now) (needed_on c.args.stages.now) (done_on c.args.stages.now)) (map (λ t. (c.args.stage, t)) (range_with_len 0 (task_count (births_on c.args.stages.now) c.args.stage))) ≡
    find (may_end (births_on c.args.stages.now) (needed_on c.args.stages.now) (done_on c.args.stages.now)) (map (λ t. (c.args.stage, t)) (range_with_len n (task_count (births_on c.args.stages.now) c.args.stage - n))))
    (sym c.first_of-task.ensures) (none_before c.args.stages.now c.args.firsts.now c.args.stage (c.requires c.args.stage))

pub loop-task-preserved : goal.loop-task-preserved
loop-task-preserved c =
    let n = task_count (births_on c.args.stages.now) c.args.stage in
    let p = may_end (births_on c.args.stages.now) (needed_on c.args.stages.now) (done_on c.args.stages.now) in
    let below : c.loop-task.task < n = subst (λ k. c.loop-task.task < k) c.count_of-task-end.ensures c.loop-task-test.true in
    c.loop-task.invariant ∙ find_step p (λ t. (c.args.stage, t)) c.loop-task.task n below
    ∙ ap (λ b. cond b (Some (c.args.stage, c.loop-task.task)) (find p (map (λ t. (c.args.stage, t)) (range_with_len (c.loop-task.task + 1) (n - (c.loop-task.task + 1))))))
    (ready_is (needed_on c.args.stages.now c.args.stage) _ false (sym c.is_needed.ensures ∙ c.if-not-is_needed.false) (sym c.is_ready.ensures ∙ c.if-is_ready.false))

pub returns-then-is_ready-clause-first : goal.returns-then-is_ready-clause-first
returns-then-is_ready-clause-first c =
    let n = task_count (births_on c.args.stages.now) c.args.stage in
    let p = may_end (births_on c.args.stages.now) (needed_on c.args.stages.now) (done_on c.args.stages.now) in
    let below : c.loop-task.task < n = subst (λ k. c.loop-task.task < k) c.count_of-task-end.ensures c.loop-task-test.true in
    sym (c.loop-task.invariant ∙ find_step p (λ t. (c.args.stage, t)) c.loop-task.task n below
    ∙ ap (λ b. cond b (Some (c.args.stage, c.loop-task.task)) (find p (map (λ t. (c.args.stage, t)) (range_with_len (c.loop-task.task + 1) (n - (c.loop-task.task + 1))))))
    (ready_is (needed_on c.args.stages.now c.args.stage) _ true (sym c.is_needed.ensures ∙ c.if-not-is_needed.false) (sym c.is_ready.ensures ∙ c.if-is_ready.true)))

pub returns-clause-first : goal.returns-clause-first
returns-clause-first c =
    let past : task_count (births_on c.args.stages.now) c.args.stage ≤ c.loop-task.task = omega arith in
    sym (c.loop-task.invariant ∙ find_over (may_end (births_on c.args.stages.now) (needed_on c.args.stages.now) (done_on c.args.stages.now)) (λ t. (c.args.stage, t)) c.loop-task.task (task_count (births_on c.args.stages.now) c.args.stage) past)
