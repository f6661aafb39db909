use Rattle.std.proofs.Common.{◌≡◌, ◌<◌, ◌≤◌, ◌-◌, ◌+◌, ◌∙◌, ◌&&◌, sym, ap, subst, arith, is_some, slice_get}
use Rattle.std.specs.List.{list_all, range_with_len}
use Rattle.aqe_scheduler.specs.Looks.{task_count}
use Rattle.aqe_scheduler.specs.Tables.{births_on, done_on}
use Rattle.aqe_scheduler.proofs.Ranges.{all_skip, all_step, all_over}
use Rattle.aqe_scheduler.proofs.Ready.{born_below, and_true, and_false}
use Rattle.aqe_scheduler.proofs.cursors.is_whole.Goals as goal

pub loop-task-init : goal.loop-task-init
loop-task-init c =
    let n = task_count (births_on c.args.stages.now) c.args.stage in
    let all : n ≡ n - 0 = omega arith in
    ap (λ k. list_all (done_on c.args.stages.now c.args.stage) (range_with_len 0 k)) all ∙
    all_skip (done_on c.args.stages.now c.args.stage) 0 c.first_of-task.result (task_count (births_on c.args.stages.now) c.args.stage) (omega arith)
    (λ t low high. c.requires c.args.stage t (subst (λ n. t < n) c.first_of-task.ensures high))

pub loop-task-preserved : goal.loop-task-preserved
loop-task-preserved c =
    let p = done_on c.args.stages.now c.args.stage in
    let n = task_count (births_on c.args.stages.now) c.args.stage in
    let below : c.loop-task.task < n = subst (λ k. c.loop-task.task < k) c.count_of-task-end.ensures c.loop-task-test.true in
    c.loop-task.invariant ∙ all_step p c.loop-task.task n below
    ∙ ap (λ b. b && list_all p (range_with_len (c.loop-task.task + 1) (n - (c.loop-task.task + 1)))) (sym c.is_done.ensures ∙ c.if-not-is_done.false)

pub returns-then-not-is_done : goal.returns-then-not-is_done
returns-then-not-is_done c =
    let p = done_on c.args.stages.now c.args.stage in
    let n = task_count (births_on c.args.stages.now) c.args.stage in
    let below : c.loop-task.task < n = subst (λ k. c.loop-task.task < k) c.count_of-task-end.ensures c.loop-task-test.true in
    sym (ap (λ b. is_some (slice_get (births_on c.args.stages.now) c.args.stage) && b) (c.loop-task.invariant ∙ all_step p c.loop-task.task n below
    ∙ ap (λ b. b && list_all p (range_with_len (c.loop-task.task + 1) (n - (c.loop-task.task + 1)))) (sym c.is_done.ensures ∙ c.if-not-is_done.true))
    ∙ and_false (is_some (slice_get (births_on c.args.stages.now) c.args.stage)))

pub returns : goal.returns
returns c =
    let n = task_count (births_on c.args.stages.now) c.args.stage in
    let past : n ≤ c.loop-task.task = omega arith in
    born_below c.args.stages.now c.args.stage
    ∙ sym (ap (λ b. is_some (slice_get (births_on c.args.stages.now) c.args.stage) && b) (c.loop-task.invariant ∙ all_over (done_on c.args.stages.now c.args.stage) c.loop-task.task n past)
    ∙ and_true (is_some (slice_get (births_on c.args.stages.now) c.args.stage)))
