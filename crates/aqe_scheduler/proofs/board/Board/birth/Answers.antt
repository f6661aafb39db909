use Rattle.std.proofs.Common.{arith, ◌<◌, ◌^◌, ◌∙◌, ap, sym, subst, length, replicate, false, ◌++◌, ◌∷◌, [], get_or, List}
use Rattle.std.proofs.lemmas.List.{map-append}
use Rattle.aqe_scheduler.specs.declared.task.Task.{Task}
use Rattle.aqe_scheduler.specs.History.{Birth, Adds}
use Rattle.aqe_scheduler.specs.Changes.{newborn}
use Rattle.aqe_scheduler.specs.Cursors.{AreDone}
use Rattle.aqe_scheduler.specs.Fates.{noted}
use Rattle.aqe_scheduler.specs.Stands.{AreFew, Stands}
use Rattle.aqe_scheduler.specs.Tables.{births_on, birth_of, fresh}
use Rattle.aqe_scheduler.proofs.Born.{born}
use Rattle.aqe_scheduler.proofs.Fronts.{born_front}
use Rattle.aqe_scheduler.proofs.Ready.{few_more, firsts_more}
use Rattle.aqe_scheduler.proofs.board.Board.birth.Goals as goal

pub invariant_of-self-2 : goal.invariant_of-self-2
invariant_of-self-2 c =
    let birth : Birth = record { kind = c.args.kind; reads = c.args.reads } in
    let made = λ (ts : List Task). c.self.inside.stages.items ++ record { kind = c.args.kind; needed = false; streak = 0; reads = c.args.reads; tasks = ts } ∷ [] in
    let is = c.in_ok-push-2.ensures.items ∙ ap made (c.in_ok-tasks.ensures ∙ ap (λ n. replicate n fresh) (sym c.requires.each)) in
    let below : length (births_on c.self.inside.stages.items) < 2 ^ 32 = subst (λ b. length (births_on b) < 2 ^ 32) (sym c.self.view_is) c.requires.few in
    let small : length c.args.reads < 2 ^ 32 = subst (λ n. n < 2 ^ 32) (sym c.requires.each) (omega arith) in (
      subst AreFew (sym (ap births_on is ∙ map-append birth_of c.self.inside.stages.items (newborn birth ∷ []))) (few_more (births_on c.self.inside.stages.items) birth c.self.invariant.0 below small),
      subst (λ b. AreDone b c.push.new.self.items) (sym is)
          (λ s t less. born_front c.self.inside.stages.items (newborn birth) s t
          (c.self.invariant.1 s t (subst (λ n. t < n) (ap (λ xs. get_or xs s 0) c.in_ok-push.ensures.items ∙ firsts_more c.self.inside.firsts.items s) less))),
    )

pub returns-clause-stands : goal.returns-clause-stands
returns-clause-stands c =
    let birth : Birth = record { kind = c.args.kind; reads = c.args.reads } in
    let made = λ (ts : List Task). c.self.inside.stages.items ++ record { kind = c.args.kind; needed = false; streak = 0; reads = c.args.reads; tasks = ts } ∷ [] in
    let is = c.in_ok-push-2.ensures.items ∙ ap made (c.in_ok-tasks.ensures ∙ ap (λ n. replicate n fresh) (sym c.requires.each))
    ∙ ap (λ b. b ++ newborn birth ∷ []) c.self.view_is in
    λ h stands. subst (λ b. Stands b (noted (h ++ Adds birth ∷ []))) (sym is) (born c.args.self.now birth h stands)
