use Rattle.std.proofs.Common.{◌∙◌, ap, sym, subst, length, take, drop, ◌++◌}
use Rattle.aqe_scheduler.specs.Changes.{settled}
use Rattle.aqe_scheduler.specs.Cursors.{AreDone}
use Rattle.aqe_scheduler.specs.Fates.{fate_by}
use Rattle.aqe_scheduler.specs.Stands.{AreFew}
use Rattle.aqe_scheduler.specs.Tables.{births_on, needed_on, done_on}
use Rattle.aqe_scheduler.proofs.Fronts.{settled_births}
use Rattle.aqe_scheduler.proofs.Ready.{whole_list}
use Rattle.aqe_scheduler.proofs.Taken.{taken}
use Rattle.aqe_scheduler.proofs.board.Board.take.Goals as goal

pub invariant_of-self : goal.invariant_of-self
invariant_of-self c =
    let is = whole_list c.self.inside.stages.len c.settle.new.stages c.self.inside.stages.items (sym c.deref_mut.ensures.len ∙ ap length c.deref_mut.ensures.value)
    (c.settle.auto.stages ∙ ap length c.deref_mut.ensures.value) ∙ c.settle.ensures
    ∙ ap (λ b. settled c.args.event c.fate_of-fate.result b) c.deref_mut.ensures.value in
    let firsts = whole_list c.self.inside.firsts.len c.follow.new.firsts c.self.inside.firsts.items (sym c.deref_mut-2.ensures.len ∙ ap length c.deref_mut-2.ensures.value)
    (c.follow.auto.firsts ∙ ap length c.deref_mut-2.ensures.value) in
    let now = c.deref-3.ensures.value in (
      subst AreFew (sym (ap births_on is ∙ settled_births c.args.event c.fate_of-fate.result c.self.inside.stages.items)) c.self.invariant.0,
      subst (λ xs. AreDone (take c.self.inside.stages.len (c.settle.new.stages ++ drop (length c.settle.new.stages) c.self.inside.stages.items)) xs) (sym firsts)
          (subst (λ b. AreDone b c.follow.new.firsts) now
          (c.follow.ensures c.self.inside.stages.items (now ∙ is) (subst (λ xs. AreDone c.self.inside.stages.items xs) (sym c.deref_mut-2.ensures.value) c.self.invariant.1))),
    )

pub returns-clause-stands : goal.returns-clause-stands
returns-clause-stands c =
    let is = whole_list c.self.inside.stages.len c.settle.new.stages c.self.inside.stages.items (sym c.deref_mut.ensures.len ∙ ap length c.deref_mut.ensures.value)
    (c.settle.auto.stages ∙ ap length c.deref_mut.ensures.value) ∙ c.settle.ensures
    ∙ ap (λ b. settled c.args.event c.fate_of-fate.result b) (c.deref_mut.ensures.value ∙ c.self.view_is) in
    taken c.args.self.now _ c.args.event c.fate_of-fate.result
    (c.fate_of-fate.ensures ∙ ap (λ b. fate_by (births_on b) (needed_on b) (done_on b) c.args.event) (c.deref.ensures.value ∙ c.self.view_is)) is

pub returns-clause-births : goal.returns-clause-births
returns-clause-births c =
    let is = whole_list c.self.inside.stages.len c.settle.new.stages c.self.inside.stages.items (sym c.deref_mut.ensures.len ∙ ap length c.deref_mut.ensures.value)
    (c.settle.auto.stages ∙ ap length c.deref_mut.ensures.value) ∙ c.settle.ensures
    ∙ ap (λ b. settled c.args.event c.fate_of-fate.result b) (c.deref_mut.ensures.value ∙ c.self.view_is) in
    ap births_on is ∙ settled_births c.args.event c.fate_of-fate.result c.args.self.now
