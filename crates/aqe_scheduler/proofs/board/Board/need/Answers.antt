use Rattle.std.proofs.Common.{◌∙◌, ap, sym, subst, refl, length, ◌++◌, ◌∷◌, []}
use Rattle.aqe_scheduler.specs.History.{Marks}
use Rattle.aqe_scheduler.specs.Changes.{marking}
use Rattle.aqe_scheduler.specs.Cursors.{AreDone}
use Rattle.aqe_scheduler.specs.Fates.{noted}
use Rattle.aqe_scheduler.specs.Stands.{AreFew, Stands}
use Rattle.aqe_scheduler.specs.Tables.{births_on, birth_of, edited}
use Rattle.aqe_scheduler.proofs.Born.{needed_behind}
use Rattle.aqe_scheduler.proofs.Edits.{map_edited}
use Rattle.aqe_scheduler.proofs.Fronts.{marked_front}
use Rattle.aqe_scheduler.proofs.Ready.{whole_list, stage_there}
use Rattle.aqe_scheduler.proofs.board.Board.need.Goals as goal

pub invariant_of-self : goal.invariant_of-self
invariant_of-self c =
    let change = edited c.args.stage.0 (marking c.args.needed) in
    let is = whole_list c.self.inside.stages.len c.mark.new.stages c.self.inside.stages.items (sym c.deref_mut.ensures.len ∙ ap length c.deref_mut.ensures.value)
    (c.mark.auto.stages ∙ ap length c.deref_mut.ensures.value) ∙ c.mark.ensures ∙ ap change c.deref_mut.ensures.value in (
      subst AreFew (sym (ap births_on is ∙ map_edited birth_of (marking c.args.needed) c.self.inside.stages.items c.args.stage.0 (λ x. refl))) c.self.invariant.0,
      subst (λ b. AreDone b c.self.inside.firsts.items) (sym is)
          (λ s t below. marked_front c.args.stage.0 c.args.needed c.self.inside.stages.items s t ∙ c.self.invariant.1 s t below),
    )

pub returns-clause-stands : goal.returns-clause-stands
returns-clause-stands c =
    let change = edited c.args.stage.0 (marking c.args.needed) in
    let is = whole_list c.self.inside.stages.len c.mark.new.stages c.self.inside.stages.items (sym c.deref_mut.ensures.len ∙ ap length c.deref_mut.ensures.value)
    (c.mark.auto.stages ∙ ap length c.deref_mut.ensures.value) ∙ c.mark.ensures ∙ ap change (c.deref_mut.ensures.value ∙ c.self.view_is) in
    λ h stands. subst (λ b. Stands b (noted (h ++ Marks c.args.stage.0 c.args.needed ∷ []))) (sym is)
    (needed_behind c.args.self.now c.args.stage.0 c.args.needed (stage_there c.args.self.now c.args.stage.0 c.requires) h stands)

pub returns-clause-births : goal.returns-clause-births
returns-clause-births c =
    let change = edited c.args.stage.0 (marking c.args.needed) in
    let is = whole_list c.self.inside.stages.len c.mark.new.stages c.self.inside.stages.items (sym c.deref_mut.ensures.len ∙ ap length c.deref_mut.ensures.value)
    (c.mark.auto.stages ∙ ap length c.deref_mut.ensures.value) ∙ c.mark.ensures ∙ ap change (c.deref_mut.ensures.value ∙ c.self.view_is) in
    ap births_on is ∙ map_edited birth_of (marking c.args.needed) c.args.self.now c.args.stage.0 (λ x. refl)
