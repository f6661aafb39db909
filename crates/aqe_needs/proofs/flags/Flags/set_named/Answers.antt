use Rattle.std.proofs.Common.{◌∙◌, sym, ap, Option}
use Rattle.aqe_base.specs.declared.stage_id.StageId.{StageId}
use Rattle.aqe_needs.specs.Flags.{noted, is_named}
use Rattle.aqe_needs.proofs.Marked.{never_set}
use Rattle.aqe_needs.proofs.flags.Flags.set_named.Goals as goal

pub returns-in-Some : goal.returns-in-Some
returns-in-Some c = c.set.ensures ∙ ap (λ (o : Option StageId). noted (is_named o) 0 c.args.self.now) (sym c.in-Some.is)

pub returns-in-None : goal.returns-in-None
returns-in-None c = never_set c.args.self.now ∙ ap (λ (o : Option StageId). noted (is_named o) 0 c.args.self.now) (sym c.in-None.is)
