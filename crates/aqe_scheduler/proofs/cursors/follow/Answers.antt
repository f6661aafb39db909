use Rattle.std.proofs.Common.{◌∙◌, ap}
use Rattle.aqe_scheduler.specs.Changes.{settled}
use Rattle.aqe_scheduler.proofs.Fronts.{fronts_ended, fronts_failed, fronts_fetched}
use Rattle.aqe_scheduler.proofs.cursors.follow.Goals as goal

pub returns-in-Ended : goal.returns-in-Ended
returns-in-Ended c = λ before is was.
    c.advance.ensures (fronts_ended c.in-Ended.stage c.in-Ended.task c.in-Ended.executor c.args.fate before c.args.stages.now c.args.firsts.now
    (is ∙ ap (λ event. settled event c.args.fate before) c.in-Ended.is) was)

pub returns-in-Failed : goal.returns-in-Failed
returns-in-Failed c = λ before is was.
    fronts_failed c.in-Failed.stage c.in-Failed.task c.in-Failed.executor c.args.fate before c.args.stages.now c.args.firsts.now
    (is ∙ ap (λ event. settled event c.args.fate before) c.in-Failed.is) was

pub returns-then-matches : goal.returns-then-matches
returns-then-matches c = λ before is was.
    fronts_fetched c.in-Fetch.stage c.in-Fetch.task c.in-Fetch.executor c.in-Fetch.parent c.in-Fetch.map c.args.fate before c.args.stages.now c.args.firsts.now c.go_back.new.firsts
    c.go_back.ensures (is ∙ ap (λ event. settled event c.args.fate before) c.in-Fetch.is) was
