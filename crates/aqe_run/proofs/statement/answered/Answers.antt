use Rattle.std.proofs.Common.{ap}
use Rattle.aqe_settings.specs.Values.{values_of}
use Rattle.aqe_course.specs.Course.{query}
use Rattle.aqe_run.specs.Steps.{state_of}
use Rattle.aqe_run.proofs.Printing.{counted_all}
use Rattle.aqe_run.proofs.RunFacts.{has_run_none, not_analysed, not_queried, plan_built, plan_columns, plan_formed, plan_within, queried, reads_query, unanswered, unanswered_same}
use Rattle.aqe_run.proofs.statement.answered.Goals as goal

pub evaluated-requires : goal.evaluated-requires
evaluated-requires g c = record {
  form = plan_built c.args.tree.now c.args.made.now.catalog c.in-Ok.plan c.in-Ok.ensures.plan;
  formed = plan_formed c.args.tree.now c.args.made.now.catalog c.in-Ok.plan c.in-Ok.ensures.plan;
  columns = plan_columns c.args.tree.now c.args.made.now.catalog c.in-Ok.plan c.in-Ok.ensures.plan;
  range = c.requires.range;
  few = c.requires.few;
  counted = c.requires.counted;
  within = plan_within c.args.tree.now c.args.made.now.catalog c.in-Ok.plan c.in-Ok.ensures.plan;
  shaped = c.requires.shaped;
}

pub returns-in-Ok-clause-text : goal.returns-in-Ok-clause-text
returns-in-Ok-clause-text g c =
    queried (g.S.Store.files c.args.store.now) (state_of c.args.made.now) (state_of c.evaluated.new.made) c.args.tree.now c.in-Ok.plan c.args.journal.now c.evaluated.new.journal c.evaluated.result c.in-Ok.ensures.plan
    c.evaluated.ensures.loaded c.evaluated.ensures.text c.evaluated.ensures.kept (ap values_of c.evaluated.ensures.in_force) c.evaluated.ensures.counted

pub returns-in-Ok-clause-behind : goal.returns-in-Ok-clause-behind
returns-in-Ok-clause-behind g c =
    unanswered (g.S.Store.files c.args.store.now) (state_of c.args.made.now) c.args.tree.now c.in-Ok.plan c.evaluated.new.made.tables c.args.journal.now c.evaluated.new.journal c.evaluated.result
    c.in-Ok.ensures.plan c.evaluated.ensures.behind

pub returns-in-Err-clause-behind : goal.returns-in-Err-clause-behind
returns-in-Err-clause-behind g c = unanswered_same (g.S.Store.files c.args.store.now) (state_of c.args.made.now) c.args.tree.now c.in-Err.end c.args.journal.now

pub returns-in-Ok-clause-counted : goal.returns-in-Ok-clause-counted
returns-in-Ok-clause-counted g c =
    counted_all (query c.args.made.now.answered c.in-Ok.plan c.evaluated.new.made.tables (values_of c.args.made.now.settings)) c.args.journal.now c.evaluated.new.journal c.args.made.now.answered
    c.evaluated.new.made.answered c.evaluated.result c.requires.counted c.evaluated.ensures.counted c.evaluated.ensures.text

pub returns-in-Ok-clause-refused : goal.returns-in-Ok-clause-refused
returns-in-Ok-clause-refused g c =
    not_queried (g.S.Store.files c.args.store.now) (state_of c.args.made.now) c.args.tree.now c.in-Ok.plan c.evaluated.result c.in-Ok.ensures.plan c.evaluated.ensures.refused

pub returns-in-Err-clause-refused : goal.returns-in-Err-clause-refused
returns-in-Err-clause-refused g c = not_analysed (g.S.Store.files c.args.store.now) (state_of c.args.made.now) c.args.tree.now c.in-Err.end c.in-Err.ensures.refused

pub returns-in-Ok-clause-reads : goal.returns-in-Ok-clause-reads
returns-in-Ok-clause-reads g c e = reads_query (state_of c.args.made.now) c.args.tree.now c.in-Ok.plan c.in-Ok.ensures.plan (c.evaluated.ensures.reads e)

pub returns-in-Err-clause-ran : goal.returns-in-Err-clause-ran
returns-in-Err-clause-ran g c n = has_run_none c.args.journal.now (g.R.Runner.ran c.args.runner.now)
