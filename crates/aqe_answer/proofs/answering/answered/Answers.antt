use Rattle.std.proofs.Common.{◌≡◌, List, subst, length, slice_get}
use Rattle.std.specs.Prelude.{IfOk}
use Rattle.std.specs.Option.{IsSomeAnd}
use Rattle.aqe_settings.specs.Values.{values_of}
use Rattle.aqe_journal.specs.declared.record.QueryRecord.{QueryRecord}
use Rattle.aqe_texts.specs.ResultText.{result_text}
use Rattle.aqe_answer.proofs.Answered.{may_be, printed}
use Rattle.aqe_answer.proofs.answering.answered.Goals as goal

pub returns-in-Done-clause-text : goal.returns-in-Done-clause-text
returns-in-Done-clause-text g c =
    printed c.args.plan c.args.tables.now (values_of c.args.settings.now) c.args.journal.now c.run_query.new.journal (g.R.Runner.ran c.args.runner.now) (g.R.Runner.ran c.run_query.new.runner) c.args.schema.now c.run_query.result c.text_of.result
    c.requires.columns c.in-Done.is c.run_query.ensures.query
    (subst (λ (records : List QueryRecord). IfOk c.text_of.result (λ text. IsSomeAnd (slice_get c.run_query.new.journal (length records)) (λ note. text ≡ result_text c.args.schema.now note.rows))) c.records-number.ensures c.text_of.ensures)

pub returns-in-Done-clause-memory : goal.returns-in-Done-clause-memory
returns-in-Done-clause-memory g c =
    may_be c.args.plan c.args.tables.now (values_of c.args.settings.now) c.args.journal.now c.run_query.new.journal (g.R.Runner.ran c.args.runner.now) (g.R.Runner.ran c.run_query.new.runner) c.run_query.result c.text_of.result
    c.in-Done.is c.run_query.ensures.query
