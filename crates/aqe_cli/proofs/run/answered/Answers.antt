use Rattle.std.proofs.Common.{map, string_bytes}
use Rattle.aqe_course.specs.Command.{command}
use Rattle.aqe_course.specs.Ending.{left}
use Rattle.aqe_cli.proofs.HeadlineFacts.{answers_all, completes, ends_so, refused_with, the_refusal}
use Rattle.aqe_cli.proofs.run.answered.Goals as goal

pub returns-in-Some-clause-done : goal.returns-in-Some-clause-done
returns-in-Some-clause-done g c =
    answers_all (g.S.Store.files c.args.store.now) (map string_bytes c.args.words.now) c.in-Some.path.now (g.S.Store.opened c.run.new.store) (left c.args.journal.now (g.O.Sink.taken c.args.out.now)) (left c.run.new.journal (g.O.Sink.taken c.run.new.out))
    c.run.result c.in-Some.ensures c.run.ensures.ends

pub returns-in-Some-clause-refused : goal.returns-in-Some-clause-refused
returns-in-Some-clause-refused g c =
    refused_with (g.S.Store.files c.args.store.now) (map string_bytes c.args.words.now) c.in-Some.path.now (g.S.Store.opened c.run.new.store) (left c.args.journal.now (g.O.Sink.taken c.args.out.now)) (left c.run.new.journal (g.O.Sink.taken c.run.new.out))
    c.run.result c.in-Some.ensures c.run.ensures.ends

pub returns-in-Some-clause-always : goal.returns-in-Some-clause-always
returns-in-Some-clause-always g c =
    the_refusal (g.S.Store.files c.args.store.now) (map string_bytes c.args.words.now) c.in-Some.path.now (g.S.Store.opened c.run.new.store) (left c.args.journal.now (g.O.Sink.taken c.args.out.now)) (left c.run.new.journal (g.O.Sink.taken c.run.new.out))
    c.run.result c.in-Some.ensures c.run.ensures.ends

pub returns-in-Some-clause-ends : goal.returns-in-Some-clause-ends
returns-in-Some-clause-ends g c =
    ends_so (g.S.Store.files c.args.store.now) (map string_bytes c.args.words.now) c.in-Some.path.now (g.S.Store.opened c.run.new.store) (left c.args.journal.now (g.O.Sink.taken c.args.out.now)) (left c.run.new.journal (g.O.Sink.taken c.run.new.out))
    c.run.result c.in-Some.ensures c.run.ensures.ends

pub returns-in-Some-clause-completes : goal.returns-in-Some-clause-completes
returns-in-Some-clause-completes g c =
    completes (g.S.Store.files c.args.store.now) (map string_bytes c.args.words.now) c.in-Some.path.now (g.S.Store.opened c.run.new.store) (left c.args.journal.now (g.O.Sink.taken c.args.out.now)) (left c.run.new.journal (g.O.Sink.taken c.run.new.out))
    c.run.result _ _ _ _ c.in-Some.ensures c.run.ensures.ends (λ e. c.run.ensures.step.read_fault (cc e)) (λ e. c.run.ensures.sink.write_fault (cc e))

pub returns-in-Some-clause-usage : goal.returns-in-Some-clause-usage
returns-in-Some-clause-usage g c = (λ e. absurd (c.run.ensures.named.0 e), λ m. absurd (m (command c.in-Some.path.now) c.in-Some.ensures))

pub returns-in-Some-clause-untouched : goal.returns-in-Some-clause-untouched
returns-in-Some-clause-untouched g c m = absurd (m (command c.in-Some.path.now) c.in-Some.ensures)
