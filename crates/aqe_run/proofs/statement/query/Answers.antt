use Rattle.std.proofs.Common.{◌⊎◌, inl, inr, Option, refl}
use Rattle.aqe_base.specs.declared.status.Status.{Status}
use Rattle.aqe_store.specs.Files.{Entries}
use Rattle.aqe_trees.specs.declared.statement.Stmt.{Stmt}
use Rattle.aqe_course.specs.Course.{State, IsRefusedStatement}
use Rattle.aqe_run.specs.Steps.{IsExcuse, IsWriteExcuse, Refuses, RefusesToWrite}
use Rattle.aqe_run.proofs.Told.{told_one}
use Rattle.aqe_trees.specs.declared.statement.Stmt.TheVariants as stmt
use Rattle.std.proofs.lemmas.Result.{err_from_is_err_and}
use Rattle.aqe_course.specs.Ending.{left}
use Rattle.aqe_run.proofs.RunFacts.{err_of, query_half, query_stops, query_written}
use Rattle.aqe_run.specs.Steps.{state_of}
use Rattle.aqe_run.proofs.statement.query.Goals as goal

pub returns-in-Ok-clause-done : goal.returns-in-Ok-clause-done
returns-in-Ok-clause-done g c =
    query_written (g.S.Store.files c.args.store.now) (state_of c.args.made.now) _ c.args.tree.now c.in_ok-text.text (left c.args.journal.now (g.O.Sink.taken c.args.out.now)) (left c.answered.new.journal (g.O.Sink.taken c.write_all.new.sink)) c.in_ok-text.ensures.text
    (rw c.slice.ensures at c.in-Ok.ensures.all)

pub returns-clause-front : goal.returns-clause-front
returns-clause-front g c e =
    query_half (g.S.Store.files c.args.store.now) (state_of c.args.made.now) _ c.args.tree.now c.in_ok-text.text (left c.args.journal.now (g.O.Sink.taken c.args.out.now)) (left c.answered.new.journal (g.O.Sink.taken c.write_all.new.sink)) c.in_ok-text.ensures.text
    (rw c.slice.ensures at c.in-Err.ensures.front)

pub returns-in_err-text-clause-reads : goal.returns-in_err-text-clause-reads
returns-in_err-text-clause-reads g c e =
    let p = err_from_is_err_and c.from_residual.result c.from_residual.ensures.1 in
    c.in_err-text.ensures.reads (err_of (rw (p.1, p.2) at e))

-- a refusal before a text is written is one of the statement that writes it
to_write : (told : Option Entries) (now : State) (one : Stmt) (end : Status) → Refuses told now one end → RefusesToWrite told now one end
to_write told now one end h =
    told_one (λ files. IsRefusedStatement files now one end ⊎ IsExcuse end) (λ files. IsRefusedStatement files now one end ⊎ IsWriteExcuse end) told (λ files q. by files q) h
  where
    by : (files : Entries) → IsRefusedStatement files now one end ⊎ IsExcuse end → IsRefusedStatement files now one end ⊎ IsWriteExcuse end
    by files (inl x) = inl x
    by files (inr x) = inr (inl x)

pub returns-in_err-text-clause-refused : goal.returns-in_err-text-clause-refused
returns-in_err-text-clause-refused g c =
    let p = err_from_is_err_and c.from_residual.result c.from_residual.ensures.1 in
    rw (p.1, p.2) (to_write (g.S.Store.files c.args.store.now) (state_of c.args.made.now) (stmt.Query c.args.tree.now) c.in_err-text.field-0.0 c.in_err-text.ensures.refused)

pub returns-in_err-text-clause-stops : goal.returns-in_err-text-clause-stops
returns-in_err-text-clause-stops g c =
    let p = err_from_is_err_and c.from_residual.result c.from_residual.ensures.1 in
    rw (p.1, p.2) (λ n.
    query_stops (g.S.Store.files c.args.store.now) (state_of c.args.made.now) c.args.tree.now c.in_err-text.field-0.0 (left c.args.journal.now (g.O.Sink.taken c.args.out.now))
    (left c.answered.new.journal (g.O.Sink.taken c.args.out.now)) refl c.in_err-text.ensures.behind)

pub returns-in_err-text-clause-ran : goal.returns-in_err-text-clause-ran
returns-in_err-text-clause-ran g c n =
    let p = err_from_is_err_and c.from_residual.result c.from_residual.ensures.1 in
    c.in_err-text.ensures.ran (λ e. n (rw (p.1, p.2) (err_of e)))
