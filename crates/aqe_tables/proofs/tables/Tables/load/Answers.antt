use Rattle.std.proofs.Common.{◌≡◌, rules}
use Rattle.std.specs.Prelude.{slice_get}
use Rattle.std.proofs.lemmas.Result.{err_from_is_err_and}
use Rattle.aqe_tables.specs.Load.{HasNoCause, HasNoOtherCause}
use Rattle.aqe_tables.specs.Loaded.{all_bytes}
use Rattle.aqe_tables.proofs.CauseFacts.{never_told, only_told}
use Rattle.aqe_tables.proofs.LoadedFacts.{at_form}
use Rattle.aqe_tables.proofs.tables.Tables.load.Goals as goal

pub returns-in_err-loaded-clause-exact : goal.returns-in_err-loaded-clause-exact
returns-in_err-loaded-clause-exact g c =
    let p = err_from_is_err_and c.from_residual.result c.from_residual.ensures.1 in
    let same : c.self.inside.bytes ≡ all_bytes c.args.self.now = search rules in
    rw (p.1, p.2)
    (at_form (g.S.Store.files c.args.store.now) (slice_get c.args.catalog.now c.args.table) c.table.result.now
    (λ files form. HasNoOtherCause files form (all_bytes c.args.self.now) c.in_err-loaded.field-0.0) c.table.ensures.value
    (only_told (g.S.Store.files c.args.store.now) c.table.result.now (all_bytes c.args.self.now) c.in_err-loaded.field-0.0 (rw same at c.in_err-loaded.ensures.refused)))

pub returns-clause-sure : goal.returns-clause-sure
returns-clause-sure g c free =
    let same : c.self.inside.bytes ≡ all_bytes c.args.self.now = search rules in
    at_form (g.S.Store.files c.args.store.now) (slice_get c.args.catalog.now c.args.table) c.table.result.now
    (λ files form. HasNoCause files form (all_bytes c.args.self.now)) c.table.ensures.value
    (never_told (g.S.Store.files c.args.store.now) c.table.result.now (all_bytes c.args.self.now) c.in_ok-loaded.loaded (rw same at c.in_ok-loaded.ensures.table))
