use Rattle.std.proofs.Common.{rules, ◌≡◌, ◌∷◌, subst}
use Rattle.aqe_estimates.proofs.Filling.{Fills, one_more}
use Rattle.aqe_estimates.proofs.estimates.fill.Goals as goal

pub scanned-preserved : goal.scanned-preserved
scanned-preserved c =
    let front : c.scanned.left.now ≡ c.in-Some.table.now ∷ c.in-Some.rest.now = search rules in
    one_more c.args.tables.now c.args.scanned.now c.in-Some.rest.now c.in-Some.table.now c.args.known.now.items c.scanned.known.items c.put.new.known.items c.estimate_of.result
    (subst (λ left. Fills c.args.tables.now c.args.scanned.now left c.args.known.now.items c.scanned.known.items) front c.scanned.invariant) c.estimate_of.ensures c.put.ensures
