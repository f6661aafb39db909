use Rattle.std.proofs.Common.{arith, rules, length-drop}
use Rattle.std.proofs.lemmas.List.{take_rest}
use Rattle.aqe_store.proofs.Pieces.{appends-more}
use Rattle.aqe_store.proofs.sink.write_all.Goals as goal

pub pieces-preserved : goal.pieces-preserved
pieces-preserved g c =
    let bound = rw take_rest at c.in_ok-at.ensures.bound in
    let taken = rw take_rest at c.in_ok-at.ensures.bytes in (
      grind (arith, bound, length-drop),
      appends-more _ _ _ c.args.bytes.now c.pieces.at c.in_ok-at.field-0 c.pieces.invariant.0 c.pieces.invariant.1 taken,
      search rules,
    )
