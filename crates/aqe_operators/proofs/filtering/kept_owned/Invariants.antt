-- the rows kept so far, and those of the rest that will be
use Rattle.std.proofs.Common.{◌≡◌, ◌++◌, filter, length}
use Rattle.std.specs.Vec.Iter.{into_iter_items, into_iter_len}
use Rattle.aqe_expr.specs.Meaning.{holds}
use Rattle.aqe_operators.proofs.filtering.kept_owned.Given as goal

abbrev pub invariant-rows : goal.invariant-rows
invariant-rows l = (l.kept ++ filter (holds l.cond) (into_iter_items l.row-iterator) ≡ filter (holds l.cond) (into_iter_items l.initial.row-iterator))
    × (into_iter_len l.row-iterator ≡ length (into_iter_items l.row-iterator))
