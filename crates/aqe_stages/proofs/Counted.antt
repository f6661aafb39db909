-- A plan has as many parts as are counted.
use Rattle.std.proofs.Common.{◌≡◌, suc, ◌+◌, List, [], ◌∷◌, map, length, filter, take, drop, refl, ap, ◌∙◌, length-append}
use Rattle.std.specs.Prelude.{max}
use Rattle.std.proofs.lemmas.List.{length-map, length-replicate}
use Rattle.std.proofs.lemmas.List.FromFn.{length-map-range_with_len}
use Rattle.aqe_base.specs.declared.join_kind.Side.TheVariants.{Left, Right}
use Rattle.aqe_expr.specs.Meaning.{holds}
use Rattle.aqe_logical.specs.Answers.{Row, at_most_rows}
use Rattle.aqe_logical.specs.Groups.{row_of, finish_rows}
use Rattle.aqe_logical.specs.Order.{before}
use Rattle.aqe_places.specs.Places.{part_of}
use Rattle.aqe_places.specs.Sorting.{stable_sort}
use Rattle.aqe_partial.specs.PartialRows.{joined_parts, partial_rows}
use Rattle.aqe_physical.specs.declared.target.Target.{Target}
use Rattle.aqe_physical.specs.declared.target.Target.TheVariants.{Hash, Range, Single, Broadcast}
use Rattle.aqe_physical.specs.declared.target.JoinWay.{JoinWay}
use Rattle.aqe_physical.specs.declared.target.JoinWay.TheVariants as way
use Rattle.aqe_physical.specs.declared.plan.Plan.{OneRow, Scan, Nothing, Read, ReadBroadcast}
use Rattle.aqe_physical.specs.Shapes.{kept, mapped, moved, matched, grouped, finished, ordered, cut_locally, cut_globally, both_of}
use Rattle.aqe_physical.specs.Counts.{target_count, join_count}
use Rattle.aqe_stages.specs.Stages.{Given, output_of}
use Rattle.aqe_stages.specs.Cells.{rect_rows}
use Rattle.aqe_stages.specs.Places.{place, exchanged_parts}
use Rattle.aqe_stages.specs.Parts.{parts, file_rows, side_by_side, joined_sides, join_rows}
use Rattle.aqe_stages.specs.Laws.{PartsAreAsManyAsCounted}

exchanged_count : (given : Given) (target : Target) (ps : List (List Row)) → length (exchanged_parts given target ps) ≡ target_count target
exchanged_count given (Hash keys n) ps = length-map-range_with_len (part_of (place given (Hash keys n) ps) (joined_parts ps)) 0 n
exchanged_count given (Range keys n sample) ps = length-map-range_with_len (part_of (place given (Range keys n sample) ps) (joined_parts ps)) 0 n
exchanged_count given Single ps = refl
exchanged_count given Broadcast ps = refl

pub side_count : (join : List Row → List Row → List Row) (as_ bs : List (List Row)) → length (side_by_side join as_ bs) ≡ length as_
side_count join [] bs = refl
side_count join (a ∷ as_) [] = ap (λ n. suc n) (side_count join as_ [])
side_count join (a ∷ as_) (b ∷ bs) = ap (λ n. suc n) (side_count join as_ bs)

sides_count : (y : JoinWay) (join : List Row → List Row → List Row) (as_ bs : List (List Row)) → length (joined_sides y join as_ bs) ≡ join_count y (length as_) (length bs)
sides_count way.SortMerge join as_ bs = side_count join as_ bs
sides_count (way.ShuffledHash side) join as_ bs = side_count join as_ bs
sides_count (way.Broadcast Left) join as_ bs = length-map bs (λ b. join (joined_parts as_) b)
sides_count (way.Broadcast Right) join as_ bs = length-map as_ (λ a. join a (joined_parts bs))
sides_count way.NestedLoop join as_ bs = refl

pub counted : PartsAreAsManyAsCounted
counted tables given OneRow = refl
counted tables given (Scan table files) = length-map-range_with_len (file_rows tables table) 0 (max 1 files)
counted tables given (Nothing count width) = length-replicate count []
counted tables given (Read stage maps reducers rects) = length-map rects (rect_rows (output_of given stage.0))
counted tables given (ReadBroadcast stage) = refl
counted tables given (kept cond child) = length-map (parts tables given child) (filter (holds cond)) ∙ counted tables given child
counted tables given (mapped items child) = length-map (parts tables given child) (map (row_of items)) ∙ counted tables given child
counted tables given (moved target child) = exchanged_count given target (parts tables given child)
counted tables given (matched y kind keys v w left right) =
    sides_count y (join_rows y kind keys v w) (parts tables given left) (parts tables given right) ∙
    (λ i. join_count y (counted tables given left i) (counted tables given right i))
counted tables given (grouped keys calls child) = length-map (parts tables given child) (partial_rows (length keys) (row_of keys) calls) ∙ counted tables given child
counted tables given (finished keys calls child) = length-map (parts tables given child) (finish_rows keys calls) ∙ counted tables given child
counted tables given (ordered keys child) = length-map (parts tables given child) (stable_sort (before keys)) ∙ counted tables given child
counted tables given (cut_locally count child) = length-map (parts tables given child) (take count) ∙ counted tables given child
counted tables given (cut_globally count skip child) = length-map (parts tables given child) (λ part. at_most_rows count (drop skip part)) ∙ counted tables given child
counted tables given (both_of left right) =
    length-append (parts tables given left) (parts tables given right) ∙ (λ i. counted tables given left i + counted tables given right i)
