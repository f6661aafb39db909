use Rattle.std.proofs.Common.{rules, sym, arith}
use Rattle.aqe_physical.specs.declared.plan.Plan.{the_lemmas}
use Rattle.aqe_physical.proofs.Counted.{fits-filter, fits-project, fits-partialagg, fits-finalagg, fits-sort, fits-locallimit, fits-globallimit, fits-join-left, fits-join-right, fits-union-left, fits-union-right}
use Rattle.aqe_needs.proofs.Parts.{same_reads, more_reads, fits-exchange, reads-filter, reads-project, reads-partial, reads-last, reads-sort, reads-local, reads-global, reads-exchange, reads-join, reads-left, reads-right, reads-read, part_more}
use Rattle.aqe_needs.specs.Maps.{sample_reads, all_reads, side_reads}
use Rattle.aqe_needs.proofs.inputs.+push_part.Goals as goal

pub push_part-returns-in-Read : goal.push_part-returns-in-Read
push_part-returns-in-Read t c =
    same_reads c.push_rect.result c.args.found.now c.push_rect.new.found _ _ (reads-read c.args.counts.now c.args.k c.args.plan.now c.in-Read.stage c.in-Read.maps c.in-Read.reducers c.in-Read.rects c.in-Read.is) (rw (sym c.slice.ensures) c.push_rect.ensures)

pub push_part-push_part-requires : goal.push_part-push_part-requires
push_part-push_part-requires t c = (search (rules, the_lemmas), fits-filter c.args.plan.now c.in-Filter.cond c.in-Filter.child c.get.result.now c.in-Filter.is c.get.ensures c.requires)

pub push_part-returns-in-Filter : goal.push_part-returns-in-Filter
push_part-returns-in-Filter t c =
    same_reads c.push_part.result c.args.found.now c.push_part.new.found _ _ (reads-filter c.args.counts.now c.args.k c.args.plan.now c.in-Filter.cond c.in-Filter.child c.get.result.now c.in-Filter.is c.get.ensures) c.push_part.ensures

pub push_part-push_part-requires-in-Project : goal.push_part-push_part-requires-in-Project
push_part-push_part-requires-in-Project t c = (search (rules, the_lemmas), fits-project c.args.plan.now c.in-Project.items c.in-Project.child c.get-in-Project.result.now c.in-Project.is c.get-in-Project.ensures c.requires)

pub push_part-returns-in-Project : goal.push_part-returns-in-Project
push_part-returns-in-Project t c =
    same_reads c.push_part-in-Project.result c.args.found.now c.push_part-in-Project.new.found _ _ (reads-project c.args.counts.now c.args.k c.args.plan.now c.in-Project.items c.in-Project.child c.get-in-Project.result.now c.in-Project.is c.get-in-Project.ensures) c.push_part-in-Project.ensures

pub push_part-push_part-requires-in-PartialAgg : goal.push_part-push_part-requires-in-PartialAgg
push_part-push_part-requires-in-PartialAgg t c = (search (rules, the_lemmas), fits-partialagg c.args.plan.now c.in-PartialAgg.keys c.in-PartialAgg.calls c.in-PartialAgg.child c.get-in-PartialAgg.result.now c.in-PartialAgg.is c.get-in-PartialAgg.ensures c.requires)

pub push_part-returns-in-PartialAgg : goal.push_part-returns-in-PartialAgg
push_part-returns-in-PartialAgg t c =
    same_reads c.push_part-in-PartialAgg.result c.args.found.now c.push_part-in-PartialAgg.new.found _ _ (reads-partial c.args.counts.now c.args.k c.args.plan.now c.in-PartialAgg.keys c.in-PartialAgg.calls c.in-PartialAgg.child c.get-in-PartialAgg.result.now c.in-PartialAgg.is c.get-in-PartialAgg.ensures) c.push_part-in-PartialAgg.ensures

pub push_part-push_part-requires-in-FinalAgg : goal.push_part-push_part-requires-in-FinalAgg
push_part-push_part-requires-in-FinalAgg t c = (search (rules, the_lemmas), fits-finalagg c.args.plan.now c.in-FinalAgg.keys c.in-FinalAgg.calls c.in-FinalAgg.child c.get-in-FinalAgg.result.now c.in-FinalAgg.is c.get-in-FinalAgg.ensures c.requires)

pub push_part-returns-in-FinalAgg : goal.push_part-returns-in-FinalAgg
push_part-returns-in-FinalAgg t c =
    same_reads c.push_part-in-FinalAgg.result c.args.found.now c.push_part-in-FinalAgg.new.found _ _ (reads-last c.args.counts.now c.args.k c.args.plan.now c.in-FinalAgg.keys c.in-FinalAgg.calls c.in-FinalAgg.child c.get-in-FinalAgg.result.now c.in-FinalAgg.is c.get-in-FinalAgg.ensures) c.push_part-in-FinalAgg.ensures

pub push_part-push_part-requires-in-Sort : goal.push_part-push_part-requires-in-Sort
push_part-push_part-requires-in-Sort t c = (search (rules, the_lemmas), fits-sort c.args.plan.now c.in-Sort.keys c.in-Sort.child c.get-in-Sort.result.now c.in-Sort.is c.get-in-Sort.ensures c.requires)

pub push_part-returns-in-Sort : goal.push_part-returns-in-Sort
push_part-returns-in-Sort t c =
    same_reads c.push_part-in-Sort.result c.args.found.now c.push_part-in-Sort.new.found _ _ (reads-sort c.args.counts.now c.args.k c.args.plan.now c.in-Sort.keys c.in-Sort.child c.get-in-Sort.result.now c.in-Sort.is c.get-in-Sort.ensures) c.push_part-in-Sort.ensures

pub push_part-push_part-requires-in-LocalLimit : goal.push_part-push_part-requires-in-LocalLimit
push_part-push_part-requires-in-LocalLimit t c = (search (rules, the_lemmas), fits-locallimit c.args.plan.now c.in-LocalLimit.count c.in-LocalLimit.child c.get-in-LocalLimit.result.now c.in-LocalLimit.is c.get-in-LocalLimit.ensures c.requires)

pub push_part-returns-in-LocalLimit : goal.push_part-returns-in-LocalLimit
push_part-returns-in-LocalLimit t c =
    same_reads c.push_part-in-LocalLimit.result c.args.found.now c.push_part-in-LocalLimit.new.found _ _ (reads-local c.args.counts.now c.args.k c.args.plan.now c.in-LocalLimit.count c.in-LocalLimit.child c.get-in-LocalLimit.result.now c.in-LocalLimit.is c.get-in-LocalLimit.ensures) c.push_part-in-LocalLimit.ensures

pub push_part-push_part-requires-in-GlobalLimit : goal.push_part-push_part-requires-in-GlobalLimit
push_part-push_part-requires-in-GlobalLimit t c = (search (rules, the_lemmas), fits-globallimit c.args.plan.now c.in-GlobalLimit.count c.in-GlobalLimit.skip c.in-GlobalLimit.child c.get-in-GlobalLimit.result.now c.in-GlobalLimit.is c.get-in-GlobalLimit.ensures c.requires)

pub push_part-returns-in-GlobalLimit : goal.push_part-returns-in-GlobalLimit
push_part-returns-in-GlobalLimit t c =
    same_reads c.push_part-in-GlobalLimit.result c.args.found.now c.push_part-in-GlobalLimit.new.found _ _ (reads-global c.args.counts.now c.args.k c.args.plan.now c.in-GlobalLimit.count c.in-GlobalLimit.skip c.in-GlobalLimit.child c.get-in-GlobalLimit.result.now c.in-GlobalLimit.is c.get-in-GlobalLimit.ensures) c.push_part-in-GlobalLimit.ensures

pub push_all_parts-parts-preserved : goal.push_all_parts-parts-preserved
push_all_parts-parts-preserved t c =
    part_more c.args.counts.now c.args.plan.now c.parts.k c.args.found.now c.parts.found c.push_part.new.found c.parts.invariant c.in_ok-push_part.ensures

pub push_part-push_all_parts-requires : goal.push_part-push_all_parts-requires
push_part-push_all_parts-requires t c =
    (search (rules, the_lemmas), fits-exchange c.args.plan.now c.in-Exchange.to c.in-Exchange.child c.get-in-Exchange.result.now c.in-Exchange.is c.get-in-Exchange.ensures c.requires)

pub push_part-push_side-requires : goal.push_part-push_side-requires
push_part-push_side-requires t c = (search (rules, the_lemmas), fits-join-left c.args.plan.now c.in-Join.way c.in-Join.kind _ c.in-Join.left_width c.in-Join.right_width c.in-Join.left c.in-Join.right c.get-in-Join.result.now c.in-Join.is c.get-in-Join.ensures c.requires)

pub push_part-push_side-requires-in-Join : goal.push_part-push_side-requires-in-Join
push_part-push_side-requires-in-Join t c = (search (rules, the_lemmas), fits-join-right c.args.plan.now c.in-Join.way c.in-Join.kind _ c.in-Join.left_width c.in-Join.right_width c.in-Join.left c.in-Join.right c.get-in-Join-2.result.now c.in-Join.is c.get-in-Join-2.ensures c.requires)

pub push_part-returns-in_ok-push_sample-in-Exchange : goal.push_part-returns-in_ok-push_sample-in-Exchange
push_part-returns-in_ok-push_sample-in-Exchange t c =
    more_reads c.push_all_parts.result c.args.found.now c.push_sample.new.found c.push_all_parts.new.found
    (sample_reads c.args.counts.now c.in-Exchange.to) (all_reads c.args.counts.now c.get-in-Exchange.result.now) _ c.in_ok-push_sample-in-Exchange.ensures
    (reads-exchange c.args.counts.now c.args.k c.args.plan.now c.in-Exchange.to c.in-Exchange.child c.get-in-Exchange.result.now c.in-Exchange.is c.get-in-Exchange.ensures) c.push_all_parts.ensures

pub push_part-returns-in_ok-push_side-in-Join : goal.push_part-returns-in_ok-push_side-in-Join
push_part-returns-in_ok-push_side-in-Join t c =
    more_reads c.push_side-in-Join.result c.args.found.now c.push_side.new.found c.push_side-in-Join.new.found
    (side_reads c.takes_left.result c.args.counts.now c.get-in-Join.result.now c.args.k) (side_reads c.takes_right.result c.args.counts.now c.get-in-Join-2.result.now c.args.k) _
    c.in_ok-push_side-in-Join.ensures
    (reads-join c.args.counts.now c.args.k c.args.plan.now c.in-Join.way c.in-Join.kind _ c.in-Join.left_width c.in-Join.right_width c.in-Join.left c.in-Join.right c.get-in-Join.result.now c.get-in-Join-2.result.now c.takes_left.result c.takes_right.result
    c.in-Join.is c.get-in-Join.ensures c.get-in-Join-2.ensures c.takes_left.ensures c.takes_right.ensures) c.push_side-in-Join.ensures

pub push_part-parts-before-requires : goal.push_part-parts-before-requires
push_part-parts-before-requires t c = fits-union-left c.args.plan.now c.in-Union.left c.in-Union.right c.get-first.result.now c.in-Union.is c.get-first.ensures c.requires

pub push_part-push_part-requires-then-k-before : goal.push_part-push_part-requires-then-k-before
push_part-push_part-requires-then-k-before t c = (search (rules, the_lemmas), fits-union-left c.args.plan.now c.in-Union.left c.in-Union.right c.get-first.result.now c.in-Union.is c.get-first.ensures c.requires)

pub push_part-push_part-requires-else-k-before : goal.push_part-push_part-requires-else-k-before
push_part-push_part-requires-else-k-before t c = (search (rules, the_lemmas), fits-union-right c.args.plan.now c.in-Union.left c.in-Union.right c.get-second.result.now c.in-Union.is c.get-second.ensures c.requires)

pub push_part-returns-then-k-before : goal.push_part-returns-then-k-before
push_part-returns-then-k-before t c =
    same_reads c.push_part-then-k-before.result c.args.found.now c.push_part-then-k-before.new.found _ _
    (reads-left c.args.counts.now c.args.k c.parts-before.result c.args.plan.now c.in-Union.left c.in-Union.right c.get-first.result.now c.in-Union.is c.get-first.ensures c.parts-before.ensures (omega arith)) c.push_part-then-k-before.ensures

pub push_part-returns-else-k-before : goal.push_part-returns-else-k-before
push_part-returns-else-k-before t c =
    same_reads c.push_part-else-k-before.result c.args.found.now c.push_part-else-k-before.new.found _ _
    (reads-right c.args.counts.now c.args.k c.parts-before.result c.args.plan.now c.in-Union.left c.in-Union.right c.get-first.result.now c.get-second.result.now c.in-Union.is c.get-first.ensures c.get-second.ensures c.parts-before.ensures (omega arith))
    c.push_part-else-k-before.ensures
