use Rattle.std.proofs.Common.{rules}
use Rattle.std.proofs.lemmas.Result.{IfOk-weaker}
use Rattle.aqe_task.specs.declared.part_rows.PartRows.{PartRows}
use Rattle.aqe_physical.specs.declared.plan.Plan.{the_lemmas}
use Rattle.aqe_estimates.specs.LoadedTables.{tables_of}
use Rattle.aqe_task.specs.Pieces.{rows_in}
use Rattle.aqe_task.proofs.FormSteps.{files-scan, kept-read, gives-scan, gives-read}
use Rattle.aqe_task.proofs.Broadcasts.{gives-broadcast}
use Rattle.aqe_task.proofs.MadeSteps.{is_below, not_built}
use Rattle.aqe_task.proofs.MadeParts.{built_below, serves_below, can-make, gives-made}
use Rattle.aqe_task.proofs.JoinSteps.{built-left, built-right, below-left, below-right, is-join, given_as, sides_fit, gives-join}
use Rattle.aqe_task.proofs.UnionParts.{built-first, built-second, serves-first, serves-second, gives-first, gives-second}
use Rattle.aqe_task.specs.Sides.{part_on_left, part_on_right}
use Rattle.aqe_task.proofs.part.+part_of.Goals as goal

pub part_of-requires-in-Filter : goal.part_of-requires-in-Filter
part_of-requires-in-Filter t c =
    let below = is_below c.args.body.now c.in-Filter.child c.get-in-Filter.result.now c.in-Filter.is c.get-in-Filter.ensures in (
      search (rules, the_lemmas),
      (
        built_below c.args.body.now c.get-in-Filter.result.now below c.requires.body,
        serves_below (tables_of c.args.tables.now) c.args.outputs.now c.args.k c.args.body.now c.get-in-Filter.result.now below c.requires.served,
      ),
    )

pub scanned-requires : goal.scanned-requires
scanned-requires t c = files-scan (tables_of c.args.tables.now) c.args.outputs.now c.args.k c.args.body.now c.in-Scan.table c.in-Scan.files c.in-Scan.is c.requires.served

pub returns-in-Scan : goal.returns-in-Scan
returns-in-Scan t c =
    IfOk-weaker c.scanned.result _ _ (λ (rows : PartRows) h. gives-scan (tables_of c.args.tables.now) c.args.outputs.now c.args.k c.args.body.now c.in-Scan.table c.in-Scan.files
    (rows_in rows) c.in-Scan.is h) c.scanned.ensures

pub read-requires : goal.read-requires
read-requires t c =
    kept-read (tables_of c.args.tables.now) c.args.outputs.now c.args.k c.args.body.now c.in-Read.stage c.in-Read.maps c.in-Read.reducers c.in-Read.rects c.at.result.now c.in-Read.is
    c.at.ensures c.requires.served

pub returns-in-Read : goal.returns-in-Read
returns-in-Read t c =
    IfOk-weaker c.read.result _ _ (λ (rows : PartRows) h. gives-read (tables_of c.args.tables.now) c.args.outputs.now c.args.k c.args.body.now c.in-Read.stage c.in-Read.maps c.in-Read.reducers
    c.in-Read.rects c.at.result.now (rows_in rows) c.in-Read.is c.at.ensures h) c.read.ensures

pub returns-in-ReadBroadcast : goal.returns-in-ReadBroadcast
returns-in-ReadBroadcast t c =
    IfOk-weaker c.read_all.result _ _ (λ (rows : PartRows) h. gives-broadcast (tables_of c.args.tables.now) c.args.outputs.now c.args.k c.args.body.now c.in-ReadBroadcast.stage (rows_in rows)
    c.in-ReadBroadcast.is h) c.read_all.ensures

pub part_of-left-requires : goal.part_of-left-requires
part_of-left-requires t c = (
  search (rules, the_lemmas),
  (
    built-left c.args.body.now c.in-Join.way c.in-Join.kind c.in-Join.keys c.in-Join.left_width c.in-Join.right_width c.in-Join.left c.in-Join.right c.get.result.now
        c.in-Join.is c.get.ensures c.requires.body,
    below-left (tables_of c.args.tables.now) c.args.outputs.now c.args.k c.args.body.now c.in-Join.way c.in-Join.kind c.in-Join.keys c.in-Join.left_width c.in-Join.right_width c.in-Join.left c.in-Join.right
        c.in-Join.is c.get.result.now c.left_part.result c.get.ensures c.left_part.ensures c.requires.served,
  ),
)

pub part_of-right-requires : goal.part_of-right-requires
part_of-right-requires t c = (
  search (rules, the_lemmas),
  (
    built-right c.args.body.now c.in-Join.way c.in-Join.kind c.in-Join.keys c.in-Join.left_width c.in-Join.right_width c.in-Join.left c.in-Join.right c.get-in-Join.result.now
        c.in-Join.is c.get-in-Join.ensures c.requires.body,
    below-right (tables_of c.args.tables.now) c.args.outputs.now c.args.k c.args.body.now c.in-Join.way c.in-Join.kind c.in-Join.keys c.in-Join.left_width c.in-Join.right_width c.in-Join.left c.in-Join.right
        c.in-Join.is c.get-in-Join.result.now c.right_part.result c.get-in-Join.ensures c.right_part.ensures c.requires.served,
  ),
)

pub joined-requires-clause-join : goal.joined-requires-clause-join
joined-requires-clause-join t c =
    is-join (tables_of c.args.tables.now) c.args.outputs.now c.args.k c.args.body.now c.in-Join.way c.in-Join.kind c.in-Join.keys c.in-Join.left_width c.in-Join.right_width c.in-Join.left c.in-Join.right
    c.in-Join.is c.requires.served

pub joined-requires-clause-sides : goal.joined-requires-clause-sides
joined-requires-clause-sides t c =
    sides_fit (tables_of c.args.tables.now) c.args.outputs.now c.args.k c.args.body.now c.in-Join.way c.in-Join.kind c.in-Join.keys c.in-Join.left_width c.in-Join.right_width c.in-Join.left c.in-Join.right
    c.part_of-left.result c.part_of-right.result c.in-Join.is c.requires.served
    (given_as (tables_of c.args.tables.now) c.args.outputs.now c.get.result.now c.in-Join.left c.left_part.result (part_on_left c.in-Join.way c.args.k) c.part_of-left.result c.get.ensures c.left_part.ensures
    c.part_of-left.ensures)
    (given_as (tables_of c.args.tables.now) c.args.outputs.now c.get-in-Join.result.now c.in-Join.right c.right_part.result (part_on_right c.in-Join.way c.args.k) c.part_of-right.result c.get-in-Join.ensures
    c.right_part.ensures c.part_of-right.ensures)

pub returns-in-Join : goal.returns-in-Join
returns-in-Join t c =
    IfOk-weaker c.joined.result _ _ (λ (rows : PartRows) h. gives-join (tables_of c.args.tables.now) c.args.outputs.now c.args.k c.args.body.now c.in-Join.way c.in-Join.kind c.in-Join.keys c.in-Join.left_width c.in-Join.right_width c.in-Join.left c.in-Join.right
    c.part_of-left.result c.part_of-right.result (rows_in rows) c.in-Join.is
    (given_as (tables_of c.args.tables.now) c.args.outputs.now c.get.result.now c.in-Join.left c.left_part.result (part_on_left c.in-Join.way c.args.k) c.part_of-left.result c.get.ensures c.left_part.ensures
    c.part_of-left.ensures)
    (given_as (tables_of c.args.tables.now) c.args.outputs.now c.get-in-Join.result.now c.in-Join.right c.right_part.result (part_on_right c.in-Join.way c.args.k) c.part_of-right.result c.get-in-Join.ensures
    c.right_part.ensures c.part_of-right.ensures) h) c.joined.ensures

pub part_of-requires : goal.part_of-requires
part_of-requires t c = (
  search (rules, the_lemmas),
  (
    built-first c.args.body.now c.in-Union.left c.in-Union.right c.get-in-None.result.now c.in-Union.is c.get-in-None.ensures c.requires.body,
    serves-first (tables_of c.args.tables.now) c.args.outputs.now c.args.k c.args.body.now c.in-Union.left c.in-Union.right c.in-Union.is c.get-in-Union.result.now c.get-in-Union.ensures c.get-in-None.result.now c.get-in-None.ensures c.in-None.ensures c.requires.served,
  ),
)

pub part_of-requires-in-Some : goal.part_of-requires-in-Some
part_of-requires-in-Some t c = (
  search (rules, the_lemmas),
  (
    built-second c.args.body.now c.in-Union.left c.in-Union.right c.get-in-Some.result.now c.in-Union.is c.get-in-Some.ensures c.requires.body,
    serves-second (tables_of c.args.tables.now) c.args.outputs.now c.args.k c.args.body.now c.in-Union.left c.in-Union.right c.in-Union.is c.get-in-Union.result.now c.get-in-Union.ensures c.get-in-Some.result.now c.get-in-Some.ensures c.in-Some.rest c.in-Some.ensures c.requires.served,
  ),
)

pub returns-in-None : goal.returns-in-None
returns-in-None t c =
    IfOk-weaker c.part_of.result _ _ (λ (rows : PartRows) h. gives-first (tables_of c.args.tables.now) c.args.outputs.now c.args.k c.args.body.now c.in-Union.left c.in-Union.right c.in-Union.is
    c.get-in-Union.result.now c.get-in-Union.ensures c.get-in-None.result.now c.get-in-None.ensures (rows_in rows) c.in-None.ensures h) c.part_of.ensures

pub returns-in-Some : goal.returns-in-Some
returns-in-Some t c =
    IfOk-weaker c.part_of-in-Some.result _ _ (λ (rows : PartRows) h. gives-second (tables_of c.args.tables.now) c.args.outputs.now c.args.k c.args.body.now c.in-Union.left c.in-Union.right c.in-Union.is c.get-in-Union.result.now c.get-in-Union.ensures
    c.get-in-Some.result.now c.get-in-Some.ensures c.in-Some.rest c.in-Some.ensures (rows_in rows) h) c.part_of-in-Some.ensures

pub unreachable-requires : goal.unreachable-requires
unreachable-requires t c = not_built c.args.body.now c.in-Exchange.to c.in-Exchange.child c.in-Exchange.is c.requires.body

pub made-requires : goal.made-requires
made-requires t c =
    can-make (tables_of c.args.tables.now) c.args.outputs.now c.args.k c.args.body.now c.get-in-Filter.result.now (rows_in c.in_ok-rows-in-Filter.rows)
    (is_below c.args.body.now c.in-Filter.child c.get-in-Filter.result.now c.in-Filter.is c.get-in-Filter.ensures) c.requires.served c.in_ok-rows-in-Filter.ensures

pub returns-in_ok-rows-in-Filter : goal.returns-in_ok-rows-in-Filter
returns-in_ok-rows-in-Filter t c =
    IfOk-weaker c.made.result _ _ (λ (rows : PartRows) h. gives-made (tables_of c.args.tables.now) c.args.outputs.now c.args.k c.args.body.now c.get-in-Filter.result.now
    (rows_in c.in_ok-rows-in-Filter.rows) (rows_in rows) (is_below c.args.body.now c.in-Filter.child c.get-in-Filter.result.now c.in-Filter.is c.get-in-Filter.ensures)
    c.in_ok-rows-in-Filter.ensures h) c.made.ensures
