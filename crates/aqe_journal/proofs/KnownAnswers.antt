-- The record of SELECT count(*) FROM t over two files, written out by hand from the rules: a check of the definitions.
use Rattle.std.proofs.Common.{◌≡◌, ℕ, true, List, [], ◌∷◌, refl, pos, Some}
use Rattle.std.specs.Int.{int_wrap}
use Rattle.aqe_values.specs.declared.value.Value.TheVariants.{Int, BigInt}
use Rattle.aqe_values.specs.declared.schema.Field.{Field}
use Rattle.aqe_values.specs.declared.sql_type.SqlType.TheVariants as type
use Rattle.aqe_expr.specs.declared.expr.Expr.{Literal}
use Rattle.aqe_logical.specs.declared.plan.AggCall.{AggCall}
use Rattle.aqe_logical.specs.declared.plan.AggFun.TheVariants.{Count}
use Rattle.aqe_logical.specs.declared.plan.Logical as logical
use Rattle.aqe_logical.specs.declared.plan.Logical.{Logical}
use Rattle.aqe_logical.specs.Shapes.{aggregated}
use Rattle.aqe_logical.specs.Answers.{Row, Tables}
use Rattle.aqe_settings.specs.Values.{default_values}
use Rattle.aqe_rects.specs.Rectangles.{plain_rects}
use Rattle.aqe_physical.specs.declared.target.Target.TheVariants as target
use Rattle.aqe_physical.specs.declared.target.StageKind.TheVariants as kind
use Rattle.aqe_physical.specs.declared.plan.Plan as plan
use Rattle.aqe_physical.specs.declared.plan.Plan.{Plan}
use Rattle.aqe_physical.specs.Shapes.{moved, grouped, finished}
use Rattle.aqe_scheduler.specs.declared.fate.Fate.TheVariants as fate
use Rattle.aqe_scheduler.specs.Rest.{rest_ending}
use Rattle.aqe_journal.specs.declared.record.Finish.TheVariants.{Done}
use Rattle.aqe_journal.specs.declared.record.RunNote.{RunNote}
use Rattle.aqe_journal.specs.declared.record.StageNote.{StageNote}
use Rattle.aqe_journal.specs.declared.record.QueryRecord.{QueryRecord}
use Rattle.aqe_journal.specs.Asked.{Asked}
use Rattle.aqe_journal.specs.States.{State, first_state, with_event, with_marks}
use Rattle.aqe_journal.specs.LegalRecord.{IsFirst, never, goes_on, turns, settled, begun, one_on, at_end, record_of, Legal}

abbrev count : List AggCall
count = record { fun = Count; arg = Literal (Int (pos 1)) } ∷ []

abbrev field : Field
field = record { name = []; kind = type.BigInt }

abbrev column : Field
column = record { name = []; kind = type.Int }

abbrev tables : Tables
tables = (((Int (pos 7) ∷ []) ∷ (Int (pos 8) ∷ []) ∷ []) ∷ ((Int (pos 9) ∷ []) ∷ []) ∷ []) ∷ []

abbrev query : Logical
query = aggregated [] count (field ∷ []) (logical.Scan 0 (column ∷ []))

abbrev partial : Plan
partial = grouped [] count (plan.Scan 0 2)

abbrev first : Plan
first = finished 0 count (moved target.Single partial)

abbrev read : Plan
read = finished 0 count (plan.Read (record { 0 = 0 }) 2 1 (plain_rects 2 1))

abbrev asked : Asked
asked = record { query = query; tables = tables; estimates = record { bytes = 6; files = 2 } ∷ []; settings = default_values; events = []; rest_runs = true }

-- at position 0 the shuffle is made; at position 2 it is whole, and the result is made
abbrev at_0 : State
at_0 = with_marks (settled (first_state query first))

abbrev at_1 : State
at_1 = with_marks (with_event at_0 (rest_ending (0, 0)))

abbrev at_2 : State
at_2 = with_marks (settled (with_event at_1 (rest_ending (0, 1))))

abbrev at_3 : State
at_3 = with_marks (settled (with_event at_2 (rest_ending (1, 0))))

abbrev cell : ℕ → List (List Row)
cell n = ((BigInt (pos n) ∷ []) ∷ []) ∷ []

abbrev shuffle_note : StageNote
shuffle_note = record { kind = kind.Shuffle target.Single; body = partial; born = 0; done = Some 2; outputs = (record { 0 = 0 }, cell 2) ∷ (record { 0 = 1 }, cell 1) ∷ [] }

abbrev result_note : StageNote
result_note = record { kind = kind.Result; body = read; born = 2; done = Some 3; outputs = (record { 0 = 0 }, cell 3) ∷ [] }

abbrev ran : ℕ → ℕ → ℕ → RunNote
ran position stage task = record { position = position; stage = record { 0 = stage }; task = record { 0 = task } }

abbrev note : QueryRecord
note = record {
  query = 4;
  stages = shuffle_note ∷ result_note ∷ [];
  versions = record { position = 0; logical = query; plan = first } ∷ [];
  fates = fate.Counted ∷ fate.Counted ∷ fate.Counted ∷ [];
  runs = ran 1 0 0 ∷ ran 2 0 1 ∷ ran 3 1 0 ∷ [];
  rows = (BigInt (pos 3) ∷ []) ∷ [];
  finish = Done;
}

shows : note ≡ record_of 4 asked at_3 Done
unfolding int_wrap
shows = refl

legal : IsFirst asked first → Legal note asked
legal fits = record {
  last = at_3;
  runs = one_on at_2 at_3 (rest_ending (1, 0))
      (one_on at_1 at_2 (rest_ending (0, 1))
      (one_on at_0 at_1 (rest_ending (0, 0)) (begun first fits) refl refl (goes_on at_0 (rest_ending (0, 0)) refl))
      refl refl (turns at_1 (with_event at_1 (rest_ending (0, 1))) (rest_ending (0, 1)) refl (never (with_event at_1 (rest_ending (0, 1))) refl)))
      refl refl (turns at_2 (with_event at_2 (rest_ending (1, 0))) (rest_ending (1, 0)) refl (never (with_event at_2 (rest_ending (1, 0))) refl));
  ends = at_end Done refl;
  shows = shows;
}
