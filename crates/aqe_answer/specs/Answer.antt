-- What a query leaves.
use Rattle.std.specs.Prelude.{◌≡◌, ◌⊎◌, ℕ, List, [], ◌∷◌, ◌++◌, map, flat_map}
use Rattle.aqe_base.specs.declared.stage_id.StageId.{StageId}
use Rattle.aqe_base.specs.declared.ids.TaskId.{TaskId}
use Rattle.aqe_journal.specs.declared.record.QueryRecord.{QueryRecord}
use Rattle.aqe_session.specs.Query.{ran_of}
use Rattle.aqe_course.specs.Course.{Query}
use Rattle.aqe_course.specs.Ending.{IsRecordOf, IsTextOf}

-- the journal has one record more, that of the query
pub record IsRecorded (query : Query) (old new : List QueryRecord) : Type 0 where
  pub note : QueryRecord
  pub is : IsRecordOf query note
  pub grown : new ≡ old ++ note ∷ []

-- and the text is that of the record
pub record IsPrinted (query : Query) (old new : List QueryRecord) (text : List ℕ) : Type 0 where
  pub note : QueryRecord
  pub is : IsRecordOf query note
  pub grown : new ≡ old ++ note ∷ []
  pub has : IsTextOf query note text

-- the journal is as it was, or has the query's record
abbrev pub MayBeRecorded : Query → List QueryRecord → List QueryRecord → Type 0
MayBeRecorded query old new = (new ≡ old) ⊎ IsRecorded query old new

-- the stage and the task of each run of a record, in order
abbrev pub runs_of : QueryRecord → List (StageId × TaskId)
runs_of note = map ran_of note.runs

-- what a runner ran grew by exactly the runs of the records by which the journal grew, record after record
pub record HasRun (old new : List QueryRecord) (before after : List (StageId × TaskId)) : Type 0 where
  pub notes : List QueryRecord
  pub grown : new ≡ old ++ notes
  pub ran : after ≡ before ++ flat_map runs_of notes
