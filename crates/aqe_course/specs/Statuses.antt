-- Where each status comes from.
use Rattle.std.specs.Prelude.{Bool, true, false}
use Rattle.aqe_base.specs.declared.status.Status.{Status}
use Rattle.aqe_base.specs.declared.status.Status.TheVariants as status

-- all went well; the words; the course of the run; its store, sink or memory; or what no run answers so far
pub data Side : Type 0 where
  success : Side
  words : Side
  course : Side
  store : Side
  sink : Side
  memory : Side
  later : Side

abbrev pub side_of : Status → Side
side_of status.Done = success
side_of status.Usage = words
side_of (status.Syntax kind) = course
side_of (status.Analysis kind) = course
side_of (status.Limit kind) = course
side_of status.Missing = course
side_of status.NotBuilt = course
side_of status.ReadFault = store
side_of status.WriteFault = sink
side_of status.Memory = memory
side_of (status.BadTable kind) = later
side_of status.Settings = later
side_of status.Events = later
side_of status.Aborted = later
side_of status.StageAborted = later
side_of status.Unfinished = later

abbrev pub is_of_course : Side → Bool
is_of_course course = true
is_of_course other = false

abbrev pub is_outside : Side → Bool
is_outside store = true
is_outside sink = true
is_outside memory = true
is_outside other = false

abbrev pub is_of_run : Side → Bool
is_of_run later = false
is_of_run other = true

-- a refusal of the course: the command and the files are its cause
abbrev pub is_refusal : Status → Bool
is_refusal end = is_of_course (side_of end)

-- a failure, which may come at any place that reads, writes or takes memory
abbrev pub is_failure : Status → Bool
is_failure end = is_outside (side_of end)

-- the answers of a run
abbrev pub is_answer : Status → Bool
is_answer end = is_of_run (side_of end)
