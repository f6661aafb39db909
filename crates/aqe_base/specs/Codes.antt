-- The exit status of the program for each way in which a run ends.
use Rattle.std.specs.Prelude.{ℕ}
use Rattle.aqe_base.specs.declared.status.Status.{Status}
use Rattle.aqe_base.specs.declared.status.Status.TheVariants as status

-- 0 is success; each kind of refusal has a code of its own, and the kinds within it share that code
abbrev pub code_of : Status → ℕ
code_of status.Done = 0
code_of status.Usage = 1
code_of (status.Syntax kind) = 2
code_of (status.Analysis kind) = 2
code_of (status.BadTable kind) = 2
code_of status.Settings = 3
code_of status.Events = 3
code_of status.ReadFault = 4
code_of status.Missing = 4
code_of status.WriteFault = 5
code_of (status.Limit kind) = 6
code_of status.Aborted = 7
code_of status.StageAborted = 7
code_of status.Unfinished = 8
code_of status.Memory = 9
code_of status.NotBuilt = 10
