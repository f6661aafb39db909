-- What reading a whole file gives, and why it may be refused.
use Rattle.std.specs.Prelude.{◌≡◌, ℕ, ◌≤◌, ◌<◌, ◌+◌, ◌++◌, List, length, Option, Result, Err, IsSomeAnd}
use Rattle.std.specs.Io.KnownBytes.{Consumes, IsAtEnd}
use Rattle.aqe_store.specs.declared.read.ReadFail.{ReadFail}
use Rattle.aqe_store.specs.declared.read.ReadFail.TheVariants.{Failed, Missing}
use Rattle.aqe_store.specs.Files.{Entries, content_of}
use Rattle.aqe_store.specs.Told.{Open, KeepsFiles, advanced, left_of}
use Rattle.aqe_store.specs.Causes.{Rose}

-- the file under the path has more bytes than this
abbrev pub IsLonger : Entries → List ℕ → ℕ → Type 0
IsLonger files path most = IsSomeAnd (content_of files path) (λ content. most < length content)

-- a read that failed raises the count of faults by one at most, and no other answer changes it
abbrev pub CountsFailedReads : {A : Type 0} → Result A ReadFail → ℕ → ℕ → Type 0
CountsFailedReads (Err Failed) before now = now ≤ before + 1
CountsFailedReads result before now = now ≡ before

-- a file that is missing raises the count of misses by one at most, and no other answer changes it
abbrev pub CountsMissingFiles : {A : Type 0} → Result A ReadFail → ℕ → ℕ → Type 0
CountsMissingFiles (Err Missing) before now = now ≤ before + 1
CountsMissingFiles result before now = now ≡ before

-- no count falls, a failure alone raises the faults, and a file that is missing alone the misses
pub record HasReadCauses {A : Type 0} (faults faults' misses misses' : ℕ) (result : Result A ReadFail) : Type 0 where
  pub faults_stay : faults ≤ faults'
  pub misses_stay : misses ≤ misses'
  pub failed : result ≡ Err Failed → Rose faults faults'
  pub missing : result ≡ Err Missing → Rose misses misses'
  pub failures : CountsFailedReads result faults faults'
  pub absences : CountsMissingFiles result misses misses'

-- these bytes came from the open file since then, in any number of pieces
pub record Came (told told' : Option Entries) (opened opened' : Option Open) (bytes : List ℕ) : Type 0 where
  pub keeps : KeepsFiles told told'
  pub moves : opened' ≡ advanced (length bytes) opened
  pub left : Consumes (left_of told opened) (left_of told' opened') bytes

-- at most so many more bytes of the open file were taken
abbrev pub TakesAtMost : Option Open → Option Open → ℕ → Type 0
TakesAtMost opened opened' most = (n : ℕ) × (n ≤ most) × (opened' ≡ advanced n opened)

-- one piece came: its bytes stand behind those before, and where it has none the file is at its end
pub record CameNext (told told' : Option Entries) (opened opened' : Option Open) (bytes bytes' : List ℕ) (n : ℕ) : Type 0 where
  pub piece : (came : List ℕ) × (bytes' ≡ bytes ++ came) × (length came ≡ n) × Came told told' opened opened' came
  pub at_end : n ≡ 0 → IsAtEnd (left_of told' opened')

-- the bytes that came so far, of which there is at most one more than the most
pub record IsReading (told told' : Option Entries) (opened opened' : Option Open) (bytes : List ℕ) (most : ℕ) : Type 0 where
  pub came : Came told told' opened opened' bytes
  pub bound : length bytes ≤ most + 1
