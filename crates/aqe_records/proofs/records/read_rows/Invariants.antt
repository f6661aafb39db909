-- the records that were read are those reached in the file, and their rows are made
use Rattle.std.proofs.Common.{◌≡◌, ℕ, List, Some, map, true}
use Rattle.csv.specs.Reading.{Reached, Ready, source_of, strip_bom}
use Rattle.csv.specs.declared.parser.State.TheVariants as st
use Rattle.csv.specs.declared.reader.Trim.TheVariants as trim
use Rattle.aqe_records.specs.FileRows.{data_records, file_config, row_of}
use Rattle.aqe_records.specs.Records.{AreTexts, awaits_header}
use Rattle.aqe_records.proofs.records.read_rows.Given as goal

abbrev pub invariant-records : goal.invariant-records
invariant-records l =
    (l.reader.trim ≡ trim.None) × Ready l.reader × (l.reader.flexible ≡ true) × (l.reader.config ≡ file_config l.fn.form.separator)
    × (read : List (List (List ℕ))) × (l.rows ≡ map (row_of l.columns) (data_records l.fn.form.header read))
    × (left : List ℕ) × (source_of (λ s. Some s.now) l.reader ≡ Some left)
    × Reached (file_config l.fn.form.separator) st.StartRecord (strip_bom l.bytes) read l.reader.state left
    × AreTexts read
    × (l.awaited ≡ awaits_header l.fn.form.header read)
