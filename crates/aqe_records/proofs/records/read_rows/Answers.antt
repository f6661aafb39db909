use Rattle.std.proofs.Common.{Bor, List, ℕ, ◌∙◌, sym, refl, rules, inl, inr, Some, ◌∷◌, [], ◌++◌}
use Rattle.csv.specs.Reading.{Reached, strip_bom}
use Rattle.csv.specs.Records.{fields_of}
use Rattle.csv.specs.declared.parser.State.TheVariants as st
use Rattle.csv.proofs.ReadFacts.{rows-end, rows-more}
use Rattle.aqe_records.specs.FileRows.{file_config, row_of}
use Rattle.aqe_records.specs.Records.{AreTexts}
use Rattle.aqe_records.proofs.RecordFacts.{all_taken, awaited_more, fields_short, no_rows, records_reached, refused_cause, rows_added, texts_more}
use Rattle.aqe_records.proofs.records.read_rows.Goals as goal

pub records-init : goal.records-init
unfolding Reached AreTexts
records-init c =
    let fr = c.from_reader-reader.ensures in (
      fr.trim ∙ search rules,
      inr (inr (fr.has_headers ∙ search rules, fr.headers)),
      fr.flexible ∙ search rules,
      fr.config ∙ search rules,
      [],
      c.new-rows.ensures ∙ no_rows (row_of c.slice-columns.result.now) c.args.form.now.header,
      strip_bom c.args.bytes.now,
      fr.source,
      (sym fr.state, refl),
      tt,
      refl,
    )

pub add_row-requires-clause-short : goal.add_row-requires-clause-short
add_row-requires-clause-short c =
    let inv = c.records.invariant in
    let r = rw c.in-Ok-true.field-0-test at (c.in-Ok-true.ensures.reads inv.0 inv.1) in
    fields_short c.args.form.now.separator c.args.bytes.now inv.4 c.records.reader.state inv.6 _ _ _ c.requires.size inv.8 (rw (inv.3, inv.7) at r.0)

pub returns-in-Ok-false-clause-rows : goal.returns-in-Ok-false-clause-rows
returns-in-Ok-false-clause-rows c =
    let inv = c.records.invariant in
    let r = rw c.in-Ok-false.field-0-test at (c.in-Ok-false.ensures.reads inv.0 inv.1) in
    let none = rows-end (λ (s : Bor (List ℕ)). Some s.now) c.records.reader c.read_record.new.self _ (file_config c.args.form.now.separator) inv.6 inv.3 inv.7 r in
    let all = records_reached (file_config c.args.form.now.separator) (strip_bom c.args.bytes.now) inv.4 c.records.reader.state inv.6 inv.8 none in
    rw (inv.5, all, c.slice-columns.ensures) refl

pub returns-in-Ok-false-clause-taken : goal.returns-in-Ok-false-clause-taken
returns-in-Ok-false-clause-taken c =
    let inv = c.records.invariant in
    let r = rw c.in-Ok-false.field-0-test at (c.in-Ok-false.ensures.reads inv.0 inv.1) in
    let none = rows-end (λ (s : Bor (List ℕ)). Some s.now) c.records.reader c.read_record.new.self _ (file_config c.args.form.now.separator) inv.6 inv.3 inv.7 r in
    all_taken c.args.form.now.separator c.args.bytes.now inv.4 c.records.reader.state inv.6 inv.8 none inv.9

pub returns-in-Err-clause-refused : goal.returns-in-Err-clause-refused
returns-in-Err-clause-refused c e =
    let inv = c.records.invariant in
    refused_cause (λ (s : Bor (List ℕ)). Some s.now) c.records.reader c.read_record.new.self c.args.form.now.separator c.args.bytes.now inv.4 inv.6 c.in-Err.error.kind
    inv.3 inv.2 inv.7 inv.8 (c.in-Err.ensures.why inv.0 inv.1) (sym c.fail_of.ensures ∙ cc e)

pub records-preserved : goal.records-preserved
records-preserved c =
    let inv = c.records.invariant in
    let r = rw c.in-Ok-true.field-0-test at (c.in-Ok-true.ensures.reads inv.0 inv.1) in
    let m = rows-more (λ (s : Bor (List ℕ)). Some s.now) c.records.reader c.read_record.new.self (fields_of c.read_record.new.row) (file_config c.args.form.now.separator) st.StartRecord (strip_bom c.args.bytes.now) inv.6 inv.4 inv.3 inv.7 inv.8 r in
    let added = c.in_ok-add_row-in-Ok-true.ensures in (
      r.3 ∙ inv.0,
      inl (c.in-Ok-true.ensures.ready inv.0),
      c.in-Ok-true.ensures.flexible ∙ inv.2,
      r.2 ∙ inv.3,
      inv.4 ++ fields_of c.read_record.new.row ∷ [],
      rows_added c.slice-columns.result.now c.args.form.now.header c.records.awaited inv.4 (fields_of c.read_record.new.row) c.records.rows _ inv.5 inv.10 added.rows,
      m.0,
      m.1,
      m.2,
      texts_more inv.4 (fields_of c.read_record.new.row) inv.9 (c.in-Ok-true.ensures.text inv.0),
      added.read ∙ sym (awaited_more c.args.form.now.header inv.4 (fields_of c.read_record.new.row)),
    )
