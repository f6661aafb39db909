-- What a run has loaded has the shape of its schema.
use Rattle.std.proofs.Common.{◌≡◌, ◌≢◌, ℕ, zero, suc, ◌<◌, ◌≤◌, ◌==◌, Bool, true, false, List, [], ◌∷◌, ◌++◌, map, length, Option, Some, None, refl, sym, ap, subst, ◌∙◌, arith, slice_get}
use Rattle.std.specs.Prelude.{All, IfSome, IsSomeAnd}
use Rattle.std.proofs.lemmas.Bool.Decides.{Decides-eqb}
use Rattle.std.proofs.lemmas.List.Elements.{All-nil, All-cons}
use Rattle.aqe_values.specs.declared.schema.Field.{Field}
use Rattle.aqe_values.specs.declared.value.Value.{Value}
use Rattle.aqe_store.specs.Files.{Entries}
use Rattle.aqe_trees.specs.declared.statement.Stmt.{Stmt}
use Rattle.aqe_trees.specs.declared.statement.Stmt.TheVariants as statement
use Rattle.aqe_tables.specs.declared.catalog.CatalogTable.{CatalogTable}
use Rattle.aqe_records.specs.declared.form.FileForm.{FileForm}
use Rattle.aqe_tables.specs.declared.loaded.Table.{Table}
use Rattle.aqe_records.specs.FileRows.{file_rows, row_of}
use Rattle.aqe_tables.specs.Folder.{DataFile}
use Rattle.aqe_tables.specs.Load.{AreWide, IsShaped, IsTableOf, files_limit, table_rows}
use Rattle.aqe_tables.specs.Loaded.{AreShaped, Slots, table_at}
use Rattle.aqe_course.specs.Course.{IsCarriedOut, Query, Runs, State}
use Rattle.aqe_course.specs.Course.Runs.{none, more}
use Rattle.aqe_course.specs.Laws.{HasShapedTables, RunsKeepShapes}
use Rattle.aqe_course.specs.Loading.{AreLoaded, IsAdded}
use Rattle.aqe_course.specs.Loading.AreLoaded.{all, again, next}

-- the rows of a file are as wide as its columns are many
row_wide : (columns : List Field) (fields : List (List ℕ)) → length (row_of columns fields) ≡ length columns
row_wide [] fields = refl
row_wide (column ∷ columns) [] = ap suc (row_wide columns [])
row_wide (column ∷ columns) (field ∷ fields) = ap suc (row_wide columns fields)

rows_wide : (columns : List Field) (records : List (List (List ℕ))) → AreWide (length columns) (map (row_of columns) records)
rows_wide columns [] = All-nil (λ (row : List Value). length row ≡ length columns)
rows_wide columns (record_ ∷ records) =
    All-cons (λ (row : List Value). length row ≡ length columns) (row_of columns record_) (map (row_of columns) records) (row_wide columns record_) (rows_wide columns records)

files_wide : (form : FileForm) (parts : List DataFile) → All (AreWide (length form.schema)) (map (λ part. file_rows form part.1) parts)
files_wide form [] = All-nil (AreWide (length form.schema))
files_wide form (part ∷ parts) =
    All-cons (AreWide (length form.schema)) (file_rows form part.1) (map (λ part. file_rows form part.1) parts) (rows_wide form.schema _) (files_wide form parts)

table_wide : (form : FileForm) (parts : List DataFile) → All (AreWide (length form.schema)) (table_rows form parts)
table_wide form [] = All-cons (AreWide (length form.schema)) [] [] (All-nil (λ (row : List Value). length row ≡ length form.schema)) (All-nil (AreWide (length form.schema)))
table_wide form (part ∷ parts) = files_wide form (part ∷ parts)

some_files : (form : FileForm) (parts : List DataFile) → 0 < length (table_rows form parts)
some_files form [] = omega arith
some_files form (part ∷ parts) = omega arith

count_files : (form : FileForm) (parts : List DataFile) → length (map (λ part. file_rows form part.1) parts) ≡ length parts
count_files form [] = refl
count_files form (part ∷ parts) = ap suc (count_files form parts)

few_files : (form : FileForm) (parts : List DataFile) → length parts ≤ files_limit → length (table_rows form parts) ≤ files_limit
few_files form [] few = omega arith
few_files form (part ∷ parts) few = omega (arith, few, count_files form (part ∷ parts))

-- the table of the files is shaped
shaped : (files : Entries) (form : CatalogTable) (before : ℕ) (loaded : Table) → IsTableOf files form before loaded → IsShaped (length form.form.schema) loaded
shaped files form before loaded t = record {
  some = subst (λ rows. 0 < length rows) (sym t.rows) (some_files form.form t.parts);
  few = subst (λ rows. length rows ≤ files_limit) (sym t.rows) (few_files form.form t.parts t.few);
  wide = subst (All (AreWide (length form.form.schema))) (sym t.rows) (table_wide form.form t.parts);
}

-- one table more is created
created_later : (P : CatalogTable → Type 0) (catalog : List CatalogTable) (one : CatalogTable) (n : ℕ) → IsSomeAnd (slice_get catalog n) P → IsSomeAnd (slice_get (catalog ++ one ∷ []) n) P
created_later P [] one n h = absurd h
created_later P (table ∷ catalog) one zero h = h
created_later P (table ∷ catalog) one (suc n) h = created_later P catalog one n h

pub grown : (catalog : List CatalogTable) (slots : Slots) (one : CatalogTable) → AreShaped catalog slots → AreShaped (catalog ++ one ∷ []) slots
grown catalog slots one h n = by (table_at slots n) (h n)
  where
    by : (o : Option Table) → IfSome o (λ loaded. IsSomeAnd (slice_get catalog n) (λ table. IsShaped (length table.form.schema) loaded))
        → IfSome o (λ loaded. IsSomeAnd (slice_get (catalog ++ one ∷ []) n) (λ table. IsShaped (length table.form.schema) loaded))
    by None k = tt
    by (Some loaded) k = created_later (λ table. IsShaped (length table.form.schema) loaded) catalog one n k

-- one table more is loaded: it has its shape, and the others stay
pub one_more : (catalog : List CatalogTable) (before after : Slots) (n : ℕ) → AreShaped catalog before → ((m : ℕ) → m ≢ n → table_at after m ≡ table_at before m)
    → IfSome (table_at after n) (λ loaded. IsSomeAnd (slice_get catalog n) (λ table. IsShaped (length table.form.schema) loaded)) → AreShaped catalog after
one_more catalog before after n h others there m = by (m == n) refl
  where
    by : (b : Bool) → (m == n) ≡ b → IfSome (table_at after m) (λ loaded. IsSomeAnd (slice_get catalog m) (λ table. IsShaped (length table.form.schema) loaded))
    by true e = let same : m ≡ n = (Decides-eqb m n).0 e in rw same there
    by false e =
        let other : m ≢ n = λ same. let bad : true ≡ false = sym ((Decides-eqb m n).1 same) ∙ e in cc bad in
        rw (others m other) (h m)

added : (files : Entries) (catalog : List CatalogTable) (before after : Slots) (n : ℕ) → IsAdded files catalog before n after → AreShaped catalog before → AreShaped catalog after
added files catalog before after n a h = one_more catalog before after n h a.put.others (rw a.put.is there)
  where
    there : IsSomeAnd (slice_get catalog n) (λ table. IsShaped (length table.form.schema) a.table)
    there = subst (λ o. IsSomeAnd o (λ table. IsShaped (length table.form.schema) a.table)) (sym a.created) (shaped files a.form _ a.table a.is)

loaded_all : (files : Entries) (catalog : List CatalogTable) (before after : Slots) (numbers : List ℕ) → AreLoaded files catalog before numbers after → AreShaped catalog before → AreShaped catalog after
loaded_all files catalog _ _ _ (all before) h = h
loaded_all files catalog _ _ _ (again before after n numbers there rest) h = loaded_all files catalog before after numbers rest h
loaded_all files catalog _ _ _ (next before now after n numbers free one rest) h = loaded_all files catalog now after numbers rest (added files catalog before now n one h)

-- a statement keeps what is loaded shaped
one_keeps : (files : Entries) (now after : State) (one : Stmt) (answered : List Query) → IsCarriedOut files now one after answered → HasShapedTables now → HasShapedTables after
one_keeps files now after (statement.CreateTable form) answered (x, e, y) h = rw e (grown now.catalog now.tables (Rattle.aqe_tables.specs.Catalog.catalog_table form) h)
one_keeps files now after (statement.Set form) answered x h = absurd x
one_keeps files now after (statement.Query tree) answered x h =
    subst (λ catalog. AreShaped catalog after.tables) (sym x.kept) (loaded_all files now.catalog now.tables after.tables _ x.loaded h)

keeps : (files : Entries) (from now : State) (script left : List Stmt) (queries : List Query) → Runs files from script queries now left → HasShapedTables from → HasShapedTables now
keeps files _ _ _ _ _ (none now left) h = h
keeps files _ now _ left _ (more from after _ one rest _ answered later step runs) h = keeps files after now rest left later runs (one_keeps files from after one answered step h)

pub all_keep_shapes : RunsKeepShapes
all_keep_shapes files script left queries now h = keeps files _ now script left queries h (λ n. tt)
