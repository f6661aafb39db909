-- A query that was run left its record.
use Rattle.std.proofs.Common.{◌≡◌, inl, inr, refl, ap, sym, subst, ◌∙◌, ◌<◌, ℕ, zero, suc, List, [], ◌∷◌, ◌++◌, length, arith, Some, None, Result, Ok, Err, slice_get, length-append}
use Rattle.std.specs.Prelude.{IfOk, OnErr}
use Rattle.std.specs.Option.{IsSomeAnd}
use Rattle.std.proofs.lemmas.List.{append-nil}
use Rattle.aqe_base.specs.declared.stage_id.StageId.{StageId}
use Rattle.aqe_base.specs.declared.ids.TaskId.{TaskId}
use Rattle.aqe_base.specs.declared.memory.Memory.{Memory}
use Rattle.aqe_values.specs.declared.schema.Field.{Field}
use Rattle.aqe_logical.specs.declared.plan.Logical.{Logical}
use Rattle.aqe_logical.specs.Columns.{schema_of}
use Rattle.aqe_settings.specs.declared.entry.Value.{Value}
use Rattle.aqe_tables.specs.Loaded.{Slots}
use Rattle.aqe_journal.specs.declared.record.QueryRecord.{QueryRecord}
use Rattle.aqe_session.specs.declared.query.QueryEnd.{QueryEnd}
use Rattle.aqe_session.specs.declared.query.QueryEnd.TheVariants as end
use Rattle.aqe_session.specs.declared.query.Rest.TheVariants as rest
use Rattle.aqe_session.specs.Query.{Adds, EndsQuery, IsDoneOrMemory, asked_of}
use Rattle.aqe_texts.specs.ResultText.{result_text}
use Rattle.aqe_course.specs.Course.{Query, query}
use Rattle.aqe_answer.specs.Answer.{HasRun, IsPrinted, IsRecorded, MayBeRecorded, runs_of}

-- the item behind a list
pub behind : (old : List QueryRecord) (note : QueryRecord) → slice_get (old ++ note ∷ []) (length old) ≡ Some note
behind [] note = refl
behind (x ∷ old) note = behind old note

pub below : (old new : List QueryRecord) (note : QueryRecord) → new ≡ old ++ note ∷ [] → length old < length new
below old new note is = let long = length-append old (note ∷ []) in let same : length new ≡ length (old ++ note ∷ []) = ap (λ ns. length ns) is in omega (arith, long, same)

pub there : (xs : List QueryRecord) (n : ℕ) → n < length xs → slice_get xs n ≡ None → ⊥
there [] n lt e = omega (arith, lt)
there (x ∷ xs) zero lt e = never e
  where
    never : Some x ≡ None → ⊥
    never c = cc (c)
there (x ∷ xs) (suc n) lt e = there xs n (omega (arith, lt)) e

module _ (plan : Logical) (slots : Slots) (settings : List Value) (old new : List QueryRecord) (before after : List (StageId × TaskId)) where
  abbrev this : Query
  this = query (length old) plan slots settings

  abbrev Ends : QueryEnd → Type 0
  Ends told = EndsQuery (asked_of plan slots settings [] rest.Run) old new before after told

  adds : (told : QueryEnd) → told ≡ end.Done → Ends told → Adds (asked_of plan slots settings [] rest.Run) old new before after end.Done
  adds told is e = subst Ends is e

  recorded : Adds (asked_of plan slots settings [] rest.Run) old new before after end.Done → IsRecorded this old new
  recorded a = record { note = a.note; is = record { number = a.number; finish = a.finish; answers = a.answers; rows = a.answers.rows a.finish }; grown = a.grown }

  pub is_below : (told : QueryEnd) → told ≡ end.Done → Ends told → length old < length new
  is_below told is e = let a = adds told is e in below old new a.note a.grown

  pub has_run : (told : QueryEnd) → told ≡ end.Done → Ends told → HasRun old new before after
  has_run told is e = let a = adds told is e in record { notes = a.note ∷ []; grown = a.grown; ran = a.ran ∙ ap (λ xs. before ++ xs) (sym (append-nil (runs_of a.note))) }

  pub printed : (columns : List Field) (told : QueryEnd) (r : Result (List ℕ) Memory) → columns ≡ schema_of plan → told ≡ end.Done → Ends told →
      IfOk r (λ text. IsSomeAnd (slice_get new (length old)) (λ note. text ≡ result_text columns note.rows)) → IfOk r (IsPrinted this old new)
  printed columns told (Err m) schema is e h = tt
  printed columns told (Ok text) schema is e h =
      let a = adds told is e in
      let r = recorded a in
      let found : slice_get new (length old) ≡ Some r.note = ap (λ ns. slice_get ns (length old)) r.grown ∙ behind old r.note in
      let text_is : text ≡ result_text columns r.note.rows = subst (λ o. IsSomeAnd o (λ (note : QueryRecord). text ≡ result_text columns note.rows)) found h in
      record { note = r.note; is = r.is; grown = r.grown; has = text_is ∙ ap (λ c. result_text c r.note.rows) schema }

  pub may_be : (told : QueryEnd) (r : Result (List ℕ) Memory) → told ≡ end.Done → Ends told → OnErr r (MayBeRecorded this old new)
  may_be told (Ok text) is e = tt
  may_be told (Err m) is e = inr (recorded (adds told is e))

  pub as_before : (told : QueryEnd) → told ≡ end.Memory → Ends told → MayBeRecorded this old new
  as_before told is e = inl (subst Ends is e)

-- no other end comes
pub no_other : (told other : QueryEnd) → IsDoneOrMemory told → told ≡ other → (other ≡ end.Done → ⊥) → (other ≡ end.Memory → ⊥) → ⊥
no_other told other (inl d) is not_done not_memory = not_done (sym is ∙ d)
no_other told other (inr m) is not_done not_memory = not_memory (sym is ∙ m)
