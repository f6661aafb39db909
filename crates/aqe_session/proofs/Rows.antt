-- Rows that are joined cell by cell, and notes that are filled one by one.
use Rattle.std.proofs.Common.{◌≡◌, refl, ap, sym, ◌∙◌, subst, ◌≤◌, ◌+◌, suc, ℕ, List, [], ◌∷◌, ◌++◌, length, arith, length-append}
use Rattle.std.specs.Prelude.{filter_map}
use Rattle.std.specs.List.{range_with_len, flat_map}
use Rattle.std.specs.Option.{option_map}
use Rattle.std.proofs.lemmas.List.{append-nil, append_assoc}
use Rattle.std.proofs.lemmas.List.Elements.{All-head, All-tail}
use Rattle.aqe_blocks.specs.Cells.{CellData}
use Rattle.aqe_blocks.specs.Kept.{AllKept, output_at}
use Rattle.aqe_logical.specs.Answers.{Row}
use Rattle.aqe_physical.specs.Counts.{part_count}
use Rattle.aqe_endings.proofs.Wholes.{range_end}
use Rattle.aqe_journal.specs.declared.record.StageNote.{StageNote}
use Rattle.aqe_needs.specs.Noted.{BodyFits, BodiesFit}
use Rattle.aqe_session.specs.Finished.{OthersStay, filled, all_filled}

flat_push : {X : Type 0} (f : ℕ → List X) (ks : List ℕ) (k : ℕ) → flat_map f (ks ++ k ∷ []) ≡ flat_map f ks ++ f k
flat_push f [] k = append-nil (f k)
flat_push f (x ∷ ks) k = ap (λ rest. f x ++ rest) (flat_push f ks k) ∙ sym (append_assoc (f x) (flat_map f ks) (f k))

pub rows_more : (f : ℕ → List Row) (m : ℕ) (rows new : List Row) → rows ≡ flat_map f (range_with_len 0 m) → new ≡ rows ++ f m → new ≡ flat_map f (range_with_len 0 (m + 1))
rows_more f m rows new was is =
    let more : m + 1 ≡ suc m = omega arith in
    let none : 0 + m ≡ m = omega arith in
    is ∙ ap (λ rs. rs ++ f m) was ∙ sym (ap (λ n. flat_map f (range_with_len 0 n)) more ∙ ap (flat_map f) (range_end 0 m ∙ ap (λ k. range_with_len 0 m ++ k ∷ []) none) ∙ flat_push f (range_with_len 0 m) m)

pub rows_end : (f : ℕ → List Row) (m n : ℕ) (rows : List Row) → rows ≡ flat_map f (range_with_len 0 m) → m ≤ n → n ≤ m → rows ≡ flat_map f (range_with_len 0 n)
rows_end f m n rows is low high = let same : m ≡ n = omega (arith, low, high) in is ∙ ap (λ k. flat_map f (range_with_len 0 k)) same

-- the notes before those that are left were filled, and the outputs of those that are left are as they were
pub record FilledTo (entry now : AllKept) (notes left all : List StageNote) : Type 0 where
  pub whole : all ++ all_filled entry (length all) left ≡ all_filled entry 0 notes
  pub ahead : (s k : ℕ) → length all ≤ s → output_at now s k ≡ output_at entry s k
  pub room : length all + length left ≡ length notes
  pub bodies : BodiesFit left

pub filled_none : (entry : AllKept) (notes left all : List StageNote) → left ≡ notes → all ≡ [] → BodiesFit notes → FilledTo entry entry notes left all
filled_none entry notes left all is none bodies = rw (is, none) (record { whole = refl; ahead = λ s k le. refl; room = omega arith; bodies = bodies })

pub filled_more : (entry now new : AllKept) (notes left rest all pushed : List StageNote) (note made : StageNote) (k : ℕ) → FilledTo entry now notes left all → left ≡ note ∷ rest → k ≡ length all →
    made ≡ filled now k note → OthersStay now new k → pushed ≡ all ++ made ∷ [] → FilledTo entry new notes rest pushed
filled_more entry now new notes left rest all pushed note made k f e same is stay push =
    let long = length-append all (made ∷ []) in
    let count : length pushed ≡ suc (length all) = ap (λ ns. length ns) push ∙ omega (arith, long) in
    let room = f.room in
    let left_count : length left ≡ suc (length rest) = ap (λ ns. length ns) e in
    let le : length all ≤ k = omega (arith, same) in
    let here : made ≡ filled entry (length all) note =
    is ∙ (λ i. record note { outputs = filter_map (λ m. option_map (λ (cells : List CellData). (record { 0 = m }, cells)) (f.ahead k m le i)) (range_with_len 0 (part_count note.body)) }) ∙ ap (λ s. filled entry s note) same in
    record {
      whole = (λ i. push i ++ all_filled entry (count i) rest) ∙ append_assoc all (made ∷ []) (all_filled entry (suc (length all)) rest)
          ∙ ap (λ m. all ++ m ∷ all_filled entry (suc (length all)) rest) here ∙ ap (λ l. all ++ all_filled entry (length all) l) (sym e) ∙ f.whole;
      ahead = λ s m lt. stay s m (λ d. omega (arith, d, same, count, lt)) ∙ f.ahead s m (omega (arith, count, lt));
      room = omega (arith, room, count, left_count);
      bodies = All-tail BodyFits note rest (subst BodiesFit e f.bodies);
    }

pub first_fits : (left rest : List StageNote) (note : StageNote) → BodiesFit left → left ≡ note ∷ rest → BodyFits note
first_fits left rest note all e = All-head BodyFits note rest (subst BodiesFit e all)

pub filled_end : (entry now : AllKept) (notes left all : List StageNote) → FilledTo entry now notes left all → left ≡ [] → all ≡ all_filled entry 0 notes
filled_end entry now notes left all f e = sym (append-nil all) ∙ ap (λ l. all ++ all_filled entry (length all) l) (sym e) ∙ f.whole
