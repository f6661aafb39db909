-- Notes of stages, in their order.
use Rattle.std.proofs.Common.{◌≡◌, refl, ap, ◌∙◌, ◌≤◌, ◌<◌, ◌+◌, zero, suc, ℕ, [], ◌∷◌, ◌++◌, length, arith, Some, slice_get}
use Rattle.std.specs.Option.{option_map}
use Rattle.aqe_stages.specs.Stages.{Stage, Stages}
use Rattle.aqe_journal.specs.declared.record.StageNote.{StageNote}
use Rattle.aqe_needs.specs.Noted.{stage_of, stages_of}
use Rattle.aqe_steps.specs.Shows.{noted_from}

-- notes that say the same of each stage are the same
pub noted_same : (f g : ℕ → Stage → StageNote) (n : ℕ) (stages : Stages) → ((s : ℕ) (stage : Stage) → n ≤ s → s < n + length stages → f s stage ≡ g s stage) → noted_from f n stages ≡ noted_from g n stages
noted_same f g n [] each = refl
noted_same f g n (stage ∷ stages) each =
    λ i. each n stage (omega arith) (omega arith) i ∷ noted_same f g (suc n) stages (λ s st low high. each s st (omega (arith, low)) (omega (arith, high))) i

-- the note of a stage more
pub noted_more : (f : ℕ → Stage → StageNote) (n : ℕ) (stages : Stages) (stage : Stage) → noted_from f n (stages ++ stage ∷ []) ≡ noted_from f n stages ++ f (n + length stages) stage ∷ []
noted_more f n [] stage = let same : n ≡ n + 0 = omega arith in ap (λ k. f k stage ∷ []) same
noted_more f n (x ∷ stages) stage =
    let same : suc n + length stages ≡ n + suc (length stages) = omega arith in
    ap (λ notes. f n x ∷ notes) (noted_more f (suc n) stages stage ∙ ap (λ k. noted_from f (suc n) stages ++ f k stage ∷ []) same)

-- the stages of the notes
pub stages_noted : (f : ℕ → Stage → StageNote) (n : ℕ) (stages : Stages) → ((s : ℕ) (stage : Stage) → stage_of (f s stage) ≡ stage) → stages_of (noted_from f n stages) ≡ stages
stages_noted f n [] each = refl
stages_noted f n (stage ∷ stages) each = λ i. each n stage i ∷ stages_noted f (suc n) stages each i

pub count_noted : (f : ℕ → Stage → StageNote) (n : ℕ) (stages : Stages) → length (noted_from f n stages) ≡ length stages
count_noted f n [] = refl
count_noted f n (stage ∷ stages) = ap suc (count_noted f (suc n) stages)

-- the note of a stage with a number, of those behind n others and of all
pub note_at : (f : ℕ → Stage → StageNote) (n : ℕ) (stages : Stages) (s : ℕ) → slice_get (noted_from f n stages) s ≡ option_map (f (n + s)) (slice_get stages s)
note_at f n [] s = refl
note_at f n (stage ∷ stages) zero = let same : n ≡ n + 0 = omega arith in ap (λ k. Some (f k stage)) same
note_at f n (stage ∷ stages) (suc s) = let same : suc n + s ≡ n + suc s = omega arith in note_at f (suc n) stages s ∙ ap (λ k. option_map (f k) (slice_get stages s)) same

pub note_of : (f : ℕ → Stage → StageNote) (stages : Stages) (s : ℕ) → slice_get (noted_from f 0 stages) s ≡ option_map (f s) (slice_get stages s)
note_of f stages s = let none : 0 + s ≡ s = omega arith in note_at f 0 stages s ∙ ap (λ k. option_map (f k) (slice_get stages s)) none
