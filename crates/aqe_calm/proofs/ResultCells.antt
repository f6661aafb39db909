-- The result stage of a calm state has the parts of the first plan, each as one cell.
use Rattle.std.proofs.Common.{◌≡◌, refl, ap, sym, subst, ◌∙◌, ◌<◌, ℕ, true, false, List, [], ◌∷◌, ◌++◌, length, map, arith, Some, slice_get, slice_index_or, length-append}
use Rattle.std.proofs.lemmas.List.{append_assoc, append-nil}
use Rattle.aqe_partial.specs.PartialRows.{joined_parts}
use Rattle.aqe_stages.specs.Cells.{all_rows}
use Rattle.aqe_logical.specs.Answers.{Row}
use Rattle.aqe_physical.specs.declared.plan.Plan.{Plan}
use Rattle.aqe_physical.specs.declared.target.StageKind.{StageKind}
use Rattle.aqe_physical.specs.declared.target.StageKind.TheVariants as kind
use Rattle.aqe_stages.specs.Stages.{Stage, Given, output_of}
use Rattle.aqe_stages.specs.Parts.{parts, given_by, cells, output}
use Rattle.aqe_stages.specs.Places.{cells_of}
use Rattle.aqe_stages.specs.Reads.{ReadsBelow}
use Rattle.aqe_stages.proofs.Later.{given_count, given_one_more, cells_stay, parts_stay}
use Rattle.aqe_journal.specs.Asked.{Asked}
use Rattle.aqe_journal.specs.Needed.{is_result}
use Rattle.aqe_journal.specs.States.{State}
use Rattle.aqe_calm.specs.Calm.{Calm, parts_over, IsAnswerAt}
use Rattle.aqe_calm.proofs.HeldCells.{around, last_or}

single_cells : (k : StageKind) → is_result k ≡ true → (given : Given) (all : List (List Row)) (ps : List (List Row)) → map (cells_of given k all) ps ≡ map (λ part. part ∷ []) ps
single_cells kind.Result h given all ps = refl
single_cells (kind.Shuffle to) h given all ps = absurd (clash h)
  where
    clash : false ≡ true → ⊥
    clash c = cc (c)
single_cells kind.Broadcast h given all ps = refl
single_cells (kind.Sample keys) h given all ps = absurd (clash h)
  where
    clash : false ≡ true → ⊥
    clash c = cc (c)

pub result_cells : (asked : Asked) (first : Plan) (now : State) (s : ℕ) (stage : Stage) → Calm asked first now → slice_get now.stages s ≡ Some stage → is_result stage.kind ≡ true →
    cells asked.tables now.stages s ≡ map (λ part. part ∷ []) (parts_over asked now.stages first)
result_cells asked first now s stage c e result =
    let r = around now.stages s stage e in
    let front = r.before ++ stage ∷ [] in
    let split : now.stages ≡ front ++ r.behind = r.is ∙ sym (append_assoc r.before (stage ∷ []) r.behind) in
    let long = length-append r.before (stage ∷ []) in
    let many = r.many in
    let lt : s < length front = omega (arith, long, many) in
    let a = subst (IsAnswerAt asked first now.stages s) e (c.answers s) in
    let below : ReadsBelow (length r.before) stage.body = subst (λ n. ReadsBelow n stage.body) (sym r.many) a.0 in
    let g = given_by asked.tables r.before in
    let body = parts asked.tables g stage.body in
    let same : parts_over asked now.stages stage.body ≡ body = ap (λ st. parts_over asked st stage.body) r.is ∙ parts_stay asked.tables r.before (stage ∷ r.behind) stage.body below in
    ap (λ st. cells asked.tables st s) split ∙ cells_stay asked.tables front r.behind s lt
    ∙ ap (λ given. output_of given s) (given_one_more asked.tables r.before stage)
    ∙ ap (λ n. slice_index_or (g ++ output asked.tables g stage ∷ []) n []) (sym (given_count asked.tables r.before ∙ r.many))
    ∙ last_or g (output asked.tables g stage) []
    ∙ single_cells stage.kind result g body body
    ∙ ap (map (λ part. part ∷ [])) (sym same ∙ a.2 result)

-- the rows of parts that are one cell each
pub all_single : (ps : List (List Row)) → all_rows (map (λ part. part ∷ []) ps) ≡ joined_parts ps
all_single [] = refl
all_single (part ∷ ps) = λ i. append-nil part i ++ all_single ps i
