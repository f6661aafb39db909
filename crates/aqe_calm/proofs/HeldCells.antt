-- What a stage holds, over the stages before it.
use Rattle.std.proofs.Common.{◌≡◌, refl, ap, sym, ◌∙◌, ◌<◌, zero, suc, ℕ, List, [], ◌∷◌, ◌++◌, length, arith, None, Some, slice_get, slice_index_or, length-append}
use Rattle.std.specs.Option.{unwrap_or}
use Rattle.std.proofs.lemmas.List.{append_assoc, length-map}
use Rattle.aqe_logical.specs.Answers.{Tables}
use Rattle.aqe_physical.specs.Counts.{part_count}
use Rattle.aqe_stages.specs.Stages.{Stage, Stages, output_of}
use Rattle.aqe_stages.specs.Parts.{parts, given_by, cells, output}
use Rattle.aqe_stages.specs.Places.{cells_of}
use Rattle.aqe_stages.proofs.Later.{given_count, given_one_more, cells_stay}
use Rattle.aqe_stages.proofs.Counted.{counted as part_counted}

-- the stages before one with a number, and those behind it
pub record Around (stages : Stages) (s : ℕ) (stage : Stage) : Type 0 where
  pub before : Stages
  pub behind : Stages
  pub is : stages ≡ before ++ stage ∷ behind
  pub many : length before ≡ s

pub around : (stages : Stages) (s : ℕ) (stage : Stage) → slice_get stages s ≡ Some stage → Around stages s stage
around [] s stage e = absurd (none e)
  where
    none : None ≡ Some stage → ⊥
    none n = cc (n)
around (x ∷ xs) zero stage e = record { before = []; behind = xs; is = ap (λ y. y ∷ xs) (some_one x stage e); many = refl }
  where
    some_one : (a b : Stage) → Some a ≡ Some b → a ≡ b
    some_one a b h = ap (λ o. unwrap_or o a) h
around (x ∷ xs) (suc s) stage e =
    let r = around xs s stage e in
    record { before = x ∷ r.before; behind = r.behind; is = ap (λ ys. x ∷ ys) r.is; many = ap suc r.many }

pub last_or : {X : Type 0} (xs : List X) (x d : X) → slice_index_or (xs ++ x ∷ []) (length xs) d ≡ x
last_or [] x d = refl
last_or (y ∷ ys) x d = last_or ys x d

-- what a stage holds is what it makes over the stages before it
pub record Held (tables : Tables) (stages : Stages) (s : ℕ) (stage : Stage) : Type 0 where
  pub before : Stages
  pub behind : Stages
  pub is : stages ≡ before ++ stage ∷ behind
  pub many : length before ≡ s
  pub holds : cells tables stages s ≡ output tables (given_by tables before) stage

pub held : (tables : Tables) (stages : Stages) (s : ℕ) (stage : Stage) → slice_get stages s ≡ Some stage → Held tables stages s stage
held tables stages s stage is =
    let r = around stages s stage is in
    let front = r.before ++ stage ∷ [] in
    let split : stages ≡ front ++ r.behind = r.is ∙ sym (append_assoc r.before (stage ∷ []) r.behind) in
    let long = length-append r.before (stage ∷ []) in
    let many = r.many in
    let lt : s < length front = omega (arith, long, many) in
    let g = given_by tables r.before in
    record {
      before = r.before;
      behind = r.behind;
      is = r.is;
      many = r.many;
      holds = ap (λ st. cells tables st s) split ∙ cells_stay tables front r.behind s lt
          ∙ ap (λ given. output_of given s) (given_one_more tables r.before stage)
          ∙ ap (λ n. slice_index_or (g ++ output tables g stage ∷ []) n []) (sym (given_count tables r.before ∙ r.many))
          ∙ last_or g (output tables g stage) [];
    }

-- a stage holds cells of each part of its body
pub cells_many : (tables : Tables) (stages : Stages) (s : ℕ) (stage : Stage) → slice_get stages s ≡ Some stage → length (cells tables stages s) ≡ part_count stage.body
cells_many tables stages s stage is =
    let r = held tables stages s stage is in
    let g = given_by tables r.before in
    let ps = parts tables g stage.body in
    ap (λ out. length out) r.holds ∙ length-map ps (cells_of g stage.kind ps) ∙ part_counted tables g stage.body
