use Rattle.std.proofs.Common.{◌≡◌, ◌∙◌, ◌∷◌, [], ℕ, List, sym, codes, length, get_or, ◌≤◌, ◌<◌, arith, map, refl}
use Rattle.std.proofs.lemmas.Slice.Eq.{bytes_eq-Decides}
use Rattle.std.specs.Prelude.{string_bytes}
use Rattle.aqe_cli.proofs.words.script_path.Goals as goal

-- a list of two is its two items
pair_of : {X : Type 0} (f : X → List ℕ) (xs : List X) (a b : X) (s t : List ℕ) → 2 ≤ length xs → length xs < 3
    → a ≡ get_or xs 0 a → b ≡ get_or xs 1 b → f a ≡ s → f b ≡ t → map f xs ≡ s ∷ t ∷ []
pair_of f [] a b s t l u e k h i = absurd (omega arith)
pair_of f (x ∷ []) a b s t l u e k h i = absurd (omega arith)
pair_of f (x ∷ y ∷ []) a b s t l u e k h i = rw (← e, ← k, h, i) refl
pair_of f (x ∷ y ∷ z ∷ zs) a b s t l u e k h i = absurd (omega arith)

pub returns-in-len2 : goal.returns-in-len2
returns-in-len2 c =
    let run = (bytes_eq-Decides c.as_str.result.now (codes "run")).0 (sym c.eq.ensures ∙ c.if-eq.true) in
    pair_of string_bytes c.args.words.now c.word-item.result c.path-item.result (codes "run") c.as_str-in-len2.result.now
    c.in-len2.len_at_least c.in-len2.len_below c.word-item.is c.path-item.is (sym c.as_str.ensures.value ∙ run) (sym c.as_str-in-len2.ensures.value)
