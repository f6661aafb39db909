-- Facts on bytes that come or go in pieces.
use Rattle.std.proofs.Common.{◌≡◌, ◌+◌, ◌≤◌, ℕ, List, ◌++◌, length, take, drop, Option, Some, None, ap, ◌∙◌, arith, refl, append_assoc}
use Rattle.std.proofs.Math.Seq.{take-append-add}
use Rattle.std.proofs.lemmas.List.{take-append-drop, length-take-le}
use Rattle.std.specs.Io.KnownBytes.{Appends}
use Rattle.aqe_store.specs.Told.{Open, advanced}
use Rattle.aqe_store.specs.Reading.{TakesAtMost}

take-add : (m n : ℕ) (bytes : List ℕ) → m ≤ length bytes → take (m + n) bytes ≡ take m bytes ++ take n (drop m bytes)
take-add m n bytes h =
    let cut = take-append-add (take m bytes) (drop m bytes) n in
    let len = length-take-le m bytes h in
    let whole = take-append-drop m bytes in
    cc

-- a front and the next piece are a longer front
pub appends-more : (a b c : Option (List ℕ)) (bytes : List ℕ) (m n : ℕ) → m ≤ length bytes
    → Appends a b (take m bytes) → Appends b c (take n (drop m bytes)) → Appends a c (take (m + n) bytes)
appends-more None b c bytes m n h p q = tt
appends-more (Some xs) None c bytes m n h p q = absurd p
appends-more (Some xs) (Some ys) None bytes m n h p q = absurd q
appends-more (Some xs) (Some ys) (Some zs) bytes m n h p q =
    rw (take-add m n bytes h, q, p) (append_assoc xs (take m bytes) (take n (drop m bytes)))

advanced-more : (m n : ℕ) (opened : Option Open) → advanced n (advanced m opened) ≡ advanced (m + n) opened
advanced-more m n None = refl
advanced-more m n (Some file) = let e : file.1 + m + n ≡ file.1 + (m + n) = omega arith in ap (λ k. Some (file.0, k)) e

-- the bytes that were taken, and at most so many more
pub takes-more : (o p q : Option Open) (taken more most : ℕ) → p ≡ advanced taken o → TakesAtMost p q more → taken + more ≤ most → TakesAtMost o q most
takes-more o p q taken more most e (n, small, f) h = (taken + n, omega arith, f ∙ ap (advanced n) e ∙ advanced-more taken n o)
