-- LIKE: which texts a pattern describes. Texts and patterns are read as lists of characters.
use Rattle.std.specs.Prelude.{ℕ, zero, suc, ◌==◌, Bool, true, false, cond, ◌&&◌, List, [], ◌∷◌, map, flat_map, chars, Option, Some, None, option_map}
use Rattle.std.specs.List.{list_any}
use Rattle.aqe_like.specs.declared.pattern.Item.{Item}
use Rattle.aqe_like.specs.declared.pattern.Item.TheVariants.{Run, One, Exactly}

-- The items of a pattern: `%` (37) is a run of characters, `_` (95) one character. A `\` (92)
-- makes the next character literal, and at the pattern's end stands for itself. Each other
-- character stands for itself.
abbrev mutual
  pub items : List ℕ → List Item
  items [] = []
  items (c ∷ cs) = cond (c == 37) (Run ∷ items cs) (cond (c == 95) (One ∷ items cs) (cond (c == 92) (escaped cs) (Exactly c ∷ items cs)))

  pub escaped : List ℕ → List Item
  escaped [] = Exactly 92 ∷ []
  escaped (c ∷ cs) = Exactly c ∷ items cs

-- whether an item allows a piece of text
abbrev pub allows : Item → List ℕ → Bool
allows Run piece = true
allows One (c ∷ []) = true
allows (Exactly d) (c ∷ []) = d == c
allows _ piece = false

-- the ways to cut a text in two: what is in front, and what follows
abbrev pub cuts_in_two : List ℕ → List (List ℕ × List ℕ)
cuts_in_two [] = ([], []) ∷ []
cuts_in_two (c ∷ cs) = ([], c ∷ cs) ∷ map (λ cut. (c ∷ cut.0, cut.1)) (cuts_in_two cs)

-- the ways to cut a text into n pieces
abbrev pub cuts : ℕ → List ℕ → List (List (List ℕ))
cuts zero [] = [] ∷ []
cuts zero (c ∷ cs) = []
cuts (suc n) text = flat_map (λ cut. map (λ pieces. cut.0 ∷ pieces) (cuts n cut.1)) (cuts_in_two text)

-- whether there are as many pieces as items, and each item allows its piece
abbrev pub allows_each : List Item → List (List ℕ) → Bool
allows_each [] [] = true
allows_each (item ∷ items) (piece ∷ pieces) = allows item piece && allows_each items pieces
allows_each _ _ = false

abbrev pub item_count : List Item → ℕ
item_count [] = zero
item_count (item ∷ items) = suc (item_count items)

-- a text matches where some way to cut it into as many pieces as there are items has each piece allowed
unfoldable pub matches : List Item → List ℕ → Bool
matches items text = list_any (allows_each items) (cuts (item_count items) text)

-- `text LIKE pattern`
abbrev pub like : List ℕ → List ℕ → Bool
like text pattern = matches (items (chars pattern)) (chars text)

-- how many characters the items take, where none of them is a run
abbrev pub span : List Item → Option ℕ
span [] = Some zero
span (Run ∷ items) = None
span (item ∷ items) = option_map suc (span items)
