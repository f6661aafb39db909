-- Lists that are written item by item.
use Rattle.std.proofs.Common.{ℕ, ◌≡◌, ◌+◌, ◌<◌, List, [], ◌∷◌, length, drop, get_or, subst, sym, ◌∙◌, ap}
use Rattle.aqe_trees.specs.declared.terminal.Terminal.{Terminal}
use Rattle.aqe_phrases.specs.Written.{Going}
use Rattle.aqe_phrases.proofs.Leaves.{adds_then, adds_none, from_next}

pub going_begin : {X : Type 0} {Is : List X → List Terminal → List Terminal → Type 0} {whole : List X} {old : List ℕ}
    → Going Is whole whole old old
going_begin ts us d s = record {
  words = λ vs. vs;
  adds = adds_none;
  reads = λ vs ws e. e;
  rest = ts;
  is_rest = d;
  stand = s;
}

pub going_on : {X : Type 0} {Is : List X → List Terminal → List Terminal → Type 0} {whole left more : List X} {old mid new : List ℕ}
    → Going Is whole left old mid → Going Is left more mid new → Going Is whole more old new
going_on g h ts us d s =
    let a = g ts us d s in let b = h a.rest us a.is_rest a.stand in
    record {
      words = λ vs. a.words (b.words vs);
      adds = adds_then a.adds b.adds;
      reads = λ vs ws e. a.reads (b.words vs) ws (b.reads vs ws e);
      rest = b.rest;
      is_rest = b.is_rest;
      stand = b.stand;
    }

-- one item more of a list that is written by an index
pub going_step : {X : Type 0} {Is : List X → List Terminal → List Terminal → Type 0} {old mid new : List ℕ} (whole : List X) (i : ℕ) (next : X)
    → i < length whole → get_or whole i next ≡ next → Going Is whole (drop i whole) old mid
    → Going Is (next ∷ drop (i + 1) whole) (drop (i + 1) whole) mid new → Going Is whole (drop (i + 1) whole) old new
going_step {Is = Is} {mid = mid} {new = new} whole i next below e g h =
    let split : next ∷ drop (i + 1) whole ≡ drop i whole =
    sym (from_next whole i next below ∙ ap (λ x. x ∷ drop (i + 1) whole) e) in
    going_on g (subst (λ l. Going Is l (drop (i + 1) whole) mid new) split h)

pub going_all : {X : Type 0} {Is : List X → List Terminal → List Terminal → Type 0} {whole left : List X} {old new : List ℕ}
    → left ≡ [] → Going Is whole left old new → Going Is whole [] old new
going_all {Is = Is} {whole = whole} {old = old} {new = new} e g = subst (λ l. Going Is whole l old new) e g
