-- What it means that a reader took a tree from the front of the terminals, or found none there.
--
-- `Is` is a rule of the grammar: `Is tree ts us` says that ts begins with a spelling of the tree and that us is left.
use Rattle.std.specs.Prelude.{ℕ, List, ◌∷◌, Bool, ◌≡◌, ◌≤◌, ◌<◌, length}
use Rattle.aqe_trees.specs.declared.terminal.Terminal.{Terminal}
use Rattle.aqe_trees.specs.declared.terminal.Terminal.TheVariants.{Name}
use Rattle.aqe_trees.specs.Follow.{Stops}
use Rattle.aqe_reader.specs.declared.fault.ReadFault.{ReadFault}
use Rattle.aqe_reader.specs.declared.fault.ReadFault.TheVariants.{Refused, Memory}

-- ts begins with the tree and leaves us, and each reading whose rest ends the rule is this one; at least one terminal is taken
pub record Read {T : Type 0} (Is : T → List Terminal → List Terminal → Type 0) (level : ℕ) (ts : List Terminal) (t : T) (us : List Terminal) : Type 0 where
  pub found : Is t ts us
  pub only : (v : T) (ws : List Terminal) → Is v ts ws → Stops level ws → (t ≡ v) × (us ≡ ws)
  pub shorter : length us < length ts

-- no reading leaves what ends the rule
abbrev pub Refuses : {T : Type 0} → (T → List Terminal → List Terminal → Type 0) → ℕ → List Terminal → Type 0
Refuses {T = T} Is level ts = (v : T) (ws : List Terminal) → Is v ts ws → Stops level ws → ⊥

-- `Read` of a part that may be empty
pub record Part {T : Type 0} (Is : T → List Terminal → List Terminal → Type 0) (level : ℕ) (ts : List Terminal) (t : T) (us : List Terminal) : Type 0 where
  pub found : Is t ts us
  pub only : (v : T) (ws : List Terminal) → Is v ts ws → Stops level ws → (t ≡ v) × (us ≡ ws)
  pub within : length us ≤ length ts

-- `Read` of a rule with a terminal of its own at its end, so that it does not matter what follows
pub record Taken {T : Type 0} (Is : T → List Terminal → List Terminal → Type 0) (ts : List Terminal) (t : T) (us : List Terminal) : Type 0 where
  pub found : Is t ts us
  pub only : (v : T) (ws : List Terminal) → Is v ts ws → (t ≡ v) × (us ≡ ws)
  pub shorter : length us < length ts

-- no reading at all
abbrev pub Never : {T : Type 0} → (T → List Terminal → List Terminal → Type 0) → List Terminal → Type 0
Never {T = T} Is ts = (v : T) (ws : List Terminal) → Is v ts ws → ⊥

-- a fault other than want of memory
abbrev pub IsRefusal : ReadFault → Type 0
IsRefusal (Refused left) = Unit {0}
IsRefusal Memory = ⊥

-- no name comes first
abbrev pub NoName : List Terminal → Type 0
NoName ts = (text : List ℕ) (quoted : Bool) (us : List Terminal) → ts ≡ Name text quoted ∷ us → ⊥
