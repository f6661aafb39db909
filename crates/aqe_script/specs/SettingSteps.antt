-- What the steps of reading a SET leave.
use Rattle.std.specs.Prelude.{ℕ, List, ◌∷◌, ◌≡◌, Some}
use Rattle.aqe_lexer.specs.declared.token.Token.{Token}
use Rattle.aqe_trees.specs.declared.terminal.Key.{Key}
use Rattle.aqe_trees.specs.declared.terminal.Key.TheVariants as k
use Rattle.aqe_script.specs.declared.setting.SetFault.{SetFault}
use Rattle.aqe_script.specs.declared.setting.SetFault.TheVariants as fault
use Rattle.aqe_script.specs.Terminals.{key_of}
use Rattle.aqe_script.specs.Settings.{IsSettingKey}

-- the tokens do not begin with this word or symbol
abbrev pub NotFirst : List ℕ → Key → List Token → Type 0
NotFirst source wanted tokens = (t : Token) (us : List Token) → tokens ≡ t ∷ us → key_of source t ≡ Some wanted → ⊥

-- the tokens begin with a `=`
pub data BeginsEqual (source : List ℕ) : List Token → Type 0 where
  equal : {t : Token} {us : List Token} → key_of source t ≡ Some k.Equal → BeginsEqual source (t ∷ us)

-- the tokens begin with this key, and with no other that a `=` follows
pub record KeyRead (source : List ℕ) (tokens rest : List Token) (key : List ℕ) : Type 0 where
  pub found : IsSettingKey source key tokens rest
  pub only : (other : List ℕ) (us : List Token) → IsSettingKey source other tokens us → BeginsEqual source us →
      (other ≡ key) × (us ≡ rest)

-- the tokens begin with no key that a `=` follows
abbrev pub NoKey : List ℕ → List Token → Type 0
NoKey source tokens = (key : List ℕ) (us : List Token) → IsSettingKey source key tokens us → BeginsEqual source us → ⊥

-- the fault is no want of memory
abbrev pub IsRefusal : SetFault → Type 0
IsRefusal (fault.Refused left) = Unit {0}
IsRefusal fault.Memory = ⊥
