-- What one line of an events file says.
use Rattle.std.specs.Prelude.{ℕ, ◌≡◌, ◌+◌, ◌-◌, ◌*◌, ◌<◌, ◌^◌, Bool, true, false, cond, ◌==◌, ◌&&◌, nat_le, List, [], ◌∷◌, fold, codes}
use Rattle.std.specs.List.{list_all}
use Rattle.aqe_base.specs.declared.event.Event.{Event}
use Rattle.aqe_base.specs.declared.event.Event.TheVariants.{Ended, Failed, Lost, Fetch}

-- a line says nothing, or begins the events of a query, or tells an event
pub data Line : Type 0 where
  Blank : Line
  Begins : ℕ → Line
  Tells : Event → Line

-- the fields of a line: what stands between single spaces
abbrev pub into_fields : ℕ → List (List ℕ) → List (List ℕ)
into_fields byte [] = cond (byte == 32) ([] ∷ [] ∷ []) ((byte ∷ []) ∷ [])
into_fields byte (field ∷ fields) = cond (byte == 32) ([] ∷ field ∷ fields) ((byte ∷ field) ∷ fields)

abbrev pub fields_of : List ℕ → List (List ℕ)
fields_of [] = [] ∷ []
fields_of (byte ∷ bytes) = into_fields byte (fields_of bytes)

-- a decimal number: digits, of which the first is not 0 unless it stands alone
abbrev pub is_digit : ℕ → Bool
is_digit byte = nat_le 48 byte && nat_le byte 57

abbrev pub is_decimal : List ℕ → Bool
is_decimal [] = false
is_decimal (digit ∷ []) = is_digit digit
is_decimal (digit ∷ next ∷ digits) = nat_le 49 digit && (is_digit digit && list_all is_digit (next ∷ digits))

abbrev pub value_of : List ℕ → ℕ
value_of digits = fold (λ n digit. n * 10 + (digit - 48)) 0 digits

-- a field is the number n, which is below a bound
pub record IsNumber (bound : ℕ) (field : List ℕ) (n : ℕ) : Type 0 where
  pub decimal : is_decimal field ≡ true
  pub value : value_of field ≡ n
  pub within : n < bound

-- numbers of queries, stages, tasks and maps have 32 bits; executors go up to 9999
abbrev pub IsId : List ℕ → ℕ → Type 0
IsId = IsNumber (2 ^ 32)

abbrev pub IsExecutor : List ℕ → ℕ → Type 0
IsExecutor = IsNumber 10000

-- The forms of a line, by its fields:
--   query K        the lines that follow belong to query K
--   ok S T E       task T of stage S ended on executor E
--   fail S T E     it failed there
--   lost E         executor E was lost
--   fetch S T E P M    task T of stage S, on executor E, could not fetch the output of map M of stage P
abbrev pub HasForm : Line → List (List ℕ) → Type 0
HasForm (Begins n) (word ∷ k ∷ []) = (word ≡ codes "query") × IsId k n
HasForm (Tells (Ended stage task executor)) (word ∷ s ∷ t ∷ e ∷ []) = (word ≡ codes "ok") × IsId s stage.0 × IsId t task.0 × IsExecutor e executor.0
HasForm (Tells (Failed stage task executor)) (word ∷ s ∷ t ∷ e ∷ []) = (word ≡ codes "fail") × IsId s stage.0 × IsId t task.0 × IsExecutor e executor.0
HasForm (Tells (Lost executor)) (word ∷ e ∷ []) = (word ≡ codes "lost") × IsExecutor e executor.0
HasForm (Tells (Fetch stage task executor parent map)) (word ∷ s ∷ t ∷ e ∷ p ∷ m ∷ []) =
    (word ≡ codes "fetch") × IsId s stage.0 × IsId t task.0 × IsExecutor e executor.0 × IsId p parent.0 × IsId m map.0
HasForm line fields = ⊥

-- a blank line is empty or begins with `#`
abbrev pub is_blank : List ℕ → Bool
is_blank [] = true
is_blank (byte ∷ bytes) = byte == 35

-- what the bytes of a line say
abbrev pub Says : List ℕ → Line → Type 0
Says bytes Blank = is_blank bytes ≡ true
Says bytes line = (is_blank bytes ≡ false) × HasForm line (fields_of bytes)
