-- What a call that walks over a tree says: the value of the walk, or its first failing check, or that memory was wanting.
use Rattle.std.specs.Prelude.{◌≡◌, Result, Ok, Err, MatchResult}
use Rattle.aqe_rules.specs.declared.fault.AnalysisFault.{AnalysisFault}
use Rattle.aqe_rules.specs.declared.fault.AnalysisFault.TheVariants as fault
use Rattle.aqe_rules.specs.Outcomes.{Check, refused, too_many_operators, too_many_columns, Outcome}

-- a fault tells a check; want of memory tells none
abbrev pub Tells : AnalysisFault → Check → Type 0
Tells (fault.Refused kind name) check = check ≡ refused kind name
Tells fault.TooManyOperators check = check ≡ too_many_operators
Tells fault.TooManyColumns check = check ≡ too_many_columns
Tells fault.Memory check = Unit {0}

-- where a walk comes to a value, the one fault is want of memory
abbrev pub Fails : {T : Type 0} → AnalysisFault → Outcome T → Type 0
Fails f (Ok t) = f ≡ fault.Memory
Fails f (Err check) = Tells f check

abbrev pub Says : {T : Type 0} → Result T AnalysisFault → Outcome T → Type 0
Says result outcome = MatchResult result (λ t. outcome ≡ Ok t) (λ f. Fails f outcome)
