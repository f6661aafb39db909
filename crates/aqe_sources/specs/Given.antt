-- What a call gives where memory does not run out.
use Rattle.std.specs.Prelude.{◌≡◌, Result, MatchResult}
use Rattle.aqe_rules.specs.declared.fault.AnalysisFault.{AnalysisFault}
use Rattle.aqe_rules.specs.declared.fault.AnalysisFault.TheVariants as fault

-- a value of which this holds, or want of memory
abbrev pub Gives : {T : Type 0} → Result T AnalysisFault → (T → Type 0) → Type 0
Gives result holds = MatchResult result holds (λ f. f ≡ fault.Memory)
