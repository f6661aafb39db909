use Rattle.std.proofs.Common.{◌≡◌, ◌-◌, ◌^◌, min, take}
use Rattle.aqe_scalar.specs.Casts as spec
use Rattle.aqe_scalar.proofs.casting.number_of_digits.Given as goal

abbrev pub invariant-digits : goal.invariant-digits
invariant-digits l = l.number ≡ min (spec.number_of_digits (take l.digit-index l.digits)) (2 ^ 64 - 1)
