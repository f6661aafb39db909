-- The ranges of INT and BIGINT.
use Rattle.std.proofs.Common.{◌≡◌, ◌<◌, ◌^◌, ℤ, pos, negsuc, refl, arith}
use Rattle.std.proofs.lemmas.Bool.Decides.{nat_tests}
use Rattle.std.specs.Prelude.{Option, Some, None}
use Rattle.aqe_scalar.specs.Casts.{in_range, fits_int, fits_bigint}

-- each number of INT is one of BIGINT
pub narrower : (n : Option ℤ) → in_range fits_int (in_range fits_bigint n) ≡ in_range fits_int n
narrower None = refl
narrower (Some (pos n)) = grind (arith, nat_tests)
narrower (Some (negsuc n)) = grind (arith, nat_tests)
