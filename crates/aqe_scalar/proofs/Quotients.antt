-- What a quotient of BIGINT leaves in 64 bits.
use Rattle.std.proofs.Common.{◌≡◌, ℕ, zero, suc, ◌<◌, ◌≤◌, ◌^◌, ◌/◌, ◌%◌, ℤ, pos, negsuc, neg_ℤ, refl, ap, sym, ◌∙◌, arith, w64, to_z, of_z, int_div}
use Rattle.std.specs.Int.{int_wrap}
use Rattle.std.proofs.Math.Nat.{div-le_self, mod-eq_of_lt}
use Rattle.std.proofs.lemmas.Int.{wraps, to_z-of_z, int_wrap_fits}
use mir.Val.{SFits}

-- a number from 0 up to 2^63 that is read back from its bits
up_wraps : (k : ℕ) → k ≤ 2 ^ 63 → to_z w64 (of_z w64 (pos k)) ≡ int_wrap w64 (pos k)
unfolding int_wrap
up_wraps k h = let lt : k < 2 ^ 64 = omega arith in let e : k % 2 ^ 64 ≡ k = mod-eq_of_lt lt in rw e refl

-- the same for a number from -2^63 up to 0
down_wraps : (k : ℕ) → k ≤ 2 ^ 63 → to_z w64 (of_z w64 (neg_ℤ (pos k))) ≡ int_wrap w64 (neg_ℤ (pos k))
down_wraps zero h = up_wraps zero (omega arith)
down_wraps (suc k) h =
    let f : SFits w64 (negsuc k) = record { sfits = omega arith } in
    to_z-of_z w64 (negsuc k) f ∙ sym (int_wrap_fits w64 (negsuc k) f)

pub quotient_wraps : (m n : ℤ) → SFits w64 m → to_z w64 (of_z w64 (int_div m n)) ≡ int_wrap w64 (int_div m n)
quotient_wraps (pos a) (pos b) f = up_wraps (a / b) (omega (arith, div-le_self a b, f.sfits))
quotient_wraps (pos a) (negsuc b) f = down_wraps (a / suc b) (omega (arith, div-le_self a (suc b), f.sfits))
quotient_wraps (negsuc a) (pos b) f = down_wraps (suc a / b) (omega (arith, div-le_self (suc a) b, f.sfits))
quotient_wraps (negsuc a) (negsuc b) f = up_wraps (suc a / suc b) (omega (arith, div-le_self (suc a) (suc b), f.sfits))

pub ruleset quotients = (wraps, quotient_wraps)
