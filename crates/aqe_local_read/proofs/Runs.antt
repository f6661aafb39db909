-- Where runs begin.
use Rattle.std.proofs.Common.{◌≡◌, ℕ, ◌+◌, ◌*◌, ◌/◌, ◌%◌, ◌<◌, ◌≤◌, arith}
use Rattle.std.specs.Prelude.{min}
use Rattle.std.proofs.Math.Nat.{div-add-mod, mul-le-mul_right, mod-lt}
use Rattle.aqe_local_read.specs.LocalRects.{run_start}
use Rattle.aqe_local_read.specs.Laws.{RunsAreEven}

pub product_le : (n k i : ℕ) → i ≤ k → i * (n / k) ≤ n
product_le n k i le =
    let less : i * (n / k) ≤ k * (n / k) = mul-le-mul_right (n / k) le in
    let whole : k * (n / k) + n % k ≡ n = div-add-mod n k in
    omega (arith, less, whole)

pub start_le : (n k i : ℕ) → i ≤ k → i * (n / k) + min i (n % k) ≤ n
start_le n k i le =
    let less : i * (n / k) ≤ k * (n / k) = mul-le-mul_right (n / k) le in
    let whole : k * (n / k) + n % k ≡ n = div-add-mod n k in
    omega (arith, less, whole)

-- a run more
pub next_start : (n k i : ℕ) → run_start n k (i + 1) + min i (n % k) ≡ run_start n k i + n / k + min (i + 1) (n % k)
next_start n k i = omega arith

pub even : RunsAreEven
even n k some = record {
  first = omega arith;
  last = let whole : k * (n / k) + n % k ≡ n = div-add-mod n k in let small : n % k < k = mod-lt n some in omega (arith, whole, small);
  forward = λ i. let next : run_start n k (i + 1) + min i (n % k) ≡ run_start n k i + n / k + min (i + 1) (n % k) = next_start n k i in omega (arith, next);
  longer_first = λ i j lt.
      let here : run_start n k (i + 1) + min i (n % k) ≡ run_start n k i + n / k + min (i + 1) (n % k) = next_start n k i in
      let there : run_start n k (j + 1) + min j (n % k) ≡ run_start n k j + n / k + min (j + 1) (n % k) = next_start n k j in
      (omega (arith, here, there, lt), omega (arith, here, there, lt));
}
