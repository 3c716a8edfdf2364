-- The zeros at the head of a byte's complement are the ones at the head of the byte: one test, computed at each of the 256 bytes.
-- Assumes nothing.
use mathlib.Core.Path.{◌≡◌, refl}
use mathlib.Core.Bool.{Bool, true, false, ◌&&◌}
use Prim.Native.Nat.{ℕ, zero, suc, ◌-◌, ◌^◌, ◌<◌}
use native.Mathlib.Nat.{not-suc-le-zero}
use native.Mathlib.Omega.{arith}
use native.Mathlib.Decide.{dec_lt}
use lib.Count.{count_leading_zeros}
use lib.Dec.{T, eqb, eqb→eq}
use Rattle.characters.specs.Utf8.{leading_ones}

all_below : (ℕ → Bool) → ℕ → Bool
all_below f zero = true
all_below f (suc n) = f n && all_below f n

below_suc : (f : ℕ → Bool) (n k : ℕ) (b : Bool) → f n ≡ b → T (b && all_below f n) → (T (all_below f n) → k < n → T (f k)) → k < suc n → T (f k)
below_suc f n k false e t ih h = absurd t
below_suc f n k true e t ih h = elim (dec_lt k n) [ yes l ↦ ih t l | no l ↦ (let q : k ≡ n = omega arith in rw q (rw e tt)) ]

-- a test that holds at all numbers below n holds at each
below_at : (f : ℕ → Bool) (n : ℕ) → T (all_below f n) → (k : ℕ) → k < n → T (f k)
unfolding all_below
below_at f zero t k h = absurd (not-suc-le-zero h)
below_at f (suc n) t k h = below_suc f n k (f n) refl t (λ u l. below_at f n u k l) h

agrees : ℕ → Bool
unfolding count_leading_zeros leading_ones
agrees b = eqb (count_leading_zeros 8 (2 ^ 8 - 1 - b)) (leading_ones b)

pub leading_zeros_complement : (b : ℕ) → b < 256 → count_leading_zeros 8 (2 ^ 8 - 1 - b) ≡ leading_ones b
unfolding agrees all_below count_leading_zeros leading_ones
leading_zeros_complement b h = eqb→eq (count_leading_zeros 8 (2 ^ 8 - 1 - b)) (leading_ones b) (below_at agrees 256 tt b h)
