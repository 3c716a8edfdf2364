-- A signed number of 32 bits, as the code reads it: its range, and its coordinate. Assumes nothing.
use Prim.Native.Nat.{ℕ, suc, ◌-◌, ◌≤◌, ◌<◌, ◌^◌}
use mathlib.Core.Path.{◌≡◌, refl, ◌∙◌, ap}
use mathlib.Core.Bool.{Bool, true, false, cond}
use lib.Dec.{T, ltb}
use lib.IntN.{ℤ, pos, negsuc, nat_abs, ◌+ℤ◌}
use lib.Signed.{non_neg}
use native.Mathlib.Omega.{arith}
use mir.Syntax.{w32}
use mir.Val.{to_z, of_z, Fits, SFits}
use mir.Facts.{to_z-of_z}
use borrow.Author.Tests.{le-ltb, ltb-true, ltb-false}
use Rattle.geometry.specs.Layer.{origin, signed}
use Rattle.sheet.specs.Edits.{in_range, biased, new_place}

-- the number that the code reads
abbrev pub read : ℤ → ℤ
read z = to_z w32 (of_z w32 z)

moved : (z : ℤ) → in_range z ≡ true → z +ℤ pos origin ≡ pos (biased z)
unfolding in_range biased
moved (pos n) h = ap pos (omega arith)
moved (negsuc n) h = let l = ltb-true n 32_768 h in let m : suc n ≤ origin = omega arith in simp (le-ltb _ _ m)

small : (z : ℤ) → in_range z ≡ true → biased z < 2 ^ 31
unfolding in_range biased
small (pos n) h = let l = ltb-true n 32_768 h in omega arith
small (negsuc n) h = let l = ltb-true n 32_768 h in omega arith

-- a coordinate comes back from its signed number
pub biased-signed : (x : ℕ) → biased (signed x) ≡ x
unfolding biased signed
biased-signed x = go (ltb x origin) refl
  where
    go : (t : Bool) → ltb x origin ≡ t → biased (cond t (negsuc (origin - suc x)) (pos (x - origin))) ≡ x
    go true e = omega (arith, ltb-true x origin e)
    go false e = omega (arith, ltb-false x origin e)

module _ (z : ℤ) (f : SFits w32 z) where
  module _ (h : in_range z ≡ true) where
    sum : read z +ℤ pos origin ≡ pos (biased z)
    sum = ap (λ (x : ℤ). x +ℤ pos origin) (to_z-of_z {z = z} f) ∙ moved z h

    pub sum_fits : SFits w32 (read z +ℤ pos origin)
    sum_fits = rw sum (record { sfits = small z h })

    sum-read : read (read z +ℤ pos origin) ≡ pos (biased z)
    sum-read = to_z-of_z {z = read z +ℤ pos origin} sum_fits ∙ sum

    pub sum_casts : T (non_neg (read (read z +ℤ pos origin))) × Fits w32 (nat_abs (read (read z +ℤ pos origin)))
    sum_casts = rw sum-read (tt, record { fits = omega (arith, small z h) })

    pub sum_is : nat_abs (read (read z +ℤ pos origin)) ≡ biased z
    sum_is = ap nat_abs sum-read

-- a new place, as the code reads its two numbers

module _ (i : ℕ) (x y : ℤ) (fx : SFits w32 x) (fy : SFits w32 y) where
  pub new_place_read : new_place i (read x) (read y) ≡ new_place i x y
  new_place_read = rw (to_z-of_z {z = x} fx, to_z-of_z {z = y} fy)
