-- Numbers in two's complement. Assumes nothing.
use Prim.Native.Nat.{ℕ, suc, ◌+◌, ◌-◌, ◌*◌, ◌^◌, ◌<◌}
use native.Mathlib.Omega.{arith}
use mathlib.Core.Path.{◌≡◌, refl, ap, ◌∙◌}
use mathlib.Core.Bool.{Bool, true, false, cond}
use lib.Dec.{ltb}
use lib.IntN.{ℤ, pos, negsuc}
use lib.ListN.{get_or}
use mathlib.Core.List.{List}
use mir.Syntax.{w8, w32}
use mir.Val.{to_z, of_z, sel, Fits}
use mir.Facts.{of_z-to_z}
use borrow.Author.Tests.{lt-ltb}
use Rattle.sheet.specs.Fields.{le32_at}
use Rattle.entries.specs.Entries.{signed_of}

pub signed_is : (n m : ℕ) (z : ℤ) → n ≡ m → n < 2 ^ 32 → z ≡ to_z w32 n → to_z w32 (of_z w32 z) ≡ signed_of m
unfolding signed_of
signed_is n m z e h q = ap (λ (y : ℤ). to_z w32 (of_z w32 y)) q ∙ ap (to_z w32) (of_z-to_z {w = w32} {n = n} (record { fits = h }) ∙ e) ∙ go (ltb m (2 ^ 31))
  where
    go : (t : Bool) → sel t (pos m) (negsuc (2 ^ 32 - suc m)) ≡ cond t (pos m) (cond (ltb m (2 ^ 32)) (negsuc (2 ^ 32 - suc m)) (pos (m - 2 ^ 32)))
    go true = refl
    go false = rw (lt-ltb m (2 ^ 32) (omega arith))

-- four bytes read as a signed number
pub signed_bytes : (l : List ℕ) (at : ℕ) (z : ℤ) → ((k : ℕ) → Fits w8 (get_or l k 0))
    → z ≡ to_z w32 (get_or l at 0 + get_or l (at + 1) 0 * 256 + get_or l (at + 2) 0 * 65_536 + get_or l (at + 3) 0 * 16_777_216) → to_z w32 (of_z w32 z) ≡ signed_of (le32_at l at)
unfolding le32_at
signed_bytes l at z b e =
    let n = get_or l at 0 + get_or l (at + 1) 0 * 256 + get_or l (at + 2) 0 * 65_536 + get_or l (at + 3) 0 * 16_777_216 in
    signed_is n _ z (omega arith) (omega (arith, (b at).fits, (b (at + 1)).fits, (b (at + 2)).fits, (b (at + 3)).fits)) e
