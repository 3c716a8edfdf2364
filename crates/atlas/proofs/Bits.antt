-- Laws of an atlas's bits: where the bytes of a pixel stand, and which bits of them are the next eight pixels. Assumes nothing.
use Prim.Native.Nat.{ℕ, ◌+◌, ◌-◌, ◌*◌, ◌/◌, ◌%◌, ◌^◌, ◌≤◌, ◌<◌}
use native.Mathlib.Nat.{add-mul-div_right, add-mul-mod_self_right}
use native.Mathlib.Decide.{dec_lt}
use native.Mathlib.Omega.{arith}
use mathlib.Core.Path.{◌≡◌, sym, ap, ◌∙◌}
use mathlib.Core.List.{List}
use mathlib.Core.Logic.{◌⊎◌, inl, inr, ⊎_elim}
use lib.ListN.{length, get_or, take, drop}
use lib.Pow.{pow-add, pow_pos, shr-shr}
use lib.Arith.{digits_div}
use lib.Dec.{eqb}
use mir.Syntax.{w8}
use mir.Val.{Fits}
use borrow.Rule.Slice.PartMut.{put_mid}
use Rattle.std.specs.Prelude.{Option}
use Rattle.geometry.specs.Layer.{map_indexed}
use Rattle.geometry.proofs.Rows.{FirstPainted, row_start, row_part, row_end}
use Rattle.atlas.specs.Row.{blend, image_row, bits_at, bit_row}

-- the bits of the upper of two bytes, and of the lower
upper : (high low d : ℕ) → low < 256 → (high * 256 + low) / 2 ^ (8 + d) ≡ high / 2 ^ d
upper high low d h = sym (shr-shr (high * 256 + low) 8 d) ∙ ap (λ (n : ℕ). n / 2 ^ d) (digits_div high h)

lower : (high low d : ℕ) → d < 8 → (high * 256 + low) / 2 ^ d % 2 ≡ low / 2 ^ d % 2
lower high low d h =
    let eight : (7 - d) + (1 + d) ≡ 8 = omega arith in
    let p : 2 ^ (7 - d) * (2 ^ 1 * 2 ^ d) ≡ 256 = rw (← pow-add 2 1 d, ← pow-add 2 (7 - d) (1 + d), eight) in
    let q : high * (2 ^ (7 - d) * (2 ^ 1 * 2 ^ d)) + low ≡ low + high * 2 ^ (7 - d) * 2 * 2 ^ d = omega arith in
    rw ((rw p at q), add-mul-div_right low (high * 2 ^ (7 - d) * 2) (pow_pos d), add-mul-mod_self_right (low / 2 ^ d) (high * 2 ^ (7 - d)) 2)

lt_or_le : (a b : ℕ) → (a < b) ⊎ (b ≤ a)
lt_or_le a b = go (dec_lt a b)
  where
    go : Dec (a < b) → (a < b) ⊎ (b ≤ a)
    go (yes h) = inl h
    go (no h) = inr (omega arith)

-- two bytes from pixel x on, shifted so that bit 7 is pixel x
module _ (high low x : ℕ) (small : low < 256) where
  upper-bit : (i : ℕ) → i < 8 → x % 8 + i < 8 → (high * 256 + low) / 2 ^ (8 - x % 8) / 2 ^ (7 - i) % 2 ≡ high / 2 ^ (7 - (x + i) % 8) % 2
  upper-bit i h u =
      let p : (8 - x % 8) + (7 - i) ≡ 8 + (7 - (x + i) % 8) = omega arith in
      rw (shr-shr (high * 256 + low) (8 - x % 8) (7 - i), p, upper high low (7 - (x + i) % 8) small)

  lower-bit : (i : ℕ) → i < 8 → 8 ≤ x % 8 + i → (high * 256 + low) / 2 ^ (8 - x % 8) / 2 ^ (7 - i) % 2 ≡ low / 2 ^ (7 - (x + i) % 8) % 2
  lower-bit i h u =
      let p : (8 - x % 8) + (7 - i) ≡ 7 - (x + i) % 8 = omega arith in
      rw (shr-shr (high * 256 + low) (8 - x % 8) (7 - i), p, lower high low (7 - (x + i) % 8) (omega arith))

module _ (line : List ℕ) (small : (k : ℕ) → Fits w8 (get_or line k 0)) (x : ℕ) where
  -- bit 7 - i of the number at pixel x is pixel x + i
  bit-is-pixel : (i : ℕ) → i < 8 → bits_at line x / 2 ^ (7 - i) % 2 ≡ get_or line ((x + i) / 8) 0 / 2 ^ (7 - (x + i) % 8) % 2
  unfolding bits_at
  bit-is-pixel i h = ⊎_elim
      (λ (u : x % 8 + i < 8). let q : (x + i) / 8 ≡ x / 8 = omega arith in rw q (upper-bit (get_or line (x / 8) 0) (get_or line (x / 8 + 1) 0) x (omega (arith, small (x / 8 + 1))) i h u))
      (λ (u : 8 ≤ x % 8 + i).
      let q : (x + i) / 8 ≡ x / 8 + 1 = omega arith in
      rw q (lower-bit (get_or line (x / 8) 0) (get_or line (x / 8 + 1) 0) x (omega (arith, small (x / 8 + 1))) i h u))
      (lt_or_le (x % 8 + i) 8)

  pub bit_row_lem : (text background : Option ℕ) (i grey : ℕ) → i < 8 → bit_row (bits_at line x) text background i grey ≡ image_row line text background (x + i) grey
  unfolding bit_row image_row
  bit_row_lem text background i grey h = ap (λ (n : ℕ). blend (eqb n 1) text background grey) (bit-is-pixel i h)

-- a row of just k pixels, drawn as a part of itself
pub whole_part : (k bits : ℕ) (text background : Option ℕ) (xs part : List ℕ) → length xs ≡ k
    → part ≡ map_indexed (bit_row bits text background) 0 (take (k - 0) (drop 0 xs)) → put_mid 0 (k - 0) xs part ≡ map_indexed (bit_row bits text background) 0 xs
whole_part k bits text background xs part n e =
    let p =
    row_part (bit_row bits text background) (bit_row bits text background) 0 0 k xs xs part (row_start _ 0 xs) (omega arith) (omega arith) e
    (λ i grey l. let z : 0 + 0 + i ≡ i = omega arith in rw z) in
    row_end (bit_row bits text background) 0 k xs _ p (omega (arith, p.size))

-- a loop over a row, drawn in parts from the bits at their first pixel
module _ (line : List ℕ) (x n bits : ℕ) (text background : Option ℕ) (xs row part : List ℕ) (small : (k : ℕ) → Fits w8 (get_or line k 0))
    (p : FirstPainted (image_row line text background) x n xs row) (e : bits ≡ bits_at line (x + n)) where
  -- the part from n to k
  part_step : (k : ℕ) → n ≤ k → k ≤ n + 8 → k ≤ length xs → part ≡ map_indexed (bit_row bits text background) 0 (take (k - n) (drop n row))
      → FirstPainted (image_row line text background) x k xs (put_mid n (k - n) row part)
  part_step k le near room ep =
      row_part (image_row line text background) (bit_row bits text background) x n k xs row part p le (omega arith) ep
      (λ i grey h. rw e (bit_row_lem line small (x + n) text background i grey (omega arith)))

  -- eight pixels
  pub eight_step : 8 ≤ length row - n → part ≡ map_indexed (bit_row bits text background) 0 (take (n + 8 - n) (drop n row))
      → FirstPainted (image_row line text background) x (n + 8) xs (put_mid n (n + 8 - n) row part)
  eight_step h ep = part_step (n + 8) (omega arith) (omega arith) (omega arith) ep

  -- the rest, fewer than eight
  pub rest_step : length row - n < 8 → part ≡ map_indexed (bit_row bits text background) 0 (take (length row - n) (drop n row))
      → put_mid n (length row - n) row part ≡ map_indexed (image_row line text background) x xs
  rest_step h ep =
      let q = part_step (length row) (omega arith) (omega arith) (omega arith) ep in
      row_end (image_row line text background) x (length row) xs _ q (omega (arith, q.size))
