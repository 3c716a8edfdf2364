-- Laws of the bits of a row: where the bits of a bitmap line stand in its bytes, and a byte by its eight bits. Assumes nothing.
use Prim.Native.Nat.{ℕ, zero, suc, ◌+◌, ◌-◌, ◌*◌, ◌/◌, ◌%◌, ◌^◌, ◌≤◌, ◌<◌}
use native.Mathlib.Nat.{add-zero, add-suc, suc-add, zero-add, not-suc-le-zero, mul_assoc, mul-mod_left, zero-div, div-eq_of_lt, lt_of_lt_of_le, div-one, sub_self, div-add-mod'}
use native.Mathlib.Omega.{arith}
use mathlib.Core.Path.{◌≡◌, refl, sym, ap, ap₂, ◌∙◌}
use mathlib.Core.Bool.{Bool, true, false, cond}
use mathlib.Core.List.{List, [], ◌∷◌}
use mathlib.Core.Logic.{⊎_elim}
use lib.Dec.{ltb, leb}
use lib.Arith.{digits_div, digits_mod}
use native.Mathlib.Numerals.{add-one, one-add}
use lib.Pow.{shr_lt, pow-add, pow_mono, shr-shr, shl-shr, field, mod-mod-pow}
use lib.Bits.{bit_or, or_shr, or_mod, or_zero_r}
use lib.ListN.{length, get_or, set}
use borrow.Author.Tests.{lt-ltb, le-ltb, le-leb, lt-leb}
use Rattle.geometry.specs.Layer.{map_indexed}
use Rattle.geometry.proofs.Rows.{map_first, FirstPainted, row_start, row_step, row_end}
use Rattle.bdf_lines.proofs.Numbers.{lt_or_le}
use Rattle.bdf.specs.Font.{bit, byte_of}
use Rattle.bdf.specs.Writing.{bits_in, with_bits, BitsFit}

-- ---- bits of numbers

-- a bit of the low byte
low_byte : (n d : ℕ) → d < 8 → n % 256 / 2 ^ d % 2 ≡ n / 2 ^ d % 2
low_byte n d h =
    let e : (7 - d) + 1 + d ≡ 8 = omega arith in
    let p : n % 2 ^ 8 / 2 ^ d ≡ n / 2 ^ d % 2 ^ ((7 - d) + 1) = rw e at (field n ((7 - d) + 1) d) in
    ap (λ (v : ℕ). v % 2) p ∙ mod-mod-pow (n / 2 ^ d) (7 - d) 1

-- a bit of a number shifted up, above the shift and below it
shifted : (n m d : ℕ) → m ≤ d → n * 2 ^ m / 2 ^ d ≡ n / 2 ^ (d - m)
shifted n m d h =
    let e : m + (d - m) ≡ d = omega arith in
    rw e at (sym (shr-shr (n * 2 ^ m) m (d - m)) ∙ ap (λ (v : ℕ). v / 2 ^ (d - m)) (shl-shr n m))

shifted_past : (n m d : ℕ) → d < m → n * 2 ^ m / 2 ^ d % 2 ≡ 0
shifted_past n m d h =
    let e : (m - (d + 1)) + 1 + d ≡ m = omega arith in
    let p : n * 2 ^ ((m - (d + 1)) + 1 + d) / 2 ^ d % 2 ≡ 0 =
    rw (pow-add 2 ((m - (d + 1)) + 1) d, ← mul_assoc n (2 ^ ((m - (d + 1)) + 1)) (2 ^ d), shl-shr (n * 2 ^ ((m - (d + 1)) + 1)) d, pow-add 2 (m - (d + 1)) 1, ← mul_assoc n (2 ^ (m - (d + 1))) 2)
    (mul-mod_left (n * 2 ^ (m - (d + 1))) 2) in
    rw e at p

-- ---- the bits of a bitmap line

-- the bit of a line at pixel x, the last of them before the pixel `end`
unfoldable pub line_bit : ℕ → ℕ → ℕ → ℕ
line_bit bits end x = cond (ltb x end) (bits / 2 ^ (end - (x + 1)) % 2) 0

pub line_in : (bits end x : ℕ) → x < end → line_bit bits end x ≡ bits / 2 ^ (end - (x + 1)) % 2
unfolding line_bit
line_in bits end x h = rw (lt-ltb x end h)

pub line_past : (bits end x : ℕ) → end ≤ x → line_bit bits end x ≡ 0
unfolding line_bit
line_past bits end x h = rw (le-ltb x end h)

pub line_before : (bits end x w : ℕ) → bits < 2 ^ w → x + 1 + w ≤ end → line_bit bits end x ≡ 0
line_before bits end x w s h =
    line_in bits end x (omega arith) ∙ rw (div-eq_of_lt (lt_of_lt_of_le s (pow_mono {i = w} {j = end - (x + 1)} (omega arith))))

pub line_none : (end x : ℕ) → line_bit 0 end x ≡ 0
line_none end x = ⊎_elim (λ (h : x < end). line_in 0 end x h ∙ rw (zero-div (2 ^ (end - (x + 1))))) (λ (h : end ≤ x). line_past 0 end x h) (lt_or_le x end)

-- where the line lies in a row does not matter
pub line_moved : (bits end x a : ℕ) → line_bit bits (a + end) (a + x) ≡ line_bit bits end x
line_moved bits end x a = ⊎_elim
    (λ (h : x < end). let e : a + end - (a + x + 1) ≡ end - (x + 1) = omega arith in line_in bits (a + end) (a + x) (omega arith) ∙ rw e (sym (line_in bits end x h)))
    (λ (h : end ≤ x). line_past bits (a + end) (a + x) (omega arith) ∙ sym (line_past bits end x h))
    (lt_or_le x end)

-- a bit of a byte of a row
bits_in-bit : (bits end j q : ℕ) → q < 8 → bits_in bits end j / 2 ^ (7 - q) % 2 ≡ line_bit bits end (8 * j + q)
unfolding bits_in
bits_in-bit bits end j q h = ⊎_elim
    (λ (u : end < 8 * j + 8). rw (lt-leb (8 * j + 8) end u, low_byte (bits * 2 ^ (8 * j + 8 - end)) (7 - q) (omega arith)) (⊎_elim
    (λ (v : 8 * j + q < end).
    let e : 7 - q - (8 * j + 8 - end) ≡ end - (8 * j + q + 1) = omega arith in
    rw (shifted bits (8 * j + 8 - end) (7 - q) (omega arith), e) (sym (line_in bits end (8 * j + q) v)))
    (λ (v : end ≤ 8 * j + q). shifted_past bits (8 * j + 8 - end) (7 - q) (omega arith) ∙ sym (line_past bits end (8 * j + q) v))
    (lt_or_le (8 * j + q) end)))
    (λ (u : 8 * j + 8 ≤ end).
    let e : end - (8 * j + 8) + (7 - q) ≡ end - (8 * j + q + 1) = omega arith in
    rw (le-leb (8 * j + 8) end u, low_byte (bits / 2 ^ (end - (8 * j + 8))) (7 - q) (omega arith), shr-shr bits (end - (8 * j + 8)) (7 - q), e)
    (sym (line_in bits end (8 * j + q) (omega arith))))
    (lt_or_le end (8 * j + 8))

pub bits_in_small : (bits end j : ℕ) → bits_in bits end j < 256
unfolding bits_in
bits_in_small bits end j = go (leb (8 * j + 8) end)
  where
    go : (t : Bool) → cond t (bits / 2 ^ (end - (8 * j + 8)) % 256) (bits * 2 ^ (8 * j + 8 - end) % 256) < 256
    go true = omega arith
    go false = omega arith

-- a bit of a byte after the line is put into it
pub with_bits-bit : (bits end j q b : ℕ) → q < 8 → with_bits bits end j b / 2 ^ (7 - q) % 2 ≡ bit_or (b / 2 ^ (7 - q) % 2) (line_bit bits end (8 * j + q))
unfolding with_bits
with_bits-bit bits end j q b h =
    ap (λ (v : ℕ). v % 2) (or_shr b (bits_in bits end j) (7 - q)) ∙ or_mod (b / 2 ^ (7 - q)) (bits_in bits end j / 2 ^ (7 - q)) 1
    ∙ ap (bit_or (b / 2 ^ (7 - q) % 2)) (bits_in-bit bits end j q h)

-- ---- a byte by its bits

-- the number of the first n of some bits, the first the highest
bits_of : (ℕ → Bool) → ℕ → ℕ
bits_of p zero = 0
bits_of p (suc n) = bits_of p n * 2 + bit (p n)

bit_small : (t : Bool) → bit t < 2
bit_small true = omega arith
bit_small false = omega arith

-- its bits are these
bit_of_bits : (p : ℕ → Bool) (n m i : ℕ) → i + suc m ≡ n → bits_of p n / 2 ^ m % 2 ≡ bit (p i)
unfolding bits_of
bit_of_bits p zero m i e = absurd (omega arith)
bit_of_bits p (suc n) zero i e = let f : i ≡ n = omega arith in rw (f, div-one (bits_of p n * 2 + bit (p n))) (digits_mod (bits_of p n) (bit_small (p n)))
bit_of_bits p (suc n) (suc m) i e =
    rw (← one-add m, ← shr-shr (bits_of p n * 2 + bit (p n)) 1 m, digits_div (bits_of p n) (bit_small (p n))) (bit_of_bits p n m i (omega arith))

-- and no other number has them
number_of_bits : (p : ℕ → Bool) (n v : ℕ) → v < 2 ^ n → ((i : ℕ) → i < n → v / 2 ^ (n - suc i) % 2 ≡ bit (p i)) → v ≡ bits_of p n
unfolding bits_of
number_of_bits p zero v small h = omega arith
number_of_bits p (suc n) v small h =
    let e : v / 2 ≡ bits_of p n =
    number_of_bits p n (v / 2) (shr_lt n 1 (rw add-one small))
    (λ i l. let f : 1 + (n - suc i) ≡ suc n - suc i = omega arith in rw (shr-shr v 1 (n - suc i), f) (h i (omega arith))) in
    let last : v % 2 ≡ bit (p n) = rw (sub_self (suc n), div-one v) at (h n (omega arith)) in
    sym (div-add-mod' v 2) ∙ rw (e, last)

byte_bits : (p : ℕ → Bool) → byte_of p ≡ bits_of p 8
unfolding byte_of bits_of
byte_bits p = omega arith

pub byte_of-bit : (p : ℕ → Bool) (i : ℕ) → i < 8 → byte_of p / 2 ^ (7 - i) % 2 ≡ bit (p i)
byte_of-bit p i h = rw (byte_bits p) (bit_of_bits p 8 (7 - i) i (omega arith))

pub byte_of_bits : (v : ℕ) (p : ℕ → Bool) → v < 256 → ((i : ℕ) → i < 8 → v / 2 ^ (7 - i) % 2 ≡ bit (p i)) → v ≡ byte_of p
byte_of_bits v p small h = number_of_bits p 8 v small (λ i l. let e : 8 - suc i ≡ 7 - i = omega arith in rw e (h i l)) ∙ sym (byte_bits p)

-- ---- bits put into a row, byte by byte

-- a byte that has none of the bits
bits_in_none : (bits end j : ℕ) → ((q : ℕ) → q < 8 → line_bit bits end (8 * j + q) ≡ 0) → bits_in bits end j ≡ 0
unfolding byte_of
bits_in_none bits end j h = byte_of_bits (bits_in bits end j) (λ i. false) (bits_in_small bits end j) (λ i l. bits_in-bit bits end j i l ∙ h i l)

with_bits_none : (bits end j b : ℕ) → ((q : ℕ) → q < 8 → line_bit bits end (8 * j + q) ≡ 0) → with_bits bits end j b ≡ b
unfolding with_bits
with_bits_none bits end j b h = ap (bit_or b) (bits_in_none bits end j h) ∙ or_zero_r b

-- elements that a map leaves as they are count as mapped
map_first_on : (f : ℕ → ℕ → ℕ) (k n m : ℕ) (xs : List ℕ) → n ≤ m → ((i x : ℕ) → n ≤ i → i < m → f (k + i) x ≡ x) → map_first f k n xs ≡ map_first f k m xs
map_first_on f k zero zero xs l h = refl
map_first_on f k zero (suc m) [] l h = refl
map_first_on f k zero (suc m) (x ∷ xs) l h =
    ap₂ ◌∷◌ (sym (rw (add-zero k) at (h 0 x (omega arith) (omega arith))))
    (map_first_on f (suc k) zero m xs (omega arith) (λ i x u v. rw (suc-add k i, ← add-suc k i) (h (suc i) x (omega arith) (omega arith))))
map_first_on f k (suc n) zero xs l h = absurd (not-suc-le-zero l)
map_first_on f k (suc n) (suc m) [] l h = refl
map_first_on f k (suc n) (suc m) (x ∷ xs) l h =
    ap (λ (t : List ℕ). f k x ∷ t)
    (map_first_on f (suc k) n m xs (omega arith) (λ i x u v. rw (suc-add k i, ← add-suc k i) (h (suc i) x (omega arith) (omega arith))))

row_skip : (f : ℕ → ℕ → ℕ) (n m : ℕ) (xs row : List ℕ) → FirstPainted f 0 n xs row → n ≤ m → m ≤ length xs → ((i x : ℕ) → n ≤ i → i < m → f i x ≡ x) → FirstPainted f 0 m xs row
row_skip f n m xs row p l room h = record {
  painted = p.painted ∙ map_first_on f 0 n m xs l (λ i x u v. rw (zero-add i) (h i x u v));
  reach = room;
  size = p.size;
}

-- the state of the loop: the bytes before byte j have their bits
pub record BitsPut (left end bits j : ℕ) (xs row : List ℕ) : Type 0 where
  pub put : FirstPainted (with_bits bits end) 0 j xs row
  pub begun : left / 8 ≤ j

pub bits_start : (left end bits : ℕ) (xs : List ℕ) → BitsFit left end bits (length xs) → BitsPut left end bits (left / 8) xs xs
bits_start left end bits xs f = record {
  put = row_skip (with_bits bits end) 0 (left / 8) xs xs (row_start _ 0 xs) (omega arith) (omega arith)
      (λ i x u v. with_bits_none bits end i x (λ q l. line_before bits end (8 * i + q) (end - left) f.small (omega arith)));
  begun = omega arith;
}

-- no bits from byte j on
all-put : (bits end j : ℕ) (xs row : List ℕ) → FirstPainted (with_bits bits end) 0 j xs row → end ≤ 8 * j → row ≡ map_indexed (with_bits bits end) 0 xs
all-put bits end j xs row p h =
    row_end (with_bits bits end) 0 (length xs) xs row
    (row_skip (with_bits bits end) j (length xs) xs row p (omega arith) (omega arith)
    (λ i x u v. with_bits_none bits end i x (λ q l. line_past bits end (8 * i + q) (omega arith))))
    (omega arith)

module _ (left end bits j : ℕ) (xs row : List ℕ) (f : BitsFit left end bits (length xs)) (p : BitsPut left end bits j xs row) where
  -- all of byte j
  pub bits_step : j < end / 8 → BitsPut left end bits (j + 1) xs (set row j (bit_or (get_or row j 0) (bits / 2 ^ (end - (8 * j + 8)) % 256)))
  unfolding with_bits bits_in
  bits_step h = record {
    put = row_step (with_bits bits end) j _ xs row p.put (omega arith) (rw (le-leb (8 * j + 8) end (omega arith)));
    begun = omega arith;
  }

  module _ (past : end / 8 ≤ j) (last : left / 8 ≤ end / 8 → j ≤ end / 8) where
    -- the bits end before byte j
    pub bits_end : end % 8 ≡ 0 → row ≡ map_indexed (with_bits bits end) 0 xs
    bits_end h = all-put bits end j xs row p.put (omega arith)

    -- the rest of the bits, in byte j
    pub bits_last : (end % 8 ≡ 0 → ⊥) → set row (end / 8) (bit_or (get_or row (end / 8) 0) (bits * 2 ^ (8 - end % 8) % 2 ^ 64 % 256)) ≡ map_indexed (with_bits bits end) 0 xs
    unfolding with_bits bits_in
    bits_last h =
        let here : end / 8 ≡ j = omega (arith, f.ordered) in
        let shift : 8 - end % 8 ≡ 8 * j + 8 - end = omega (arith, f.ordered) in
        let some : 8 * j < end = omega (arith, f.ordered) in
        let rest : end < 8 * j + 8 = omega (arith, f.ordered) in
        let q : FirstPainted (with_bits bits end) 0 (j + 1) xs (set row j (bit_or (get_or row j 0) (bits * 2 ^ (8 * j + 8 - end) % 2 ^ 64 % 256))) =
        row_step (with_bits bits end) j _ xs row p.put (omega (arith, f.within)) (rw (lt-leb (8 * j + 8) end rest, mod-mod-pow (bits * 2 ^ (8 * j + 8 - end)) 56 8)) in
        rw (shift, here) (all-put bits end (j + 1) xs _ q (omega arith))
