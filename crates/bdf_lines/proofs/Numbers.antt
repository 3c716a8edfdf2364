-- Laws of numbers as the functions read them, digit by digit. Assumes nothing.
use Prim.Native.Nat.{ℕ, suc, ◌+◌, ◌-◌, ◌*◌, ◌/◌, ◌%◌, ◌^◌, ◌≤◌, ◌<◌, min}
use native.Mathlib.Omega.{arith}
use native.Mathlib.Decide.{dec_lt}
use native.Mathlib.Numerals.{add-one}
use native.Mathlib.Nat.{pow-suc, pow-le-pow_right, mod-eq_of_lt}
use mathlib.Core.Path.{◌≡◌, refl, sym, ap, ◌∙◌}
use mathlib.Core.Bool.{Bool, true, false, not, cond, ◌&&◌, and-false, true≢false}
use mathlib.Core.Logic.{◌⊎◌, inl, inr}
use mathlib.Core.List.{List, [], ◌∷◌}
use lib.ListN.{length, take, drop, get_or, drop_of_length-le, length-drop}
use lib.Seq.{drop-cons, take_all}
use lib.Dec.{eqb, leb, ltb}
use lib.Bits.{bit_or, or_add_and, and_le_l, and_le_r, or_lt, or_shifted}
use borrow.Author.Tests.{eqb-true, leb-true, leb-false, lt-leb, eq-eqb, ne_eqb, not-true, not-false}
use Rattle.std.specs.Int.{from_bool, div_ceil}
use Rattle.std.specs.Prelude.{Option, Some, None}
use Rattle.bdf_lines.specs.declared.values.Number.{Number}
use Rattle.bdf_lines.specs.Words.{is_digit, are_digits, decimal_from, most, signed, digits_of, number_of, is_hex, hex_value, are_hex, hex_from, is_row, row_bits, row_of}
use Rattle.bdf_lines.specs.Rest.{hex_of}
use Rattle.bdf_lines.specs.Table.{digit_value, IsTable}

pub lt_or_le : (a b : ℕ) → (a < b) ⊎ (b ≤ a)
lt_or_le a b = go (dec_lt a b)
  where
    go : Dec (a < b) → (a < b) ⊎ (b ≤ a)
    go (yes h) = inl h
    go (no h) = inr (omega arith)

-- ---- tests

-- what a test by a call says where it is negated
pub passed : (t u : Bool) → t ≡ u → not t ≡ false → u ≡ true
passed t u e h = sym e ∙ not-false t h

pub failed : (t u : Bool) → t ≡ u → not t ≡ true → u ≡ false
failed t u e h = sym e ∙ not-true t h

both_first : (t u : Bool) → (t && u) ≡ true → t ≡ true
both_first true u e = refl
both_first false u e = e

both_second : (t u : Bool) → (t && u) ≡ true → u ≡ true
both_second true u e = e
both_second false u e = cc

-- ---- `is_digit`, `appended`: a decimal digit

pub digit_low : (b : ℕ) → is_digit b ≡ true → 0x30 ≤ b
unfolding is_digit
digit_low b e = leb-true 0x30 b (both_first (leb 0x30 b) (leb b 0x39) e)

digit_high : (b : ℕ) → is_digit b ≡ true → b ≤ 0x39
unfolding is_digit
digit_high b e = leb-true b 0x39 (both_second (leb 0x30 b) (leb b 0x39) e)

pub appended_fits : (v b w : ℕ) → is_digit b ≡ true → v < 1_800_000_000_000_000_000 → w ≡ b - 0x30 → v * 10 + w ≡ min (v * 10 + (b - 0x30)) most
appended_fits v b w e h q = omega (arith, digit_high b e)

-- ---- `digits`: a turn at position i of the word

-- what the digits from some digit on say, after the digits of v
pub digits_from : Bool → ℕ → List ℕ → Option Number
digits_from minus v s = cond (are_digits s) (Some (signed minus (min (decimal_from v s) most))) None

-- a number that is clipped on the way is clipped
pub clipped : (s : List ℕ) (v : ℕ) → min (decimal_from (min v most) s) most ≡ min (decimal_from v s) most
unfolding decimal_from
clipped [] v = omega arith
clipped (b ∷ s) v =
    let same : min (min v most * 10 + (b - 0x30)) most ≡ min (v * 10 + (b - 0x30)) most = omega arith in
    sym (clipped s (min v most * 10 + (b - 0x30))) ∙ ap (λ (n : ℕ). min (decimal_from n s) most) same ∙ clipped s (v * 10 + (b - 0x30))

module _ (word : List ℕ) (minus : Bool) where
  -- t is what `is_empty` says
  module _ (t : Bool) (d : t ≡ eqb (length word) 0) where
    pub digits_none : t ≡ true → None ≡ digits_of minus word
    unfolding digits_of
    digits_none e = go word (sym d ∙ e)
      where
        go : (s : List ℕ) → eqb (length s) 0 ≡ true → None ≡ digits_of minus s
        go [] f = refl
        go (b ∷ s) f = absurd (omega (arith, eqb-true (length (b ∷ s)) 0 f))

    pub digits-start : t ≡ false → digits_from minus 0 word ≡ digits_of minus word
    unfolding digits_of digits_from
    digits-start e = go word (sym d ∙ e)
      where
        go : (s : List ℕ) → eqb (length s) 0 ≡ false → digits_from minus 0 s ≡ digits_of minus s
        go [] f = absurd (true≢false f)
        go (b ∷ s) f = refl

  module _ (i v : ℕ) (inv : digits_from minus v (drop i word) ≡ digits_of minus word) where
    pub digits_wrong : i < length word → is_digit (get_or word i 0) ≡ false → None ≡ digits_of minus word
    unfolding digits_from are_digits
    digits_wrong h e = rw (drop-cons word i 0 h, e) at inv

    pub digits_again : (w : ℕ) → i < length word → is_digit (get_or word i 0) ≡ true → w ≡ min (v * 10 + (get_or word i 0 - 0x30)) most
        → digits_from minus w (drop (i + 1) word) ≡ digits_of minus word
    unfolding digits_from are_digits decimal_from
    digits_again w h e q = rw (q, add-one i, clipped (drop (suc i) word) (v * 10 + (get_or word i 0 - 0x30))) (rw (drop-cons word i 0 h, e) at inv)

    pub digits_end : length word ≤ i → v ≤ most → Some (record { negative = minus && ltb 0 v; size = v }) ≡ digits_of minus word
    unfolding digits_from are_digits decimal_from signed
    digits_end h m = let e : min v most ≡ v = omega arith in rw (drop_of_length-le word h, e) at inv

-- ---- `number_of`: a word that is a number

-- t is what `is_empty` says
module _ (word : List ℕ) (t : Bool) (d : t ≡ eqb (length word) 0) where
  pub number_none : t ≡ true → None ≡ number_of word
  unfolding number_of
  number_none e = go word (sym d ∙ e)
    where
      go : (s : List ℕ) → eqb (length s) 0 ≡ true → None ≡ number_of s
      go [] f = refl
      go (b ∷ s) f = absurd (omega (arith, eqb-true (length (b ∷ s)) 0 f))

  -- after a sign, which takes k bytes
  pub number_signed : t ≡ false → (k : ℕ) → k ≡ from_bool (eqb (get_or word 0 0) 0x2D) → (r : Option Number) → r ≡ digits_of (eqb (get_or word 0 0) 0x2D) (take (length word - k) (drop k word)) → r ≡ number_of word
  unfolding number_of
  number_signed e k f r q = go word (sym d ∙ e) f (rw (take_all (length word - k) (drop k word) (omega (arith, length-drop k word))) at q)
    where
      on : (b : ℕ) (s : List ℕ) (m : Bool) → k ≡ from_bool m → r ≡ digits_of m (drop k (b ∷ s)) → r ≡ cond m (digits_of true s) (digits_of false (b ∷ s))
      on b s true g p = rw g at p
      on b s false g p = rw g at p

      go : (s : List ℕ) → eqb (length s) 0 ≡ false → k ≡ from_bool (eqb (get_or s 0 0) 0x2D) → r ≡ digits_of (eqb (get_or s 0 0) 0x2D) (drop k s) → r ≡ number_of s
      go [] h g p = absurd (true≢false h)
      go (b ∷ s) h g p = on b s (eqb b 0x2D) g p

-- ---- a hexadecimal digit

module _ (b : ℕ) (hex : is_hex b ≡ true) where
  -- after F it is from a to f
  lower : 0x46 < b → (leb 0x61 b && leb b 0x66) ≡ true
  unfolding is_hex is_digit
  lower h = simp (lt-leb b 0x39 (omega arith), lt-leb b 0x46 h, and-false) at hex

  lower-small : 0x46 < b → b - 0x57 < 16
  lower-small h = omega (arith, leb-true b 0x66 (both_second (leb 0x61 b) (leb b 0x66) (lower h)))

  hex_small : hex_value b < 16
  unfolding hex_value
  hex_small = go (leb b 0x39) (leb b 0x46) refl refl
    where
      go : (t u : Bool) → leb b 0x39 ≡ t → leb b 0x46 ≡ u → cond t (b - 0x30) (cond u (b - 0x37) (b - 0x57)) < 16
      go true u p q = omega (arith, leb-true b 0x39 p)
      go false true p q = omega (arith, leb-true b 0x46 q)
      go false false p q = lower-small (leb-false b 0x46 q)

-- what the table has at a byte: below 16 just where it is a digit
module _ (b : ℕ) where
  value-digit : digit_value b < 16 → is_hex b ≡ true
  unfolding digit_value
  value-digit = go (is_hex b)
    where
      go : (t : Bool) → cond t (hex_value b) 255 < 16 → t ≡ true
      go true h = refl
      go false h = absurd (omega arith)

  value-is : is_hex b ≡ true → digit_value b ≡ hex_value b
  unfolding digit_value
  value-is e = rw e

-- numbers joined bit by bit

or_left : (a b : ℕ) → a ≤ bit_or a b
or_left a b = omega (arith, or_add_and a b, and_le_r a b)

or_right : (a b : ℕ) → b ≤ bit_or a b
or_right a b = omega (arith, or_add_and a b, and_le_l a b)

-- ---- `hexadecimal`: a turn at digit i

-- what the digits from some digit on say, after the digits of v
pub hex_of_from : ℕ → List ℕ → Option ℕ
hex_of_from v s = cond (are_hex s) (Some (hex_from v s)) None

-- before digit i, with the number v of those before it, and `all` of their values together
pub record HexInv (digits : List ℕ) (v all i : ℕ) : Type 0 where
  pub small : all < 16 → v < 16 ^ i
  pub same : all < 16 → hex_of_from v (drop i digits) ≡ hex_of digits
  pub wrong : 16 ≤ all → None ≡ hex_of digits

pub hex_start : (digits : List ℕ) → HexInv digits 0 0 0
unfolding hex_of_from hex_of
hex_start digits = record { small = λ h. omega arith; same = λ h. refl; wrong = λ h. absurd (omega arith) }

module _ (digits : List ℕ) (v all i : ℕ) (inv : HexInv digits v all i) where
  pub hex_end : length digits ≤ i → all < 16 → Some v ≡ hex_of digits
  unfolding hex_of_from are_hex hex_from
  hex_end h l = rw (drop_of_length-le digits h) at (inv.same l)

  pub hex_wrong : 16 ≤ all → None ≡ hex_of digits
  hex_wrong h = inv.wrong h

  -- where all of them are digits, v has i digits of at most 16, and no bit of it is dropped
  module _ (short : length digits ≤ 16) (within : i < length digits) (d : ℕ) (few : bit_or all d < 16) where
    few-before : all < 16
    few-before = omega (arith, or_left all d)

    few-here : d < 16
    few-here = omega (arith, or_right all d)

    times-fits : v * 16 < 2 ^ 64
    times-fits =
        let p : 16 ^ suc i ≤ 16 ^ 16 = pow-le-pow_right {n = 16} (omega arith) {i = suc i} {j = 16} (omega arith) in
        let q : 16 ^ suc i ≡ 16 ^ i * 16 = pow-suc 16 i in
        omega (arith, inv.small few-before)

    joined : bit_or (v * 16 % 2 ^ 64) d ≡ v * 16 + d
    joined = rw (mod-eq_of_lt times-fits) (or_shifted v 4 d few-here)

    joined_small : v * 16 + d < 16 ^ (i + 1)
    joined_small =
        let q : 16 ^ (i + 1) ≡ 16 ^ i * 16 = ap (λ (n : ℕ). 16 ^ n) (add-one i) ∙ pow-suc 16 i in
        omega (arith, inv.small few-before, few-here)

    joined_same : d ≡ digit_value (get_or digits i 0) → hex_of_from (v * 16 + d) (drop (i + 1) digits) ≡ hex_of digits
    unfolding hex_of_from are_hex hex_from
    joined_same e =
        let b = get_or digits i 0 in
        let x : is_hex b ≡ true = value-digit b (rw (← e) few-here) in
        rw (e ∙ value-is b x, add-one i) (rw (drop-cons digits i 0 within, x) at (inv.same few-before))

  -- one is wrong: it was before, or it is this one
  still-wrong : i < length digits → 16 ≤ bit_or all (digit_value (get_or digits i 0)) → None ≡ hex_of digits
  unfolding hex_of_from are_hex
  still-wrong within h = go (lt_or_le all 16) (is_hex (get_or digits i 0)) refl
    where
      go : (all < 16) ⊎ (16 ≤ all) → (t : Bool) → is_hex (get_or digits i 0) ≡ t → None ≡ hex_of digits
      go (inr l) t e = inv.wrong l
      go (inl l) true e =
          let d : digit_value (get_or digits i 0) < 16 = rw (value-is (get_or digits i 0) e) (hex_small (get_or digits i 0) e) in
          absurd (omega (arith, or_lt 4 all (digit_value (get_or digits i 0)) l d))
      go (inl l) false e = rw (drop-cons digits i 0 within, e) at (inv.same l)

  pub hex_again : (table : List ℕ) (k w : ℕ) → IsTable table → length digits ≤ 16 → i < length digits → k ≡ get_or digits i 0 → get_or digits i 0 < 256 → w ≡ get_or table k 0
      → HexInv digits (bit_or (v * 16 % 2 ^ 64) w) (bit_or all (get_or table k 0)) (i + 1)
  hex_again table k w t short within e l q =
      let d : get_or table k 0 ≡ digit_value (get_or digits i 0) = t.entry k (rw e l) ∙ ap digit_value e in
      record {
        small = λ h. rw (q, joined short within (get_or table k 0) h) (joined_small short within (get_or table k 0) h);
        same = λ h. rw (q, joined short within (get_or table k 0) h) (joined_same short within (get_or table k 0) h d);
        wrong = λ h. still-wrong within (rw (← d) h);
      }

-- what the answer of `hexadecimal` says of the digits
module _ (s : List ℕ) {r : Option ℕ} (e : r ≡ hex_of s) where
  pub hex_of_wrong : r ≡ None → are_hex s ≡ false
  unfolding hex_of
  hex_of_wrong q = go (are_hex s) (sym e ∙ q)
    where
      go : (t : Bool) → cond t (Some (hex_from 0 s)) None ≡ None → t ≡ false
      go true p = cc
      go false p = refl

  module _ {v : ℕ} (q : r ≡ Some v) where
    pub hex_of_bits : are_hex s ≡ true
    unfolding hex_of
    hex_of_bits = go (are_hex s) (sym e ∙ q)
      where
        go : (t : Bool) → cond t (Some (hex_from 0 s)) None ≡ Some v → t ≡ true
        go true p = refl
        go false p = cc

    hex-of-value : hex_from 0 s ≡ v
    unfolding hex_of
    hex-of-value = let p : Some (hex_from 0 s) ≡ Some v = rw hex_of_bits at (sym e ∙ q) in cc

-- ---- `row_of`: a bitmap line of n bytes

module _ (width : ℕ) (line : List ℕ) (n : ℕ) (c : n ≡ div_ceil width 8) where
  bytes_are : n ≡ (width + 7) / 8
  bytes_are = c ∙ omega arith

  pub row_length : (length line ≡ 2 * n → ⊥) → None ≡ row_of width line
  unfolding row_of is_row
  row_length f = rw (← bytes_are, ne_eqb (length line) (2 * n) f)

  module _ (h : length line ≡ 2 * n) (r : Option ℕ) (e : r ≡ hex_of line) where
    row_is : row_of width line ≡ cond (are_hex line) (Some (row_bits width line)) None
    unfolding row_of is_row
    row_is = rw (← bytes_are, eq-eqb (length line) (2 * n) h)

    pub row_wrong : r ≡ None → None ≡ row_of width line
    row_wrong q = rw (row_is, hex_of_wrong line e q)

    pub row_bits_lem : (v : ℕ) → r ≡ Some v → Some (v / 2 ^ (8 * n - width)) ≡ row_of width line
    unfolding row_bits
    row_bits_lem v q = rw (row_is, hex_of_bits line e q, hex-of-value line e q, bytes_are)
