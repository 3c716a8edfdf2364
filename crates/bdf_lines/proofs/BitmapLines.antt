-- Laws of bitmap lines: the bits that their digits make, and a line that is found by the number of its digits. Assumes nothing.
use Prim.Native.Nat.{ℕ, zero, suc, ◌+◌, ◌-◌, ◌*◌, ◌/◌, ◌^◌, ◌≤◌, ◌<◌}
use native.Mathlib.Nat.{mul-le-mul_right, zero-add}
use native.Mathlib.Omega.{arith}
use native.Mathlib.Numerals.{add-one}
use mathlib.Core.Path.{◌≡◌, refl, sym, ap, ◌∙◌}
use mathlib.Core.Bool.{Bool, true, false, cond, ◌&&◌, ◌||◌, true≢false, false≢true, and-false, and-eq-true_iff}
use mathlib.Core.Logic.{◌⊎◌, inl, inr}
use mathlib.Core.List.{List, [], ◌∷◌}
use lib.ListN.{length, take, drop, get_or}
use lib.Seq.{get_or-take, get_or-drop, drop-cons, drop-drop, take-take, length-take-le}
use lib.Dec.{leb, eqb}
use lib.Pow.{pow-add, shr_lt}
use borrow.Author.Tests.{leb-true, eqb-true, eq-eqb, ne_eqb}
use Rattle.std.specs.Prelude.{Some, None}
use Rattle.characters.specs.Lines.{line_length, line_from, without_return}
use Rattle.characters.proofs.Feeds.{return_absent, return_dropped}
use Rattle.bdf_lines.specs.Words.{is_digit, is_hex, hex_value, are_hex, hex_from, is_row, row_bits, row_of}
use Rattle.std.specs.List.{IsSplitAt}
use Rattle.std.proofs.lemmas.Option.{same_Some}
use Rattle.bdf_lines.specs.Forms.{FeedBefore, IsRow}
use Rattle.bdf_lines.proofs.Stands.{not_some}

-- ---- the bits of a bitmap line

-- the value of a hexadecimal digit
hex_small : (b : ℕ) → is_hex b ≡ true → hex_value b < 16
unfolding is_hex is_digit hex_value
hex_small b e = go (leb b 0x39) (leb b 0x46) (leb b 0x66) (leb 0x30 b) (leb 0x41 b) (leb 0x61 b) refl refl refl e
  where
    go : (p q s x y z : Bool) → leb b 0x39 ≡ p → leb b 0x46 ≡ q → leb b 0x66 ≡ s → (x && p || (y && q || z && s)) ≡ true
        → cond p (b - 0x30) (cond q (b - 0x37) (b - 0x57)) < 16
    go true q s x y z f g h e = omega (arith, leb-true b 0x39 f)
    go false true s x y z f g h e = omega (arith, leb-true b 0x46 g)
    go false false true x y z f g h e = omega (arith, leb-true b 0x66 h)
    go false false false x y z f g h e = absurd (false≢true (simp and-false at e))

-- n hexadecimal digits make a number of 4 × n bits
hex_bits : (v : ℕ) (s : List ℕ) → are_hex s ≡ true → hex_from v s < (v + 1) * 2 ^ (4 * length s)
unfolding are_hex hex_from
hex_bits v [] e = omega arith
hex_bits v (b ∷ s) e =
    let h = (and-eq-true_iff (is_hex b) (are_hex s)).0 e in
    let i = hex_bits (v * 16 + hex_value b) s h.1 in
    let d = hex_small b h.0 in
    let p : 2 ^ (4 * suc (length s)) ≡ 16 * 2 ^ (4 * length s) = ap (λ (n : ℕ). 2 ^ n) (omega arith) ∙ pow-add 2 4 (4 * length s) in
    let m : (v * 16 + hex_value b + 1) * 2 ^ (4 * length s) ≤ (v + 1) * 16 * 2 ^ (4 * length s) = mul-le-mul_right _ (omega arith) in
    rw p (omega arith)

-- the bits of a bitmap line are as many as its box is wide
pub row_bits_lem : (width : ℕ) (l : List ℕ) → is_row width l ≡ true → row_bits width l < 2 ^ width
unfolding is_row row_bits
row_bits_lem width l e =
    let n = 8 * ((width + 7) / 8) in
    let h = (and-eq-true_iff (eqb (length l) (2 * ((width + 7) / 8))) (are_hex l)).0 e in
    let i = hex_bits 0 l h.1 in
    let d : length l ≡ 2 * ((width + 7) / 8) = eqb-true _ _ h.0 in
    let q : 4 * length l ≡ width + (n - width) = omega arith in
    shr_lt width (n - width) (rw (← q) (omega arith))

-- the bits of a bitmap line are small
pub bits_small : (width bits : ℕ) (l : List ℕ) → row_of width l ≡ Some bits → bits < 2 ^ width
unfolding row_of
bits_small width bits l e = go (is_row width l) refl e
  where
    go : (t : Bool) → is_row width l ≡ t → cond t (Some (row_bits width l)) None ≡ Some bits → bits < 2 ^ width
    go true i q = rw (← same_Some (row_bits width l) bits q) (row_bits_lem width l i)
    go false i q = absurd (not_some bits q)

-- ---- a bitmap line, found by its digits

-- a hexadecimal digit is no feed and no return
hex_other : (b : ℕ) → is_hex b ≡ true → (b ≡ 0x0A) ⊎ (b ≡ 0x0D) → ⊥
unfolding is_hex is_digit
hex_other b h (inl e) = true≢false (sym h ∙ rw e)
hex_other b h (inr e) = true≢false (sym h ∙ rw e)

hex_no_return : (l : List ℕ) → are_hex l ≡ true → (i : ℕ) → get_or l i 0 ≡ 0x0D → ⊥
unfolding are_hex
hex_no_return [] h i e = absurd (omega arith)
hex_no_return (b ∷ l) h zero e = hex_other b ((and-eq-true_iff (is_hex b) (are_hex l)).0 h).0 (inr e)
hex_no_return (b ∷ l) h (suc i) e = hex_no_return l ((and-eq-true_iff (is_hex b) (are_hex l)).0 h).1 i e

-- a line goes on after its digits
hex_line : (n : ℕ) (s : List ℕ) → are_hex (take n s) ≡ true → n ≤ length s → line_length s ≡ n + line_length (drop n s)
unfolding are_hex line_length
hex_line zero s h l = sym (zero-add (line_length s))
hex_line (suc n) [] h l = absurd (omega arith)
hex_line (suc n) (b ∷ s) h l =
    let c = (and-eq-true_iff (is_hex b) (are_hex (take n s))).0 h in
    rw (ne_eqb b 0x0A (λ f. hex_other b c.0 (inl f))) (omega (arith, hex_line n s c.1 (omega arith)))

-- it ends at a feed, and goes on after a return
module _ (s : List ℕ) (i : ℕ) (h : i < length s) where
  feed-line : get_or s i 0 ≡ 0x0A → line_length (drop i s) ≡ 0
  unfolding line_length
  feed-line e = rw (drop-cons s i 0 h, eq-eqb (get_or s i 0) 0x0A e)

  return-line : get_or s i 0 ≡ 0x0D → line_length (drop i s) ≡ suc (line_length (drop (i + 1) s))
  unfolding line_length
  return-line e = rw (drop-cons s i 0 h, e, add-one i)

  -- a line without its return
  return-cut : get_or s i 0 ≡ 0x0D → without_return (take (i + 1) s) ≡ take i s
  return-cut e =
      let n : length (take (i + 1) s) - 1 ≡ i = omega (arith, length-take-le (i + 1) s (omega arith)) in
      sym (return_dropped (take (i + 1) s) (rw n (get_or-take (i + 1) s i 0 (omega arith) ∙ e))) ∙ rw n (take-take i (i + 1) s (omega arith))

-- ---- `after_feed`

module _ (text rest : List ℕ) where
  pub feed_here : text ≡ 0x0A ∷ rest → FeedBefore text rest
  feed_here e = record { place = inl e }

  pub feed_next : text ≡ 0x0D ∷ 0x0A ∷ rest → FeedBefore text rest
  feed_next e = record { place = inr e }

-- ---- `row`: the digits, and what follows them

module _ (text digits behind rest : List ℕ) (width bits n : ℕ) (s : IsSplitAt text n digits behind) (g : FeedBefore behind rest) (q : row_of width digits ≡ Some bits) where
  is-row : is_row width digits ≡ true
  unfolding row_of
  is-row = go (is_row width digits) q
    where
      go : (u : Bool) → cond u (Some (row_bits width digits)) None ≡ Some bits → u ≡ true
      go true e = refl
      go false e = absurd (not_some bits e)

  are-hex : are_hex digits ≡ true
  unfolding is_row
  are-hex = ((and-eq-true_iff (eqb (length digits) (2 * ((width + 7) / 8))) (are_hex digits)).0 is-row).1

  goes-on : line_length text ≡ n + line_length behind
  goes-on = rw s.2 (hex_line n text (rw s.1 at are-hex) s.0)

  -- what follows a part of the text that is known
  follows : (k : ℕ) → drop k behind ≡ drop (n + k) text
  follows k = rw s.2 (drop-drop k n text)

  pub row_found : IsRow text width bits rest
  unfolding line_from line_length
  row_found = go g.place
    where
      made : (k : ℕ) → line_length text ≡ n + k → n + k < length text → rest ≡ drop (k + 1) behind → without_return (take (n + k) text) ≡ digits → IsRow text width bits rest
      made k e h d w = record {
        line = record { feed = omega (arith, e); after = let j : line_length text + 1 ≡ n + (k + 1) = omega (arith, e) in rw (j, ← follows (k + 1)) d };
        bitmap = rw (e, w) q;
      }

      go : (behind ≡ 0x0A ∷ rest) ⊎ (behind ≡ 0x0D ∷ 0x0A ∷ rest) → IsRow text width bits rest
      go (inl e) = made 0 (rw e at goes-on) (omega (arith, ap length e, s.4)) (rw e) (let z : n + 0 ≡ n = omega arith in rw (z, ← s.1) (sym (return_absent digits (hex_no_return digits are-hex (length digits - 1)))))
      go (inr e) = made 1 (rw e at goes-on) (omega (arith, ap length e, s.4)) (rw e) (return-cut text n (omega (arith, ap length e, s.4)) (let z : n ≡ n + 0 = omega arith in ap (λ (k : ℕ). get_or text k 0) z ∙ sym (get_or-drop n text 0 0) ∙ rw (← s.2, e)) ∙ sym s.1)
