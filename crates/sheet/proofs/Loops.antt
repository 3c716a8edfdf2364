-- The loops over records and bytes: what a turn, a way out and the end make of the definition's recursion. Assumes nothing.
use Prim.Native.Nat.{ℕ, suc, ◌+◌, ◌-◌, ◌≤◌, ◌<◌}
use mathlib.Core.Path.{◌≡◌, ◌∙◌, ap}
use mathlib.Core.List.{List}
use lib.ListN.{length}
use native.Mathlib.Nat.{add-zero}
use native.Mathlib.Numerals.{add-one}
use native.Mathlib.Omega.{arith}
use borrow.Author.Tests.{eq-eqb, ne_eqb}
use Rattle.std.specs.Prelude.{None, Some}
use Rattle.refusals.specs.declared.Refusal.{Refusal}
use Rattle.refusals.specs.Numbers.{number}
use Rattle.characters.specs.Refusal.{or_else}
use Rattle.sheet.specs.Fields.{le16_at, le32_at, font_at, item_at}
use Rattle.sheet.specs.Pieces.{font_pieces, slot_pieces}
use Rattle.sheet.specs.Check.{reach, check_font, check_item, first_refusal, font_refusal, item_refusal}
use Rattle.characters.proofs.Refusals.{or_else_refused}

-- what is left of n after k is one more than after k + 1
left_suc : (n k : ℕ) → k < n → n - k ≡ suc (n - suc k)
left_suc n k h = omega arith

-- ---- the pieces of a font, and of an item

-- c is the file of the record
module _ (b c : List ℕ) (same : c ≡ b) (k p o : ℕ) where
  module _ (atlas : ℕ) (eo : o ≡ font_at k) (ea : atlas ≡ le32_at c (o + 0)) where
    starts : atlas ≡ le32_at c o
    starts = rw add-zero at ea

    pub atlas_misplaced : (atlas ≡ p → ⊥) → reach (font_pieces b k) p ≡ None
    unfolding font_pieces reach
    atlas_misplaced t = rw (← same, ← eo, ← starts, ne_eqb _ _ t)

    module _ (t : atlas ≡ p) (size mapping : ℕ) (es : size ≡ le32_at c (o + 4)) (em : mapping ≡ le32_at c (o + 8)) where
      pub mapping_misplaced : (mapping ≡ p + size → ⊥) → reach (font_pieces b k) p ≡ None
      unfolding font_pieces reach
      mapping_misplaced u = rw (← same, ← eo, ← starts, ← es, ← em, eq-eqb _ _ t, ne_eqb _ _ u)

      pub font_to : (length : ℕ) → length ≡ le16_at c (o + 12) → mapping ≡ p + size → reach (font_pieces b k) p ≡ Some (p + size + length)
      unfolding font_pieces reach
      font_to length el u = rw (← same, ← eo, ← starts, ← es, ← em, ← el, eq-eqb _ _ t, eq-eqb _ _ u)

  module _ (slot : ℕ) (eo : o ≡ item_at b k) (es : slot ≡ le32_at c (o + 4)) where
    pub slot_misplaced : (slot ≡ p → ⊥) → reach (slot_pieces b k) p ≡ None
    unfolding slot_pieces reach
    slot_misplaced t = rw (← eo, ← same, ← es, ne_eqb _ _ t)

    pub slot_to : (size : ℕ) → size ≡ le16_at c (o + 8) → slot ≡ p → reach (slot_pieces b k) p ≡ Some (p + size)
    unfolding slot_pieces reach
    slot_to size ez t = rw (← eo, ← same, ← es, ← ez, eq-eqb _ _ t)

-- ---- the first refusal of some records

module _ (f : ℕ → ℕ) (n k e : ℕ) (i : first_refusal f (n - k) k ≡ e) (h : k < n) where
  unrolled : or_else (f k) (first_refusal f (n - suc k) (suc k)) ≡ e
  unfolding first_refusal
  unrolled = rw (left_suc n k h) at i

  pub refusal_more : 0 ≡ f k → first_refusal f (n - (k + 1)) (k + 1) ≡ e
  refusal_more z = rw add-one (rw (← z) at unrolled)

  pub refusal_found : (d : Refusal) → number d ≡ f k → number d ≡ e
  refusal_found d q = or_else_refused (f k) (first_refusal f (n - suc k) (suc k)) d q ∙ unrolled

pub refusal_done : (f : ℕ → ℕ) (n k e : ℕ) → n ≤ k → first_refusal f (n - k) k ≡ e → 0 ≡ e
unfolding first_refusal
refusal_done f n k e h i = let z : n - k ≡ 0 = omega arith in rw z at i

pub refusal-start : (f : ℕ → ℕ) (n m : ℕ) → n ≡ m → first_refusal f (n - 0) 0 ≡ first_refusal f m 0
refusal-start f n m e = ap (λ (k : ℕ). first_refusal f k 0) (omega arith)

module _ (b c : List ℕ) (same : c ≡ b) (k o r : ℕ) where
  pub font_refusal_is : o ≡ font_at k → r ≡ check_font c o → r ≡ font_refusal b k
  unfolding font_refusal
  font_refusal_is e h = rw (same, e) at h

  pub item_refusal_is : o ≡ item_at b k → r ≡ check_item c o → r ≡ item_refusal b k
  unfolding item_refusal
  item_refusal_is e h = rw (same, e) at h
