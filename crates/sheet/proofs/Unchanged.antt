-- What one accepted edit of an accepted sheet leaves as it was, in bytes: the header, the fonts, and every other item. Assumes nothing.
use Prim.Native.Nat.{ℕ, ◌+◌, ◌≤◌, ◌<◌}
use mathlib.Core.Path.{◌≡◌, refl}
use mathlib.Core.Bool.{Bool, true, false}
use mathlib.Core.Logic.{◌⊎◌, inl, inr}
use mathlib.Core.List.{List}
use lib.Dec.{eqb}
use lib.ListN.{get_or}
use native.Mathlib.Omega.{arith}
use native.Mathlib.Decide.{dec_lt}
use borrow.Author.Tests.{eqb-true, eqb-false}
use Rattle.sheet.specs.Fields
use Rattle.sheet.specs.Fields.{part, frame_width, frame_height, paper, font_count, item_count, font_at, item_at, pieces_at, slot_offset, slot_size}
use Rattle.sheet.specs.Accepted.{Accepted}
use Rattle.sheet.specs.Edits.{Edit, item_number, refusal, edited}
use Rattle.sheet.proofs.Bytes.{SameBytes, same-le16_at, same-le32_at, same-part}
use Rattle.sheet.proofs.Allowed.{listed, unwritten, same_length}

less_or_more : (i j : ℕ) → (j ≡ i → ⊥) → (j < i) ⊎ (i < j)
less_or_more i j d = elim (dec_lt j i) [ yes l ↦ inl l | no l ↦ inr (elim (dec_lt i j) [ yes m ↦ m | no m ↦ absurd (d (omega arith)) ]) ]

-- ---- one accepted edit of an accepted sheet

module _ (b : List ℕ) (e : Edit) (g : Accepted b) (a : refusal b e ≡ 0) where
  slot_after : pieces_at b ≤ slot_offset b (item_at b (item_number e))
  slot_after = g.laid_out.slot_after (item_number e) (listed b e a)

  -- the header and the fonts' records
  pub same_head : (k : ℕ) → k < font_at (font_count b) → get_or (edited b e) k 0 ≡ get_or b k 0
  same_head k h = unwritten b e a k (let l = listed b e a in let s = slot_after in omega arith)

  pub same-frame_width : frame_width (edited b e) ≡ frame_width b
  unfolding frame_width
  same-frame_width = same-le16_at b (edited b e) 2 (λ k p q. same_head k (omega arith))

  pub same-frame_height : frame_height (edited b e) ≡ frame_height b
  unfolding frame_height
  same-frame_height = same-le16_at b (edited b e) 4 (λ k p q. same_head k (omega arith))

  pub same-paper : paper (edited b e) ≡ paper b
  unfolding paper
  same-paper = same_head 6 (omega arith)

  pub same-font_count : font_count (edited b e) ≡ font_count b
  unfolding font_count
  same-font_count = same_head 7 (omega arith)

  pub same-item_count : item_count (edited b e) ≡ item_count b
  unfolding item_count
  same-item_count = same-le16_at b (edited b e) 8 (λ k p q. same_head k (omega arith))

  -- what stands between the records and the item's slot, and after it
  same-before-slot : (k : ℕ) → pieces_at b ≤ k → k < slot_offset b (item_at b (item_number e)) → get_or (edited b e) k 0 ≡ get_or b k 0
  same-before-slot k p q = unwritten b e a k (let l = listed b e a in omega arith)

  same-after-slot : (k : ℕ) → slot_offset b (item_at b (item_number e)) + slot_size b (item_at b (item_number e)) ≤ k → get_or (edited b e) k 0 ≡ get_or b k 0
  same-after-slot k q = unwritten b e a k (let l = listed b e a in let s = slot_after in omega arith)

  -- another item's record and slot
  pub same_record : (j : ℕ) → j < item_count b → (j ≡ item_number e → ⊥) → SameBytes b (edited b e) (item_at b j) 28
  same_record j h d k p q = go (less_or_more (item_number e) j d)
    where
      go : (j < item_number e) ⊎ (item_number e < j) → get_or (edited b e) k 0 ≡ get_or b k 0
      go (inl o) = unwritten b e a k (let l = listed b e a in let s = slot_after in omega arith)
      go (inr o) = unwritten b e a k (let l = listed b e a in let s = slot_after in omega arith)

  pub same_slot : (j : ℕ) → j < item_count b → (j ≡ item_number e → ⊥) → SameBytes b (edited b e) (slot_offset b (item_at b j)) (slot_size b (item_at b j))
  same_slot j h d k p q = go (less_or_more (item_number e) j d)
    where
      go : (j < item_number e) ⊎ (item_number e < j) → get_or (edited b e) k 0 ≡ get_or b k 0
      go (inl o) = same-before-slot k (omega (arith, g.laid_out.slot_after j h)) (omega (arith, g.laid_out.slots_apart j (item_number e) o (listed b e a)))
      go (inr o) = same-after-slot k (omega (arith, g.laid_out.slots_apart (item_number e) j o h))

  -- of every item's record: the slot's offset and size
  pub same_slot_fields : (j : ℕ) → j < item_count b → SameBytes b (edited b e) (item_at b j + 4) 6
  same_slot_fields j h k p q = go (eqb j (item_number e)) refl
    where
      go : (t : Bool) → eqb j (item_number e) ≡ t → get_or (edited b e) k 0 ≡ get_or b k 0
      go true u = let z = eqb-true j (item_number e) u in unwritten b e a k (let l = listed b e a in let s = slot_after in omega arith)
      go false u = same_record j h (eqb-false j (item_number e) u) k (omega arith) (omega arith)

  -- a piece that stands before the slots, and so a font's
  same-piece : (p n : ℕ) → pieces_at b ≤ p → p + n ≤ slot_offset b (item_at b (item_number e)) → part (edited b e) p n ≡ part b p n
  same-piece p n after before = same-part b (edited b e) p n (same_length b e) (λ j q r. same-before-slot j (omega arith) (omega arith))

  pub same_mapping : (k : ℕ) → k < font_count b → Fields.mapping_bytes (edited b e) (font_at k) ≡ Fields.mapping_bytes b (font_at k)
  same_mapping k h = rw (same-le32_at b (edited b e) (font_at k + 8) (λ j q r. same_head j (omega arith)), same-le16_at b (edited b e) (font_at k + 12) (λ j q r. same_head j (omega arith)))
      (same-piece _ _ (g.laid_out.mapping_after k h) (g.laid_out.mapping_before k (item_number e) h (listed b e a)))

  pub same_atlas : (k : ℕ) → k < font_count b → Fields.atlas_bytes (edited b e) (font_at k) ≡ Fields.atlas_bytes b (font_at k)
  same_atlas k h = rw (same-le32_at b (edited b e) (font_at k) (λ j q r. same_head j (omega arith)), same-le32_at b (edited b e) (font_at k + 4) (λ j q r. same_head j (omega arith)))
      (same-piece _ _ (g.laid_out.atlas_after k h) (g.laid_out.atlas_before k (item_number e) h (listed b e a)))

  -- every item keeps its font's number
  pub same-font_number : (j : ℕ) → j < item_count b → Fields.font_number (edited b e) (item_at b j) ≡ Fields.font_number b (item_at b j)
  same-font_number j h = go (eqb j (item_number e)) refl
    where
      go : (t : Bool) → eqb j (item_number e) ≡ t → get_or (edited b e) (item_at b j + 12) 0 ≡ get_or b (item_at b j + 12) 0
      go true u = let z = eqb-true j (item_number e) u in unwritten b e a (item_at b j + 12) (let l = listed b e a in let s = slot_after in omega arith)
      go false u = same_record j h (eqb-false j (item_number e) u) (item_at b j + 12) (omega arith) (omega arith)
