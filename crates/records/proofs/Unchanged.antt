-- What one accepted edit of an accepted sheet leaves as it was, as it is read: the fonts, every other item, and each item's font.
-- Assumes nothing.
use Prim.Native.Nat.{ℕ, ◌+◌, ◌<◌}
use mathlib.Core.Path.{◌≡◌}
use mathlib.Core.List.{List}
use lib.ListN.{length}
use native.Mathlib.Omega.{arith}
use Rattle.sheet.specs.Fields.{font_count, item_count, font_at, item_at, slot_offset, text_length, font_number}
use Rattle.sheet.specs.Accepted.{Accepted}
use Rattle.sheet.specs.Edits.{Edit, item_number, refusal, edited}
use Rattle.sheet.proofs.Bytes.{SameBytes, same-le16_at, same-le32_at, same-part}
use Rattle.sheet.proofs.Allowed.{same_length}
use Rattle.sheet.proofs.Unchanged.{same_head, same-font_count, same_record, same_slot, same_mapping, same_atlas, same-font_number}
use Rattle.records.specs.Records.{mono_font, font, mono_text_style, text_style, item_of, item, item_font}

-- ---- records read from bytes that are the same

module _ (b b' : List ℕ) (o : ℕ) where
  pub same-mono_font : SameBytes b b' o 28 → mono_font b' o ≡ mono_font b o
  unfolding mono_font
  same-mono_font s = rw (
    same-le16_at b b' (o + 16) (λ k p q. s k (omega arith) (omega arith)),
    s (o + 18) (omega arith) (omega arith),
    s (o + 19) (omega arith) (omega arith),
    same-le16_at b b' (o + 14) (λ k p q. s k (omega arith) (omega arith)),
    s (o + 20) (omega arith) (omega arith),
    s (o + 21) (omega arith) (omega arith),
    s (o + 22) (omega arith) (omega arith),
    s (o + 23) (omega arith) (omega arith),
    s (o + 24) (omega arith) (omega arith),
    s (o + 25) (omega arith) (omega arith),
  )

  pub same-mono_text_style : SameBytes b b' (o + 13) 8 → mono_text_style b' o ≡ mono_text_style b o
  unfolding mono_text_style
  same-mono_text_style s = rw (
    s (o + 13) (omega arith) (omega arith),
    s (o + 14) (omega arith) (omega arith),
    s (o + 15) (omega arith) (omega arith),
    s (o + 16) (omega arith) (omega arith),
    s (o + 17) (omega arith) (omega arith),
    s (o + 18) (omega arith) (omega arith),
    s (o + 19) (omega arith) (omega arith),
    s (o + 20) (omega arith) (omega arith),
  )

  pub same-text_style : SameBytes b b' (o + 21) 7 → text_style b' o ≡ text_style b o
  unfolding text_style
  same-text_style s = rw (
    s (o + 21) (omega arith) (omega arith),
    s (o + 22) (omega arith) (omega arith),
    s (o + 23) (omega arith) (omega arith),
    same-le16_at b b' (o + 24) (λ k p q. s k (omega arith) (omega arith)),
  )

  same-itemOf : length b' ≡ length b → SameBytes b b' o 28 → SameBytes b b' (slot_offset b o) (text_length b o) → item_of b' o ≡ item_of b o
  unfolding item_of
  same-itemOf l s w = rw (
    same-le32_at b b' (o + 4) (λ k p q. s k (omega arith) (omega arith)),
    same-le16_at b b' (o + 10) (λ k p q. s k (omega arith) (omega arith)),
    same-part b b' (slot_offset b o) (text_length b o) l w,
    same-le16_at b b' o (λ k p q. s k (omega arith) (omega arith)),
    same-le16_at b b' (o + 2) (λ k p q. s k (omega arith) (omega arith)),
    same-mono_text_style (λ k p q. s k (omega arith) (omega arith)),
    same-text_style (λ k p q. s k (omega arith) (omega arith)),
  )

-- ---- one accepted edit of an accepted sheet

module _ (b : List ℕ) (e : Edit) (g : Accepted b) (a : refusal b e ≡ 0) where
  same-font : (k : ℕ) → k < font_count b → font (edited b e) k ≡ font b k
  unfolding font
  same-font k h = rw (same-mono_font b (edited b e) (font_at k) (λ j p q. same_head b e g a j (omega arith)), same_atlas b e g a k h, same_mapping b e g a k h)

  pub same_other : (j : ℕ) → j < item_count b → (j ≡ item_number e → ⊥) → item (edited b e) j ≡ item b j
  unfolding item
  same_other j h d =
      let f = g.item-fits j h in
      rw (same-font_count b e g a) (same-itemOf b (edited b e) (item_at b j) (same_length b e) (same_record b e g a j h d) (λ k p q. same_slot b e g a j h d k p (omega arith)))

  pub same-item_font : (j : ℕ) → j < item_count b → item_font (edited b e) j ≡ item_font b j
  unfolding item_font
  same-item_font j h = rw (same-font_count b e g a, same-font_number b e g a j h) (same-font (font_number b (item_at b j)) (g.item-fits j h).font_there)
