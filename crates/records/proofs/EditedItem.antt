-- The item that an accepted edit names is what was asked for, and the rest of it is as before. Assumes nothing.
use Prim.Native.Nat.{ℕ, ◌+◌, ◌≤◌, ◌<◌}
use mathlib.Core.Path.{◌≡◌}
use mathlib.Core.List.{List}
use lib.IntN.{ℤ}
use lib.ListN.{get_or}
use native.Mathlib.Omega.{arith}
use Rattle.sheet.specs.Fields.{item_count, item_at, slot_offset, text_length}
use Rattle.sheet.specs.Accepted.{Accepted}
use Rattle.sheet.specs.Edits.{new_text, new_place, new_style, text_refusal, place_refusal, style_refusal, biased, put_text, put_place, put_style}
use Rattle.sheet.proofs.Bytes.{same-le16_at, same-le32_at, same-part}
use Rattle.sheet.proofs.Stores.{length-put_place, length-put_style, put_text_other, put_place_other, put_style_other, put_text-length, put_text_text, put_place_x, put_place_y, coordinate-biased, put_style_at}
use Rattle.sheet.proofs.Allowed.{text_allowed, place_allowed, style_allowed}
use Rattle.sheet.proofs.Unchanged.{same-font_count}
use Rattle.records.specs.Records.{mono_text_style, style_of, item_of, item}
use Rattle.records.proofs.Unchanged.{same-mono_text_style, same-text_style}

-- ---- the item after each edit

module _ (b : List ℕ) (i : ℕ) (g : Accepted b) where
  -- the slot stands after the record
  slot_apart : i < item_count b → item_at b i + 28 ≤ slot_offset b (item_at b i)
  slot_apart l = omega (arith, g.laid_out.slot_after i l)

  pub text_edited : (t : List ℕ) → text_refusal b i t ≡ 0 → item (put_text b (item_at b i) t) i ≡ record { text = t; position = (item b i).position; character_style = (item b i).character_style; text_style = (item b i).text_style }
  unfolding item item_of
  text_edited t a =
      let f = text_allowed b i t a in
      let o = item_at b i in
      let fits = g.item-fits i f.listed in
      let within = g.laid_out.item_in i f.listed in
      let after = slot_apart f.listed in
      let same : (k : ℕ) → k < o + 28 → (o + 10 ≤ k → k < o + 12 → ⊥) → get_or (put_text b o t) k 0 ≡ get_or b k 0 = λ k l off. put_text_other b o t f.short k (λ p q. off p (omega arith)) (omega arith) in
      rw (
        same-font_count b (new_text i t) g a,
        same-le32_at b (put_text b o t) (o + 4) (λ k p q. same k (omega arith) (omega arith)),
        put_text-length b o t f.short within after fits.slot_small,
        put_text_text b o t f.short within,
        same-le16_at b (put_text b o t) o (λ k p q. same k (omega arith) (omega arith)),
        same-le16_at b (put_text b o t) (o + 2) (λ k p q. same k (omega arith) (omega arith)),
        same-mono_text_style b (put_text b o t) o (λ k p q. same k (omega arith) (omega arith)),
        same-text_style b (put_text b o t) o (λ k p q. same k (omega arith) (omega arith)),
      )

  pub place-edited : (x y : ℤ) → place_refusal b i x y ≡ 0
      → item (put_place b (item_at b i) (biased x) (biased y)) i ≡ record { text = (item b i).text; position = record { x = biased x; y = biased y }; character_style = (item b i).character_style; text_style = (item b i).text_style }
  unfolding item item_of
  place-edited x y a =
      let f = place_allowed b i x y a in
      let o = item_at b i in
      let b' = put_place b o (biased x) (biased y) in
      let fits = g.item-fits i f.listed in
      let within = g.laid_out.item_in i f.listed in
      let after = slot_apart f.listed in
      let same : (k : ℕ) → o + 4 ≤ k → get_or (put_place b o (biased x) (biased y)) k 0 ≡ get_or b k 0 = λ k l. put_place_other b o (biased x) (biased y) k (omega arith) in
      rw (
        same-font_count b (new_place i x y) g a,
        same-le32_at b b' (o + 4) (λ k p q. same k (omega arith)),
        same-le16_at b b' (o + 10) (λ k p q. same k (omega arith)),
        same-part b b' (slot_offset b o) (text_length b o) (length-put_place b o (biased x) (biased y)) (λ k p q. same k (omega arith)),
        put_place_x b o (biased x) (biased y) within.record_in,
        put_place_y b o (biased x) (biased y) within.record_in,
        coordinate-biased x f.x_in,
        coordinate-biased y f.y_in,
        same-mono_text_style b b' o (λ k p q. same k (omega arith)),
        same-text_style b b' o (λ k p q. same k (omega arith)),
      )

  pub style_edited : (t : List ℕ) → style_refusal b i t ≡ 0
      → item (put_style b (item_at b i) t) i ≡ record { text = (item b i).text; position = (item b i).position; character_style = style_of t; text_style = (item b i).text_style }
  unfolding item item_of mono_text_style style_of
  style_edited t a =
      let f = style_allowed b i t a in
      let o = item_at b i in
      let b' = put_style b o t in
      let fits = g.item-fits i f.listed in
      let within = g.laid_out.item_in i f.listed in
      let after = slot_apart f.listed in
      let same : (k : ℕ) → (o + 13 ≤ k → k < o + 21 → ⊥) → get_or (put_style b o t) k 0 ≡ get_or b k 0 = λ k off. put_style_other b o t f.eight k (λ p q. off p (omega arith)) in
      let at = put_style_at b o t f.eight within.record_in in
      rw (
        same-font_count b (new_style i t) g a,
        same-le32_at b b' (o + 4) (λ k p q. same k (omega arith)),
        same-le16_at b b' (o + 10) (λ k p q. same k (omega arith)),
        same-part b b' (slot_offset b o) (text_length b o) (length-put_style b o t) (λ k p q. same k (omega arith)),
        same-le16_at b b' o (λ k p q. same k (omega arith)),
        same-le16_at b b' (o + 2) (λ k p q. same k (omega arith)),
        at 0 (o + 13) (omega arith) (omega arith),
        at 1 (o + 14) (omega arith) (omega arith),
        at 2 (o + 15) (omega arith) (omega arith),
        at 3 (o + 16) (omega arith) (omega arith),
        at 4 (o + 17) (omega arith) (omega arith),
        at 5 (o + 18) (omega arith) (omega arith),
        at 6 (o + 19) (omega arith) (omega arith),
        at 7 (o + 20) (omega arith) (omega arith),
        same-text_style b b' o (λ k p q. same k (omega arith)),
      )
