-- The ink box of an item after each edit, from what is read of it before. Assumes nothing.
use Prim.Native.Nat.{ℕ}
use mathlib.Core.Path.{◌≡◌}
use mathlib.Core.List.{List}
use lib.IntN.{ℤ}
use Rattle.text.specs.Text.{text_of, ink_box}
use Rattle.sheet.specs.Accepted.{Accepted}
use Rattle.records.specs.Records.{style_of, item, item_font}
use Rattle.sheet.specs.Edits.{new_text, new_place, new_style, refusal, biased, edited}
use Rattle.sheet.proofs.Allowed.{listed}
use Rattle.records.proofs.Unchanged.{same-item_font}
use Rattle.records.proofs.EditedItem.{text_edited, place-edited, style_edited}
use Rattle.drawing.specs.Drawing.{item_ink}

module _ (b : List ℕ) (n : ℕ) (g : Accepted b) where
  pub ink_after_text : (t : List ℕ) → refusal b (new_text n t) ≡ 0
      → item_ink (edited b (new_text n t)) n ≡ ink_box (item_font b n).mono (text_of t (item b n).position.x (item b n).position.y (item b n).character_style (item b n).text_style)
  unfolding item_ink
  ink_after_text t a = rw (same-item_font b (new_text n t) g a n (listed b (new_text n t) a), text_edited b n g t a)

  pub ink_after_place : (x y : ℤ) → refusal b (new_place n x y) ≡ 0
      → item_ink (edited b (new_place n x y)) n ≡ ink_box (item_font b n).mono (text_of (item b n).text (biased x) (biased y) (item b n).character_style (item b n).text_style)
  unfolding item_ink
  ink_after_place x y a = rw (same-item_font b (new_place n x y) g a n (listed b (new_place n x y) a), place-edited b n g x y a)

  pub ink_after_style : (t : List ℕ) → refusal b (new_style n t) ≡ 0
      → item_ink (edited b (new_style n t)) n ≡ ink_box (item_font b n).mono (text_of (item b n).text (item b n).position.x (item b n).position.y (style_of t) (item b n).text_style)
  unfolding item_ink
  ink_after_style t a = rw (same-item_font b (new_style n t) g a n (listed b (new_style n t) a), style_edited b n g t a)
