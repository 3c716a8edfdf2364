-- One accepted edit of an accepted sheet: the pages before and after agree outside the damage rectangle, so that the old page,
-- repainted there, is the new one. Assumes nothing.
use Prim.Native.Nat.{ℕ, zero, suc, ◌+◌, ◌/◌, ◌%◌, ◌<◌}
use native.Mathlib.Nat.{mod-lt, div-lt_iff_lt-mul, mul_comm}
use native.Mathlib.Omega.{arith}
use mathlib.Core.Path.{◌≡◌, refl, sym, ap, ◌∙◌}
use mathlib.Core.Bool.{Bool, true, false, cond}
use mathlib.Core.List.Memᴰ
use mathlib.Core.List.{List, [], ◌∷◌, Memᴰ}
use mathlib.Core.Logic.{◌⊎◌, inl, inr}
use lib.Dec.{eqb}
use lib.ListN.{length, get_or, replicate, length-replicate}
use borrow.Author.Tests.{eqb-true, eqb-false}
use Rattle.geometry.specs.declared.Rectangle.{Rectangle}
use Rattle.geometry.specs.Rectangle.{covers}
use Rattle.geometry.specs.Layer.{origin, over, within}
use Rattle.geometry.proofs.Rectangles.{In, covers_out}
use Rattle.geometry.proofs.Layers.{length-paint, paint_at, paint-over, paint_agree}
use Rattle.text.proofs.Ink.{layer_out}
use Rattle.sheet.specs.Fields.{frame_width, frame_height, paper, item_count}
use Rattle.sheet.specs.Accepted.{Accepted}
use Rattle.records.specs.Records.{item, item_font}
use Rattle.sheet.specs.Edits.{Edit, item_number, refusal, edited}
use Rattle.sheet.proofs.Unchanged.{same-frame_width, same-frame_height, same-paper, same-item_count}
use Rattle.records.proofs.Unchanged.{same_other, same-item_font}
use Rattle.drawing.specs.Drawing.{numbers_from, order, item_layer, items_layer, page_layer, fresh_drawing, pixel_count, column_of, row_of, page, item_ink, damage, repainted}
use Rattle.drawing.proofs.DamageHolds.{damage-before, damage-after}

-- ---- the order of drawing

pub numbers_below : (k n j : ℕ) → Memᴰ j (numbers_from k n) → j < k + n
unfolding numbers_from
numbers_below k zero j m = absurd (Memᴰ.not-nil m)
numbers_below k (suc n) j m = go (numbers_below (suc k) n j) (Memᴰ.cases_cons m)
  where
    go : (Memᴰ j (numbers_from (suc k) n) → j < suc k + n) → (j ≡ k) ⊎ Memᴰ j (numbers_from (suc k) n) → j < k + suc n
    go ih (inl e) = omega arith
    go ih (inr q) = omega (arith, ih q)

-- an item that is drawn is one of the sheet's
pub order_below : (b : List ℕ) (j : ℕ) → Memᴰ j (order b) → j < item_count b
unfolding order
order_below b j m = omega (arith, numbers_below 0 (item_count b) j m)

-- ---- pages

-- a page does not depend on the greys of the frame
pub page_any : (b : List ℕ) (c r g g' : ℕ) → page_layer b c r g ≡ page_layer b c r g'
unfolding page_layer
page_any b c r g g' = refl

-- the fresh drawing on any frame of the sheet's size is its page
pub fresh_page : (b frame : List ℕ) → length frame ≡ pixel_count b → fresh_drawing b frame ≡ page b
unfolding page fresh_drawing
fresh_page b frame n =
    paint_agree (frame_width b) (pixel_count b) (page_layer b) (page_layer b) frame (replicate (pixel_count b) 0) n (simp length-replicate)
    (λ k l. page_any b (origin + k % frame_width b) (origin + k / frame_width b) (get_or frame k 0) (get_or (replicate (pixel_count b) 0) k 0))

pub length-page : (b : List ℕ) → length (page b) ≡ pixel_count b
unfolding page fresh_drawing
length-page b = length-paint (frame_width b) (page_layer b) (replicate (pixel_count b) 0) ∙ simp length-replicate

-- ---- a repainted frame, pixel by pixel

module _ (b : List ℕ) (k : ℕ) where
  pub page_at : k < pixel_count b → get_or (page b) k 0 ≡ page_layer b (column_of b k) (row_of b k) 0
  unfolding page fresh_drawing
  page_at l = paint_at (frame_width b) (page_layer b) (replicate (pixel_count b) 0) k (rw (length-replicate {A = ℕ} (pixel_count b) 0) l) ∙ page_any b (column_of b k) (row_of b k) _ 0

  module _ (area : Rectangle) (frame : List ℕ) (n : length frame ≡ pixel_count b) (l : k < pixel_count b) where
    -- in the rectangle stands the page
    pub repainted_inside : covers area (column_of b k) (row_of b k) ≡ true → get_or (repainted b area frame) k 0 ≡ get_or (page b) k 0
    unfolding repainted
    repainted_inside q =
        paint_at (frame_width b) (within area (page_layer b)) frame k (omega arith) ∙ rw q (page_any b (column_of b k) (row_of b k) (get_or frame k 0) 0) ∙ sym (page_at l)

    -- outside it the frame is as it was
    pub repainted_outside : covers area (column_of b k) (row_of b k) ≡ false → get_or (repainted b area frame) k 0 ≡ get_or frame k 0
    unfolding repainted
    repainted_outside q = paint_at (frame_width b) (within area (page_layer b)) frame k (omega arith) ∙ rw q

-- two sheets whose items paint a pixel alike
items_agree : (b b' : List ℕ) (c r : ℕ) (ns : List ℕ) → ((j : ℕ) → Memᴰ j ns → (g : ℕ) → item_layer b j c r g ≡ item_layer b' j c r g) → (g : ℕ) → items_layer b ns c r g ≡ items_layer b' ns c r g
unfolding items_layer
items_agree b b' c r [] h g = refl
items_agree b b' c r (n ∷ ns) h g =
    ap (items_layer b ns c r) (h n (Memᴰ.head refl) g) ∙ items_agree b b' c r ns (λ j m. h j (Memᴰ.tail m)) (item_layer b' n c r g)

-- ---- one accepted edit of an accepted sheet

module _ (b : List ℕ) (e : Edit) (g : Accepted b) (a : refusal b e ≡ 0) where
  -- the items are drawn in the same order
  pub same-order : order (edited b e) ≡ order b
  unfolding order
  same-order = rw (same-item_count b e g a)

  pub same-pixel_count : pixel_count (edited b e) ≡ pixel_count b
  same-pixel_count = rw (same-frame_width b e g a, same-frame_height b e g a)

  -- another item paints as before
  pub other_paints : (j : ℕ) → j < item_count b → (j ≡ item_number e → ⊥) → (c r grey : ℕ) → item_layer b j c r grey ≡ item_layer (edited b e) j c r grey
  unfolding item_layer
  other_paints j l d c r grey = rw (same-item_font b e g a j l, same_other b e g a j l d)

  module _ (c r : ℕ) (wide : c < frame_width b) (high : r < frame_height b) (out : In (damage b (edited b e) (item_number e)) (origin + c) (origin + r) → ⊥) where
    -- the edited item paints nothing there, before or after
    edited-paints : (grey : ℕ) → item_layer b (item_number e) (origin + c) (origin + r) grey ≡ item_layer (edited b e) (item_number e) (origin + c) (origin + r) grey
    unfolding item_layer item_ink
    edited-paints grey =
        layer_out (item_font b (item_number e)) (item b (item_number e)) (origin + c) (origin + r) grey (λ h. out (damage-before b (edited b e) (item_number e) c r wide high h))
        ∙ sym (layer_out (item_font (edited b e) (item_number e)) (item (edited b e) (item_number e)) (origin + c) (origin + r) grey (λ h. out (damage-after b (edited b e) (item_number e) c r wide high h)))

    item-paints : (j : ℕ) → Memᴰ j (order b) → (grey : ℕ) → item_layer b j (origin + c) (origin + r) grey ≡ item_layer (edited b e) j (origin + c) (origin + r) grey
    item-paints j m grey = go (eqb j (item_number e)) refl
      where
        go : (t : Bool) → eqb j (item_number e) ≡ t → item_layer b j (origin + c) (origin + r) grey ≡ item_layer (edited b e) j (origin + c) (origin + r) grey
        go true q = rw (eqb-true j (item_number e) q) (edited-paints grey)
        go false q = other_paints j (order_below b j m) (eqb-false j (item_number e) q) (origin + c) (origin + r) grey

    -- the pages agree outside the damage rectangle
    pub page_outside : (grey : ℕ) → page_layer b (origin + c) (origin + r) grey ≡ page_layer (edited b e) (origin + c) (origin + r) grey
    unfolding page_layer
    page_outside grey =
        items_agree b (edited b e) (origin + c) (origin + r) (order b) item-paints (paper b)
        ∙ ap (λ (ns : List ℕ). items_layer (edited b e) ns (origin + c) (origin + r) (paper b)) (sym same-order)
        ∙ ap (items_layer (edited b e) (order (edited b e)) (origin + c) (origin + r)) (sym (same-paper b e g a))

  -- a pixel of the frame has a column and a row in it
  pixel-in : (k : ℕ) → k < pixel_count b → (k % frame_width b < frame_width b) × (k / frame_width b < frame_height b)
  pixel-in k l =
      let w = g.laid_out.headed.width_least in
      (mod-lt k w, (div-lt_iff_lt-mul w).1 (rw (mul_comm (frame_height b) (frame_width b)) l))

  -- the old page, repainted in the damage rectangle, is the new page
  pub repaint_page : repainted (edited b e) (damage b (edited b e) (item_number e)) (page b) ≡ page (edited b e)
  unfolding repainted page fresh_drawing
  repaint_page = rw (same-frame_width b e g a, same-frame_height b e g a)
      (paint-over (frame_width b) (page_layer b) (within area (page_layer (edited b e))) blank
      ∙ paint_agree (frame_width b) (pixel_count b) _ _ blank blank (simp length-replicate) (simp length-replicate) at)
    where
      area : Rectangle
      area = damage b (edited b e) (item_number e)

      blank : List ℕ
      blank = replicate (pixel_count b) 0

      by-cover : (c r grey : ℕ) → c < frame_width b → r < frame_height b → (t : Bool) → covers area (origin + c) (origin + r) ≡ t
          → cond t (page_layer (edited b e) (origin + c) (origin + r) (page_layer b (origin + c) (origin + r) grey)) (page_layer b (origin + c) (origin + r) grey) ≡ page_layer (edited b e) (origin + c) (origin + r) grey
      by-cover c r grey w h true q = page_any (edited b e) (origin + c) (origin + r) _ grey
      by-cover c r grey w h false q = page_outside c r w h (covers_out area (origin + c) (origin + r) q) grey

      at : (k : ℕ) → k < pixel_count b
          → over (within area (page_layer (edited b e))) (page_layer b) (origin + k % frame_width b) (origin + k / frame_width b) (get_or blank k 0)
          ≡ page_layer (edited b e) (origin + k % frame_width b) (origin + k / frame_width b) (get_or blank k 0)
      at k l = by-cover (k % frame_width b) (k / frame_width b) (get_or blank k 0) (pixel-in k l).0 (pixel-in k l).1 (covers area (origin + k % frame_width b) (origin + k / frame_width b)) refl
