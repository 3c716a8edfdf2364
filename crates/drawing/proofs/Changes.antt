-- The damage rectangle of an edit is that of the change that it makes. Assumes nothing.
use Prim.Native.Nat.{ℕ, ◌≤◌}
use native.Mathlib.Omega.{arith}
use mathlib.Core.Path.{◌≡◌, sym, ap, ◌∙◌}
use mathlib.Core.Bool.{Bool, true, false, cond}
use mathlib.Core.List.{List}
use lib.IntN.{ℤ, pos, negsuc}
use lib.ListN.{length}
use borrow.Author.Tests.{ltb-true}
use mir.Syntax.{w32}
use mir.Val.{SFits}
use mir.Facts.{to_z-of_z}
use Rattle.geometry.specs.declared.Rectangle.{Rectangle}
use Rattle.geometry.specs.Rectangle.{rectangle, is_empty, join, intersection}
use Rattle.geometry.specs.Layer.{origin, frame_of}
use Rattle.line.specs.declared.MonoTextStyle.{MonoTextStyle}
use Rattle.text.specs.declared.texts.TextLayout.{TextLayout}
use Rattle.text.specs.Text.{text_of, laid_out, ink_box}
use Rattle.text.specs.Lent.{lent_text}
use Rattle.text.specs.Limits.{TextLimits}
use Rattle.sheet.specs.declared.edit.Edit as code
use Rattle.sheet.specs.declared.edit.Edit.TheVariants.{Text, Place, Style}
use Rattle.sheet.specs.Fields.{frame_width, frame_height}
use Rattle.sheet.specs.OfItem.{of_item}
use Rattle.sheet.specs.Requires.{ItemListed, EditAllowed}
use Rattle.records.specs.Records.{style_of, item, item_font}
use Rattle.sheet.specs.Edits.{new_text, new_place, new_style, in_range, biased, edited}
use Rattle.sheet.proofs.Allowed.{listed, text_allowed, place_allowed, style_allowed}
use Rattle.edits.proofs.Signed.{read}
use Rattle.drawing.specs.Drawing.{or_none, cut_to_frame, item_ink, damage}
use Rattle.drawing.proofs.EditedInk.{ink_after_text, ink_after_place, ink_after_style}

biased_near : (z : ℤ) → in_range z ≡ true → biased z ≤ 4_194_304
unfolding in_range biased
biased_near (pos n) h = omega (arith, ltb-true n 32_768 h)
biased_near (negsuc n) h = omega arith

-- ---- `damage_of`

module _ (b : List ℕ) (before after both frame area : Rectangle) (e : both ≡ join before after) (f : frame ≡ frame_of (frame_width b) (frame_height b)) (p : area ≡ intersection both frame) (t : Bool) (q : t ≡ is_empty area) where
  cut-is : cond t (rectangle origin origin 0 0) area ≡ cut_to_frame b (join before after)
  unfolding cut_to_frame or_none
  cut-is = rw (q, p, e, f)

  pub cut_none : t ≡ true → rectangle origin origin 0 0 ≡ cut_to_frame b (join before after)
  cut_none h = sym (rw h) ∙ cut-is

  pub cut_some : t ≡ false → area ≡ cut_to_frame b (join before after)
  cut_some h = sym (rw h) ∙ cut-is

-- ---- `ink_after`

pub new_limits : (b : List ℕ) (n : ℕ) (u : List ℕ) → EditAllowed b (new_text n u) → length u ≤ 4_096
new_limits b n u g =
    let a = text_allowed b n u g.allowed in
    let f = g.accepted.item-fits n a.listed in
    omega arith

pub style_eight : (b : List ℕ) (n : ℕ) (u : List ℕ) → EditAllowed b (new_style n u) → length u ≡ 8
style_eight b n u g = (style_allowed b n u g.allowed).eight

module _ (b : List ℕ) (n : ℕ) (t : TextLayout) (ef : t.metrics.font ≡ (item_font b n).mono) (et : lent_text t ≡ item b n) where
  -- a new text
  module _ (u : List ℕ) (g : EditAllowed b (new_text n u)) where
    pub text_ink : (after : Rectangle) → after ≡ ink_box t.metrics.font (laid_out t u) → after ≡ item_ink (edited b (new_text n u)) n
    text_ink after q = q ∙ sym (rw (← et, ← ef) at (ink_after_text b n g.accepted u g.allowed))

  -- a new place
  module _ (x y : ℤ) (g : EditAllowed b (new_place n x y)) (fx : SFits w32 x) (fy : SFits w32 y) (left top : ℕ) (rx : left ≡ biased (read x)) (ry : top ≡ biased (read y)) where
    ex : left ≡ biased x
    ex = rw rx (ap biased (to_z-of_z {z = x} fx))

    ey : top ≡ biased y
    ey = rw ry (ap biased (to_z-of_z {z = y} fy))

    pub place_limits : TextLimits (length t.text.now) left top t.text_style.line_height
    place_limits =
        let a = place_allowed b n x y g.allowed in
        record { text_short = t.limits.text_short; near_x = rw ex (biased_near x a.x_in); near_y = rw ey (biased_near y a.y_in); height_small = t.limits.height_small }

    pub place_ink : (after : Rectangle) → after ≡ ink_box t.metrics.font (text_of t.text.now left top t.character_style t.text_style) → after ≡ item_ink (edited b (new_place n x y)) n
    place_ink after q = (rw (ex, ey) at q) ∙ sym (rw (← et, ← ef) at (ink_after_place b n g.accepted x y g.allowed))

  -- a new style
  module _ (u : List ℕ) (g : EditAllowed b (new_style n u)) where
    pub style_ink : (style : MonoTextStyle) (after : Rectangle) → style ≡ style_of u → after ≡ ink_box t.metrics.font (text_of t.text.now t.position.x t.position.y style t.text_style)
        → after ≡ item_ink (edited b (new_style n u)) n
    style_ink style after es q = (rw es at q) ∙ sym (rw (← et, ← ef) at (ink_after_style b n g.accepted u g.allowed))

-- ---- `damage`

-- an edit that is not refused is one of an item of the sheet
pub edit_listed : (b : List ℕ) (n : ℕ) (e : code.Edit) → EditAllowed b (of_item n e) → ItemListed b n
edit_listed b n (Text t) g = record { accepted = g.accepted; listed = listed b (new_text n t.now) g.allowed }
edit_listed b n (Place x y) g = record { accepted = g.accepted; listed = listed b (new_place n x y) g.allowed }
edit_listed b n (Style t) g = record { accepted = g.accepted; listed = listed b (new_style n t.now) g.allowed }

pub damage_is : (b b' : List ℕ) (n : ℕ) (before after area : Rectangle) → before ≡ item_ink b n → after ≡ item_ink b' n → area ≡ cut_to_frame b (join before after) → area ≡ damage b b' n
unfolding damage
damage_is b b' n before after area p q e = rw (p, q) at e
