-- An item as it is read: what holds of its text holds of the definitions' item. Assumes nothing.
use Prim.Native.Nat.{ℕ, ◌+◌, ◌-◌}
use mathlib.Core.Path.{◌≡◌, refl, sym, ◌∙◌}
use mathlib.Core.Bool.{Bool, true}
use mathlib.Core.List.{List}
use Rattle.geometry.specs.declared.Point.{Point}
use Rattle.geometry.specs.declared.Rectangle.{Rectangle}
use Rattle.geometry.specs.declared.canvas.Frame.{Frame}
use Rattle.geometry.specs.Rectangle.{is_empty, intersection}
use Rattle.geometry.specs.Painted.{Painted}
use Rattle.line.specs.declared.MonoFont.{MonoFont}
use Rattle.line.specs.Line.{baseline_offset, top_edge, whitespace}
use Rattle.text.specs.declared.TextStyle.{TextStyle}
use Rattle.text.specs.declared.texts.TextLayout.{TextLayout}
use Rattle.text.specs.declared.texts.Text as Lent
use Rattle.text.specs.Text.{layer, next, replaced, bounding_box, ink_box}
use Rattle.text.specs.Lines.{is_below}
use Rattle.text.specs.Lent.{lent_font, lent_text}
use Rattle.text.proofs.InkBounds.{apart_above}
use Rattle.sheet.specs.Fields.{item_at, font_at, font_number}
use Rattle.records.specs.Records.{mono_font, font, text_style, item_of, item, item_font}
use Rattle.drawing.specs.Drawing.{item_layer, item_ink, whitespace_layer, whitespace_next}

-- ---- an item as it is drawn

module _ (b : List ℕ) (n : ℕ) (t : Lent.Text) (ef : lent_font t ≡ item_font b n) (et : lent_text t.layout ≡ item b n) where
  pub item_painted : (before after : Frame) → Painted before (layer (lent_font t) (lent_text t.layout)) after → Painted before (item_layer b n) after
  unfolding item_layer
  item_painted before after p = rw (ef, et) at p

  pub item_next : (p : Point) → p ≡ next t.layout.metrics.font (lent_text t.layout) → p ≡ next (item_font b n).mono (item b n)
  item_next p e = e ∙ rw (← ef, ← et)

  pub item_replaced : (m : ℕ) → m ≡ replaced (lent_font t) (lent_text t.layout) → m ≡ replaced (item_font b n) (item b n)
  item_replaced m e = rw (ef, et) at e

-- ---- an item as it is measured

module _ (b : List ℕ) (n : ℕ) (t : TextLayout) (ef : t.metrics.font ≡ (item_font b n).mono) (et : lent_text t ≡ item b n) where
  pub item_ink_lem : (a : Rectangle) → a ≡ ink_box t.metrics.font (lent_text t) → a ≡ item_ink b n
  unfolding item_ink
  item_ink_lem a e = rw (et, ef) at e

  pub item_apart : (r : Bool) (clip : Rectangle) → (r ≡ true → is_empty (intersection (ink_box t.metrics.font (lent_text t)) clip) ≡ true) → r ≡ true → is_empty (intersection (item_ink b n) clip) ≡ true
  item_apart r clip h e = rw (← item_ink_lem _ refl) (h e)

  pub item_box : (a : Rectangle) → a ≡ bounding_box t.metrics.font (lent_text t) → a ≡ bounding_box (item_font b n).mono (item b n)
  item_box a e = rw (et, ef) at e

  -- whitespace at its place
  module _ (width : ℕ) where
    pub whitespace_painted : (before after : Frame) (top offset : ℕ) → Painted before (whitespace t.metrics.font t.character_style width t.position.x top) after
        → top ≡ t.position.y - offset → offset ≡ baseline_offset t.metrics.font t.text_style.baseline → Painted before (whitespace_layer (item_font b n).mono (item b n) width) after
    unfolding whitespace_layer
    whitespace_painted before after top offset p eo es = rw (← ef, ← et) (rw (eo, es) at p)

    pub whitespace-next : (x : ℕ) → x ≡ t.position.x + width → ◌≡◌ {A = Point} (record { x = x; y = t.position.y }) (whitespace_next (item b n) width)
    unfolding whitespace_next
    whitespace-next x e = rw (e, ← et)

-- an item that starts below a clip has no ink in it
pub below_apart : (b : List ℕ) (n : ℕ) (b' : List ℕ) (k : ℕ) (m : MonoFont) (p : Point) (t : TextStyle) (r : Bool) (clip : Rectangle) → b' ≡ b → k ≡ font_number b (item_at b n) → m ≡ mono_font b' (font_at k)
    → p ≡ (item_of b (item_at b n)).position → t ≡ text_style b (item_at b n) → r ≡ is_below clip (top_edge m t.baseline p.y) → r ≡ true → is_empty (intersection (item_ink b n) clip) ≡ true
unfolding item_ink item_font font item item_of
below_apart b n b' k m p t r clip same number em ep et e holds =
    let i = item b n in
    apart_above (item_font b n).mono i.text i.position.x i.position.y i.text_style i.character_style clip (rw (em, same, number, ep, et) at (sym e ∙ holds))
