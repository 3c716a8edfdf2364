-- The boxes of a text's lines joined one by one: what is joined and what is left at each line. Assumes nothing.
use Prim.Native.Nat.{ℕ, ◌+◌, ◌*◌, ◌≤◌}
use native.Mathlib.Omega.{arith}
use mathlib.Core.Path.{◌≡◌, refl, ap, ◌∙◌}
use mathlib.Core.Bool.{Bool, true, false, cond}
use mathlib.Core.List.{List, [], map}
use lib.ListN.{length}
use Rattle.geometry.specs.declared.Point.{Point}
use Rattle.geometry.specs.declared.Rectangle.{Rectangle}
use Rattle.geometry.specs.Rectangle.{join, joins}
use Rattle.geometry.specs.Canvas.{EndsFit}
use Rattle.geometry.proofs.Rectangles.{ends_fit_join}
use Rattle.characters.specs.Utf8.{chars}
use Rattle.characters.specs.Lines.{without_return}
use Rattle.characters.proofs.Feeds.{length-without_return}
use Rattle.line.specs.declared.MonoFont.{MonoFont}
use Rattle.line.specs.declared.MonoTextStyle.{MonoTextStyle}
use Rattle.line.specs.Line
use Rattle.line.specs.Limits.{FontLimits}
use Rattle.line.proofs.Advances.{width_small, advance_width}
use Rattle.line.proofs.Ink.{rows_low}
use Rattle.text.specs.declared.texts.TextLayout.{TextLayout}
use Rattle.text.specs.declared.texts.TextLine.{TextLine}
use Rattle.text.specs.Text.{PlacedLine, place_line, nowhere, measured_box, line_ink}
use Rattle.text.specs.Boxes.{BoxesFit, GivesBoxes}
use Rattle.text.specs.Lines.{line_corner}
use Rattle.text.specs.Remaining.{lines_left, LineGiven}
use Rattle.text.specs.declared.placed.TextLines.{TextLines}
use denote.Ref.{Bor}
use Rattle.text.specs.Lent.{lent_text, placed_line}
use Rattle.text.proofs.Places.{start_near}

-- ---- the boxes of a line: `corner` is the line's corner and `shown` its bytes without the return

measured_height_small : (m : MonoFont) (s : MonoTextStyle) → FontLimits m → Line.measured_height m s ≤ 510
unfolding Line.measured_height
measured_height_small m s limits = go (Line.is_none s.underline_color)
  where
    go : (t : Bool) → cond t (Line.character_height m) (m.underline.offset + m.underline.height) ≤ 510
    go true = omega arith
    go false = omega arith

module _ (t : TextLayout) (l : TextLine) (corner : Point) (d : corner ≡ line_corner t.metrics.font t.text_style l.text.now l.position.x l.position.y) where
  abbrev m : MonoFont
  m = t.metrics.font

  pub corner_near : corner.y ≤ 8_388_608
  unfolding line_corner
  corner_near = let h = l.limits.near_y in rw d (omega arith)

  module _ (shown : List ℕ) (e : shown ≡ without_return l.text.now) where
    wide : length (chars shown) * (Line.character_width m + Line.spacing m) ≤ 8_388_608
    wide = rw e (width_small m t.metrics.limits (without_return l.text.now) (let h = l.limits.line_short in omega (arith, length-without_return l.text.now)) (length (chars (without_return l.text.now))) refl)

    near : corner.x ≤ 4_194_305
    unfolding line_corner
    near = let h = l.limits.near_x in rw d (omega (arith, start_near t.text_style.alignment l.position.x (Line.measured_width m (length (chars l.text.now)))))

    module _ (r : Rectangle) where
      pub line_ink_is : r ≡ Line.ink_box m t.character_style (length (chars shown)) corner.x corner.y → r ≡ line_ink m (lent_text t) (placed_line t l)
      unfolding line_ink place_line line_corner
      line_ink_is p = rw (d, e) at p

      pub line_ink_ends : r ≡ Line.ink_box m t.character_style (length (chars shown)) corner.x corner.y → EndsFit r
      unfolding Line.ink_box
      line_ink_ends p = rw p (omega (arith, wide, near, corner_near, rows_low m t.character_style t.metrics.limits, advance_width m t.character_style (length (chars shown))))

      pub line_measured_is : r ≡ Line.measured_box m t.character_style (length (chars shown)) corner.x corner.y → r ≡ measured_box m (lent_text t) (placed_line t l)
      unfolding measured_box place_line line_corner
      line_measured_is p = rw (d, e) at p

      pub line_measured_ends : r ≡ Line.measured_box m t.character_style (length (chars shown)) corner.x corner.y → EndsFit r
      unfolding Line.measured_box Line.measured_width
      line_measured_ends p = rw p (omega (arith, wide, near, corner_near, measured_height_small m t.character_style t.metrics.limits))

-- ---- the boxes of lines joined one by one: `gives` says what may be given for a line

module _ (t : TextLayout) (gives : TextLine → Rectangle → Type 0) (all : List PlacedLine) where
  -- what is joined at a line: the boxes of those before it
  pub record BoxesJoined (s : TextLines) (area : Rectangle) : Type 0 where
    pub joined : (box : PlacedLine → Rectangle) → GivesBoxes t gives box → joins area (map box (lines_left s)) ≡ joins (nowhere (lent_text t)) (map box all)
    pub ends : EndsFit area
    pub same_layout : s.layout.now ≡ t

  pub boxes_start : (s : TextLines) (area : Rectangle) → s.layout.now ≡ t → lines_left s ≡ all → area ≡ nowhere (lent_text t) → EndsFit area → BoxesJoined s area
  boxes_start s area l e a n = record { joined = λ box g. rw (e, a); ends = n; same_layout = l }

  pub boxes_end : (s : TextLines) (area : Rectangle) → BoxesJoined s area → lines_left s ≡ [] → (box : PlacedLine → Rectangle) → GivesBoxes t gives box
      → area ≡ joins (nowhere (lent_text t)) (map box all)
  unfolding joins
  boxes_end s area d e box g = rw e at d.joined box g

  pub boxes_step : (s : TextLines) (area : Rectangle) (l : TextLine) (later : TextLines) (shown next : Rectangle) → BoxesFit gives → BoxesJoined s area → LineGiven s l later
      → gives l shown → next ≡ join area shown → BoxesJoined later next
  unfolding joins
  boxes_step s area l later shown next fit d g r p = record {
    joined = λ box is. rw (p, is l shown r) (rw (g.first, d.same_layout) at d.joined box is);
    ends = rw p (ends_fit_join area shown d.ends (fit l shown r));
    same_layout = ap (λ (b : Bor TextLayout). b.now) g.same_layout ∙ d.same_layout;
  }
