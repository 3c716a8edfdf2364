-- Lines below a clip: they paint nothing in it, so that a drawing without a reply ends at the first of them. Assumes nothing.
use Prim.Native.Nat.{ℕ, ◌+◌, ◌-◌, ◌<◌}
use native.Mathlib.Omega.{arith}
use mathlib.Core.Path.{◌≡◌, refl, ◌∙◌}
use mathlib.Core.Bool.{Bool, true, false, cond}
use mathlib.Core.List.{List, [], ◌∷◌}
use lib.Dec.{leb}
use lib.ListN.{length, drop}
use borrow.Author.Tests.{leb-true}
use Rattle.characters.specs.Lines.{lines}
use Rattle.geometry.specs.declared.DrawTarget.{DrawTarget}
use Rattle.geometry.specs.Canvas.{paint_on}
use Rattle.line.specs.declared.MonoFont.{MonoFont}
use Rattle.line.specs.Line.{Font, top_edge}
use Rattle.line.specs.Line
use Rattle.line.proofs.Painting.{paint_unseen}
use Rattle.text.specs.Text.{Text, laid_out, line_height, place_line, place_lines, lines_layer, line_ink}
use Rattle.text.specs.Lines.{is_below}
use Rattle.text.specs.declared.placed.TextLines.{TextLines}
use Rattle.text.specs.Remaining.{source, lines_left}
use Rattle.text.proofs.Ink.{line_out}

module _ (f : Font) (t : Text) where
  -- lines from y on, of whatever text they are, paint nothing above the top edge of the first
  lines-above : (m : MonoFont) (u : Text) (ls : List (List ℕ)) (y c r grey : ℕ) → r < top_edge f.mono t.text_style.baseline y → lines_layer f t (place_lines m u ls y) c r grey ≡ grey
  unfolding lines_layer place_lines place_line line_ink Line.ink_box
  lines-above m u [] y c r grey h = refl
  lines-above m u (l ∷ ls) y c r grey h =
      lines-above m u ls (y + line_height m u.text_style.line_height) c r _ (omega arith) ∙ line_out f t c r (place_line m u l y) grey (λ i. omega arith)

  module _ (target : DrawTarget) where
    -- so those below a clip, of whatever text they are, paint nothing in it
    any_below : (m : MonoFont) (u : Text) (ls : List (List ℕ)) (y : ℕ) (xs : List ℕ) → is_below target.clip_area (top_edge f.mono t.text_style.baseline y) ≡ true
        → xs ≡ paint_on target (lines_layer f t (place_lines m u ls y)) xs
    unfolding is_below
    any_below m u ls y xs e =
        let h = leb-true target.clip_area.height (top_edge f.mono t.text_style.baseline y - target.clip_area.top) e in
        paint_unseen target _ xs (λ c r grey i. lines-above m u ls y c r grey (omega arith))

    pub lines_below : (ls : List (List ℕ)) (y : ℕ) (xs : List ℕ) → is_below target.clip_area (top_edge f.mono t.text_style.baseline y) ≡ true
        → xs ≡ paint_on target (lines_layer f t (place_lines f.mono t ls y)) xs
    lines_below = any_below f.mono t

    pub nothing_painted : (xs : List ℕ) → xs ≡ paint_on target (lines_layer f t []) xs
    unfolding lines_layer
    nothing_painted xs = paint_unseen target _ xs (λ c r grey i. refl)

    -- and those that an iterator has left
    pub left_below : (xs : List ℕ) (s : TextLines) → is_below target.clip_area (top_edge f.mono t.text_style.baseline s.y) ≡ true
        → xs ≡ paint_on target (lines_layer f t (lines_left s)) xs
    unfolding lines_left
    left_below xs s e = go (leb s.from (length (source s)))
      where
        go : (b : Bool) → xs ≡ paint_on target (lines_layer f t (cond b (place_lines s.layout.now.metrics.font (laid_out s.layout.now (source s)) (lines (drop s.from (source s))) s.y) [])) xs
        go true = any_below s.layout.now.metrics.font (laid_out s.layout.now (source s)) (lines (drop s.from (source s))) s.y xs e
        go false = nothing_painted xs
