-- What gives the boxes of a text's lines: `gives` says which rectangles it may give for a line. Assumes nothing.
-- Serves contracts: nothing here has to be believed.
use Rattle.std.specs.Prelude.{◌≡◌}
use Rattle.geometry.specs.declared.Rectangle.{Rectangle}
use Rattle.geometry.specs.Canvas.{EndsFit}
use Rattle.text.specs.declared.texts.TextLayout.{TextLayout}
use Rattle.text.specs.declared.texts.TextLine.{TextLine}
use Rattle.text.specs.Text.{PlacedLine}
use Rattle.text.specs.Lent.{placed_line}

-- each of them ends within the bounds
abbrev pub BoxesFit : (TextLine → Rectangle → Type 0) → Type 0
BoxesFit gives = (l : TextLine) (r : Rectangle) → gives l r → EndsFit r

-- each of them is the box of its line
abbrev pub GivesBoxes : TextLayout → (TextLine → Rectangle → Type 0) → (PlacedLine → Rectangle) → Type 0
GivesBoxes t gives box = (l : TextLine) (r : Rectangle) → gives l r → r ≡ box (placed_line t l)
