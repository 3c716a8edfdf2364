-- What an edit makes of an accepted sheet, and of a frame of its size where it is repainted: nothing where it is refused. Assumes nothing.
-- Serves contracts: nothing here has to be believed.
use Rattle.std.specs.Prelude.{ℕ, ◌≡◌, List, length, Result, Ok, Err}
use Rattle.refusals.specs.declared.Refusal.{Refusal}
use Rattle.refusals.specs.Numbers.{number}
use Rattle.geometry.specs.declared.Rectangle.{Rectangle}
use Rattle.geometry.specs.Rectangle.{rectangle}
use Rattle.geometry.specs.Layer.{origin}
use Rattle.characters.specs.Refusal.{unless_refused}
use Rattle.sheet.specs.Check.{check}
use Rattle.sheet.specs.Edits.{Edit, item_number, refusal, edited}
use Rattle.drawing.specs.Drawing.{pixel_count, damage, repainted}

-- a sheet that the check accepts, and a frame of its size
pub record Checked (b frame : List ℕ) : Type 0 where
  pub accepted : check b ≡ 0
  pub sized : length frame ≡ pixel_count b

-- the refusal of an edit, or 0, and its damage rectangle: empty, at the frame's corner, for a refused one
pub record Change : Type 0 where
  pub code : ℕ
  pub area : Rectangle

-- what an edit gives that may be refused
abbrev pub change_of : Result Rectangle Refusal → Change
change_of (Ok a) = record { code = 0; area = a }
change_of (Err r) = record { code = number r; area = rectangle origin origin 0 0 }

-- the damage rectangle
abbrev pub area_of : List ℕ → Edit → Rectangle
area_of b e = damage b (edited b e) (item_number e)

unfoldable pub outcome : List ℕ → Edit → Change
outcome b e = record { code = refusal b e; area = unless_refused (refusal b e) (area_of b e) (rectangle origin origin 0 0) }

unfoldable pub sheet_after : List ℕ → Edit → List ℕ
sheet_after b e = unless_refused (refusal b e) (edited b e) b

unfoldable pub frame_after : List ℕ → List ℕ → Edit → List ℕ
frame_after b frame e = unless_refused (refusal b e) (repainted (edited b e) (area_of b e) frame) frame
