-- The replies that are positions and boxes, made of docs/SHEET.md's signed numbers (text/specs/Signed.antt, drawing/specs/SignedSheet.antt). That
-- the calls' replies are these is `replies_exact`. Assumes nothing.
-- To be believed: it says what a sheet means.
use Rattle.std.specs.Prelude.{ℕ, List, pos}
use Rattle.characters.specs.Refusal.{unless_refused}
use Rattle.text.specs.Text.{replaced}
use Rattle.text.specs.Signed.{SignedPoint, SignedRectangle, next, bounding_box}
use Rattle.records.specs.Records
use Rattle.records.specs.Records.{item_font}
use Rattle.sheet.specs.Edits.{Edit, item_number, edited}
use Rattle.drawing.specs.SignedSheet.{item, whitespace_next, damage}
use Rattle.calls.specs.declared.Position.{Position}
use Rattle.calls.specs.declared.Drawn.{Drawn}
use Rattle.calls.specs.declared.Box.{Box}
use Rattle.calls.specs.Calls.{item_code, draw_item_code, whitespace_code, edit_code, on_sheet_code}

-- "A good call returns 0 with its position, box, ..", "A refused one returns its number with zeros"

abbrev pub position_of : ℕ → SignedPoint → Position
position_of code p = record { code = code; x = unless_refused code p.x (pos 0); y = unless_refused code p.y (pos 0) }

abbrev pub drawn_of : ℕ → SignedPoint → ℕ → Drawn
drawn_of code p n = record { code = code; x = unless_refused code p.x (pos 0); y = unless_refused code p.y (pos 0); replaced = unless_refused code n 0 }

abbrev pub box_of : ℕ → SignedRectangle → Box
box_of code a = record {
  code = code;
  left = unless_refused code a.left (pos 0);
  top = unless_refused code a.top (pos 0);
  width = unless_refused code a.width 0;
  height = unless_refused code a.height 0;
}

abbrev pub draw_item_reply : List ℕ → List ℕ → ℕ → Drawn
draw_item_reply b frame n = drawn_of (draw_item_code b frame n) (next (item_font b n).mono (item b n)) (replaced (item_font b n) (Records.item b n))

abbrev pub whitespace_reply : List ℕ → List ℕ → ℕ → ℕ → Position
whitespace_reply b frame n width = position_of (whitespace_code b frame n width) (whitespace_next (item b n) width)

abbrev pub bounding_box_reply : List ℕ → ℕ → Box
bounding_box_reply b n = box_of (item_code b n) (bounding_box (item_font b n).mono (item b n))

abbrev pub edit_reply : List ℕ → List ℕ → Edit → Box
edit_reply b frame e = box_of (edit_code b frame e) (damage b (edited b e) (item_number e))

abbrev pub on_sheet_reply : List ℕ → Edit → Box
on_sheet_reply b e = box_of (on_sheet_code b e) (damage b (edited b e) (item_number e))
