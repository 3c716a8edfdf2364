-- docs/SHEET.md's stored places, whitespace and damage rectangle in signed numbers, as the paper writes them. That the definitions in natural
-- numbers agree is `sheet_exact`, `damage_exact` and `stored_Exact` (proofs/Exact.antt). Assumes nothing.
-- To be believed: it says what a sheet means.
use Rattle.std.specs.Prelude.{ℕ, suc, ◌-◌, cond, List, ltb, ℤ, pos, negsuc, ◌+ℤ◌, ◌-ℤ◌}
use Rattle.line.specs.declared.MonoFont.{MonoFont}
use Rattle.text.specs.Signed.{SignedPoint, SignedRectangle, rectangle, is_empty, join, intersection, SignedText, top_edge, ink_box}
use Rattle.sheet.specs.Fields.{frame_width, frame_height, item_at, item_x, item_y, text_bytes}
use Rattle.records.specs.Records.{mono_text_style, text_style, item_font}

-- ---- "signed x (2), y (2)": two bytes in two's complement

-- the signed number of a number of two bytes: below 32,768 itself, from there on 65,536 less
unfoldable pub from_twos_complement : ℕ → ℤ
from_twos_complement n = cond (ltb n 32_768) (pos n) (pos n -ℤ pos 65_536)

-- and back, of −32,768 to 32,767
unfoldable pub twos_complement : ℤ → ℕ
twos_complement (pos n) = n
twos_complement (negsuc n) = 65_536 - suc n

-- item number n
unfoldable pub item : List ℕ → ℕ → SignedText
item b n = record {
  text = text_bytes b (item_at b n);
  position = record { x = from_twos_complement (item_x b (item_at b n)); y = from_twos_complement (item_y b (item_at b n)) };
  character_style = mono_text_style b (item_at b n);
  text_style = text_style b (item_at b n);
}

-- ---- whitespace: "takes an item's x, y, style and baseline: background v by ch if set, decorations, advance v"

-- "Top edge = y − baseline offset"
unfoldable pub whitespace_top : MonoFont → SignedText → ℤ
whitespace_top m t = top_edge m t.text_style.baseline t.position.y

unfoldable pub whitespace_next : SignedText → ℕ → SignedPoint
whitespace_next t width = record { x = t.position.x +ℤ pos width; y = t.position.y }

-- ---- the damage rectangle

unfoldable pub item_ink : List ℕ → ℕ → SignedRectangle
item_ink b n = ink_box (item_font b n).mono (item b n)

-- "(0, 0, 0, 0) if empty"
unfoldable pub or_none : SignedRectangle → SignedRectangle
or_none a = cond (is_empty a) (rectangle (pos 0) (pos 0) 0 0) a

-- "cut to the frame"
unfoldable pub cut_to_frame : List ℕ → SignedRectangle → SignedRectangle
cut_to_frame b a = or_none (intersection a (rectangle (pos 0) (pos 0) (frame_width b) (frame_height b)))

-- "The damage rectangle is the smallest holding the boxes before and after": of item n, from the bytes before and after
unfoldable pub damage : List ℕ → List ℕ → ℕ → SignedRectangle
damage b b' n = cut_to_frame b (join (item_ink b n) (item_ink b' n))
