-- The three edits on the sheet's bytes (docs/SHEET.md, Drawing and edits). Assumes nothing.
-- To be believed: it says what a sheet means.
use Rattle.std.specs.Prelude.{ℕ, suc, ◌+◌, ◌-◌, Bool, ◌&&◌, List, ◌++◌, ltb, leb, eqb, ℤ, pos, negsuc, length, get_or, replicate}
use Rattle.std.proofs.lemmas.List.Edits.{sets}
use Rattle.geometry.specs.Layer.{origin}
use Rattle.characters.specs.Refusal.{need}
use Rattle.characters.specs.Utf8.{well_formed}
use Rattle.sheet.specs.Fields.{le16, item_count, item_at, slot_offset, slot_size, text_length_at, style_at}
use Rattle.limits.specs.Limits.{good_modes}

-- an edit: its kind, the item's number, and the data: a text, an x and a y, or style bytes
pub data Edit : Type 0 where
  new_text : ℕ → List ℕ → Edit
  new_place : ℕ → ℤ → ℤ → Edit
  new_style : ℕ → List ℕ → Edit

abbrev pub item_number : Edit → ℕ
item_number (new_text i t) = i
item_number (new_place i x y) = i
item_number (new_style i t) = i

-- ---- "the first condition of 12 to 16 .. that applies to this kind and holds"

-- −32,768 to 32,767
unfoldable pub in_range : ℤ → Bool
in_range (pos n) = ltb n 32_768
in_range (negsuc n) = ltb n 32_768

unfoldable pub text_refusal : List ℕ → ℕ → List ℕ → ℕ
text_refusal b i t = need (ltb i (item_count b)) 12 (need (leb (length t) (slot_size b (item_at b i))) 13 (need (well_formed t) 14 0))

unfoldable pub place_refusal : List ℕ → ℕ → ℤ → ℤ → ℕ
place_refusal b i x y = need (ltb i (item_count b)) 12 (need (in_range x && in_range y) 15 0)

unfoldable pub style_refusal : List ℕ → ℕ → List ℕ → ℕ
style_refusal b i t = need (ltb i (item_count b)) 12 (need (eqb (length t) 8 && good_modes (get_or t 0 0) (get_or t 2 0) (get_or t 4 0) (get_or t 6 0)) 16 0)

abbrev pub refusal : List ℕ → Edit → ℕ
refusal b (new_text i t) = text_refusal b i t
refusal b (new_place i x y) = place_refusal b i x y
refusal b (new_style i t) = style_refusal b i t

-- ---- "the bytes named above are replaced"; the item's record stands at o

-- "new text with its length field (then 00 to the slot's end)"
unfoldable pub put_text : List ℕ → ℕ → List ℕ → List ℕ
put_text b o t = sets (sets b (text_length_at o) (le16 (length t))) (slot_offset b o) (t ++ replicate (slot_size b o - length t) 0)

-- a signed number as a coordinate
unfoldable pub biased : ℤ → ℕ
biased (pos n) = origin + n
biased (negsuc n) = origin - suc n

-- "new x and y", as coordinates; the bytes are those of the signed numbers, since 65,536 divides `origin`
unfoldable pub put_place : List ℕ → ℕ → ℕ → ℕ → List ℕ
put_place b o x y = sets (sets b o (le16 x)) (o + 2) (le16 y)

-- "new bytes 13 to 20 of an item"
unfoldable pub put_style : List ℕ → ℕ → List ℕ → List ℕ
put_style b o t = sets b (style_at o) t

abbrev pub edited : List ℕ → Edit → List ℕ
edited b (new_text i t) = put_text b (item_at b i) t
edited b (new_place i x y) = put_place b (item_at b i) (biased x) (biased y)
edited b (new_style i t) = put_style b (item_at b i) t
