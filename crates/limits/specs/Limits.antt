-- The limits of a sheet (docs/SHEET.md, Sheet), on the numbers of a record's fields. Assumes nothing.
-- To be believed: it says what a sheet means.
use Rattle.std.specs.Prelude.{ℕ, ◌*◌, Bool, ◌&&◌, List, [], ◌∷◌, ltb, leb, eqb}
use Rattle.characters.specs.Refusal.{need, all}
use Rattle.limits.specs.declared.HeaderFields.{HeaderFields}
use Rattle.limits.specs.declared.FontFields.{FontFields}
use Rattle.limits.specs.declared.ItemFields.{ItemFields}

-- ---- refusals 1 to 4

-- "length outside limits, or unlike the length field; header zero field not 0"
abbrev pub length_tests : HeaderFields → List Bool
length_tests h = leb 24 h.file_length ∷ leb h.file_length 65_536 ∷ eqb h.whole_length h.file_length ∷ eqb h.zero 0 ∷ []

-- "frame outside limits"
abbrev pub frame_tests : HeaderFields → List Bool
frame_tests h = leb 1 h.width ∷ leb h.width 512 ∷ leb 1 h.height ∷ leb h.height 512 ∷ leb (h.width * h.height) 65_536 ∷ []

-- "F or I too large"
abbrev pub count_tests : HeaderFields → List Bool
count_tests h = leb h.fonts 4 ∷ leb h.items 64 ∷ []

unfoldable pub header_refusal : HeaderFields → ℕ
header_refusal h = need (all (length_tests h)) 1 (need (eqb h.edition 1) 2 (need (all (frame_tests h)) 3 (need (all (count_tests h)) 4 0)))

-- ---- refusal 6: "font field outside limits or zero field not 0"

abbrev pub font_tests : FontFields → List Bool
font_tests f = leb f.cw 64 ∷ leb f.ch 64 ∷ leb f.spacing 64 ∷ leb f.atlas_width 1_024 ∷ eqb f.zero 0 ∷ []

unfoldable pub font_limits : FontFields → ℕ
font_limits f = need (all (font_tests f)) 6 0

-- ---- refusal 9, but for the slot's tail: "item field outside limits, unknown code, font ≥ F, text past slot, slot tail or zero field not 0"

-- "0 none, 1 set", and of a decoration "0 none, 1 text colour, 2 own grey"
unfoldable pub good_modes : ℕ → ℕ → ℕ → ℕ → Bool
good_modes text background underline strikethrough = leb text 1 && leb background 1 && leb underline 2 && leb strikethrough 2

abbrev pub item_tests : ItemFields → ℕ → List Bool
item_tests i fonts =
    leb i.slot_size 256 ∷ leb i.text_length i.slot_size ∷ ltb i.font fonts
    ∷ good_modes i.text_mode i.background_mode i.underline_mode i.strikethrough_mode
    ∷ leb i.alignment 2 ∷ leb i.baseline 3 ∷ leb i.height_kind 1 ∷ leb i.height_value 1_000 ∷ eqb i.zero 0 ∷ []

unfoldable pub item_limits : ItemFields → ℕ → ℕ
item_limits i fonts = need (all (item_tests i fonts)) 9 0
