-- `StrGlyphMapping`: the characters that a mapping spells, and where one stands among them (docs/SHEET.md, Mapping). Assumes nothing.
-- To be believed: it says what a sheet means.
use Rattle.std.specs.Prelude.{ℕ, zero, suc, ◌-◌, List, [], ◌∷◌, ◌++◌, Bool, cond, leb, eqb, length, Option, Some, None, unwrap_or, is_some}
use Rattle.characters.specs.Utf8.{is_surrogate, chars, well_formed}
use Rattle.characters.specs.Refusal.{need}
use Rattle.mapping.specs.declared.Glyph.{Glyph}

-- the n numbers from a on, "surrogates skipped"
unfoldable pub scalars_from : ℕ → ℕ → List ℕ
scalars_from zero a = []
scalars_from (suc n) a = let rest = scalars_from n (suc a) in cond (is_surrogate a) rest (a ∷ rest)

-- "all from start to end"; "If end < start, none"
abbrev pub from_to : ℕ → ℕ → List ℕ
from_to start end = scalars_from (suc end - start) start

-- "a single character, or 00 then start and end"; "A 00 lacking start or end stops the list"
unfoldable pub spelled : List ℕ → List ℕ
spelled [] = []
spelled (suc ch ∷ rest) = suc ch ∷ spelled rest
spelled (zero ∷ []) = []
spelled (zero ∷ start ∷ []) = []
spelled (zero ∷ start ∷ end ∷ rest) = from_to start end ++ spelled rest

-- the characters that a mapping's bytes spell
abbrev pub list_of : List ℕ → List ℕ
list_of mapping = spelled (chars mapping)

-- the first position of a character in a list, counted from k
unfoldable pub place_from : ℕ → ℕ → List ℕ → Option ℕ
place_from k ch [] = None
place_from k ch (x ∷ xs) = cond (eqb x ch) (Some k) (place_from (suc k) ch xs)

-- "`index` gives the first position of the character, else the replacement index"
abbrev pub index : List ℕ → ℕ → ℕ → ℕ
index mapping replacement ch = unwrap_or (place_from 0 ch (list_of mapping)) replacement

-- "`contains` says if it is listed"
abbrev pub contains : List ℕ → ℕ → Bool
contains mapping ch = is_some (place_from 0 ch (list_of mapping))

-- what a lookup answers: "The glyph lookup .. must also say whether the character was listed"
abbrev pub glyph : List ℕ → ℕ → ℕ → Glyph
glyph mapping replacement ch = record { index = index mapping replacement ch; listed = contains mapping ch }

-- refusals 7 and 8: "a mapping spells ≤ 65,536 characters"
unfoldable pub refusal : List ℕ → ℕ
refusal mapping = need (well_formed mapping) 7 (need (leb (length (list_of mapping)) 65_536) 8 0)
