-- The header of a page as a Netpbm file (docs/SHEET.md, Page and host). Assumes nothing.
-- To be believed: it says what a sheet means.
use Rattle.std.specs.Prelude.{ℕ, ◌+◌, ◌/◌, ◌%◌, cond, List, [], ◌∷◌, ◌++◌, ltb}

-- a number below 1,000 in decimal
unfoldable pub digits : ℕ → List ℕ
digits n =
    cond (ltb n 10) ((0x30 + n) ∷ [])
    (cond (ltb n 100) ((0x30 + n / 10) ∷ (0x30 + n % 10) ∷ []) ((0x30 + n / 100) ∷ (0x30 + n / 10 % 10) ∷ (0x30 + n % 10) ∷ []))

-- "`P5`, feed, width, blank, height, feed, `255`, feed"
unfoldable pub page_header : ℕ → ℕ → List ℕ
page_header w h = (0x50 ∷ 0x35 ∷ 0x0A ∷ []) ++ digits w ++ (0x20 ∷ []) ++ digits h ++ (0x0A ∷ 0x32 ∷ 0x35 ∷ 0x35 ∷ 0x0A ∷ [])
