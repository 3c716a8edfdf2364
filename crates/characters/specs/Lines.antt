-- The lines of a text (docs/SHEET.md, Text), and where they are found in it. Assumes nothing.
-- To be believed: it says what a sheet means.
use Rattle.std.specs.Prelude.{ℕ, suc, ◌-◌, ◌≡◌, cond, List, [], ◌∷◌, length, take, drop, get_or, eqb}

-- a byte put before the first line
abbrev pub before : ℕ → List (List ℕ) → List (List ℕ)
before c [] = []
before c (l ∷ ls) = (c ∷ l) ∷ ls

-- "Lines split at 0A, so n feeds give n + 1 lines"
unfoldable pub lines : List ℕ → List (List ℕ)
lines [] = [] ∷ []
lines (c ∷ cs) = cond (eqb c 0x0A) ([] ∷ lines cs) (before c (lines cs))

-- "just one trailing 0D is dropped"
unfoldable pub without_return : List ℕ → List ℕ
without_return l = cond (eqb (get_or l (length l - 1) 0) 0x0D) (take (length l - 1) l) l

-- a text "without 0A or 0D": it is one line, and none of its bytes is dropped
pub record OneLine (t : List ℕ) : Type 0 where
  pub no_feed : (k : ℕ) → get_or t k 0 ≡ 0x0A → ⊥
  pub no_return : (k : ℕ) → get_or t k 0 ≡ 0x0D → ⊥

-- how many bytes stand before the first line feed
unfoldable pub line_length : List ℕ → ℕ
line_length [] = 0
line_length (c ∷ cs) = cond (eqb c 0x0A) 0 (suc (line_length cs))

-- the line that starts at a position of a text
unfoldable pub line_from : List ℕ → ℕ → List ℕ
line_from text from = take (line_length (drop from text)) (drop from text)
