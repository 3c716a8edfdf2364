-- Limits under which no sum of a text's drawing is too large: what its functions require, and what an accepted sheet gives.
-- Assumes nothing.
-- Serves contracts: nothing here has to be believed.
use Rattle.std.specs.Prelude.{ℕ, ◌+◌, ◌*◌, ◌≤◌}
use Rattle.text.specs.declared.LineHeight.{LineHeight}
use Rattle.text.specs.declared.LineHeight.TheVariants.{Pixels, Percent}

-- the value of a line height: pixels, or percent
abbrev pub height_value : LineHeight → ℕ
height_value (Pixels n) = n
height_value (Percent n) = n

-- n bytes of text at (x, y), with their line height
pub record TextLimits (n x y : ℕ) (height : LineHeight) : Type 0 where
  pub text_short : n ≤ 4_096
  pub near_x : x ≤ 4_194_304
  pub near_y : y ≤ 4_194_304
  pub height_small : height_value height ≤ 1_000

-- a line of n bytes of a text at (x, y)
pub record LineLimits (n x y : ℕ) : Type 0 where
  pub line_short : n ≤ 4_096
  pub near_x : x ≤ 4_194_304
  pub near_y : y ≤ 8_388_608

-- the line that starts `from` bytes after the first of n bytes of text at y0 stands at y
pub record LinesLimits (n y0 from y : ℕ) : Type 0 where
  pub text_short : n ≤ 4_096
  pub low : y ≤ y0 + 1_000 * from
