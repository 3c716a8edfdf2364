-- A table of the values of hexadecimal digits, as a function makes and others read it. Assumes nothing.
-- Serves contracts: nothing here has to be believed.
use Rattle.std.specs.Prelude.{ℕ, ◌<◌, ◌≡◌, cond, List, length, get_or}
use Rattle.bdf_lines.specs.Words.{is_hex, hex_value}

-- the value of each byte as a hexadecimal digit, or 255
unfoldable pub digit_value : ℕ → ℕ
digit_value b = cond (is_hex b) (hex_value b) 255

pub record IsTable (t : List ℕ) : Type 0 where
  pub full : length t ≡ 256
  pub entry : (b : ℕ) → b < 256 → get_or t b 0 ≡ digit_value b
