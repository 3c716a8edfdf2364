-- What the page writer requires. Assumes nothing.
-- Serves contracts: nothing here has to be believed.
use Rattle.std.specs.Prelude.{ℕ, ◌+◌, ◌≤◌, ◌<◌, List, ◌++◌, length}
use Rattle.page.specs.Page.{digits, page_header}

-- a number below 1,000, and room for three digits from an offset on
pub record DigitsFit (n at : ℕ) (output : List ℕ) : Type 0 where
  pub small : n < 1_000
  pub room : at + 3 ≤ length output

-- sides below 1,000, and room for the header: nine bytes beside the digits
pub record HeaderFits (w h : ℕ) (output : List ℕ) : Type 0 where
  pub width : w < 1_000
  pub height : h < 1_000
  pub room : 9 + length (digits w) + length (digits h) ≤ length output

-- sides below 1,000, and a page that fits the output
pub record PageFits (w h : ℕ) (frame output : List ℕ) : Type 0 where
  pub width : w < 1_000
  pub height : h < 1_000
  pub room : length (page_header w h ++ frame) ≤ length output
