-- What a glyph's lines in their usual form do, read at the head of a text. Assumes nothing.
-- Serves contracts: nothing here has to be believed.
use Rattle.std.specs.Prelude.{ℕ, ◌≡◌, List, Result, Ok}
use Rattle.refusals.specs.declared.Refusal.{Refusal}
use Rattle.bdf_lines.specs.Forms.{line_at, LineBefore}
use Rattle.bdf.specs.declared.reader.Reader.{Reader}
use Rattle.bdf.specs.declared.reader.Answer.{Answer}
use Rattle.bdf.specs.declared.reader.Answer.TheVariants.{Passed}
use Rattle.bdf.specs.Reader.{step}

-- a line that only leads to the state s
pub record UsualMove (text : List ℕ) (r s : Reader) (rest : List ℕ) : Type 0 where
  pub line : LineBefore text rest
  pub moves : step r (line_at text 0) ≡ Ok (Passed s)

-- a line's answer
pub record UsualAnswer (text : List ℕ) (r : Reader) (a : Result Answer Refusal) (rest : List ℕ) : Type 0 where
  pub line : LineBefore text rest
  pub answers : a ≡ step r (line_at text 0)
