-- The lines of a text as its functions find them, and their boxes. Assumes nothing.
-- Serves contracts: nothing here has to be believed.
use Rattle.std.specs.Prelude.{ℕ, ◌+◌, ◌-◌, ◌≡◌, Bool, cond, List, [], ◌∷◌, length, leb, eqb}
use Rattle.geometry.specs.declared.Point.{Point}
use Rattle.geometry.specs.declared.Rectangle.{Rectangle}
use Rattle.characters.specs.Utf8.{chars}
use Rattle.line.specs.declared.MonoFont.{MonoFont}
use Rattle.line.specs.Line.{top_edge, measured_width}
use Rattle.text.specs.declared.Alignment.{Alignment}
use Rattle.text.specs.declared.Alignment.TheVariants.{Left, Center, Right}
use Rattle.text.specs.declared.TextStyle.{TextStyle}
use Rattle.text.specs.Text.{aligned_start}

-- how many line feeds a text has
unfoldable pub feed_count : List ℕ → ℕ
feed_count [] = 0
feed_count (c ∷ cs) = cond (eqb c 0x0A) 1 0 + feed_count cs

-- how far from x a line that is at most `widest` wide can start
unfoldable pub start_reach : Alignment → ℕ → ℕ
start_reach Left widest = 0
start_reach Center widest = widest + 1
start_reach Right widest = widest + 1

-- a part lies in memory `from` bytes after the start of a slice: a slice of the same bytes elsewhere has no such part
pub record LiesAt (slice : ℕ × ℕ) (from : ℕ) (part : ℕ × ℕ) : Type 0 where
  pub block : part.0 ≡ slice.0
  pub offset : part.1 ≡ from + slice.1

-- the corner of a line: its start beside x, and its top edge
unfoldable pub line_corner : MonoFont → TextStyle → List ℕ → ℕ → ℕ → Point
line_corner m t l x y = record { x = aligned_start t.alignment x (measured_width m (length (chars l))); y = top_edge m t.baseline y }

-- whether no row from `top` on is one of a clip's, since they all lie below it
unfoldable pub is_below : Rectangle → ℕ → Bool
is_below clip top = leb clip.height (top - clip.top)
