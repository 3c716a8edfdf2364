-- The lines that an iterator has still to give: the next is the first of them, in its place, and no sum on the way is too large. Assumes nothing.
use Prim.Native.Nat.{ℕ, ◌+◌, ◌≤◌, ◌<◌}
use native.Mathlib.Omega.{arith}
use native.Mathlib.Decide.{dec_le}
use mathlib.Core.Path.{◌≡◌, refl, sym, ap, ◌∙◌}
use mathlib.Core.Bool.{cond}
use mathlib.Core.List.{List, [], ◌∷◌}
use lib.ListN.{length, drop}
use lib.Dec.{leb}
use borrow.Author.Tests.{le-leb, lt-leb}
use denote.Ref.{Bor}
use mir.Syntax.{w32}
use mir.Val.{Fits}
use Rattle.std.specs.Prelude.{unwrap_or}
use Rattle.characters.specs.Lines.{lines, line_length, line_from}
use Rattle.characters.proofs.Feeds.{lines_last, lines_more, end_of_line, end_reach}
use Rattle.text.specs.declared.texts.TextLayout.{TextLayout}
use Rattle.text.specs.declared.placed.TextLines.{TextLines}
use Rattle.text.specs.Text.{PlacedLine, text_of, laid_out, line_height, place_line, place_lines}
use Rattle.text.specs.Limits.{LineLimits, LinesLimits}
use Rattle.text.specs.Remaining.{source, lines_left}
use Rattle.text.proofs.Places.{height_small}

-- `text` is the lent slice whose lines are given
module _ (s : TextLines) (text : Bor (List ℕ)) (e : text ≡ unwrap_or s.new s.layout.now.text) where
  pub none_left : length text.now < s.from → lines_left s ≡ []
  unfolding lines_left
  none_left h = rw (lt-leb s.from (length (source s)) (rw e at h))

  module _ (reach : s.from ≤ length text.now) (line : List ℕ) (p : line ≡ line_from (source s) s.from) where
    within : s.from ≤ length (source s)
    within = rw e at reach

    ends : s.from + length line ≡ s.from + line_length (drop s.from (source s))
    ends = end_of_line (source s) line s.from p

    -- no sum is too large
    height-small : s.height ≤ 1_000
    height-small = rw s.lower_by (height_small s.layout.now.metrics.font s.layout.now.metrics.limits s.layout.now.text_style.line_height s.layout.now.limits.height_small)

    pub lower_fits : Fits w32 (s.y + s.height)
    lower_fits = let h = within in let l = s.limits.low in let n = s.limits.text_short in let y = s.layout.now.limits.near_y in omega (arith, height-small)

    pub next_limits : LinesLimits (length (source s)) s.layout.now.position.y (s.from + (length line + 1)) (s.y + s.height)
    next_limits = let l = s.limits.low in record { text_short = s.limits.text_short; low = omega (arith, height-small) }

    pub given_limits : LineLimits (length line) s.layout.now.position.x s.y
    given_limits =
        let h = within in let l = s.limits.low in let n = s.limits.text_short in let y = s.layout.now.limits.near_y in
        record { line_short = omega (arith, end_reach (source s) s.from (s.from + length line) h ends); near_x = s.layout.now.limits.near_x; near_y = omega arith }

    -- the next line, and those after it where each stands lower by a height
    abbrev next : PlacedLine
    next = place_line s.layout.now.metrics.font (text_of line s.layout.now.position.x s.y s.layout.now.character_style s.layout.now.text_style) line s.y

    abbrev after : ℕ → List PlacedLine
    after height = cond (leb (s.from + (length line + 1)) (length (source s))) (place_lines s.layout.now.metrics.font (laid_out s.layout.now (source s)) (lines (drop (s.from + (length line + 1)) (source s))) (s.y + height)) []

    spaced : lines_left s ≡ next ∷ after (line_height s.layout.now.metrics.font s.layout.now.text_style.line_height)
    unfolding lines_left place_line place_lines
    spaced =
        let n : s.from + (length line + 1) ≡ s.from + length line + 1 = omega arith in
        rw (le-leb s.from (length (source s)) within, n)
        (elim (dec_le (length (source s)) (s.from + length line)) [
          | yes k ↦ rw (lines_last (source s) s.from _ within ends k, ← p, lt-leb (s.from + length line + 1) (length (source s)) (omega arith)) refl
          | no k ↦ rw (lines_more (source s) s.from _ within ends (omega arith), ← p, le-leb (s.from + length line + 1) (length (source s)) (omega arith)) refl
        ])

    pub line_first : lines_left s ≡ next ∷ after s.height
    line_first = spaced ∙ ap (λ (h : ℕ). next ∷ after h) (sym s.lower_by)

-- ---- where a loop starts

-- a loop's iterator is the one that it was made of
module _ (s items : TextLines) (i : s ≡ items) where
  pub start_layout : (t : TextLayout) → items.layout.now ≡ t → s.layout.now ≡ t
  start_layout t e = ap (λ (u : TextLines). u.layout.now) i ∙ e

  pub start_left : (ls : List PlacedLine) → lines_left items ≡ ls → lines_left s ≡ ls
  start_left ls e = ap lines_left i ∙ e
