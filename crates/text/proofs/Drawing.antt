-- A text drawn line by line: what is drawn, counted and left at each line. Assumes nothing.
use Prim.Native.Nat.{ℕ, ◌+◌}
use native.Mathlib.Omega.{arith}
use mathlib.Core.Path.{◌≡◌, refl, sym, ap, ◌∙◌}
use mathlib.Core.Bool.{Bool, true, cond}
use Rattle.std.specs.Prelude.{Option, Some, None, unwrap_or}
use mathlib.Core.List.{List, []}
use lib.ListN.{length}
use denote.Ref.{Bor}
use mir.Syntax.{w32}
use mir.Val.{Fits}
use Rattle.geometry.specs.declared.Point.{Point}
use Rattle.geometry.specs.declared.canvas.Frame.{Frame}
use Rattle.geometry.specs.Painted.{Painted}
use Rattle.geometry.proofs.Paintings.{painted_none, painted_then}
use Rattle.characters.specs.Utf8.{chars}
use Rattle.characters.specs.Lines.{lines, without_return}
use Rattle.line.specs.Line.{Font, font_of, top_edge, unlisted, string, advance}
use Rattle.text.specs.declared.texts.TextLayout.{TextLayout}
use Rattle.text.specs.declared.texts.TextLine.{TextLine}
use Rattle.text.specs.declared.placed.TextLines.{TextLines}
use Rattle.text.specs.declared.texts.Text as Lent
use Rattle.text.specs.Text.{Text, line_height, place_line, placed_lines, line_layer, lines_layer, layer, line_next, last_next, next, line_replaced, lines_replaced, replaced}
use Rattle.text.specs.Lines.{line_corner, is_below}
use Rattle.text.specs.Lent.{lent_font, lent_text, line_text, placed_line}
use Rattle.text.specs.Remaining.{lines_left, LineGiven}
use Rattle.text.proofs.Below.{lines_below, nothing_painted, left_below}
use Rattle.text.proofs.Places.{height_small}
use Rattle.text.proofs.Replaced.{replaced_few}

-- ---- `draw_line`: `corner` is the line's corner, `shown` its bytes without the return, and `f` the text's font

module _ (t : TextLayout) (l : TextLine) (atlas mapping : List ℕ) (f : Font) (ef : f ≡ font_of t.metrics.font atlas mapping) (shown : List ℕ) (corner : Point) (e : shown ≡ without_return l.text.now)
    (d : corner ≡ line_corner t.metrics.font t.text_style l.text.now l.position.x l.position.y) where
  pub line_painted : (before after : Frame) → Painted before (string f t.character_style shown corner.x corner.y) after
      → Painted before (line_layer (font_of t.metrics.font atlas mapping) (line_text t l) (placed_line t l)) after
  unfolding line_layer place_line line_corner
  line_painted before after p = rw (ef, d, e) at p

  pub line_next_lem : (r : ℕ) → r ≡ corner.x + advance f.mono t.character_style (length (chars shown)) → r ≡ (line_next t.metrics.font (line_text t l) (placed_line t l)).x
  unfolding line_next place_line line_corner
  line_next_lem r p = rw (ef, d, e) at p

  pub line_count : (counts : Bool) (r : Option ℕ) → r ≡ cond counts (Some (unlisted f.mapping (chars shown))) None → r ≡ cond counts (Some (line_replaced mapping (placed_line t l))) None
  unfolding line_replaced place_line
  line_count counts r p = rw (ef, e) at p

-- ---- `draw` and `paint`

module _ (self : Lent.Text) where
  abbrev f : Font
  f = lent_font self

  abbrev t : Text
  t = lent_text self.layout

  module _ (first : Frame) where
    -- where the text starts below the clip, nothing of it is shown
    pub paint_nothing : (r : Bool) → r ≡ is_below first.target.clip_area (top_edge f.mono t.text_style.baseline t.position.y) → r ≡ true → Painted first (layer f t) first
    unfolding layer placed_lines
    paint_nothing r e h = painted_none first _ (lines_below f t first.target (lines t.text) t.position.y first.greys.now (sym e ∙ h))

    -- what is painted at a line: those before it are
    pub record LinesPainted (s : TextLines) (frame : Frame) : Type 0 where
      pub whole : (last : Frame) → Painted frame (lines_layer f t (lines_left s)) last → Painted first (layer f t) last
      pub same_layout : s.layout.now ≡ self.layout
      pub same_target : frame.target ≡ first.target

    pub paint_start : (s : TextLines) → s.layout.now ≡ self.layout → lines_left s ≡ placed_lines f.mono t → LinesPainted s first
    unfolding layer
    paint_start s same e = record { whole = λ last p. rw e at p; same_layout = same; same_target = refl }

    module _ (s : TextLines) (frame : Frame) (d : LinesPainted s frame) where
      pub paint_end : lines_left s ≡ [] → Painted first (layer f t) frame
      paint_end e = d.whole frame (painted_none frame _ (rw e (nothing_painted f t frame.target frame.greys.now)))

      -- where the next line lies below the clip, all that is shown is painted
      pub paint_below : (y : ℕ) → s.y ≡ y → (r : Bool) → r ≡ is_below first.target.clip_area (top_edge f.mono t.text_style.baseline y) → r ≡ true → Painted first (layer f t) frame
      paint_below y n r e h =
          d.whole frame (painted_none frame _ (left_below f t frame.target frame.greys.now s (rw (d.same_target, n) (sym e ∙ h))))

      module _ (l : TextLine) (next : TextLines) (g : LineGiven s l next) where
        pub paint_step : (after : Frame) → Painted frame (line_layer f (line_text self.layout l) (placed_line self.layout l)) after → LinesPainted next after
        unfolding lines_layer line_layer
        paint_step after p = record {
          whole = λ last r. d.whole last (rw (g.first, d.same_layout) (painted_then frame _ _ after last p r));
          same_layout = ap (λ (b : Bor TextLayout). b.now) g.same_layout ∙ d.same_layout;
          same_target = p.same_target ∙ d.same_target;
        }

        -- the next line stands lower by the line height
        module _ (height : ℕ) (e : height ≡ line_height f.mono t.text_style.line_height) where
          pub next_is : next.y ≡ l.position.y + height
          next_is = rw (e, g.same_y) (rw d.same_layout at g.next_y)

          pub next_fits : Fits w32 (l.position.y + height)
          next_fits = let y = l.limits.near_y in rw e (omega (arith, height_small f.mono self.layout.metrics.limits t.text_style.line_height self.layout.limits.height_small))

  -- what is replied at a line: `p` is the next position of the one before it, and `n` characters of those before it are counted
  pub record LinesCounted (s : TextLines) (p : Point) (n : ℕ) : Type 0 where
    pub position : last_next f.mono t p (lines_left s) ≡ next f.mono t
    pub counted : n + lines_replaced f.mapping (lines_left s) ≡ replaced f t

  pub count_start : (s : TextLines) → lines_left s ≡ placed_lines f.mono t → LinesCounted s self.layout.position 0
  unfolding next replaced
  count_start s e = record { position = rw e; counted = rw e (omega arith) }

  module _ (s : TextLines) (p : Point) (n : ℕ) (d : LinesCounted s p n) where
    pub next_end : lines_left s ≡ [] → p ≡ next f.mono t
    unfolding last_next
    next_end e = rw e at d.position

    pub count_end : lines_left s ≡ [] → n ≡ replaced f t
    unfolding lines_replaced
    count_end e = let h = rw e at d.counted in omega arith

    module _ (l : TextLine) (later : TextLines) (g : LineGiven s l later) (same : s.layout.now ≡ self.layout)
        (told : Option ℕ) (et : told ≡ cond true (Some (line_replaced self.mapping.bytes.now (placed_line self.layout l))) None) (k : ℕ) (ek : k ≡ unwrap_or told 0) where
      counts : n + k + lines_replaced f.mapping (lines_left later) ≡ replaced f t
      unfolding lines_replaced
      counts = let h = rw (g.first, same) at d.counted in let e : k ≡ line_replaced self.mapping.bytes.now (placed_line self.layout l) = ek ∙ rw et in omega arith

      pub count_fits : Fits w32 (n + k)
      count_fits = let h = counts in let few = replaced_few f t in let short = self.layout.limits.text_short in omega arith

      pub count_step : (x : ℕ) → x ≡ (line_next f.mono (line_text self.layout l) (placed_line self.layout l)).x → LinesCounted later (record { x = x; y = l.position.y }) (n + k)
      unfolding line_next last_next place_line
      count_step x e = record { position = rw e (rw (g.first, same) at d.position); counted = counts }
