-- What the lines of a font file give together: how many glyphs and bytes of mapping, encodings that rise, and bitmaps that lie in their cell. Assumes nothing.
use Prim.Native.Nat.{ℕ, zero, suc, ◌+◌, ◌≤◌, ◌<◌}
use native.Mathlib.Nat.{add-zero}
use native.Mathlib.Omega.{arith}
use native.Mathlib.Decide.{dec_lt}
use mathlib.Core.Path.{◌≡◌, refl, sym}
use mathlib.Core.Bool.{true, not, ◌&&◌}
use mathlib.Core.List.{List, [], ◌∷◌}
use lib.ListN.{length, get_or, length-append}
use lib.Dec.{leb}
use lib.Pow.{pow_pos}
use Rattle.characters.specs.Utf8.{is_surrogate}
use Rattle.std.specs.Prelude.{Result}
use Rattle.refusals.specs.declared.Refusal.{Refusal}
use Rattle.bdf.specs.declared.reader.BoundingBox.{BoundingBox}
use Rattle.bdf.specs.declared.reader.Expected.{Expected}
use Rattle.bdf.specs.declared.reader.Expected.TheVariants.{Properties, Swidth, Bbx, Rows}
use Rattle.bdf.specs.declared.reader.Reader.{Reader}
use Rattle.bdf.specs.declared.reader.Answer.{Answer}
use Rattle.bdf.specs.Reader.{spelling, leaving, order, step, after, last_reader}
use Rattle.bdf.specs.Font.{Glyph, Rest, gather, rest_of, glyph_count, encodings, spellings}
use Rattle.bdf.specs.Writing.{GoodCell, GoodGlyphs}
use Rattle.bdf.specs.Within.{Within}
use Rattle.bdf.specs.Rising.{are_rising}
use Rattle.bdf.proofs.Turns.{Follows, Turn, refused, passed, celled, encoded, boxed, drawn, turn}
use Rattle.bdf.proofs.Invariant.{read_few, within_step, within_last}
use Rattle.bdf.proofs.Rows.{BitmapLines}

-- ---- what an encoding changes

-- only an encoding changes the counts and the glyphs: what holds where no glyph is to come, and of a glyph before others of which it holds, holds of all glyphs to come
module _ (P : ℕ → ℕ → ℕ → Reader → List Glyph → Type 0) (none : (r : Reader) → P r.glyphs r.mapping r.least r [])
    (glyph : (n m least v : ℕ) (b : BoundingBox) (rows : List ℕ) (last : Reader) (gs : List Glyph) → (leb least v && (leb v 0x10FFFF && not (is_surrogate v))) ≡ true
    → P (n + 1) (m + length (spelling v)) (v + 1) last gs → P n m least last (record { encoding = v; bbx = b; rows = rows } ∷ gs)) where
  -- of a reader, the last reader, and what the lines between them give
  abbrev Holds : Reader → Reader → Rest → Type 0
  Holds r last rest = P r.glyphs r.mapping r.least last rest.glyphs

  -- over a line
  back-over : (r : Reader) (a : Result Answer Refusal) (last : Reader) (rest : Rest) → Turn r a → Holds (after r a) last rest → Holds r last (gather r a rest)
  unfolding gather
  back-over r a last rest (refused n) h = h
  back-over r a last rest (passed e n f) h = h
  back-over r a last rest (celled w d x y o e) h = h
  back-over r a last rest (encoded v o c m) h = glyph _ _ _ v rest.bbx rest.rows last rest.glyphs c h
  back-over r a last rest (boxed w d x y o e) h = h
  back-over r a last rest (drawn bits o l s) h = h

  -- over all lines
  by-glyphs : (r : Reader) (ls : List (List ℕ)) → Holds r (last_reader r ls) (rest_of r ls)
  unfolding last_reader rest_of
  by-glyphs r [] = none r
  by-glyphs r (l ∷ ls) = back-over r (step r l) _ _ (turn r l) (by-glyphs (after r (step r l)) ls)

-- the glyphs that are counted
pub glyphs-counted : (r : Reader) (ls : List (List ℕ)) → (last_reader r ls).glyphs ≡ r.glyphs + glyph_count (rest_of r ls).glyphs
unfolding glyph_count
glyphs-counted = by-glyphs (λ n m least last gs. last.glyphs ≡ n + glyph_count gs) (λ r. sym (add-zero r.glyphs)) (λ n m least v b rows last gs c h. omega arith)

-- and the bytes of their spellings
pub mapping_counted : (r : Reader) (ls : List (List ℕ)) → (last_reader r ls).mapping ≡ r.mapping + length (spellings (encodings (rest_of r ls).glyphs))
unfolding encodings spellings
mapping_counted =
    by-glyphs (λ n m least last gs. last.mapping ≡ m + length (spellings (encodings gs))) (λ r. sym (add-zero r.mapping)) (λ n m least v b rows last gs c h. rw length-append (omega arith))

-- the encodings are characters that rise from the least that may come
pub rising : (r : Reader) (ls : List (List ℕ)) → are_rising r.least (encodings (rest_of r ls).glyphs) ≡ true
unfolding encodings are_rising
rising = by-glyphs (λ n m least last gs. are_rising least (encodings gs) ≡ true) (λ r. refl) (λ n m least v b rows last gs c h. rw c h)

-- ---- boxes and bitmap lines

-- what the lines from a reader on give, by the line that is expected: after FONTBOUNDINGBOX the cell stays; the box stays where no BBX comes before the next glyph;
-- bitmap lines of the present glyph come only from ENCODING to ENDCHAR, and then they lie in its box, which lies in the cell; the glyphs lie in the cell
pub record Gathered (r last : Reader) (rest : Rest) : Type 0 where
  pub cell : order Properties ≤ order r.expected → last.cell ≡ r.cell
  pub bbx : order Properties ≤ order r.expected → (order Swidth ≤ order r.expected → order r.expected ≤ order Bbx → ⊥) → rest.bbx ≡ r.bbx
  pub rows : (order Swidth ≤ order r.expected → order r.expected ≤ order Rows → ⊥) → rest.rows ≡ []
  pub lines : order Swidth ≤ order r.expected → order r.expected ≤ order Rows → BitmapLines last.cell rest.bbx r.read rest.rows
  pub glyphs : GoodGlyphs last.cell rest.glyphs

-- no bitmap lines to come
no_lines : (r : Reader) (cell b : BoundingBox) → Within r → cell ≡ r.cell → b ≡ r.bbx → order Swidth ≤ order r.expected → order r.expected ≤ order Rows → BitmapLines cell b r.read []
no_lines r cell b w e f p q = rw (e, f) (record { in_cell = w.in_cell; small = λ m. pow_pos r.bbx.width; few = omega (arith, read_few r w p q) })

-- where a line passed, the bitmap lines that the next lines give
passed_lines : (r last : Reader) (rest : Rest) (e : Expected) (n : ℕ) → Follows (order r.expected) (order e) → Within r → Gathered (leaving e n r) last rest
    → order Swidth ≤ order r.expected → order r.expected ≤ order Rows → BitmapLines last.cell rest.bbx r.read rest.rows
passed_lines r last rest e n f w g p q = go (dec_lt (order e) 9) (dec_lt 14 (order e))
  where
    apart : (9 ≤ order e → order e ≤ 14 → ⊥) → BitmapLines last.cell rest.bbx r.read rest.rows
    apart k =
        let a : 4 ≤ order e = f.above (omega arith) in
        rw (g.rows k) (no_lines r last.cell rest.bbx w (g.cell a) (g.bbx a (λ s t. k s (omega arith))) p q)

    go : Dec (order e < 9) → Dec (14 < order e) → BitmapLines last.cell rest.bbx r.read rest.rows
    go (yes u) d = apart (omega arith)
    go (no u) (yes v) = apart (omega arith)
    go (no u) (no v) = g.lines (omega arith) (omega arith)

-- numbers that are small, and one before them
small_more : (k bits : ℕ) (rows : List ℕ) → bits < k → ((m : ℕ) → get_or rows m 0 < k) → (m : ℕ) → get_or (bits ∷ rows) m 0 < k
small_more k bits rows h s zero = h
small_more k bits rows h s (suc m) = s m

-- over a line
gathered_turn : (r : Reader) (a : Result Answer Refusal) (last : Reader) (rest : Rest) → Turn r a → Within r → Gathered (after r a) last rest → Gathered r last (gather r a rest)
unfolding gather GoodGlyphs
gathered_turn r a last rest (refused n) w g = g
gathered_turn r a last rest (passed e n f) w g = record {
  cell = λ p. g.cell (f.above p);
  bbx = λ p q. g.bbx (f.above p) (λ s t. let i = f.inside s (omega arith) in q i.0 (omega arith));
  rows = λ q. g.rows (λ s t. let i = f.inside s t in q i.0 (omega arith));
  lines = passed_lines r last rest e n f w g;
  glyphs = g.glyphs;
}
gathered_turn r a last rest (celled w h x y o e) i g = record {
  cell = λ p. absurd (omega arith);
  bbx = λ p q. absurd (omega arith);
  rows = λ q. g.rows (omega arith);
  lines = λ p q. absurd (omega arith);
  glyphs = g.glyphs;
}
gathered_turn r a last rest (encoded v o c m) w g = record {
  cell = λ p. g.cell (omega arith);
  bbx = λ p q. refl;
  rows = λ q. refl;
  lines = λ p q. absurd (omega arith);
  glyphs = (let b = g.lines (omega arith) (omega arith) in record { in_cell = b.in_cell; small = b.small; few = omega (arith, b.few) }, g.glyphs);
}
gathered_turn r a last rest (boxed w h x y o e) i g = record {
  cell = λ p. g.cell (omega arith);
  bbx = λ p q. absurd (q (omega arith) (omega arith));
  rows = λ q. absurd (q (omega arith) (omega arith));
  lines = λ p q. rw (g.bbx (omega arith) (omega arith)) at (g.lines (omega arith) (omega arith));
  glyphs = g.glyphs;
}
gathered_turn r a last rest (drawn bits o h s) w g = record {
  cell = λ p. g.cell (omega arith);
  bbx = λ p q. g.bbx (omega arith) (omega arith);
  rows = λ q. absurd (q (omega arith) (omega arith));
  lines = λ p q.
      let b = g.lines (omega arith) (omega arith) in
      let e : rest.bbx ≡ r.bbx = g.bbx (omega arith) (omega arith) in
      record { in_cell = b.in_cell; small = small_more _ bits rest.rows (rw e s) b.small; few = omega (arith, b.few) };
  glyphs = g.glyphs;
}

-- over all lines
pub gathered : (r : Reader) (ls : List (List ℕ)) → Within r → Gathered r (last_reader r ls) (rest_of r ls)
unfolding last_reader rest_of GoodGlyphs
gathered r [] w = record {
  cell = λ p. refl;
  bbx = λ p q. refl;
  rows = λ q. refl;
  lines = no_lines r r.cell r.bbx w refl refl;
  glyphs = tt;
}
gathered r (l ∷ ls) w = gathered_turn r (step r l) _ _ (turn r l) w (gathered (after r (step r l)) ls (within_step r l w))

-- all glyphs lie in the cell
pub good_glyphs : (r : Reader) (ls : List (List ℕ)) → Within r → GoodGlyphs (last_reader r ls).cell (rest_of r ls).glyphs
good_glyphs r ls w = (gathered r ls w).glyphs

-- which is within the limits
pub good_cell : (r : Reader) (ls : List (List ℕ)) → Within r → GoodCell (last_reader r ls).cell
good_cell r ls w = (within_last r ls w).good_cell
