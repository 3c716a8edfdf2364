-- The font as the lines of a file write it, one by one, is the font's atlas and its mapping. Assumes nothing.
use Prim.Native.Nat.{ℕ, ◌+◌, ◌-◌, ◌*◌, ◌≤◌}
use native.Mathlib.Omega.{arith}
use mathlib.Core.Path.{◌≡◌, sym, ap, ◌∙◌}
use mathlib.Core.List.{List, [], ◌∷◌, ◌++◌, append_assoc, append-nil}
use lib.ListN.{length, take, drop, replicate, length-append, length-replicate, length-drop, take-append-drop, drop_of_length-le}
use lib.Seq.{length-take-le, take-append-add, drop-append-add, take_at, drop_at, drop-drop}
use borrow.Rule.Slice.PartMut.{put_mid, same_len_mid}
use Rattle.std.specs.Prelude.{Result}
use Rattle.refusals.specs.declared.Refusal.{Refusal}
use Rattle.bdf.specs.declared.reader.Reader.{Reader}
use Rattle.bdf.specs.declared.reader.Answer.{Answer}
use Rattle.bdf.specs.Reader.{spelling, start, step, after, last_reader, file_lines}
use Rattle.bdf.specs.Font.{Rest, BdfFont, gather, rest_of, font_of, glyph_count, stride, atlas_size, atlas_of, encodings, spellings, mapping_of, record_of, font_bytes}
use Rattle.bdf.specs.Writing.{put_row, put_rows, put_glyphs, put, put_lines}
use Rattle.bdf.specs.Within.{Within}
use Rattle.bdf.proofs.Turns.{Turn, refused, passed, celled, encoded, boxed, drawn, turn}
use Rattle.bdf.proofs.Invariant.{within-start, within_step}
use Rattle.bdf.proofs.Gathered.{Gathered, gathered, glyphs-counted, mapping_counted}
use Rattle.bdf.proofs.Rows.{line_row, length-put_row, row_append, BitmapLine, line_room}
use Rattle.bdf.proofs.Atlas.{length_atlas, atlas_written}

-- ---- parts put into lists

-- into the second of two lists
put_second : (xs ys zs : List ℕ) (n m k : ℕ) → length xs ≡ n → put_mid (n + m) k (xs ++ ys) zs ≡ xs ++ put_mid m k ys zs
put_second xs ys zs n m k e = rw (← e, take-append-add xs ys m, drop-append-add xs ys m, append_assoc)

-- two parts, the second after the first
put-put : (m : ℕ) (xs ys zs : List ℕ) → m ≤ length zs → put_mid (m + length xs) (length ys) (put_mid m (length xs) zs xs) ys ≡ put_mid m (length (xs ++ ys)) zs (xs ++ ys)
put-put m xs ys zs h =
    let front : List ℕ = take m zs ++ xs in
    let back : List ℕ = drop (length xs) (drop m zs) in
    let e : length front ≡ m + length xs = length-append (take m zs) xs ∙ ap (λ (n : ℕ). n + length xs) (length-take-le m zs h) in
    rw (← append_assoc (take m zs) xs back, take_at front back (m + length xs) e, drop_at front back (m + length xs) e, drop-drop (length ys) (length xs) (drop m zs), length-append xs ys)
    (simp append_assoc)

-- nothing
put_nothing : (m : ℕ) (zs : List ℕ) → put_mid m 0 zs [] ≡ zs
put_nothing m zs = take-append-drop m zs

-- everything
put_whole : (xs zs : List ℕ) → length zs ≡ length xs → put_mid 0 (length xs) zs xs ≡ xs
put_whole xs zs e = rw (drop_of_length-le zs {i = length xs} (omega arith), append-nil xs)

-- it stays as long
length-put : (m : ℕ) (xs zs : List ℕ) → m + length xs ≤ length zs → length (put_mid m (length xs) zs xs) ≡ length zs
length-put m xs zs h = same_len_mid m (length xs) zs xs (sym (length-take-le (length xs) (drop m zs) (rw length-drop (omega arith))))

-- ---- line by line

-- what the lines after a reader make of an atlas and a mapping after it
abbrev Writes : Reader → Reader → Rest → (List ℕ → List ℕ) → Type 0
Writes r last rest f =
    (atlas mapping : List ℕ) → length atlas ≡ atlas_size last.cell last.glyphs → length mapping ≡ last.mapping
    → f (atlas ++ mapping)
    ≡ put_glyphs last.cell r.glyphs rest.glyphs (put_rows last.cell (r.glyphs - 1) rest.bbx r.read rest.rows atlas)
    ++ put_mid r.mapping (length (spellings (encodings rest.glyphs))) mapping (spellings (encodings rest.glyphs))

-- over a line
writes_turn : (r : Reader) (a : Result Answer Refusal) (last : Reader) (rest : Rest) (f : List ℕ → List ℕ) → Turn r a → Within r → Gathered (after r a) last rest
    → (after r a).glyphs ≤ last.glyphs → (after r a).mapping ≤ last.mapping → Writes (after r a) last rest f
    → Writes r last (gather r a rest) (λ out. f (put (atlas_size last.cell last.glyphs) r a out))
unfolding gather put put_rows put_glyphs encodings spellings
writes_turn r a last rest f (refused n) w g p q h = h
writes_turn r a last rest f (passed e n i) w g p q h = h
writes_turn r a last rest f (celled x y z u o e) w g p q h = h
writes_turn r a last rest f (encoded v o c l) w g p q h = λ atlas mapping s t.
    let k : r.glyphs + 1 - 1 ≡ r.glyphs = omega arith in
    rw (put_second atlas mapping (spelling v) _ r.mapping (length (spelling v)) s)
    (h atlas _ s (length-put r.mapping (spelling v) mapping (omega arith) ∙ t) ∙ rw (k, put-put r.mapping (spelling v) (spellings (encodings rest.glyphs)) mapping (omega arith)))
writes_turn r a last rest f (boxed x y z u o e) w g p q h = λ atlas mapping s t. rw (g.bbx (omega arith) (omega arith)) at (h atlas mapping s t)
writes_turn r a last rest f (drawn bits o l b) w g p q h = λ atlas mapping s t.
    let k : ℕ = r.glyphs - 1 in
    let e : last.cell ≡ r.cell = g.cell (omega arith) in
    let d : rest.bbx ≡ r.bbx = g.bbx (omega arith) (omega arith) in
    let line : BitmapLine r.cell r.bbx r.read bits = record { in_cell = w.in_cell; below = l; small = b } in
    let room : line_row r.cell k r.bbx r.read * stride r.cell + stride r.cell ≤ length atlas =
    rw (s, e) (line_room r.cell r.bbx k r.read bits last.glyphs line (omega (arith, w.begun (omega arith) (omega arith)))) in
    rw (row_append r.cell k r.bbx r.read bits atlas room mapping)
    (h (put_row r.cell k r.bbx r.read bits atlas) mapping (length-put_row r.cell k r.bbx r.read bits atlas room ∙ s) t ∙ rw (e, d))

-- over all lines
lines_write : (r : Reader) (ls : List (List ℕ)) → Within r → Writes r (last_reader r ls) (rest_of r ls) (put_lines (atlas_size (last_reader r ls).cell (last_reader r ls).glyphs) r ls)
unfolding last_reader rest_of put_lines put_rows put_glyphs encodings spellings
lines_write r [] w = λ atlas mapping s t. ap (λ (l : List ℕ). atlas ++ l) (sym (put_nothing r.mapping mapping))
lines_write r (l ∷ ls) w =
    let s : Reader = after r (step r l) in
    let v : Within s = within_step r l w in
    let last : Reader = last_reader s ls in
    writes_turn r (step r l) last (rest_of s ls) (put_lines (atlas_size last.cell last.glyphs) s ls) (turn r l) w (gathered s ls v)
    (omega (arith, glyphs-counted s ls)) (omega (arith, mapping_counted s ls)) (lines_write s ls v)

module _ (r : Reader) (ls : List (List ℕ)) where
  -- the last reader, what the lines give, and the spellings of their encodings
  abbrev last : Reader
  last = last_reader r ls

  abbrev rest : Rest
  rest = rest_of r ls

  abbrev text : List ℕ
  text = spellings (encodings rest.glyphs)

  -- lines put the bitmap lines to come of the present glyph, then the glyphs after it, into the atlas, and their spellings into the mapping
  pub lines-written : Within r → (atlas mapping : List ℕ) → length atlas ≡ atlas_size last.cell last.glyphs → length mapping ≡ last.mapping
      → put_lines (length atlas) r ls (atlas ++ mapping)
      ≡ put_glyphs last.cell r.glyphs rest.glyphs (put_rows last.cell (r.glyphs - 1) rest.bbx r.read rest.rows atlas)
      ++ put_mid r.mapping (length text) mapping text
  lines-written w atlas mapping s t = rw s (lines_write r ls w atlas mapping s t)

-- ---- a whole file

module _ (file : List ℕ) where
  -- the last reader, and the bytes of the atlas
  abbrev end : Reader
  end = last_reader start (file_lines file)

  abbrev size : ℕ
  size = atlas_size end.cell end.glyphs

  -- the font has as many glyphs as were counted
  count-right : end.glyphs ≡ glyph_count (font_of file).glyphs
  unfolding font_of
  count-right = omega (arith, glyphs-counted start (file_lines file))

  -- and as many bytes of mapping
  pub length_mapping : length (mapping_of (font_of file)) ≡ end.mapping
  unfolding font_of
  length_mapping = omega (arith, mapping_counted start (file_lines file))

  -- its atlas has as many bytes as so many glyphs take
  pub atlas_length_lem : length (atlas_of (font_of file)) ≡ size
  unfolding font_of
  atlas_length_lem = length_atlas (font_of file) ∙ rw (← count-right)

  -- its lines write the font's atlas, where there were zeros, and its mapping
  pub font-written : (mapping : List ℕ) → length mapping ≡ end.mapping → put_lines size start (file_lines file) (replicate size 0 ++ mapping) ≡ atlas_of (font_of file) ++ mapping_of (font_of file)
  unfolding font_of put_rows
  font-written mapping e =
      let g = gathered start (file_lines file) within-start in
      let f : BdfFont = font_of file in
      let empty : put_rows end.cell (0 - 1) (rest_of start (file_lines file)).bbx 0 (rest_of start (file_lines file)).rows (replicate size 0)
      ≡ replicate (atlas_size f.cell (glyph_count f.glyphs)) 0 =
      rw (g.rows (omega arith), count-right) in
      lines_write start (file_lines file) within-start (replicate size 0) mapping (length-replicate size 0) e
      ∙ rw (empty, atlas_written f g.glyphs, put_whole (mapping_of f) mapping (e ∙ sym length_mapping))

  -- with the record it has so many bytes
  pub font-length : length (font_bytes (font_of file)) ≡ 28 + size + end.mapping
  unfolding font_bytes record_of
  font-length = omega (arith, length-append (atlas_of (font_of file)) (mapping_of (font_of file)), atlas_length_lem, length_mapping)

  -- its record is that of the last reader
  pub record_right : record_of end.cell size end.mapping ++ (atlas_of (font_of file) ++ mapping_of (font_of file)) ≡ font_bytes (font_of file)
  unfolding font_bytes font_of
  record_right = rw (← atlas_length_lem, ← length_mapping)
