-- What a line says lies in the atlas and the mapping that the last line has measured. Assumes nothing.
use Prim.Native.Nat.{ℕ, ◌+◌, ◌-◌, ◌*◌, ◌/◌, ◌%◌, ◌^◌, ◌≤◌, ◌<◌}
use native.Mathlib.Nat.{mul-le-mul_right, add_assoc}
use native.Mathlib.Omega.{arith}
use mathlib.Core.Path.{◌≡◌, refl, sym, ap, ◌∙◌}
use mathlib.Core.Bool.{Bool, true, false, not, ◌&&◌, and-eq-true_iff, true≢false}
use borrow.Rule.Slice.PartMut.{put_mid}
use Rattle.geometry.specs.Layer.{map_indexed}
use mathlib.Core.List.{List, ◌∷◌}
use lib.ListN.{length, take, drop, length-drop}
use lib.Seq.{length-take-le}
use lib.Dec.{ltb, leb, eqb}
use mir.Syntax.{w32, w64}
use mir.Val.{Fits}
use borrow.Author.Tests.{lt-ltb, eqb-true, leb-true, not-true, not-false}
use Rattle.characters.specs.Utf8.{is_surrogate}
use Rattle.std.specs.Prelude.{Result, Ok}
use Rattle.refusals.specs.declared.Refusal.{Refusal}
use Rattle.bdf.specs.declared.reader.Answer.TheVariants.{Passed, Boxed, Encoded, Drawn}
use Rattle.bdf_lines.specs.Forms.{line_at, IsRow}
use Rattle.bdf_lines.proofs.BitmapLines.{bits_small}
use Rattle.bdf.specs.declared.reader.BoundingBox.{BoundingBox}
use Rattle.bdf.specs.declared.reader.Expected.TheVariants.{Rows}
use Rattle.bdf.specs.declared.reader.Answer.{Answer}
use Rattle.bdf.specs.declared.reader.Reader.{Reader}
use Rattle.bdf.specs.declared.file.Strip.{Strip}
use Rattle.bdf.specs.declared.reader.Expected.{Expected}
use Rattle.bdf.specs.Reader.{file_lines, spelling, order, in_bitmap, step, after, last_reader, with_encoding, with_row}
use Rattle.bdf.specs.Font.{ink_left, ink_top, stride, atlas_size}
use Rattle.bdf.specs.Writing.{with_bits, BitsFit, put_row, put}
use Rattle.bdf.specs.Within.{Within}
use Rattle.bdf.specs.Walk.{put_if, Room, Carries, rows_read, strip_of, put_strip, put_strip_if, StripFits, put_spelling_if, SpellingFits, AnswerFits}
use Rattle.bdf.proofs.Steps.{spelling_short, rows_expected}
use Rattle.bdf.proofs.Invariant.{within_step}
use Rattle.bdf.proofs.Gathered.{gathered, glyphs-counted, mapping_counted}
use Rattle.bdf.proofs.Rows.{line_row, line_room}
use Rattle.bdf.proofs.Walks.{carries_none, carries_line, room_kept, row_step}
use Rattle.bdf.proofs.Turns.{Turn, refused, passed, celled, encoded, boxed, drawn, turn}

-- a strip's line is the bitmap line of its glyph
pub strip_row : (r : Reader) (i bits : ℕ) (out : List ℕ) → put_strip (strip_of r) i bits out ≡ put_row r.cell (r.glyphs - 1) r.bbx i bits out
unfolding put_strip strip_of put_row
strip_row r i bits out =
    let k = r.glyphs - 1 in
    rw (add_assoc (k / 16 * r.cell.height) (ink_top r.cell r.bbx) i, add_assoc (k % 16 * r.cell.width) (ink_left r.cell r.bbx) r.bbx.width)

-- ---- the numbers of a strip

module _ (r : Reader) (w : Within r) where
  -- its glyph's cell stands in the first 65,535
  cells-few : r.glyphs - 1 < 65_535
  cells-few = go
    where
      go : r.glyphs - 1 < 65_535
      go = omega (arith, w.counted, w.short)

  abbrev across : ℕ
  across = (r.glyphs - 1) % 16 * r.cell.width

  abbrev down : ℕ
  down = (r.glyphs - 1) / 16 * r.cell.height

  across-small : across + r.cell.width ≤ 16 * r.cell.width
  across-small =
      let m : ((r.glyphs - 1) % 16 + 1) * r.cell.width ≤ 16 * r.cell.width = mul-le-mul_right r.cell.width (omega arith) in
      omega arith

  down-small : down ≤ 262_080
  down-small =
      let m : (r.glyphs - 1) / 16 * r.cell.height ≤ 4_095 * r.cell.height = mul-le-mul_right r.cell.height (omega (arith, cells-few)) in
      omega (arith, w.good_cell.low)

  pub down_fits : Fits w32 down
  down_fits = omega (arith, down-small)

  pub across_fits : Fits w32 across
  across_fits = omega (arith, across-small, w.good_cell.narrow)

  pub top_fits : Fits w32 (down + (r.cell.y + r.cell.height - (r.bbx.y + r.bbx.height)))
  top_fits = omega (arith, down-small, w.in_cell.foot, w.good_cell.low)

  pub left_fits : Fits w32 (across + (r.bbx.x - r.cell.x))
  left_fits = omega (arith, across-small, w.good_cell.narrow, w.in_cell.left, w.in_cell.right)

  pub right-fits : Fits w32 (across + (r.bbx.x - r.cell.x) + r.bbx.width)
  right-fits = omega (arith, across-small, w.good_cell.narrow, w.in_cell.left, w.in_cell.right)

  pub top_wide : Fits w64 (down + (r.cell.y + r.cell.height - (r.bbx.y + r.bbx.height)))
  top_wide = omega (arith, top_fits)

  pub left_wide : Fits w64 (across + (r.bbx.x - r.cell.x))
  left_wide = omega (arith, left_fits)

  pub right_wide : Fits w64 (across + (r.bbx.x - r.cell.x) + r.bbx.width)
  right_wide = omega (arith, right-fits)

pub strip_is : (r : Reader) → record {
  top = (r.glyphs - 1) / 16 * r.cell.height + (r.cell.y + r.cell.height - (r.bbx.y + r.bbx.height));
  left = (r.glyphs - 1) % 16 * r.cell.width + (r.bbx.x - r.cell.x);
  right = (r.glyphs - 1) % 16 * r.cell.width + (r.bbx.x - r.cell.x) + r.bbx.width;
  stride = 2 * r.cell.width;
} ≡ strip_of r
unfolding strip_of ink_left ink_top
strip_is r = refl

-- ---- what fits

module _ (writing : Bool) (r last : Reader) (size n : ℕ) (w : Within r) (m : Room writing last size n) (o : order r.expected ≡ order Rows) (c : last.cell ≡ r.cell) (g : r.glyphs ≤ last.glyphs) where
  pub strip_fits : (i bits : ℕ) → i < r.bbx.height → bits < 2 ^ r.bbx.width → StripFits writing (strip_of r) i bits n
  unfolding strip_of ink_left ink_top
  strip_fits i bits h b =
      let left = across r w + (r.bbx.x - r.cell.x) in
      let s : left + r.bbx.width - left ≡ r.bbx.width = omega arith in
      record {
        ordered = omega arith;
        narrow = omega (arith, w.in_cell.left, w.in_cell.right, w.good_cell.narrow);
        within = omega (arith, across-small r w, w.in_cell.left, w.in_cell.right);
        short = omega (arith, w.good_cell.narrow);
        rows = omega (arith, down-small r w, w.in_cell.foot, w.in_cell.head, w.good_cell.low, h);
        small = λ t. rw s b;
        room = λ t.
            let k : r.glyphs - 1 < last.glyphs = omega (arith, w.begun (omega arith) (omega arith)) in
            let z = line_room r.cell r.bbx (r.glyphs - 1) i bits last.glyphs (record { in_cell = w.in_cell; below = h; small = b }) k in
            room_of t i z;
      }
    where
      room_of : writing ≡ true → (i : ℕ) → line_row r.cell (r.glyphs - 1) r.bbx i * stride r.cell + stride r.cell ≤ atlas_size r.cell last.glyphs
          → (down r w + ink_top r.cell r.bbx + i) * stride r.cell + stride r.cell ≤ n
      room_of t i z =
          let e : size ≡ atlas_size r.cell last.glyphs = m.atlas t ∙ ap (λ (b : BoundingBox). atlas_size b last.glyphs) c in
          rw (add_assoc (down r w) (ink_top r.cell r.bbx) i) (omega (arith, z, m.whole t, e))

-- what the answer to a line says fits
module _ (writing : Bool) (r : Reader) (ls : List (List ℕ)) (size n : ℕ) (w : Within r) where
  fits-turn : (a : Result Answer Refusal) → Turn r a → Within (after r a) → Room writing (last_reader (after r a) ls) size n → AnswerFits writing size r a n
  unfolding AnswerFits
  fits-turn a (refused k) i m = tt
  fits-turn a (passed e k f) i m = tt
  fits-turn a (celled x h y z o e) i m = tt
  fits-turn a (boxed x h y z o e) i m = tt
  fits-turn a (encoded v o t s) i m =
      let c = (and-eq-true_iff (leb r.least v) (leb v 0x10FFFF && not (is_surrogate v))).0 t in
      record {
        character = leb-true v 0x10FFFF ((and-eq-true_iff (leb v 0x10FFFF) (not (is_surrogate v))).0 c.1).0;
        ends = omega arith;
        room = λ x. omega (arith, m.whole x, mapping_counted (with_encoding v r) ls);
      }
  fits-turn a (drawn bits o h b) i m =
      let g = gathered (after r (Ok (Drawn (with_row r) bits))) ls i in (
        w.begun (omega arith) (omega arith),
        strip_fits writing r (last_reader (with_row r) ls) size n w m o (g.cell (omega arith)) (omega (arith, glyphs-counted (with_row r) ls)) r.read bits h b,
      )

  pub answer_fits : (l : List ℕ) (a : Result Answer Refusal) → a ≡ step r l → Room writing (last_reader r (l ∷ ls)) size n → AnswerFits writing size r a n
  unfolding last_reader
  answer_fits l a e m = rw e (fits-turn (step r l) (turn r l) (within_step r l w) m)

-- ---- putting what an answer says

module _ (writing : Bool) (size : ℕ) (r s : Reader) (a : Answer) (n : ℕ) (f : AnswerFits writing size r (Ok a) n) where
  pub encoded_fits : (v : ℕ) → a ≡ Encoded s v → SpellingFits writing (size + r.mapping) (size + s.mapping) v n
  unfolding AnswerFits
  encoded_fits v e = rw e at f

  pub drawn_fits : (bits : ℕ) (x : Strip) → a ≡ Drawn s bits → x ≡ strip_of r → StripFits writing x r.read bits n
  unfolding AnswerFits
  drawn_fits bits x e q = rw q (rw e at f).1

  pub from_fits : Within r → size ≤ 100_000_000 → Fits w64 (size + r.mapping)
  from_fits w h = omega (arith, w.short)

  pub to_fits : (v : ℕ) → a ≡ Encoded s v → Within r → size ≤ 100_000_000 → Fits w64 (size + s.mapping)
  to_fits v e w h = omega (arith, w.short, (encoded_fits v e).ends, spelling_short v)

  pub drawn_glyph : (bits : ℕ) → a ≡ Drawn s bits → 1 ≤ r.glyphs
  unfolding AnswerFits
  drawn_glyph bits e = (rw e at f).0

module _ (size : ℕ) (r s : Reader) (a : Answer) (out exit : List ℕ) where
  pub put_passed : (w : Bool) → a ≡ Passed s → out ≡ put_if w size r (Ok a) out
  unfolding put
  put_passed true e = rw e
  put_passed false e = refl

  pub put_boxed : (w : Bool) → a ≡ Boxed s → out ≡ put_if w size r (Ok a) out
  unfolding put
  put_boxed true e = rw e
  put_boxed false e = refl

  pub put_encoded : (w : Bool) (v : ℕ) → a ≡ Encoded s v → exit ≡ put_spelling_if w (size + r.mapping) v out → exit ≡ put_if w size r (Ok a) out
  unfolding put
  put_encoded true v e q = rw e q
  put_encoded false v e q = q

  pub put_drawn : (w : Bool) (bits : ℕ) (x : Strip) → a ≡ Drawn s bits → x ≡ strip_of r → exit ≡ put_strip_if w x r.read bits out → exit ≡ put_if w size r (Ok a) out
  unfolding put
  put_drawn true bits x e f q = rw e (q ∙ rw f (strip_row r r.read bits out))
  put_drawn false bits x e f q = q

-- ---- a strip's line, and a spelling

strip_is_put : (x : Strip) (i bits : ℕ) (out part : List ℕ)
    → part ≡ map_indexed (with_bits bits x.right) 0 (take ((x.top + i) * x.stride + x.stride - (x.top + i) * x.stride) (drop ((x.top + i) * x.stride) out))
    → put_mid ((x.top + i) * x.stride) ((x.top + i) * x.stride + x.stride - (x.top + i) * x.stride) out part ≡ put_strip x i bits out
unfolding put_strip
strip_is_put x i bits out part q = let e : (x.top + i) * x.stride + x.stride - (x.top + i) * x.stride ≡ x.stride = omega arith in rw (q, e)

length_mid : (at n : ℕ) (out : List ℕ) → at + n ≤ length out → length (take (at + n - at) (drop at out)) ≡ n
length_mid at n out h = let e : at + n - at ≡ n = omega arith in rw e (length-take-le n (drop at out) (rw length-drop (omega arith)))

module _ (w : Bool) (x : Strip) (i bits n : ℕ) (f : StripFits w x i bits n) where
  pub strip_at_fits : Fits w64 ((x.top + i) * x.stride)
  strip_at_fits =
      let m : (x.top + i) * x.stride ≤ 4_194_304 * x.stride = mul-le-mul_right x.stride (omega (arith, f.rows)) in
      omega (arith, f.short)

  pub strip_to_fits : Fits w64 ((x.top + i) * x.stride + x.stride)
  strip_to_fits =
      let m : (x.top + i) * x.stride ≤ 4_194_304 * x.stride = mul-le-mul_right x.stride (omega (arith, f.rows)) in
      omega (arith, f.short)

  pub strip_room : not w ≡ false → (x.top + i) * x.stride + x.stride ≤ n
  strip_room o = f.room (not-false w o)

module _ (w : Bool) (x : Strip) (i bits : ℕ) (out : List ℕ) where
  abbrev at : ℕ
  at = (x.top + i) * x.stride

  pub strip_bits : StripFits w x i bits (length out) → not w ≡ false → BitsFit x.left x.right bits (length (take (at + x.stride - at) (drop at out)))
  strip_bits f o =
      let e : length (take (at + x.stride - at) (drop at out)) ≡ x.stride = length_mid at x.stride out (f.room (not-false w o)) in
      rw e (record { ordered = f.ordered; narrow = f.narrow; within = f.within; small = f.small (not-false w o); short = f.short })

  pub strip_not : not w ≡ true → out ≡ put_strip_if w x i bits out
  strip_not o = go w (not-true w o)
    where
      go : (v : Bool) → v ≡ false → out ≡ put_strip_if v x i bits out
      go true e = absurd (true≢false e)
      go false e = refl

  pub strip_put : not w ≡ false → (part : List ℕ) → part ≡ map_indexed (with_bits bits x.right) 0 (take (at + x.stride - at) (drop at out))
      → put_mid at (at + x.stride - at) out part ≡ put_strip_if w x i bits out
  strip_put o part q = go w (not-false w o)
    where
      go : (v : Bool) → v ≡ true → put_mid at (at + x.stride - at) out part ≡ put_strip_if v x i bits out
      go true e = strip_is_put x i bits out part q
      go false e = absurd (true≢false (sym e))

module _ (w : Bool) (from to v : ℕ) (out : List ℕ) where
  pub spelling_not : not w ≡ true → out ≡ put_spelling_if w from v out
  spelling_not o = go w (not-true w o)
    where
      go : (t : Bool) → t ≡ false → out ≡ put_spelling_if t from v out
      go true e = absurd (true≢false e)
      go false e = refl

  module _ (f : SpellingFits w from to v (length out)) (o : not w ≡ false) where
    pub spelling_room : to ≤ length out
    spelling_room = f.room (not-false w o)

    pub spelling-put : (part : List ℕ) → part ≡ spelling v → put_mid from (to - from) out part ≡ put_spelling_if w from v out
    spelling-put part q = go w (not-false w o)
      where
        size : to - from ≡ length (spelling v)
        size = omega (arith, f.ends)

        go : (t : Bool) → t ≡ true → put_mid from (to - from) out part ≡ put_spelling_if t from v out
        go true e = rw (size, q)
        go false e = absurd (true≢false (sym e))

-- ---- bitmap lines one after another

module _ (file : List ℕ) (w : Bool) (size : ℕ) (r : Reader) (out : List ℕ) where
  module _ (b : in_bitmap r ≡ true) where
    expected-rows : r.expected ≡ Rows
    unfolding in_bitmap
    expected-rows = rows_expected r.expected (eqb-true _ _ ((and-eq-true_iff (eqb (order r.expected) 14) (ltb r.read r.bbx.height)).0 b).0)

    pub bitmap-glyph : Within r → 1 ≤ r.glyphs
    bitmap-glyph i = let e = ap order expected-rows in i.begun (omega arith) (omega arith)

    -- before the first
    pub rows_same : r ≡ rows_read r.read r
    rows_same = ap (λ (x : Expected). record { expected = x; left = r.left; cell = r.cell; bbx = r.bbx; glyphs = r.glyphs; mapping = r.mapping; least = r.least; read = r.read }) expected-rows

  pub rows_start : Within r → Carries file w size r out r file out
  rows_start i = carries_none file w size r out i

  module _ (i : ℕ) (rest mid : List ℕ) (p : Reader) (same : p ≡ rows_read i r) (c : Carries file w size r out p rest mid) (less : i < r.bbx.height) (bits : ℕ) (behind : List ℕ)
      (f : IsRow rest r.bbx.width bits behind) where
    abbrev here : Reader
    here = rows_read i r

    carried : Carries file w size r out here rest mid
    carried = rw same at c

    pub row_strip_fits : Room w (last_reader r (file_lines file)) size (length out) → (s : Strip) → s ≡ strip_of r → StripFits w s i bits (length mid)
    unfolding strip_of
    row_strip_fits m s q =
        let g = gathered here (file_lines rest) carried.within in
        let k = glyphs-counted here (file_lines rest) in
        rw q (strip_fits w here (last_reader here (file_lines rest)) size (length mid) carried.within (room_kept file w size r out here rest mid carried m) refl (g.cell (omega arith)) (omega arith)
        i bits less (bits_small r.bbx.width bits (line_at rest 0) f.bitmap))

    -- over one
    abbrev next : Reader
    next = record { expected = p.expected; left = p.left; cell = p.cell; bbx = p.bbx; glyphs = p.glyphs; mapping = p.mapping; least = p.least; read = i + 1 }

    pub rows_next : next ≡ rows_read (i + 1) r
    rows_next = rw same

    pub rows_step : (s : Strip) (exit : List ℕ) → s ≡ strip_of r → exit ≡ put_strip_if w s i bits mid → length exit ≡ length mid → Carries file w size r out next behind exit
    unfolding in_bitmap strip_of
    rows_step s exit q t m =
        let b : in_bitmap here ≡ true = lt-ltb i r.bbx.height less in
        let d : Ok (Drawn (with_row here) bits) ≡ step here (line_at rest 0) = row_step here (line_at rest 0) bits b f.bitmap in
        rw rows_next (carries_line file w size r out here rest mid carried (Ok (Drawn (with_row here) bits)) d behind f.line refl (with_row here) exit refl
        (put_drawn size here (with_row here) (Drawn (with_row here) bits) mid exit w bits s refl q t) m)
