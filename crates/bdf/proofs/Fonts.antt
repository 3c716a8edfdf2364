-- A font file read whole: its refusal, or its font at the head of the output. Assumes nothing.
use Prim.Native.Nat.{ℕ, zero, suc, ◌+◌, ◌-◌, ◌*◌, ◌/◌, ◌≤◌, ◌<◌}
use native.Mathlib.Nat.{mul-le-mul_right}
use native.Mathlib.Omega.{arith}
use mathlib.Core.Path.{◌≡◌, refl, sym, ap, ◌∙◌}
use mathlib.Core.Bool.{true, false, true≢false}
use mathlib.Core.List.{List, ◌++◌, append-nil}
use lib.ListN.{length, take, drop, replicate, length-drop, length-append, length-replicate, drop_of_length-le}
use lib.Seq.{length-take-le, take_at, drop_at}
use mir.Syntax.{w32, w64}
use mir.Val.{Fits}
use borrow.Author.Tests.{le-leb, lt-leb}
use borrow.Rule.Slice.PartMut.{put_mid, post_of}
use Rattle.characters.specs.Refusal.{unless_refused}
use Rattle.bdf.specs.declared.reader.Reader.{Reader}
use Rattle.std.specs.Prelude.{Result, Ok, Err}
use Rattle.std.specs.Int.{div_ceil}
use Rattle.refusals.specs.declared.Refusal.{Refusal}
use Rattle.refusals.specs.declared.Refusal.TheVariants.{OutputTooShort}
use Rattle.refusals.specs.Numbers.{number, refusal_of}
use Rattle.refusals.proofs.Numbers.{not_zero}
use Rattle.bdf.specs.Reader.{start, first_refusal, last_reader, file_lines}
use Rattle.bdf.specs.Font.{atlas_size, font_of, atlas_of, mapping_of, record_of, font_bytes, read_code, written}
use Rattle.bdf.specs.Writing.{GoodCell, put_lines}
use Rattle.bdf.specs.Within.{Within}
use Rattle.bdf.specs.Walk.{measured, numbered, put_lines_if, Room, IsMeasured}
use Rattle.bdf.proofs.Invariant.{within-start, within_last}
use Rattle.bdf.proofs.Walks.{or_first, measured_parts}
use Rattle.bdf.proofs.Written.{font-written, font-length, record_right}

-- ---- what was measured

module _ (file : List ℕ) (last : Reader) (m : IsMeasured file last) where
  pub last_within : Within last
  last_within = rw m.last_is (within_last start (file_lines file) within-start)

  pub last_cell : GoodCell last.cell
  last_cell = last_within.good_cell

-- the atlas of a reader
module _ (r : Reader) (w : Within r) where
  abbrev rows : ℕ
  rows = div_ceil r.glyphs 16 * r.cell.height

  rows_few : rows ≤ 262_208
  rows_few =
      let m : div_ceil r.glyphs 16 * r.cell.height ≤ 4_097 * r.cell.height = mul-le-mul_right r.cell.height (omega (arith, w.counted, w.short)) in
      omega (arith, w.good_cell.low)

  pub stride_fits : Fits w32 (2 * r.cell.width)
  stride_fits = omega (arith, w.good_cell.narrow)

  pub rows_fit : Fits w32 rows
  rows_fit = omega (arith, rows_few)

  pub rows_wide : Fits w64 rows
  rows_wide = omega (arith, rows_few)

  size_small : rows * (2 * r.cell.width) ≤ 40_000_000
  size_small =
      let m : rows * (2 * r.cell.width) ≤ 262_208 * (2 * r.cell.width) = mul-le-mul_right (2 * r.cell.width) rows_few in
      omega (arith, w.good_cell.narrow)

  pub size_fits : Fits w64 (rows * (2 * r.cell.width))
  size_fits = omega (arith, size_small)

  pub size_is : rows * (2 * r.cell.width) ≡ atlas_size r.cell r.glyphs
  unfolding atlas_size
  size_is = let e : div_ceil r.glyphs 16 ≡ (r.glyphs + 15) / 16 = omega arith in ap (λ (k : ℕ). k * r.cell.height * (2 * r.cell.width)) e

  pub atlas_small : atlas_size r.cell r.glyphs ≤ 40_000_000
  atlas_small = rw (← size_is) size_small

-- ---- the parts written

module _ (file : List ℕ) (last : Reader) (m : IsMeasured file last) (size : ℕ) (e : size ≡ atlas_size last.cell last.glyphs) where
  size-limit : size ≤ 40_000_000
  size-limit = omega (arith, atlas_small last (last_within file last m))

  from_start : last_reader start (file_lines file) ≡ last
  unfolding file_lines
  from_start = sym m.last_is

  pub pieces_good : true ≡ true → first_refusal start (file_lines file) ≡ 0
  unfolding file_lines
  pieces_good t = m.good

  -- the atlas is cleared
  module _ (pieces part : List ℕ) (l : length pieces ≡ atlas_size last.cell last.glyphs + last.mapping) (p : part ≡ replicate (length (take (size - 0) pieces)) 0) where
    cleared : part ++ post_of 0 (size - 0) pieces ≡ replicate size 0 ++ drop size pieces
    cleared =
        let z : size - 0 ≡ size = omega arith in
        rw (p, z, length-take-le size pieces (omega (arith, e)))

    rest-long : length (drop size pieces) ≡ last.mapping
    rest-long = rw length-drop (omega (arith, e))

    pub pieces_room : Room true (last_reader start (file_lines file)) size (length (part ++ post_of 0 (size - 0) pieces))
    pieces_room =
        let n : length (part ++ post_of 0 (size - 0) pieces) ≡ size + last.mapping = rw (cleared, length-append, length-replicate, rest-long) in
        rw (n, from_start) (record { small = omega (arith, size-limit); whole = λ t. refl; atlas = λ t. e })

    -- and the lines put what the font has
    pub pieces-written : (exit : List ℕ) → exit ≡ put_lines_if true size start (file_lines file) (part ++ post_of 0 (size - 0) pieces) → exit ≡ atlas_of (font_of file) ++ mapping_of (font_of file)
    unfolding file_lines
    pieces-written exit q =
        let g : size ≡ atlas_size (last_reader start (file_lines file)).cell (last_reader start (file_lines file)).glyphs = e ∙ ap (λ (r : Reader). atlas_size r.cell r.glyphs) m.last_is in
        let h : length (drop size pieces) ≡ (last_reader start (file_lines file)).mapping = rest-long ∙ ap (λ (r : Reader). r.mapping) m.last_is in
        q ∙ ap (put_lines size start (file_lines file)) cleared ∙ ap (λ (n : ℕ). put_lines n start (file_lines file) (replicate n 0 ++ drop size pieces)) g ∙ font-written file (drop size pieces) h

  -- ---- the record before them

  pub size_cast : Fits w32 size
  size_cast = omega (arith, size-limit)

  pub size_few : size ≤ 100_000_000
  size_few = omega (arith, size-limit)

  pub mapping_few : last.mapping ≤ 65_535
  mapping_few = (last_within file last m).short

  module _ (font : List ℕ) (l : length font ≡ 28 + atlas_size last.cell last.glyphs + last.mapping) where
    pub head_long : length (take 28 font) ≡ 28
    head_long = length-take-le 28 font (omega arith)

    module _ (head : List ℕ) (p : head ≡ record_of last.cell size last.mapping) where
      length-head : length head ≡ 28
      unfolding record_of
      length-head = ap length p

      pub tail_long : length (take (length (head ++ post_of 0 28 font) - 28) (drop 28 (head ++ post_of 0 28 font))) ≡ atlas_size last.cell last.glyphs + last.mapping
      tail_long =
          let n : length (head ++ drop 28 font) - 28 ≡ size + last.mapping = rw (length-append, length-drop) (omega (arith, length-head, e)) in
          let d : length (drop 28 (head ++ drop 28 font)) ≡ size + last.mapping = rw (drop_at head (drop 28 font) 28 length-head, length-drop) (omega (arith, e)) in
          let t : length (take (length (head ++ drop 28 font) - 28) (drop 28 (head ++ drop 28 font))) ≡ size + last.mapping = rw n (length-take-le (size + last.mapping) (drop 28 (head ++ drop 28 font)) (omega arith)) in
          t ∙ ap (λ (k : ℕ). k + last.mapping) e

      pub font_whole : (pieces : List ℕ) → pieces ≡ atlas_of (font_of file) ++ mapping_of (font_of file)
          → put_mid 28 (length (head ++ post_of 0 28 font) - 28) (head ++ post_of 0 28 font) pieces ≡ font_bytes (font_of file)
      font_whole pieces q =
          let t : take 28 (head ++ drop 28 font) ≡ head = take_at head (drop 28 font) 28 length-head in
          let d : drop 28 (head ++ drop 28 font) ≡ drop 28 font = drop_at head (drop 28 font) 28 length-head in
          let n : length (drop 28 font) ≤ length (head ++ drop 28 font) - 28 = rw length-append (omega (arith, length-head)) in
          let g : last ≡ last_reader start (file_lines file) = m.last_is in
          rw (t, d, drop_of_length-le (drop 28 font) n, append-nil, q, p, e, g) (record_right file)

-- ---- the outcome

module _ (file : List ℕ) (last : Reader) (m : IsMeasured file last) (size : ℕ) (e : size ≡ atlas_size last.cell last.glyphs) (output : List ℕ) where
  length-font : length (font_bytes (font_of file)) ≡ 28 + size + last.mapping
  length-font = font-length file ∙ rw (e, m.last_is)

  pub end_fits : Fits w64 (28 + size + last.mapping)
  end_fits = omega (arith, size_few file last m size e, mapping_few file last m size e)

  pub end_cast : Fits w32 (28 + size + last.mapping)
  end_cast = omega (arith, size-limit file last m size e, mapping_few file last m size e)

  pub head_fits : Fits w64 (28 + size)
  head_fits = omega (arith, size_few file last m size e)

  module _ (h : length output < 28 + size + last.mapping) where
    short-code : read_code file (length output) ≡ 17
    unfolding read_code
    short-code = rw (m.good, length-font, lt-leb (28 + size + last.mapping) (length output) h)

    pub short_refused : number OutputTooShort ≡ read_code file (length output)
    short_refused = sym short-code

    pub short_kept : output ≡ written file output
    unfolding written
    short_kept = rw short-code

  module _ (h : 28 + size + last.mapping ≤ length output) where
    good-code : read_code file (length output) ≡ 0
    unfolding read_code
    good-code = rw (m.good, length-font, le-leb (28 + size + last.mapping) (length output) h)

    pub good_accepted : 0 ≡ read_code file (length output)
    good_accepted = sym good-code

    pub good_length : 28 + size + last.mapping ≡ length (font_bytes (font_of file))
    good_length = sym length-font

    pub good_written : (font : List ℕ) → font ≡ font_bytes (font_of file) → font ++ post_of 0 (28 + size + last.mapping - 0) output ≡ written file output
    unfolding written
    good_written font q = let z : 28 + size + last.mapping - 0 ≡ 28 + size + last.mapping = omega arith in rw (good-code, length-font, z, q)

    pub output_long : length (take (28 + size + last.mapping - 0) output) ≡ 28 + atlas_size last.cell last.glyphs + last.mapping
    output_long = let z : 28 + size + last.mapping - 0 ≡ 28 + size + last.mapping = omega arith in (rw z (length-take-le _ output h)) ∙ ap (λ (k : ℕ). 28 + k + last.mapping) e

-- ---- a file that is good, or refused: x is what the first pass gave

module _ (file : List ℕ) (x : Result Reader Refusal) (d : numbered x ≡ measured start (file_lines file)) where
  pub measured_is : (last : Reader) → x ≡ Ok last → IsMeasured file last
  measured_is last e = let m = measured_parts x start (file_lines file) d in record { good = sym m.code ∙ ap refusal_of e; last_is = m.last last e }

  module _ (n : Refusal) (e : x ≡ Err n) where
    refused-code : (k : ℕ) → read_code file k ≡ number n
    unfolding read_code file_lines
    refused-code k = rw (sym (measured_parts x start (file_lines file) d).code ∙ ap refusal_of e) (or_first (number n) _ (not_zero n))

    pub file_refused : (k : ℕ) → number n ≡ read_code file k
    file_refused k = sym (refused-code k)

    pub file_kept : (output : List ℕ) → output ≡ written file output
    unfolding written
    file_kept output = go (number n) (not_zero n) (refused-code (length output))
      where
        go : (c : ℕ) → (c ≡ 0 → ⊥) → read_code file (length output) ≡ c
            → output ≡ unless_refused (read_code file (length output)) (font_bytes (font_of file) ++ drop (length (font_bytes (font_of file))) output) output
        go zero z t = absurd (z refl)
        go (suc c) z t = rw t

-- the first pass writes nothing
pub nothing_room : (last : Reader) → Room false last 0 0
nothing_room last = record { small = omega arith; whole = λ t. absurd (true≢false (sym t)); atlas = λ t. absurd (true≢false (sym t)) }

pub nothing_good : (n : ℕ) → false ≡ true → n ≡ 0
nothing_good n t = absurd (true≢false (sym t))
