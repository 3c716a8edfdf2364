-- What a file's font promises to a sheet that takes it, for every file: its mapping lists the encodings in their order, its record and its
-- mapping pass a sheet's tests, and its atlas shows each glyph's bitmap where its BBX places it. Assumes nothing.
use Prim.Native.Nat.{ℕ, zero, suc, ◌+◌, ◌≤◌, ◌<◌}
use native.Mathlib.Omega.{arith}
use mathlib.Core.Path.{◌≡◌, refl, ap}
use mathlib.Core.Bool.{true}
use mathlib.Core.List.{List, [], ◌∷◌}
use lib.ListN.{length, get_or}
use Rattle.characters.specs.Utf8.{well_formed}
use Rattle.mapping.specs.Mapping as mapping
use Rattle.atlas.specs.Atlas.{row_bytes, is_on, glyph_column, glyph_row, is_drawn}
use Rattle.limits.specs.Limits.{font_limits}
use Rattle.bdf.specs.Reader.{start, last_reader, file_lines}
use Rattle.bdf.specs.Font.{Glyph, BdfFont, font_of, is_ink, glyph_at, glyph_count, atlas_of, encodings, mapping_of, record_of}
use Rattle.bdf.proofs.Invariant.{within-start, within_last}
use Rattle.bdf.proofs.Gathered.{rising}
use Rattle.bdf.proofs.Mapping.{well_formed_lem, spelled_in_order, index_of, mapping_passes}
use Rattle.bdf.proofs.Record.{Stored, stored, fields_of, record_passes}
use Rattle.bdf.proofs.Pixels.{atlas_with, pixel, drawn}
use Rattle.bdf.proofs.Written.{length_mapping, atlas_length_lem}
use Rattle.bdf.proofs.Fonts.{atlas_small}

pub record Promises (f : BdfFont) : Type 0 where
  -- the mapping is well-formed, spells the encodings in file order, and the index of encoding k is k
  pub well : well_formed (mapping_of f) ≡ true
  pub spelled : mapping.list_of (mapping_of f) ≡ encodings f.glyphs
  pub indexed : (replacement k : ℕ) → k < glyph_count f.glyphs → mapping.index (mapping_of f) replacement (glyph_at f.glyphs k).encoding ≡ k
  -- a sheet's tests 7 and 8 pass, and test 6 of the record, whose bytes have these fields
  pub tests_7_8 : mapping.refusal (mapping_of f) ≡ 0
  pub test_6 : font_limits (fields_of (record_of f.cell (length (atlas_of f)) (length (mapping_of f)))) ≡ 0
  pub fields : Stored (record_of f.cell (length (atlas_of f)) (length (mapping_of f))) f.cell (length (atlas_of f)) (length (mapping_of f))
  -- glyph k's cell shows, at column c and row r, its bitmap placed by its BBX; and it is drawn
  pub shown : (k c r : ℕ) → k < glyph_count f.glyphs → c < f.cell.width → r < f.cell.height
      → is_on (atlas_of f) (row_bytes (atlas_with f.cell)) (glyph_column (atlas_with f.cell) k + c) (glyph_row (atlas_with f.cell) k + r) ≡ is_ink f.cell (glyph_at f.glyphs k) c r
  pub is_drawn_lem : (k : ℕ) → k < glyph_count f.glyphs → 1 ≤ f.cell.width → 1 ≤ f.cell.height → is_drawn (atlas_with f.cell) (length (atlas_of f)) k ≡ true

length-encodings : (gs : List Glyph) → length (encodings gs) ≡ glyph_count gs
unfolding encodings glyph_count
length-encodings [] = refl
length-encodings (g ∷ gs) = ap suc (length-encodings gs)

encoding_at : (gs : List Glyph) (k : ℕ) → k < glyph_count gs → get_or (encodings gs) k 0 ≡ (glyph_at gs k).encoding
unfolding encodings glyph_count glyph_at
encoding_at [] k h = absurd (omega arith)
encoding_at (g ∷ gs) zero h = refl
encoding_at (g ∷ gs) (suc k) h = encoding_at gs k (omega arith)

pub promises : (file : List ℕ) → Promises (font_of file)
unfolding font_of
promises file =
    let f = font_of file in
    let gs = f.glyphs in
    let last = within_last start (file_lines file) within-start in
    let up = rising start (file_lines file) in
    let few : length (mapping_of f) ≤ 65_535 = omega (arith, length_mapping file, last.short) in
    let small : length (atlas_of f) ≤ 100_000_000 = omega (arith, atlas_length_lem file, atlas_small (last_reader start (file_lines file)) last) in
    record {
      well = well_formed_lem (encodings gs) up;
      spelled = spelled_in_order (encodings gs) up;
      indexed = λ replacement k h. rw (← encoding_at gs k h) (index_of (encodings gs) up replacement k (rw length-encodings h));
      tests_7_8 = mapping_passes (encodings gs) up few;
      test_6 = record_passes f.cell (length (atlas_of f)) (length (mapping_of f)) last.good_cell small few;
      fields = stored f.cell (length (atlas_of f)) (length (mapping_of f)) last.good_cell small few;
      shown = λ k c r h. pixel f k h c r;
      is_drawn_lem = λ k h. drawn f k h;
    }
