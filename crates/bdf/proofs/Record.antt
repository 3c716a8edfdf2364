-- The record of a font: the number that each field holds, and that they pass test 6 of a sheet. Assumes nothing.
use Prim.Native.Nat.{ℕ, ◌+◌, ◌-◌, ◌*◌, ◌/◌, ◌%◌, ◌<◌, ◌≤◌}
use mathlib.Core.Path.{◌≡◌, refl}
use mathlib.Core.List.{List}
use native.Mathlib.Omega.{arith}
use borrow.Author.Tests.{le-leb}
use lib.ListN.{length, get_or}
use Rattle.limits.specs.declared.FontFields.{FontFields}
use Rattle.limits.specs.Limits.{font_limits}
use Rattle.bdf.specs.declared.reader.BoundingBox.{BoundingBox}
use Rattle.bdf.specs.Reader.{baseline}
use Rattle.bdf.specs.Font.{record_of}
use Rattle.bdf.specs.Writing.{GoodCell}

-- a number of two or four bytes, little-endian
abbrev pub two_at : List ℕ → ℕ → ℕ
two_at r o = get_or r o 0 + 256 * get_or r (o + 1) 0

abbrev pub four_at : List ℕ → ℕ → ℕ
four_at r o = get_or r o 0 + 256 * get_or r (o + 1) 0 + 65_536 * get_or r (o + 2) 0 + 16_777_216 * get_or r (o + 3) 0

-- the fields of a record r of a cell, with so many bytes of atlas and of mapping
pub record Stored (r : List ℕ) (cell : BoundingBox) (atlas mapping : ℕ) : Type 0 where
  pub whole : length r ≡ 28
  pub atlas_offset_lem : four_at r 0 ≡ 28
  pub atlas_length_lem : four_at r 4 ≡ atlas
  pub mapping_offset_lem : four_at r 8 ≡ 28 + atlas
  pub mapping_length_lem : two_at r 12 ≡ mapping
  pub replacement : two_at r 14 ≡ 0
  pub atlas_width_lem : two_at r 16 ≡ 16 * cell.width
  pub cw : get_or r 18 0 ≡ cell.width
  pub ch : get_or r 19 0 ≡ cell.height
  pub spacing : get_or r 20 0 ≡ 0
  pub stored-baseline : get_or r 21 0 ≡ baseline cell
  pub strikethrough_offset_lem : get_or r 22 0 ≡ (cell.height - 1) / 2
  pub strikethrough_height_lem : get_or r 23 0 ≡ 1
  pub underline_offset_lem : get_or r 24 0 ≡ cell.height + 1
  pub underline_height_lem : get_or r 25 0 ≡ 1
  pub zero : two_at r 26 ≡ 0

two_whole : (n : ℕ) → n < 65_536 → n % 256 + 256 * (n / 256 % 256) ≡ n
two_whole n h = omega arith

four_whole : (n : ℕ) → n < 4_294_967_296 → n % 256 + 256 * (n / 256 % 256) + 65_536 * (n / 65_536 % 256) + 16_777_216 * (n / 16_777_216 % 256) ≡ n
four_whole n h =
    let a : n / 256 * 256 + n % 256 ≡ n = omega arith in
    let b : n / 65_536 * 256 + n / 256 % 256 ≡ n / 256 = omega arith in
    let c : n / 16_777_216 * 256 + n / 65_536 % 256 ≡ n / 65_536 = omega arith in
    let d : n / 16_777_216 % 256 ≡ n / 16_777_216 = omega arith in
    by (n % 256) (n / 256 % 256) (n / 65_536 % 256) (n / 16_777_216 % 256) (n / 256) (n / 65_536) (n / 16_777_216) a b c d
  where
    by : (p q r t x y z : ℕ) → x * 256 + p ≡ n → y * 256 + q ≡ x → z * 256 + r ≡ y → t ≡ z → p + 256 * q + 65_536 * r + 16_777_216 * t ≡ n
    by p q r t x y z a b c d = omega arith

pub stored : (cell : BoundingBox) (atlas mapping : ℕ) → GoodCell cell → atlas ≤ 100_000_000 → mapping ≤ 65_535 → Stored (record_of cell atlas mapping) cell atlas mapping
unfolding record_of
stored cell atlas mapping g a m =
    let w = g.narrow in
    record {
      whole = refl;
      atlas_offset_lem = refl;
      atlas_length_lem = four_whole atlas (omega arith);
      mapping_offset_lem = four_whole (28 + atlas) (omega arith);
      mapping_length_lem = two_whole mapping (omega arith);
      replacement = refl;
      atlas_width_lem = two_whole (16 * cell.width) (omega arith);
      cw = refl;
      ch = refl;
      spacing = refl;
      stored-baseline = refl;
      strikethrough_offset_lem = refl;
      strikethrough_height_lem = refl;
      underline_offset_lem = refl;
      underline_height_lem = refl;
      zero = refl;
    }

-- test 6
pub limits_pass : (cell : BoundingBox) → GoodCell cell
    → font_limits (record { cw = cell.width; ch = cell.height; spacing = 0; atlas_width = 16 * cell.width; zero = 0 }) ≡ 0
unfolding font_limits
limits_pass cell g = let w = g.narrow in rw (le-leb cell.width 64 w, le-leb cell.height 64 g.low, le-leb (16 * cell.width) 1_024 (omega arith))

-- the fields of test 6 as a sheet reads them
abbrev pub fields_of : List ℕ → FontFields
fields_of r = record { cw = get_or r 18 0; ch = get_or r 19 0; spacing = get_or r 20 0; atlas_width = two_at r 16; zero = two_at r 26 }

pub record_passes : (cell : BoundingBox) (atlas mapping : ℕ) → GoodCell cell → atlas ≤ 100_000_000 → mapping ≤ 65_535 → font_limits (fields_of (record_of cell atlas mapping)) ≡ 0
record_passes cell atlas mapping g a m =
    let s = stored cell atlas mapping g a m in
    rw (s.cw, s.ch, s.spacing, s.atlas_width_lem, s.zero) (limits_pass cell g)
