-- The coordinates that a call replies fit a signed number of 32 bits. Assumes nothing.
use Prim.Native.Nat.{ℕ, suc, ◌+◌, ◌-◌, ◌*◌, ◌^◌, ◌≤◌, ◌<◌}
use native.Mathlib.Omega.{arith}
use mathlib.Core.Path.{◌≡◌, refl, ap}
use mathlib.Core.Logic.{◌⊎◌, inl, inr}
use mathlib.Core.Bool.{Bool, true, false, cond}
use mathlib.Core.List.Memᴰ
use mathlib.Core.List.{List, [], ◌∷◌, map, Memᴰ}
use lib.Dec.{ltb, eqb}
use lib.ListN.{length, get_or}
use mir.Syntax.{w8}
use mir.Val.{Fits}
use Rattle.geometry.specs.declared.Point.{Point}
use Rattle.geometry.specs.declared.Rectangle.{Rectangle}
use Rattle.geometry.specs.Rectangle.{envelope, join, joins}
use Rattle.geometry.specs.Layer.{origin}
use Rattle.geometry.proofs.Rectangles.{join_cases}
use Rattle.characters.specs.Utf8.{chars}
use Rattle.characters.specs.Lines.{lines, before}
use Rattle.characters.proofs.Feeds.{length-without_return}
use Rattle.line.specs.declared.MonoFont.{MonoFont}
use Rattle.line.specs.Line.{measured_width}
use Rattle.line.specs.Line
use Rattle.line.specs.Limits.{FontLimits}
use Rattle.line.proofs.Advances.{width_small, advance_width}
use Rattle.text.specs.Limits.{TextLimits}
use Rattle.text.specs.Text.{Text, PlacedLine, place_line, place_lines, placed_lines, line_height, line_next, last_next, next, measured_box, bounding_box}
use Rattle.text.proofs.Places.{start_near, height_small}
use Rattle.text.proofs.Exact.{PlacedAt, placed_at, length_line}
use Rattle.sheet.specs.Fields.{le16_at, coordinate, item_at, font_at, font_number, text_bytes}
use Rattle.records.specs.Records.{mono_font, font, text_style, item_of, item, item_font}
use Rattle.sheet.specs.Requires.{ItemListed}
use Rattle.sheet.proofs.Bytes.{le16_at_small}
use Rattle.records.proofs.Readings.{font_limits_lem, font_listed, item_limits_lem as read_limits}
use Rattle.drawing.specs.Drawing.{whitespace_next}
use Rattle.calls.specs.Replies.{PointFits, CornerFits}

length-lines : (s : List ℕ) → length (lines s) ≤ suc (length s)
unfolding lines
length-lines [] = omega arith
length-lines (c ∷ cs) = go (length-lines cs) (lines cs) refl (eqb c 0x0A)
  where
    go : length (lines cs) ≤ suc (length cs) → (ls : List (List ℕ)) → lines cs ≡ ls → (t : Bool) → length (cond t ([] ∷ ls) (before c ls)) ≤ suc (suc (length cs))
    go ih ls e true = omega (arith, ap length e)
    go ih [] e false = omega arith
    go ih (l ∷ ls) e false = omega (arith, ap length e)

join-fits : (a b : Rectangle) → CornerFits a → CornerFits b → CornerFits (join a b)
unfolding envelope
join-fits a b p q = join_cases CornerFits a b p q (omega arith)

-- ---- a text within the limits of drawing

module _ (m : MonoFont) (t : Text) (font : FontLimits m) (limits : TextLimits (length t.text) t.position.x t.position.y t.text_style.line_height) where
  placed-low : (p : PlacedLine) (ls : List (List ℕ)) (y : ℕ) → Memᴰ p (place_lines m t ls y) → p.y ≤ y + 1_000 * length ls
  unfolding place_lines place_line
  placed-low p [] y q = absurd (Memᴰ.not-nil q)
  placed-low p (l ∷ ls) y q = go (placed-low p ls (y + line_height m t.text_style.line_height)) (Memᴰ.cases_cons q)
    where
      go : (Memᴰ p (place_lines m t ls (y + line_height m t.text_style.line_height)) → p.y ≤ y + line_height m t.text_style.line_height + 1_000 * length ls)
          → (p ≡ place_line m t l y) ⊎ Memᴰ p (place_lines m t ls (y + line_height m t.text_style.line_height)) → p.y ≤ y + 1_000 * length (l ∷ ls)
      go ih (inl e) = omega (arith, ap (λ (q : PlacedLine). q.y) e)
      go ih (inr r) = omega (arith, ih r, height_small m font t.text_style.line_height limits.height_small)

  -- a line is near the text's position, and short
  module _ (p : PlacedLine) (q : Memᴰ p (placed_lines m t)) where
    low : p.y < 2 ^ 30
    unfolding placed_lines
    low = omega (arith, placed-low p (lines t.text) t.position.y q, length-lines t.text)

    at : PlacedAt m t (lines t.text) t.position.y p
    unfolding placed_lines
    at = placed_at m t p (lines t.text) t.position.y q

    near : p.x ≤ 4_194_305
    unfolding place_line
    near = let a = at in omega (arith, ap (λ (q : PlacedLine). q.x) a.placed, start_near t.text_style.alignment t.position.x (measured_width m (length (chars a.bytes))))

    short : length p.text ≤ 65_536
    unfolding place_line
    short = let a = at in omega (arith, ap (λ (q : PlacedLine). length q.text) a.placed, length-without_return a.bytes, length_line t.text a.bytes a.listed)

    line-next-fits : PointFits (line_next m t p)
    unfolding line_next
    line-next-fits =
        let n = length (chars p.text) in
        record { x = omega (arith, near, advance_width m t.character_style n, width_small m font p.text short n refl); y = omega (arith, low) }

    line-box-fits : CornerFits (measured_box m t p)
    unfolding measured_box Line.measured_box
    line-box-fits = record { left = omega (arith, near); top = omega (arith, low) }

  last_fits : (ps : List PlacedLine) (p : Point) → PointFits p → ((l : PlacedLine) → Memᴰ l ps → PointFits (line_next m t l)) → PointFits (last_next m t p ps)
  unfolding last_next
  last_fits [] p f h = f
  last_fits (l ∷ ls) p f h = last_fits ls (line_next m t l) (h l (Memᴰ.head refl)) (λ k q. h k (Memᴰ.tail q))

  pub next_fits : PointFits (next m t)
  unfolding next
  next_fits = last_fits (placed_lines m t) t.position (record { x = omega arith; y = omega arith }) line-next-fits

  joined-fits : (ps : List PlacedLine) (a : Rectangle) → CornerFits a → ((l : PlacedLine) → Memᴰ l ps → CornerFits (measured_box m t l)) → CornerFits (joins a (map (measured_box m t) ps))
  unfolding joins
  joined-fits [] a f h = f
  joined-fits (l ∷ ls) a f h = joined-fits ls (join a (measured_box m t l)) (join-fits a (measured_box m t l) f (h l (Memᴰ.head refl))) (λ k q. h k (Memᴰ.tail q))

  pub bounding_box-fits : CornerFits (bounding_box m t)
  unfolding bounding_box
  bounding_box-fits = joined-fits (placed_lines m t) _ (record { left = omega arith; top = omega arith }) line-box-fits

-- ---- an item of an accepted sheet

coordinate_near : (n : ℕ) → n < 65_536 → coordinate n ≤ 4_194_304
unfolding coordinate
coordinate_near n h = go (ltb n 32_768)
  where
    go : (t : Bool) → cond t (origin + n) (origin + n - 65_536) ≤ 4_194_304
    go true = omega arith
    go false = omega arith

le16_at_near : (b : List ℕ) (o : ℕ) → ((k : ℕ) → Fits w8 (get_or b k 0)) → coordinate (le16_at b o) ≤ 4_194_304
le16_at_near b o h = coordinate_near _ (le16_at_small b o (λ k. omega (arith, h k)))

module _ (b : List ℕ) (n : ℕ) (bytes : (k : ℕ) → Fits w8 (get_or b k 0)) (g : ItemListed b n) where
  item-font-limits : FontLimits (item_font b n).mono
  unfolding item_font font mono_font
  item-font-limits =
      let k = font_number b (item_at b n) in
      let o = font_at k in
      font_limits_lem b k (mono_font b o) (font_listed b n k g refl) refl (bytes (o + 21)).fits (bytes (o + 22)).fits (bytes (o + 23)).fits (bytes (o + 24)).fits (bytes (o + 25)).fits

  item_limits_lem : TextLimits (length (item b n).text) (item b n).position.x (item b n).position.y (item b n).text_style.line_height
  unfolding item item_of item_font font
  item_limits_lem =
      let o = item_at b n in
      read_limits b n (text_bytes b o) (item_of b o).position (text_style b o) g refl (le16_at_near b o bytes) (le16_at_near b (o + 2) bytes) refl

  pub item_next_fits : (p : Point) → p ≡ next (item_font b n).mono (item b n) → PointFits p
  item_next_fits p e = rw e (next_fits (item_font b n).mono (item b n) item-font-limits item_limits_lem)

  pub item_box_fits : (a : Rectangle) → a ≡ bounding_box (item_font b n).mono (item b n) → CornerFits a
  item_box_fits a e = rw e (bounding_box-fits (item_font b n).mono (item b n) item-font-limits item_limits_lem)

  pub whitespace_next-fits : (width : ℕ) (p : Point) → width ≤ 65_535 → p ≡ whitespace_next (item b n) width → PointFits p
  unfolding whitespace_next
  whitespace_next-fits width p h e = rw e (record { x = omega (arith, item_limits_lem.near_x); y = omega (arith, item_limits_lem.near_y) })

-- ---- the same of the sheet that a call has checked

module _ (b c : List ℕ) (n : ℕ) (bytes : (k : ℕ) → Fits w8 (get_or b k 0)) (same : c ≡ b) (g : ItemListed c n) where
  checked-bytes : (k : ℕ) → Fits w8 (get_or c k 0)
  checked-bytes k = rw same (bytes k)

  pub checked_next_fits : (p : Point) → p ≡ next (item_font c n).mono (item c n) → PointFits p
  checked_next_fits = item_next_fits c n checked-bytes g

  pub checked_box_fits : (a : Rectangle) → a ≡ bounding_box (item_font c n).mono (item c n) → CornerFits a
  checked_box_fits = item_box_fits c n checked-bytes g

  pub checked_whitespace_fits : (width : ℕ) (p : Point) → width ≤ 65_535 → p ≡ whitespace_next (item c n) width → PointFits p
  checked_whitespace_fits = whitespace_next-fits c n checked-bytes g
