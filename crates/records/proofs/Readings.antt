-- Records read by value: what is read is what the definitions read, and within the limits of drawing. Assumes nothing.
use Prim.Native.Nat.{ℕ, ◌+◌, ◌-◌, ◌^◌, ◌≤◌, ◌<◌}
use mathlib.Core.Path.{◌≡◌, refl, ap, ◌∙◌}
use mathlib.Core.Bool.{Bool, true, false, cond}
use mathlib.Core.List.{List}
use lib.Dec.{eqb}
use lib.ListN.{length, get_or, take, drop}
use lib.Seq.{get_or-take, get_or-drop}
use native.Mathlib.Omega.{arith}
use Rattle.geometry.specs.declared.Point.{Point}
use Rattle.mapping.specs.Entries.{WithinLimit}
use Rattle.line.specs.declared.MonoFont.{MonoFont}
use Rattle.line.specs.declared.MonoTextStyle.{MonoTextStyle}
use Rattle.line.specs.Line.{font_of}
use Rattle.line.specs.Limits.{FontLimits}
use Rattle.text.specs.declared.LineHeight.TheVariants.{Pixels, Percent}
use Rattle.text.specs.declared.TextStyle.{TextStyle}
use Rattle.text.specs.Text.{Text}
use Rattle.text.specs.Limits.{TextLimits, height_value}
use Rattle.sheet.specs.Fields
use Rattle.sheet.specs.Fields.{font_at, item_at, atlas_bytes, mapping_bytes, text_bytes}
use Rattle.sheet.specs.Requires.{FontListed, ItemListed}
use Rattle.sheet.proofs.Bytes.{length_part}
use Rattle.records.specs.Records.{line_height, mono_font, font, mono_text_style, style_of, text_style, item_of, item, item_font}

-- ---- what an accepted sheet gives

-- an item's font is listed
pub font_listed : (b : List ℕ) (n f : ℕ) → ItemListed b n → f ≡ Fields.font_number b (item_at b n) → FontListed b f
font_listed b n f g e = record { accepted = g.accepted; listed = rw e (g.accepted.item-fits n g.listed).font_there }

-- a font's mapping is well-formed, and short enough to be searched
pub mapping_limit : (b : List ℕ) (k : ℕ) (mapping : List ℕ) → FontListed b k → mapping ≡ mapping_bytes b (font_at k) → WithinLimit mapping
mapping_limit b k mapping g e =
    let fits = g.accepted.font-fits k g.listed in
    record { well = rw e fits.mapping_well; spelled = rw e fits.mapping_short }

-- of either kind, the height has the value that is stored
pub height_value_lem : (kind value : ℕ) → height_value (line_height kind value) ≡ value
unfolding line_height
height_value_lem kind value = go (eqb kind 0)
  where
    go : (t : Bool) → height_value (cond t (Pixels value) (Percent value)) ≡ value
    go true = refl
    go false = refl

-- a font of an accepted sheet is within the limits of drawing: its fields that are not tested are bytes
pub font_limits_lem : (b : List ℕ) (n : ℕ) (m : MonoFont) → FontListed b n → m ≡ mono_font b (font_at n) → m.baseline < 2 ^ 8 → m.strikethrough.offset < 2 ^ 8 → m.strikethrough.height < 2 ^ 8
    → m.underline.offset < 2 ^ 8 → m.underline.height < 2 ^ 8 → FontLimits m
unfolding mono_font
font_limits_lem b n m g e base so sh uo uh =
    let f = g.accepted.font-fits n g.listed in
    record {
      atlas_narrow = rw e f.atlas_narrow;
      cw_small = rw e f.cw_small;
      ch_small = rw e f.ch_small;
      spacing_small = rw e f.spacing_small;
      baseline_small = omega arith;
      strikethrough_near = omega arith;
      strikethrough_low = omega arith;
      underline_near = omega arith;
      underline_low = omega arith;
    }

pub style_is : (b c : List ℕ) (n o : ℕ) (r : MonoTextStyle) → c ≡ b → o ≡ item_at b n → r ≡ style_of (take (o + 13 + 8 - (o + 13)) (drop (o + 13) c)) → r ≡ mono_text_style b (item_at b n)
unfolding mono_text_style style_of
style_is b c n o r same e p =
    let eight : o + 13 + 8 - (o + 13) ≡ 8 = omega arith in
    let at : (k j : ℕ) → k < 8 → j ≡ item_at b n + 13 + k → get_or (take 8 (drop (o + 13) b)) k 0 ≡ get_or b j 0 =
    λ k j l q. get_or-take 8 (drop (o + 13) b) k 0 l ∙ get_or-drop (o + 13) b k 0 ∙ ap (λ (i : ℕ). get_or b i 0) (omega arith) in
    p ∙ rw (
      same,
      eight,
      at 0 (item_at b n + 13) (omega arith) (omega arith),
      at 1 (item_at b n + 14) (omega arith) (omega arith),
      at 2 (item_at b n + 15) (omega arith) (omega arith),
      at 3 (item_at b n + 16) (omega arith) (omega arith),
      at 4 (item_at b n + 17) (omega arith) (omega arith),
      at 5 (item_at b n + 18) (omega arith) (omega arith),
      at 6 (item_at b n + 19) (omega arith) (omega arith),
      at 7 (item_at b n + 20) (omega arith) (omega arith),
    )

-- ---- an item, made of what is read

module _ (b : List ℕ) (n : ℕ) where
  -- an item of an accepted sheet is within the limits of drawing
  pub item_limits_lem : (text : List ℕ) (p : Point) (t : TextStyle) → ItemListed b n → text ≡ text_bytes b (item_at b n) → p.x ≤ 4_194_304 → p.y ≤ 4_194_304 → t ≡ text_style b (item_at b n)
      → TextLimits (length text) p.x p.y t.line_height
  unfolding text_style
  item_limits_lem text p t g e px py et =
      let fits = g.accepted.item-fits n g.listed in
      let short = length_part b (Fields.slot_offset b (item_at b n)) (Fields.text_length b (item_at b n)) in
      record { text_short = rw e (omega arith); near_x = px; near_y = py; height_small = rw (et, height_value_lem) fits.height_small }

  pub item_made : (text : List ℕ) (p : Point) (s : MonoTextStyle) (t : TextStyle) → text ≡ text_bytes b (item_at b n) → p ≡ (item_of b (item_at b n)).position
      → s ≡ mono_text_style b (item_at b n) → t ≡ text_style b (item_at b n) → ◌≡◌ {A = Text} (record { text = text; position = p; character_style = s; text_style = t }) (item b n)
  unfolding item item_of
  item_made text p s t e ep es et = rw (e, ep, es, et)

  module _ (b' : List ℕ) (k : ℕ) (same : b' ≡ b) (number : k ≡ Fields.font_number b (item_at b n)) where
    pub item_metrics : (m : MonoFont) → m ≡ mono_font b' (font_at k) → m ≡ (item_font b n).mono
    unfolding item_font font
    item_metrics m e = rw (same, number) at e

    pub item_font_made : (m : MonoFont) (atlas mapping : List ℕ) → m ≡ (item_font b n).mono → atlas ≡ atlas_bytes b' (font_at k) → mapping ≡ mapping_bytes b' (font_at k)
        → font_of m atlas mapping ≡ item_font b n
    unfolding item_font font
    item_font_made m atlas mapping e ea em = rw (e, ea, em, same, number)
