-- Every position and box of an accepted sheet in natural numbers, counted from `origin`, is docs/SHEET.md's in signed ones (specs/SignedSheet.antt):
-- under the limits no subtraction from a coordinate is cut at 0. Assumes nothing.
use Prim.Native.Nat.{ℕ, suc, ◌+◌, ◌-◌, ◌*◌, ◌/◌, ◌%◌, ◌≤◌, ◌<◌}
use native.Mathlib.Nat.{mul-le-mul, add-mul-div_right, add-mul-mod_self_right}
use native.Mathlib.Omega.{arith}
use mathlib.Core.Path.{◌≡◌, refl, sym, ap, ◌∙◌}
use mathlib.Core.Bool.{Bool, true, false, cond}
use mathlib.Core.List.{List}
use lib.Dec.{ltb}
use lib.IntN.{ℤ, pos, negsuc, ◌-ℤ◌, +ℤ_idl}
use lib.ListN.{length, get_or, length-take, length-drop}
use borrow.Author.Tests.{ltb-true, ltb-false, lt-ltb, le-ltb}
use Rattle.geometry.specs.declared.Rectangle.{Rectangle}
use Rattle.geometry.specs.Layer.{origin, signed, frame_of}
use Rattle.geometry.specs.Rectangle.{rectangle, covers, is_empty, join, intersection}
use Rattle.characters.specs.Utf8.{chars}
use Rattle.characters.proofs.Folds.{length-chars}
use Rattle.line.specs.declared.Baseline.{Baseline}
use Rattle.line.specs.declared.Baseline.TheVariants.{Top, Bottom, Middle, Alphabetic}
use Rattle.line.specs.declared.MonoFont.{MonoFont}
use Rattle.line.specs.Line.{character_width, character_height, spacing, baseline_offset, top_edge, measured_width}
use Rattle.text.specs.Text.{Text}
use Rattle.text.specs.Signed
use Rattle.text.specs.Signed.{signed_point, SignedRectangle, signed_rectangle, SignedText, signed_text}
use Rattle.text.proofs.Signed.{signed_add, signed_sub, signed-origin, signed-covers, signed-join, signed-intersection}
use Rattle.text.proofs.Exact.{Room, Exact, text_exact, length_line}
use Rattle.sheet.specs.Fields.{le16, part, coordinate, frame_width, frame_height, item_count, item_at, item_x, item_y, font_at, font_number}
use Rattle.sheet.specs.Check.{check}
use Rattle.sheet.specs.Accepted.{Accepted}
use Rattle.records.specs.Records.{mono_font, font, item_of, item, item_font}
use Rattle.sheet.specs.Edits.{in_range, biased}
use Rattle.sheet.proofs.Acceptance.{accepted}
use Rattle.drawing.specs.Drawing.{column_of, row_of, whitespace_next, or_none, cut_to_frame, item_ink, damage}
use Rattle.drawing.specs.SignedSheet
use Rattle.drawing.specs.SignedSheet.{from_twos_complement, twos_complement}

-- ---- stored places

-- a coordinate is `origin` and the signed number in two's complement, `biased` is its inverse, and the bytes are those of the signed number
pub record StoredExact : Type 0 where
  pub read : (n : ℕ) → signed (coordinate n) ≡ from_twos_complement n
  pub in_range_lem : (n : ℕ) → n < 65_536 → in_range (from_twos_complement n) ≡ true
  pub biased_read : (n : ℕ) → n < 65_536 → biased (from_twos_complement n) ≡ coordinate n
  pub signed-biased : (z : ℤ) → in_range z ≡ true → signed (biased z) ≡ z
  pub inverse : (z : ℤ) → in_range z ≡ true → from_twos_complement (twos_complement z) ≡ z
  pub bytes : (z : ℤ) → in_range z ≡ true → le16 (biased z) ≡ le16 (twos_complement z)

read_exact : (n : ℕ) → signed (coordinate n) ≡ from_twos_complement n
unfolding coordinate from_twos_complement
read_exact n = go (ltb n 32_768)
  where
    go : (t : Bool) → signed (cond t (origin + n) (origin + n - 65_536)) ≡ cond t (pos n) (pos n -ℤ pos 65_536)
    go true = signed-origin n
    go false = sym (signed_sub (origin + n) 65_536 (omega arith)) ∙ ap (λ (z : ℤ). z -ℤ pos 65_536) (signed-origin n)

module _ (n : ℕ) (h : n < 65_536) where
  range-exact : in_range (from_twos_complement n) ≡ true
  unfolding in_range from_twos_complement
  range-exact = go (ltb n 32_768) refl
    where
      go : (t : Bool) → ltb n 32_768 ≡ t → in_range (cond t (pos n) (pos n -ℤ pos 65_536)) ≡ true
      go true e = e
      go false e = let l = ltb-false n 32_768 e in rw (lt-ltb n 65_536 h) (lt-ltb (65_536 - suc n) 32_768 (omega arith))

  biased-exact : biased (from_twos_complement n) ≡ coordinate n
  unfolding biased coordinate from_twos_complement
  biased-exact = go (ltb n 32_768)
    where
      go : (t : Bool) → biased (cond t (pos n) (pos n -ℤ pos 65_536)) ≡ cond t (origin + n) (origin + n - 65_536)
      go true = refl
      go false = rw (lt-ltb n 65_536 h) (omega arith)

signed-biased : (z : ℤ) → in_range z ≡ true → signed (biased z) ≡ z
unfolding in_range biased
signed-biased (pos n) h = signed-origin n
signed-biased (negsuc n) h =
    let l = ltb-true n 32_768 h in
    sym (signed_sub origin (suc n) (omega arith)) ∙ ap (λ (z : ℤ). z -ℤ pos (suc n)) (signed-origin 0) ∙ +ℤ_idl (negsuc n)

inverse_exact : (z : ℤ) → in_range z ≡ true → from_twos_complement (twos_complement z) ≡ z
unfolding in_range from_twos_complement twos_complement
inverse_exact (pos n) h = rw h
inverse_exact (negsuc n) h =
    let l = ltb-true n 32_768 h in
    rw (le-ltb (65_536 - suc n) 32_768 (omega arith), lt-ltb (65_536 - suc n) 65_536 (omega arith)) (ap negsuc (omega arith))

-- the two low bytes of a number are those of the number 65,536 higher
le16_period : (n k : ℕ) → le16 (n + k * 65_536) ≡ le16 n
unfolding le16
le16_period n k =
    let e : n + k * 65_536 ≡ n + k * 256 * 256 = omega arith in
    rw (e, add-mul-mod_self_right n (k * 256) 256, add-mul-div_right n (k * 256) {z = 256} (omega arith), add-mul-mod_self_right (n / 256) k 256)

bytes_exact : (z : ℤ) → in_range z ≡ true → le16 (biased z) ≡ le16 (twos_complement z)
unfolding in_range biased twos_complement
bytes_exact (pos n) h = ap le16 (let e : origin + n ≡ n + 32 * 65_536 = omega arith in e) ∙ le16_period n 32
bytes_exact (negsuc n) h =
    let l = ltb-true n 32_768 h in
    ap le16 (let e : origin - suc n ≡ 65_536 - suc n + 31 * 65_536 = omega arith in e) ∙ le16_period (65_536 - suc n) 31

pub stored_exact : StoredExact
stored_exact = record { read = read_exact; in_range_lem = range-exact; biased_read = biased-exact; signed-biased = signed-biased; inverse = inverse_exact; bytes = bytes_exact }

-- ---- an accepted sheet's items have room on their left and above them

-- a list of bytes
abbrev pub Bytes : List ℕ → Type 0
Bytes b = (k : ℕ) → get_or b k 0 < 256

coordinate_room : (n : ℕ) → origin - 32_768 ≤ coordinate n
unfolding coordinate
coordinate_room n = go (ltb n 32_768) refl
  where
    go : (t : Bool) → ltb n 32_768 ≡ t → origin - 32_768 ≤ cond t (origin + n) (origin + n - 65_536)
    go true e = omega arith
    go false e = omega (arith, ltb-false n 32_768 e)

baseline_room : (m : MonoFont) (a : Baseline) → character_height m ≤ 64 → m.baseline ≤ 255 → baseline_offset m a ≤ 255
unfolding baseline_offset
baseline_room m Top p q = omega arith
baseline_room m Bottom p q = omega arith
baseline_room m Middle p q = omega arith
baseline_room m Alphabetic p q = q

measured_room : (m : MonoFont) (n : ℕ) → character_width m + spacing m ≤ 128 → n ≤ 256 → measured_width m n ≤ 32_768
unfolding measured_width
measured_room m n p q = omega (arith, mul-le-mul q p)

item_room : (b : List ℕ) (n : ℕ) → Bytes b → Accepted b → n < item_count b → Room (item_font b n).mono (item b n)
unfolding item item_of item_font font mono_font part
item_room b n h g l =
    let f = g.item-fits n l in
    let k = g.font-fits (font_number b (item_at b n)) f.font_there in
    let m = (item_font b n).mono in
    let short : length (item b n).text ≤ 256 = simp (length-take, length-drop) (omega arith) in
    record {
      left = λ s q. omega (arith, coordinate_room (item_x b (item_at b n)), measured_room m (length (chars s)) (omega arith) (omega (arith, length-chars s, length_line (item b n).text s q)));
      above = omega (arith, coordinate_room (item_y b (item_at b n)), baseline_room m (item b n).text_style.baseline k.ch_small (omega (arith, h (font_at (font_number b (item_at b n)) + 21))));
    }

-- ---- the theorem

-- item n of a sheet: its bytes, its x and y, and all that `Exact` names, by the definitions and by docs/SHEET.md
pub record SheetExact (b : List ℕ) (n : ℕ) : Type 0 where
  pub position : signed_text (item b n) ≡ SignedSheet.item b n
  pub text : Exact (item_font b n).mono (item b n) (SignedSheet.item b n)
  pub whitespace_top_lem : signed (top_edge (item_font b n).mono (item b n).text_style.baseline (item b n).position.y) ≡ SignedSheet.whitespace_top (item_font b n).mono (SignedSheet.item b n)
  pub whitespace-next : (width : ℕ) → signed_point (whitespace_next (item b n) width) ≡ SignedSheet.whitespace_next (SignedSheet.item b n) width

pub item_exact : (b : List ℕ) (n : ℕ) → signed_text (item b n) ≡ SignedSheet.item b n
unfolding item item_of SignedSheet.item
item_exact b n = rw (read_exact (item_x b (item_at b n)), read_exact (item_y b (item_at b n)))

whitespace_exact : (t : Text) (width : ℕ) → signed_point (whitespace_next t width) ≡ SignedSheet.whitespace_next (signed_text t) width
unfolding whitespace_next SignedSheet.whitespace_next
whitespace_exact t width = rw (signed_add t.position.x width)

pub sheet_exact : (b : List ℕ) → Bytes b → check b ≡ 0 → (n : ℕ) → n < item_count b → SheetExact b n
unfolding SignedSheet.whitespace_top
sheet_exact b h c n l =
    let r = item_room b n h (accepted b c) l in
    let m = (item_font b n).mono in
    let t = item b n in
    record {
      position = item_exact b n;
      text = rw (← (item_exact b n)) (text_exact m t r);
      whitespace_top_lem = rw (← (item_exact b n)) (sym (signed_sub t.position.y (baseline_offset m t.text_style.baseline) r.above));
      whitespace-next = λ width. whitespace_exact t width ∙ ap (λ (s : SignedText). SignedSheet.whitespace_next s width) (item_exact b n);
    }

-- ---- the damage rectangle

corner : signed origin ≡ pos 0
corner = signed-origin 0

none_exact : (a : Rectangle) → signed_rectangle (or_none a) ≡ SignedSheet.or_none (signed_rectangle a)
unfolding or_none SignedSheet.or_none is_empty Signed.is_empty
none_exact a = go (is_empty a)
  where
    go : (t : Bool) → signed_rectangle (cond t (rectangle origin origin 0 0) a) ≡ cond t (Signed.rectangle (pos 0) (pos 0) 0 0) (signed_rectangle a)
    go true = rw corner
    go false = refl

frame_exact : (w h : ℕ) → signed_rectangle (frame_of w h) ≡ Signed.rectangle (pos 0) (pos 0) w h
frame_exact w h = rw corner

cut_exact : (b : List ℕ) (a : Rectangle) → signed_rectangle (cut_to_frame b a) ≡ SignedSheet.cut_to_frame b (signed_rectangle a)
unfolding cut_to_frame SignedSheet.cut_to_frame
cut_exact b a =
    let f = frame_of (frame_width b) (frame_height b) in
    none_exact (intersection a f) ∙ ap SignedSheet.or_none (sym (signed-intersection a f) ∙ ap (Signed.intersection (signed_rectangle a)) (frame_exact (frame_width b) (frame_height b)))

-- the damage rectangle of item n, and the pixels that it covers
pub record DamageExact (b b' : List ℕ) (n : ℕ) : Type 0 where
  pub rectangle : signed_rectangle (damage b b' n) ≡ SignedSheet.damage b b' n
  pub pixels : (k : ℕ) → covers (damage b b' n) (column_of b k) (row_of b k) ≡ Signed.covers (SignedSheet.damage b b' n) (pos (k % frame_width b)) (pos (k / frame_width b))

pub damage_exact : (b b' : List ℕ) (n : ℕ) → SheetExact b n → SheetExact b' n → DamageExact b b' n
unfolding damage SignedSheet.damage item_ink SignedSheet.item_ink
damage_exact b b' n p q = record { rectangle = exact; pixels = λ k. sym (signed-covers (damage b b' n) (column_of b k) (row_of b k)) ∙ rw (exact, signed-origin (k % frame_width b), signed-origin (k / frame_width b)) }
  where
    exact : signed_rectangle (damage b b' n) ≡ SignedSheet.damage b b' n
    exact =
        cut_exact b (join (item_ink b n) (item_ink b' n))
        ∙ ap (SignedSheet.cut_to_frame b) (sym (signed-join (item_ink b n) (item_ink b' n)) ∙ ap (λ (a : SignedRectangle). Signed.join a (signed_rectangle (item_ink b' n))) p.text.ink_box_lem ∙ ap (Signed.join (SignedSheet.item_ink b n)) q.text.ink_box_lem)
