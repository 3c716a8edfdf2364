-- What the stores leave: bytes of a number, bytes and then zeros, and a part of the file replaced. Assumes nothing.
use Prim.Native.Nat.{ℕ, ◌+◌, ◌-◌, ◌≤◌}
use mathlib.Core.Path.{◌≡◌, ◌∙◌, ap}
use mathlib.Core.Bool.{true}
use mathlib.Core.List.{List, ◌++◌}
use lib.IntN.{ℤ}
use lib.ListN.{length, take, drop, replicate, length-take, length-drop}
use lib.Seq.{sets, length-sets}
use native.Mathlib.Omega.{arith}
use mir.Syntax.{w32}
use mir.Val.{SFits}
use mir.Facts.{to_z-of_z}
use Rattle.geometry.proofs.Stores.{part_stored}
use Rattle.sheet.specs.Fields.{le16_at, le32_at, le16, item_at}
use Rattle.sheet.specs.Requires.{EditAllowed, TextFits, StyleFits}
use Rattle.sheet.specs.Edits.{new_text, new_place, new_style, in_range, put_text}
use Rattle.sheet.proofs.Bytes.{length_padded}
use Rattle.sheet.proofs.Allowed.{text_allowed, place_allowed, style_allowed}
use Rattle.edits.proofs.Signed.{read}

-- ---- a part of the file replaced, the n bytes from a on

mid_length : (l : List ℕ) (a n : ℕ) → a + n ≤ length l → length (take (a + n - a) (drop a l)) ≡ n
mid_length l a n h = simp (length-take, length-drop) (omega arith)

-- the code's stores are the definition's
pub text_stored : (b : List ℕ) (o a n : ℕ) (t s vs : List ℕ) → TextFits b o t → a ≡ le32_at b (o + 4) → n ≡ le16_at b (o + 8) → s ≡ sets b (o + 10) (le16 (length t))
    → vs ≡ t ++ replicate (length (take (a + n - a) (drop a s)) - length t) 0 → take a s ++ (vs ++ drop (a + n - a) (drop a s)) ≡ put_text b o t
unfolding put_text
text_stored b o a n t s vs g ea en es ev =
    let l : length s ≡ length b = ap length es ∙ length-sets b (o + 10) (le16 (length t)) in
    let h = g.short in
    let r : a + n ≤ length s = omega (arith, g.item_in.slot_in) in
    let v : vs ≡ t ++ replicate (n - length t) 0 = ev ∙ rw (mid_length s a n r) in
    let z : length vs ≡ n = ap length v ∙ length_padded t n (omega arith) in
    part_stored s vs a n r z ∙ rw (v, es, ← ea, ← en)

-- ---- an edit that is allowed fits

module _ (b : List ℕ) (i o : ℕ) (e : o ≡ item_at b i) where
  pub text_fits : (t : List ℕ) → EditAllowed b (new_text i t) → TextFits b o t
  text_fits t g = let f = text_allowed b i t g.allowed in record { item_in = rw e (g.accepted.laid_out.item_in i f.listed); short = rw e f.short }

  pub style_fits : (t : List ℕ) → EditAllowed b (new_style i t) → StyleFits b o t
  style_fits t g = let f = style_allowed b i t g.allowed in record { record_in = rw e (g.accepted.laid_out.item_in i f.listed).record_in; eight = f.eight }

  pub place-fits : (x y : ℤ) → EditAllowed b (new_place i x y) → o + 28 ≤ length b
  place-fits x y g = rw e (g.accepted.laid_out.item_in i (place_allowed b i x y g.allowed).listed).record_in

-- the coordinates of a place that is allowed, as the code reads them
module _ (b : List ℕ) (i : ℕ) (x y : ℤ) (g : EditAllowed b (new_place i x y)) where
  pub x_in_range : SFits w32 x → in_range (read x) ≡ true
  x_in_range f = ap in_range (to_z-of_z {z = x} f) ∙ (place_allowed b i x y g.allowed).x_in

  pub y_in_range : SFits w32 y → in_range (read y) ≡ true
  y_in_range f = ap in_range (to_z-of_z {z = y} f) ∙ (place_allowed b i x y g.allowed).y_in
