-- Laws of the three stores in the item whose record stands at o: what is read back, and what each leaves elsewhere. Assumes nothing.
use Prim.Native.Nat.{ℕ, suc, ◌+◌, ◌-◌, ◌%◌, ◌≤◌, ◌<◌}
use mathlib.Core.Path.{◌≡◌, ◌∙◌, ap}
use mathlib.Core.Bool.{true}
use mathlib.Core.List.{List, ◌++◌}
use lib.IntN.{ℤ, pos, negsuc}
use lib.ListN.{length, get_or, replicate, get_or-eq_default}
use lib.Seq.{sets, length-sets, take-append_seam}
use native.Mathlib.Omega.{arith}
use borrow.Author.Tests.{ltb-true, lt-ltb, le-ltb}
use Rattle.geometry.specs.Layer.{origin}
use Rattle.sheet.specs.Fields.{le16_at, part, le16, coordinate, slot_offset, slot_size, text_length_at, text_length, style_at}
use Rattle.sheet.specs.Accepted.{ItemIn}
use Rattle.sheet.specs.Edits.{in_range, biased, put_text, put_place, put_style}
use Rattle.sheet.proofs.Bytes.{sets_other, sets_at, sets_part, le16_at_sets, length_padded, padded_at, same-le16_at}

-- ---- lengths

pub length-put_text : (b : List ℕ) (o : ℕ) (t : List ℕ) → length (put_text b o t) ≡ length b
unfolding put_text
length-put_text b o t = simp length-sets

pub length-put_place : (b : List ℕ) (o x y : ℕ) → length (put_place b o x y) ≡ length b
unfolding put_place
length-put_place b o x y = simp length-sets

pub length-put_style : (b : List ℕ) (o : ℕ) (t : List ℕ) → length (put_style b o t) ≡ length b
unfolding put_style
length-put_style b o t = simp length-sets

-- ---- a new text

module _ (b : List ℕ) (o : ℕ) (t : List ℕ) (short : length t ≤ slot_size b o) where
  -- what is stored in the slot, and the file with the new length
  abbrev padded : List ℕ
  padded = t ++ replicate (slot_size b o - length t) 0

  abbrev resized : List ℕ
  resized = sets b (text_length_at o) (le16 (length t))

  size : length padded ≡ slot_size b o
  size = length_padded t (slot_size b o) short

  module _ (within : ItemIn b o) where
    room : slot_offset b o + length padded ≤ length resized
    room = omega (arith, size, length-sets b (text_length_at o) (le16 (length t)), within.slot_in)

    pub put_text_tail : (k : ℕ) → length t ≤ k → k < slot_size b o → get_or (put_text b o t) (slot_offset b o + k) 0 ≡ 0
    unfolding put_text
    put_text_tail k p q = sets_at padded resized (slot_offset b o) k room (omega (arith, size)) ∙ padded_at t (slot_size b o - length t) k ∙ get_or-eq_default t 0 p

    pub put_text_text : part (put_text b o t) (slot_offset b o) (length t) ≡ t
    unfolding put_text
    put_text_text =
        ap (λ (k : ℕ). part (put_text b o t) k (length t)) (omega arith)
        ∙ sets_part padded resized (slot_offset b o) 0 (length t) room (omega (arith, size))
        ∙ take-append_seam t (replicate (slot_size b o - length t) 0)

    pub put_text-length : o + 28 ≤ slot_offset b o → slot_size b o ≤ 256 → text_length (put_text b o t) o ≡ length t
    unfolding put_text
    put_text-length after small =
        same-le16_at resized (put_text b o t) (text_length_at o) (λ k p q. sets_other padded resized (slot_offset b o) k (omega arith))
        ∙ le16_at_sets b (text_length_at o) (length t) (omega (arith, within.record_in))
        ∙ omega arith

  pub put_text_other : (k : ℕ) → (text_length_at o ≤ k → k < text_length_at o + 2 → ⊥) → (slot_offset b o ≤ k → k < slot_offset b o + slot_size b o → ⊥) → get_or (put_text b o t) k 0 ≡ get_or b k 0
  unfolding put_text le16
  put_text_other k off_length off_slot =
      sets_other padded resized (slot_offset b o) k (λ p q. off_slot p (omega (arith, size))) ∙ sets_other (le16 (length t)) b (text_length_at o) k (λ p q. off_length p (omega arith))

-- ---- a new place

module _ (b : List ℕ) (o x y : ℕ) where
  pub put_place_x : o + 28 ≤ length b → le16_at (put_place b o x y) o ≡ x % 65_536
  unfolding put_place le16
  put_place_x within = same-le16_at (sets b o (le16 x)) (put_place b o x y) o (λ k p q. sets_other (le16 y) (sets b o (le16 x)) (o + 2) k (omega arith)) ∙ le16_at_sets b o x (omega arith)

  pub put_place_y : o + 28 ≤ length b → le16_at (put_place b o x y) (o + 2) ≡ y % 65_536
  unfolding put_place
  put_place_y within = le16_at_sets (sets b o (le16 x)) (o + 2) y (omega (arith, length-sets b o (le16 x)))

  pub put_place_other : (k : ℕ) → (o ≤ k → k < o + 4 → ⊥) → get_or (put_place b o x y) k 0 ≡ get_or b k 0
  unfolding put_place le16
  put_place_other k off = sets_other (le16 y) (sets b o (le16 x)) (o + 2) k (λ p q. off (omega arith) (omega arith)) ∙ sets_other (le16 x) b o k (λ p q. off (omega arith) (omega arith))

-- ---- a place stored is the place read

pub coordinate-biased : (z : ℤ) → in_range z ≡ true → coordinate (biased z % 65_536) ≡ biased z
unfolding in_range coordinate biased
coordinate-biased (pos n) h =
    let l = ltb-true n 32_768 h in
    rw (lt-ltb ((origin + n) % 65_536) 32_768 (omega arith)) (omega arith)
coordinate-biased (negsuc n) h =
    let l = ltb-true n 32_768 h in
    rw (le-ltb ((origin - suc n) % 65_536) 32_768 (omega arith)) (omega arith)

-- ---- a new style

module _ (b : List ℕ) (o : ℕ) (t : List ℕ) (eight : length t ≡ 8) where
  pub put_style_at : o + 28 ≤ length b → (d k : ℕ) → d < 8 → k ≡ style_at o + d → get_or (put_style b o t) k 0 ≡ get_or t d 0
  unfolding put_style
  put_style_at within d k h e = rw e (sets_at t b (style_at o) d (omega arith) (omega arith))

  pub put_style_other : (k : ℕ) → (style_at o ≤ k → k < style_at o + 8 → ⊥) → get_or (put_style b o t) k 0 ≡ get_or b k 0
  unfolding put_style
  put_style_other k off = sets_other t b (style_at o) k (λ p q. off p (omega arith))
