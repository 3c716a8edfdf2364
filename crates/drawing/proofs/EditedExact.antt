-- An accepted edit leaves a sheet of bytes whose positions and boxes are docs/SHEET.md's: the place is the one asked for, and the damage
-- rectangle is the paper's. Assumes nothing.
use Prim.Native.Nat.{ℕ, zero, suc, ◌+◌, ◌-◌, ◌<◌}
use native.Mathlib.Omega.{arith}
use mathlib.Core.Path.{◌≡◌, sym, ap, ◌∙◌}
use mathlib.Core.List.{List, [], ◌∷◌, ◌++◌}
use lib.IntN.{ℤ}
use lib.ListN.{length, set, replicate}
use lib.Seq.{sets}
use Rattle.text.specs.Signed.{SignedText}
use Rattle.sheet.specs.Fields.{le16, item_count, item_at, slot_offset, slot_size, text_length_at, style_at}
use Rattle.sheet.specs.Check.{check}
use Rattle.sheet.specs.Edits.{Edit, new_text, new_place, new_style, item_number, biased, refusal, place_refusal, edited, put_text, put_place, put_style}
use Rattle.sheet.proofs.Acceptance.{accepted}
use Rattle.sheet.proofs.Allowed.{listed, place_allowed}
use Rattle.records.proofs.EditedItem.{place-edited}
use Rattle.sheet.proofs.Stays.{stays}
use Rattle.sheet.proofs.Unchanged.{same-item_count}
use Rattle.drawing.specs.SignedSheet
use Rattle.drawing.specs.SignedSheet.{twos_complement}
use Rattle.drawing.proofs.Exact.{Bytes, stored_exact, item_exact, sheet_exact, DamageExact, damage_exact}

-- ---- bytes stay bytes

set_bytes : (l : List ℕ) (i a : ℕ) → Bytes l → a < 256 → Bytes (set l i a)
set_bytes [] i a h s k = h k
set_bytes (x ∷ xs) zero a h s zero = s
set_bytes (x ∷ xs) zero a h s (suc k) = h (suc k)
set_bytes (x ∷ xs) (suc i) a h s zero = h zero
set_bytes (x ∷ xs) (suc i) a h s (suc k) = set_bytes xs i a (λ j. h (suc j)) s k

sets_bytes : (vs l : List ℕ) (i : ℕ) → Bytes l → Bytes vs → Bytes (sets l i vs)
sets_bytes [] l i h s = h
sets_bytes (a ∷ vs) l i h s = sets_bytes vs (set l i a) (suc i) (set_bytes l i a h (s 0)) (λ k. s (suc k))

padded_bytes : (t : List ℕ) (n : ℕ) → Bytes t → Bytes (t ++ replicate n 0)
padded_bytes [] zero h k = omega arith
padded_bytes [] (suc n) h zero = omega arith
padded_bytes [] (suc n) h (suc k) = padded_bytes [] n h k
padded_bytes (x ∷ xs) n h zero = h zero
padded_bytes (x ∷ xs) n h (suc k) = padded_bytes xs n (λ j. h (suc j)) k

le16_bytes : (n : ℕ) → Bytes (le16 n)
unfolding le16
le16_bytes n zero = omega arith
le16_bytes n (suc zero) = omega arith
le16_bytes n (suc (suc k)) = omega arith

-- the data of an edit are bytes
abbrev pub EditBytes : Edit → Type 0
EditBytes (new_text i t) = Bytes t
EditBytes (new_place i x y) = Unit {0}
EditBytes (new_style i t) = Bytes t

edited_bytes : (b : List ℕ) (e : Edit) → Bytes b → EditBytes e → Bytes (edited b e)
unfolding put_text put_place put_style
edited_bytes b (new_text i t) h s =
    let o = item_at b i in
    let b' = sets b (text_length_at o) (le16 (length t)) in
    sets_bytes (t ++ replicate (slot_size b o - length t) 0) b' (slot_offset b o) (sets_bytes (le16 (length t)) b (text_length_at o) h (le16_bytes (length t))) (padded_bytes t (slot_size b o - length t) s)
edited_bytes b (new_place i x y) h s =
    let o = item_at b i in
    sets_bytes (le16 (biased y)) (sets b o (le16 (biased x))) (o + 2) (sets_bytes (le16 (biased x)) b o h (le16_bytes (biased x))) (le16_bytes (biased y))
edited_bytes b (new_style i t) h s = sets_bytes t b (style_at (item_at b i)) h s

-- ---- the theorems

-- the damage rectangle of an accepted edit
pub edit_exact : (b : List ℕ) (e : Edit) → Bytes b → EditBytes e → check b ≡ 0 → refusal b e ≡ 0 → DamageExact b (edited b e) (item_number e)
edit_exact b e h s c a =
    let n = item_number e in
    let there : n < item_count b = listed b e a in
    let there' : n < item_count (edited b e) = rw (same-item_count b e (accepted b c) a) there in
    damage_exact b (edited b e) n (sheet_exact b h c n there) (sheet_exact (edited b e) (edited_bytes b e h s) (stays b e c a) n there')

-- an accepted new place: the bytes stored are those of its two signed numbers, and these are read back
pub record PlaceExact (b : List ℕ) (i : ℕ) (x y : ℤ) : Type 0 where
  pub bytes : edited b (new_place i x y) ≡ sets (sets b (item_at b i) (le16 (twos_complement x))) (item_at b i + 2) (le16 (twos_complement y))
  pub read : (SignedSheet.item (edited b (new_place i x y)) i).position ≡ record { x = x; y = y }

pub place_exact : (b : List ℕ) (i : ℕ) (x y : ℤ) → check b ≡ 0 → place_refusal b i x y ≡ 0 → PlaceExact b i x y
unfolding put_place
place_exact b i x y c a =
    let f = place_allowed b i x y a in
    let s = stored_exact in
    record {
      bytes = rw (s.bytes x f.x_in, s.bytes y f.y_in);
      read =
          ap (λ (t : SignedText). t.position) (sym (item_exact (edited b (new_place i x y)) i))
          ∙ rw (place-edited b i (accepted b c) x y a, s.signed-biased x f.x_in, s.signed-biased y f.y_in);
    }
