-- What an edit that is not refused tells of itself, and which bytes it writes. Assumes nothing.
use Prim.Native.Nat.{ℕ, ◌+◌, ◌≤◌, ◌<◌}
use mathlib.Core.Path.{◌≡◌}
use mathlib.Core.Bool.{true, ◌&&◌, and-eq-true_iff}
use mathlib.Core.List.{List}
use lib.Dec.{ltb, leb, eqb}
use lib.IntN.{ℤ}
use lib.ListN.{length, get_or}
use borrow.Author.Tests.{ltb-true, leb-true, eqb-true}
use Rattle.characters.specs.Refusal.{need}
use Rattle.characters.specs.Utf8.{well_formed}
use Rattle.sheet.specs.Fields.{item_count, item_at, slot_offset, slot_size, text_length_at, style_at}
use Rattle.limits.specs.Limits.{good_modes}
use Rattle.sheet.specs.Edits.{Edit, new_text, new_place, new_style, item_number, in_range, text_refusal, place_refusal, style_refusal, refusal, biased, edited}
use Rattle.characters.proofs.Refusals.{need_zero}
use Rattle.sheet.proofs.Stores.{length-put_text, length-put_place, length-put_style, put_text_other, put_place_other, put_style_other}

pub record TextAllowed (b : List ℕ) (i : ℕ) (t : List ℕ) : Type 0 where
  pub listed : i < item_count b
  pub short : length t ≤ slot_size b (item_at b i)
  pub well : well_formed t ≡ true

pub record PlaceAllowed (b : List ℕ) (i : ℕ) (x y : ℤ) : Type 0 where
  pub listed : i < item_count b
  pub x_in : in_range x ≡ true
  pub y_in : in_range y ≡ true

pub record StyleAllowed (b : List ℕ) (i : ℕ) (t : List ℕ) : Type 0 where
  pub listed : i < item_count b
  pub eight : length t ≡ 8
  pub modes : good_modes (get_or t 0 0) (get_or t 2 0) (get_or t 4 0) (get_or t 6 0) ≡ true

module _ (b : List ℕ) (i : ℕ) where
  pub text_allowed : (t : List ℕ) → text_refusal b i t ≡ 0 → TextAllowed b i t
  unfolding text_refusal
  text_allowed t a =
      let short = leb (length t) (slot_size b (item_at b i)) in
      let p = need_zero (ltb i (item_count b)) 11 (need short 13 (need (well_formed t) 14 0)) a in
      let q = need_zero short 12 (need (well_formed t) 14 0) p.1 in
      record { listed = ltb-true _ _ p.0; short = leb-true _ _ q.0; well = (need_zero (well_formed t) 13 0 q.1).0 }

  pub place_allowed : (x y : ℤ) → place_refusal b i x y ≡ 0 → PlaceAllowed b i x y
  unfolding place_refusal
  place_allowed x y a =
      let p = need_zero (ltb i (item_count b)) 11 (need (in_range x && in_range y) 15 0) a in
      let q = (and-eq-true_iff (in_range x) (in_range y)).0 (need_zero (in_range x && in_range y) 14 0 p.1).0 in
      record { listed = ltb-true _ _ p.0; x_in = q.0; y_in = q.1 }

  pub style_allowed : (t : List ℕ) → style_refusal b i t ≡ 0 → StyleAllowed b i t
  unfolding style_refusal
  style_allowed t a =
      let modes = good_modes (get_or t 0 0) (get_or t 2 0) (get_or t 4 0) (get_or t 6 0) in
      let test = eqb (length t) 8 && modes in
      let p = need_zero (ltb i (item_count b)) 11 (need test 16 0) a in
      let q = (and-eq-true_iff (eqb (length t) 8) modes).0 (need_zero test 15 0 p.1).0 in
      record { listed = ltb-true _ _ p.0; eight = eqb-true _ _ q.0; modes = q.1 }

pub listed : (b : List ℕ) (e : Edit) → refusal b e ≡ 0 → item_number e < item_count b
listed b (new_text i t) a = (text_allowed b i t a).listed
listed b (new_place i x y) a = (place_allowed b i x y a).listed
listed b (new_style i t) a = (style_allowed b i t a).listed

-- place k is none of those that an edit of the item whose record stands at o writes
pub record Unwritten (b : List ℕ) (o k : ℕ) : Type 0 where
  pub off_place : o ≤ k → k < o + 4 → ⊥
  pub off_length : text_length_at o ≤ k → k < text_length_at o + 2 → ⊥
  pub off_style : style_at o ≤ k → k < style_at o + 8 → ⊥
  pub off_slot : slot_offset b o ≤ k → k < slot_offset b o + slot_size b o → ⊥

pub unwritten : (b : List ℕ) (e : Edit) → refusal b e ≡ 0 → (k : ℕ) → Unwritten b (item_at b (item_number e)) k → get_or (edited b e) k 0 ≡ get_or b k 0
unwritten b (new_text i t) a k f = put_text_other b (item_at b i) t (text_allowed b i t a).short k f.off_length f.off_slot
unwritten b (new_place i x y) a k f = put_place_other b (item_at b i) (biased x) (biased y) k f.off_place
unwritten b (new_style i t) a k f = put_style_other b (item_at b i) t (style_allowed b i t a).eight k f.off_style

pub same_length : (b : List ℕ) (e : Edit) → length (edited b e) ≡ length b
same_length b (new_text i t) = length-put_text b (item_at b i) t
same_length b (new_place i x y) = length-put_place b (item_at b i) (biased x) (biased y)
same_length b (new_style i t) = length-put_style b (item_at b i) t
