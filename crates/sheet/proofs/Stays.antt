-- An accepted edit of an accepted sheet leaves an accepted sheet: each group of tests gives what it gave before, and the edited
-- item passes its tests. Assumes nothing.
use Prim.Native.Nat.{ℕ, zero, suc, ◌+◌, ◌≤◌, ◌<◌}
use mathlib.Core.Path.{◌≡◌, refl, ◌∙◌}
use mathlib.Core.Bool.{Bool, true, false}
use mathlib.Core.List.{List}
use lib.Dec.{eqb}
use lib.ListN.{length, get_or}
use native.Mathlib.Omega.{arith}
use borrow.Author.Tests.{eqb-true, eqb-false}
use Rattle.characters.specs.Utf8.{well_formed}
use Rattle.limits.specs.Limits.{good_modes}
use Rattle.limits.proofs.Modes.{known_modes, modes_known}
use Rattle.sheet.specs.Fields
use Rattle.sheet.specs.Fields.{part, font_count, item_count, font_at, item_at, slot_offset, slot_size, text_length}
use Rattle.sheet.specs.Pieces.{font_pieces, slot_pieces, pieces}
use Rattle.sheet.specs.Conforming.{ItemFits}
use Rattle.sheet.specs.Check.{header_fields, check_header, layout_tests, font_fields, check_font, first_refusal, font_refusal, item_refusal, check_fonts, check_items, check}
use Rattle.sheet.specs.Accepted.{ItemIn, Accepted}
use Rattle.sheet.specs.Edits.{Edit, new_text, new_place, new_style, item_number, refusal, biased, put_text, put_place, put_style, edited}
use Rattle.sheet.proofs.Chains.{same-pieces_of}
use Rattle.sheet.proofs.Acceptance.{item_passes, none_refused, passed, accepted}
use Rattle.sheet.proofs.Bytes.{SameBytes, same-le16_at, same-le32_at, same-part}
use Rattle.sheet.proofs.Stores.{length-put_place, length-put_style, put_text_other, put_place_other, put_style_other, put_text-length, put_text_text, put_text_tail, put_style_at}
use Rattle.sheet.proofs.Allowed.{text_allowed, style_allowed, listed, unwritten, same_length}
use Rattle.sheet.proofs.Unchanged.{same_head, same-frame_width, same-frame_height, same-font_count, same-item_count, same_record, same_slot, same_slot_fields, same_mapping}

-- ---- the item whose record stands at o, in a file b and in a file b'

abbrev modes : List ℕ → ℕ → Bool
modes b o = good_modes (Fields.text_mode b o) (Fields.background_mode b o) (Fields.underline_mode b o) (Fields.strikethrough_mode b o)

-- what an edit may change of its item; slot and text are read in b' where b has the slot
record Changed (b b' : List ℕ) (o : ℕ) : Type 0 where
  text_in : text_length b' o ≤ slot_size b o
  modes_known : modes b' o ≡ true
  tail_zero : (k : ℕ) → text_length b' o ≤ k → k < slot_size b o → get_or b' (slot_offset b o + k) 0 ≡ 0
  text_well : well_formed (part b' (slot_offset b o) (text_length b' o)) ≡ true

module _ (b b' : List ℕ) (o : ℕ) (f : ItemFits b o) where
  same-modes : SameBytes b b' (o + 13) 8 → modes b' o ≡ true
  same-modes s = rw (s (o + 13) (omega arith) (omega arith), s (o + 15) (omega arith) (omega arith), s (o + 17) (omega arith) (omega arith), s (o + 19) (omega arith) (omega arith))
      (modes_known _ _ _ _ f.text_mode_known f.background_mode_known f.underline_mode_known f.strikethrough_mode_known)

  -- the other fields as before
  changed-fits : font_count b' ≡ font_count b → SameBytes b b' (o + 4) 6 → SameBytes b b' (o + 12) 1 → SameBytes b b' (o + 21) 7 → Changed b b' o → ItemFits b' o
  changed-fits n slot number rest c =
      let offset = same-le32_at b b' (o + 4) (λ k p q. slot k (omega arith) (omega arith)) in
      let size = same-le16_at b b' (o + 8) (λ k p q. slot k (omega arith) (omega arith)) in
      let m = known_modes _ _ _ _ c.modes_known in
      record {
        slot_small = rw size f.slot_small;
        text_in = rw size c.text_in;
        font_there = rw (number (o + 12) (omega arith) (omega arith), n) f.font_there;
        text_mode_known = m.0;
        background_mode_known = m.1;
        underline_mode_known = m.2;
        strikethrough_mode_known = m.3;
        alignment_known = rw (rest (o + 21) (omega arith) (omega arith)) f.alignment_known;
        baseline_known = rw (rest (o + 22) (omega arith) (omega arith)) f.baseline_known;
        kind_known = rw (rest (o + 23) (omega arith) (omega arith)) f.kind_known;
        height_small = rw (same-le16_at b b' (o + 24) (λ k p q. rest k (omega arith) (omega arith))) f.height_small;
        zero_field = rw (same-le16_at b b' (o + 26) (λ k p q. rest k (omega arith) (omega arith))) f.zero_field;
        tail_zero = rw (offset, size) c.tail_zero;
        text_well = rw offset c.text_well;
      }

  -- the text's length and the slot as before
  same_text : length b' ≡ length b → SameBytes b b' (o + 10) 2 → SameBytes b b' (slot_offset b o) (slot_size b o) → modes b' o ≡ true → Changed b b' o
  same_text l n s m =
      let size = same-le16_at b b' (o + 10) n in
      let t = f.text_in in
      record {
        text_in = rw size f.text_in;
        modes_known = m;
        tail_zero = λ k p q. s (slot_offset b o + k) (omega arith) (omega arith) ∙ f.tail_zero k (omega arith) q;
        text_well = rw (size, same-part b b' (slot_offset b o) (text_length b o) l (λ k p q. s k (omega arith) (omega arith))) f.text_well;
      }

-- the item that an edit names; its slot stands after its record
module _ (b : List ℕ) (o : ℕ) (within : ItemIn b o) (after : o + 28 ≤ slot_offset b o) (f : ItemFits b o) where
  text-changed : (t : List ℕ) → length t ≤ slot_size b o → well_formed t ≡ true → Changed b (put_text b o t) o
  text-changed t short well =
      let size = put_text-length b o t short within after f.slot_small in
      record {
        text_in = rw size short;
        modes_known = same-modes b (put_text b o t) o f (λ k p q. put_text_other b o t short k (omega arith) (omega arith));
        tail_zero = rw size (put_text_tail b o t short within);
        text_well = rw (size, put_text_text b o t short within) well;
      }

  place-changed : (x y : ℕ) → Changed b (put_place b o x y) o
  place-changed x y =
      let same : (k : ℕ) → o + 4 ≤ k → get_or (put_place b o x y) k 0 ≡ get_or b k 0 = λ k l. put_place_other b o x y k (omega arith) in
      same_text b (put_place b o x y) o f (length-put_place b o x y) (λ k p q. same k (omega arith)) (λ k p q. same k (omega arith))
      (same-modes b (put_place b o x y) o f (λ k p q. same k (omega arith)))

  style-changed : (t : List ℕ) → length t ≡ 8 → good_modes (get_or t 0 0) (get_or t 2 0) (get_or t 4 0) (get_or t 6 0) ≡ true → Changed b (put_style b o t) o
  style-changed t eight m =
      let at = put_style_at b o t eight within.record_in in
      same_text b (put_style b o t) o f (length-put_style b o t) (λ k p q. put_style_other b o t eight k (omega arith)) (λ k p q. put_style_other b o t eight k (omega arith))
      (rw (at 0 (o + 13) (omega arith) (omega arith), at 2 (o + 15) (omega arith) (omega arith), at 4 (o + 17) (omega arith) (omega arith), at 6 (o + 19) (omega arith) (omega arith)) m)

same-first_refusal : (f g : ℕ → ℕ) (n k : ℕ) → ((j : ℕ) → k ≤ j → j < k + n → f j ≡ g j) → first_refusal f n k ≡ first_refusal g n k
unfolding first_refusal
same-first_refusal f g zero k h = refl
same-first_refusal f g (suc n) k h = rw (h k (omega arith) (omega arith), same-first_refusal f g n (suc k) (λ j l m. h j (omega arith) (omega arith)))

-- ---- one accepted edit of an accepted sheet

module _ (b : List ℕ) (e : Edit) (g : Accepted b) (a : refusal b e ≡ 0) where
  head : (k : ℕ) → k < font_at (font_count b) → get_or (edited b e) k 0 ≡ get_or b k 0
  head = same_head b e g a

  fonts : font_count (edited b e) ≡ font_count b
  fonts = same-font_count b e g a

  header-stays : check_header (edited b e) ≡ check_header b
  unfolding check_header header_fields
  header-stays = rw (
    same_length b e,
    same-le32_at b (edited b e) 20 (λ k p q. head k (omega arith)),
    same-le16_at b (edited b e) 10 (λ k p q. head k (omega arith)),
    same-le16_at b (edited b e) 0 (λ k p q. head k (omega arith)),
    same-frame_width b e g a,
    same-frame_height b e g a,
    fonts,
    same-item_count b e g a,
  )

  pieces-stay : pieces (edited b e) ≡ pieces b
  unfolding pieces font_pieces slot_pieces
  pieces-stay = rw (
    fonts,
    same-item_count b e g a,
    same-pieces_of (font_pieces (edited b e)) (font_pieces b) (font_count b) 0 (λ k p q. rw (
      same-le32_at b (edited b e) (font_at k) (λ j r s. head j (omega arith)),
      same-le32_at b (edited b e) (font_at k + 4) (λ j r s. head j (omega arith)),
      same-le32_at b (edited b e) (font_at k + 8) (λ j r s. head j (omega arith)),
      same-le16_at b (edited b e) (font_at k + 12) (λ j r s. head j (omega arith)),
    )),
    same-pieces_of (slot_pieces (edited b e)) (slot_pieces b) (item_count b) 0 (λ k p q. rw (
      fonts,
      same-le32_at b (edited b e) (item_at b k + 4) (λ j r s. same_slot_fields b e g a k (omega arith) j (omega arith) (omega arith)),
      same-le16_at b (edited b e) (item_at b k + 8) (λ j r s. same_slot_fields b e g a k (omega arith) j (omega arith) (omega arith)),
    )),
  )

  layout_stays : layout_tests (edited b e) ≡ layout_tests b
  unfolding layout_tests
  layout_stays = rw (
    same-le32_at b (edited b e) 12 (λ k p q. head k (omega arith)),
    same-le32_at b (edited b e) 16 (λ k p q. head k (omega arith)),
    fonts,
    same-item_count b e g a,
    same_length b e,
    pieces-stay,
  )

  font-stays : (k : ℕ) → k < font_count b → font_refusal (edited b e) k ≡ font_refusal b k
  unfolding font_refusal check_font font_fields
  font-stays k h = rw (
    head (font_at k + 18) (omega arith),
    head (font_at k + 19) (omega arith),
    head (font_at k + 20) (omega arith),
    same-le16_at b (edited b e) (font_at k + 16) (λ j q r. head j (omega arith)),
    same-le16_at b (edited b e) (font_at k + 26) (λ j q r. head j (omega arith)),
    same_mapping b e g a k h,
  )

  fonts-stay : check_fonts (edited b e) ≡ check_fonts b
  unfolding check_fonts
  fonts-stay = rw fonts (same-first_refusal (font_refusal (edited b e)) (font_refusal b) (font_count b) 0 (λ j p q. font-stays j (omega arith)))

  changed : Changed b (edited b e) (item_at b (item_number e))
  changed = go e a (g.laid_out.item_in (item_number e) (listed b e a)) (omega (arith, g.laid_out.slot_after (item_number e) (listed b e a), listed b e a)) (g.item-fits (item_number e) (listed b e a))
    where
      go : (e : Edit) → refusal b e ≡ 0 → ItemIn b (item_at b (item_number e)) → item_at b (item_number e) + 28 ≤ slot_offset b (item_at b (item_number e)) → ItemFits b (item_at b (item_number e))
          → Changed b (edited b e) (item_at b (item_number e))
      go (new_text i t) a p q f = let n = text_allowed b i t a in text-changed b (item_at b i) p q f t n.short n.well
      go (new_place i x y) a p q f = place-changed b (item_at b i) p q f (biased x) (biased y)
      go (new_style i t) a p q f = let n = style_allowed b i t a in style-changed b (item_at b i) p q f t n.eight n.modes

  fits_after : (j : ℕ) → j < item_count b → ItemFits (edited b e) (item_at b j)
  fits_after j h = go (eqb j (item_number e)) refl
    where
      own : ItemFits (edited b e) (item_at b (item_number e))
      own =
          let l = listed b e a in
          let s = g.laid_out.slot_after (item_number e) l in
          changed-fits b (edited b e) (item_at b (item_number e)) (g.item-fits (item_number e) l) fonts (same_slot_fields b e g a (item_number e) l)
          (λ k p q. unwritten b e a k (omega arith)) (λ k p q. unwritten b e a k (omega arith)) changed

      go : (t : Bool) → eqb j (item_number e) ≡ t → ItemFits (edited b e) (item_at b j)
      go true u = rw (eqb-true j (item_number e) u) own
      go false u =
          let d = eqb-false j (item_number e) u in
          let r = same_record b e g a j h d in
          let f = g.item-fits j h in
          changed-fits b (edited b e) (item_at b j) f fonts (λ k p q. r k (omega arith) (omega arith)) (λ k p q. r k (omega arith) (omega arith)) (λ k p q. r k (omega arith) (omega arith))
          (same_text b (edited b e) (item_at b j) f (same_length b e) (λ k p q. r k (omega arith) (omega arith)) (same_slot b e g a j h d)
          (same-modes b (edited b e) (item_at b j) f (λ k p q. r k (omega arith) (omega arith))))

  item-stays : (j : ℕ) → j < item_count b → item_refusal (edited b e) j ≡ 0
  unfolding item_refusal
  item-stays j h = rw fonts (item_passes (edited b e) (item_at b j) (fits_after j h))

  items_stay : check_items (edited b e) ≡ 0
  unfolding check_items
  items_stay = rw (same-item_count b e g a) (none_refused (item_refusal (edited b e)) (item_count b) 0 (λ j h. item-stays j (omega arith)))

pub stays : (b : List ℕ) (e : Edit) → check b ≡ 0 → refusal b e ≡ 0 → check (edited b e) ≡ 0
unfolding check
stays b e c a =
    let g = accepted b c in
    let p = passed b c in
    rw (header-stays b e g a, layout_stays b e g a, fonts-stay b e g a, items_stay b e g a, p.header, p.layout, p.fonts)
