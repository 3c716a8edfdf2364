-- A sheet is accepted exactly when it conforms: each test's fact, both ways, and what functions require of an accepted sheet. Assumes nothing.
use Prim.Native.Nat.{ℕ, zero, suc, ◌+◌, ◌-◌, ◌≤◌, ◌<◌}
use mathlib.Core.Path.{◌≡◌, refl, sym, ◌∙◌, ap}
use mathlib.Core.Logic.{◌↔◌}
use mathlib.Core.Bool.{Bool, true, false, and-eq-true_iff}
use mathlib.Core.List.{List, [], ◌∷◌}
use lib.Dec.{leb, eqb}
use lib.ListN.{length, get_or}
use native.Mathlib.Omega.{arith}
use borrow.Author.Tests.{leb-true, ltb-true, eqb-true, eqb-false, le-leb, lt-ltb, eq-eqb}
use mathlib.Mathlib.Data.Bool.Basic.{eq-false_of_not-eq-true}
use Rattle.std.specs.Bool.{MatchBool}
use Rattle.std.specs.List.{AllWithin, HoldsAt}
use Rattle.characters.specs.Refusal.{need, or_else, all}
use Rattle.characters.specs.Utf8.{well_formed}
use Rattle.mapping.specs.Mapping.{list_of}
use Rattle.mapping.specs.Mapping
use Rattle.limits.specs.Limits.{length_tests, frame_tests, count_tests, header_refusal, font_tests, font_limits, item_tests, item_limits}
use Rattle.limits.proofs.Modes.{known_modes, modes_known}
use Rattle.sheet.specs.Fields
use Rattle.sheet.specs.Pieces.{pieces}
use Rattle.sheet.specs.Conforming.{Headed, FontFits, ItemFits, Conforming}
use Rattle.sheet.specs.Check.{header_fields, check_header, layout_tests, is_laid_out, font_fields, check_font, item_fields, item_numbers, zeros, check_item, first_refusal, font_refusal, item_refusal, check_fonts, check_items, check}
use Rattle.sheet.specs.Accepted.{Accepted}
use Rattle.characters.proofs.Refusals.{need_zero, or_else_zero, all_true}
use Rattle.sheet.proofs.Bytes.{part_at, length_part}
use Rattle.sheet.proofs.Chains.{ends_chain, chain_ends}
use Rattle.sheet.proofs.LaidOut.{laid_out}

-- ---- the header

pub headed : (b : List ℕ) → check_header b ≡ 0 → Headed b
unfolding check_header header_refusal header_fields
headed b h =
    let f = header_fields b in
    let h₁ = need_zero (all (length_tests f)) 0 (need (eqb (Fields.edition b) 1) 2 (need (all (frame_tests f)) 3 (need (all (count_tests f)) 4 0))) h in
    let h₂ = need_zero (eqb (Fields.edition b) 1) 1 (need (all (frame_tests f)) 3 (need (all (count_tests f)) 4 0)) h₁.1 in
    let h₃ = need_zero (all (frame_tests f)) 2 (need (all (count_tests f)) 4 0) h₂.1 in
    let h₄ = need_zero (all (count_tests f)) 3 0 h₃.1 in
    record {
      edition_one = eqb-true _ _ h₂.0;
      zero_field = eqb-true _ _ (all_true (length_tests f) h₁.0 3);
      whole_length_lem = eqb-true _ _ (all_true (length_tests f) h₁.0 2);
      length_least = leb-true _ _ (all_true (length_tests f) h₁.0 0);
      length_most = leb-true _ _ (all_true (length_tests f) h₁.0 1);
      width_least = leb-true _ _ (all_true (frame_tests f) h₃.0 0);
      width_most = leb-true _ _ (all_true (frame_tests f) h₃.0 1);
      height_least = leb-true _ _ (all_true (frame_tests f) h₃.0 2);
      height_most = leb-true _ _ (all_true (frame_tests f) h₃.0 3);
      area = leb-true _ _ (all_true (frame_tests f) h₃.0 4);
      fonts_few = leb-true _ _ (all_true (count_tests f) h₄.0 0);
      items_few = leb-true _ _ (all_true (count_tests f) h₄.0 1);
    }

header_passes : (b : List ℕ) → Headed b → check_header b ≡ 0
unfolding check_header header_refusal header_fields
header_passes b h = rw (
  le-leb _ _ h.length_least,
  le-leb _ _ h.length_most,
  eq-eqb _ _ h.whole_length_lem,
  eq-eqb _ _ h.zero_field,
  eq-eqb _ _ h.edition_one,
  le-leb _ _ h.width_least,
  le-leb _ _ h.width_most,
  le-leb _ _ h.height_least,
  le-leb _ _ h.height_most,
  le-leb _ _ h.area,
  le-leb _ _ h.fonts_few,
  le-leb _ _ h.items_few,
)

-- ---- a font

module _ (b : List ℕ) (o : ℕ) where
  font-fits : check_font b o ≡ 0 → FontFits b o
  unfolding check_font font_limits font_fields Mapping.refusal
  font-fits h =
      let f = font_fields b o in
      let m = Fields.mapping_bytes b o in
      let short = leb (length (list_of m)) 65_536 in
      let e = or_else_zero (need (all (font_tests f)) 6 0) (need (well_formed m) 7 (need short 8 0)) h in
      let t = (need_zero (all (font_tests f)) 5 0 e.0).0 in
      let w = need_zero (well_formed m) 6 (need short 8 0) e.1 in
      record {
        cw_small = leb-true _ _ (all_true (font_tests f) t 0);
        ch_small = leb-true _ _ (all_true (font_tests f) t 1);
        spacing_small = leb-true _ _ (all_true (font_tests f) t 2);
        atlas_narrow = leb-true _ _ (all_true (font_tests f) t 3);
        zero_field = eqb-true _ _ (all_true (font_tests f) t 4);
        mapping_well = w.0;
        mapping_short = leb-true _ _ (need_zero short 7 0 w.1).0;
      }

  font-passes : FontFits b o → check_font b o ≡ 0
  unfolding check_font font_limits font_fields Mapping.refusal
  font-passes f = rw (
    le-leb _ _ f.cw_small,
    le-leb _ _ f.ch_small,
    le-leb _ _ f.spacing_small,
    le-leb _ _ f.atlas_narrow,
    eq-eqb _ _ f.zero_field,
    f.mapping_well,
    le-leb _ _ f.mapping_short,
  )

-- ---- an item

-- bytes that are all 0, as a fact of each
zero_at : (l : List ℕ) → zeros l ≡ true → (k : ℕ) → get_or l k 0 ≡ 0
unfolding zeros
zero_at [] h k = refl
zero_at (a ∷ l) h zero = eqb-true a 0 ((and-eq-true_iff (eqb a 0) (zeros l)).0 h).0
zero_at (a ∷ l) h (suc k) = zero_at l ((and-eq-true_iff (eqb a 0) (zeros l)).0 h).1 k

all-zeros : (l : List ℕ) → ((k : ℕ) → k < length l → get_or l k 0 ≡ 0) → zeros l ≡ true
unfolding zeros
all-zeros [] h = refl
all-zeros (a ∷ l) h = rw (eq-eqb a 0 (h 0 (omega arith))) (all-zeros l (λ k m. h (suc k) (omega arith)))

-- what `all` tells of the bytes
pub zeros_told : (l : List ℕ) (r : Bool) → MatchBool r (AllWithin (λ x. x ≡ 0) l 0 (length l)) ((k : ℕ) × (k < length l) × HoldsAt (λ x. x ≡ 0 → ⊥) l k) → r ≡ zeros l
zeros_told l true h = sym (all-zeros l (λ k m. h k 0 (omega arith) m))
zeros_told l false h = sym (eq-false_of_not-eq-true (λ t. h.2 0 (zero_at l t h.0)))

module _ (b : List ℕ) (o : ℕ) where
  item-tests : item_numbers b o ≡ 0 → all (item_tests (item_fields b o) (Fields.font_count b)) ≡ true
  unfolding item_limits
  item-tests h = (need_zero (all (item_tests (item_fields b o) (Fields.font_count b))) 8 0 h).0

  pub text_in_slot : item_numbers b o ≡ 0 → Fields.text_length b o ≤ Fields.slot_size b o
  unfolding item_fields
  text_in_slot h = leb-true _ _ (all_true (item_tests (item_fields b o) (Fields.font_count b)) (item-tests h) 1)

  item-fits : check_item b o ≡ 0 → ItemFits b o
  unfolding check_item item_fields
  item-fits h =
      let tests = item_tests (item_fields b o) (Fields.font_count b) in
      let tail = Fields.slot_tail b o in
      let well = well_formed (Fields.text_bytes b o) in
      let e = or_else_zero (item_numbers b o) (need (zeros tail) 9 (need well 10 0)) h in
      let t = item-tests e.0 in
      let m = known_modes _ _ _ _ (all_true tests t 3) in
      let w = need_zero (zeros tail) 8 (need well 10 0) e.1 in
      record {
        slot_small = leb-true _ _ (all_true tests t 0);
        text_in = leb-true _ _ (all_true tests t 1);
        font_there = ltb-true _ _ (all_true tests t 2);
        text_mode_known = m.0;
        background_mode_known = m.1;
        underline_mode_known = m.2;
        strikethrough_mode_known = m.3;
        alignment_known = leb-true _ _ (all_true tests t 4);
        baseline_known = leb-true _ _ (all_true tests t 5);
        kind_known = leb-true _ _ (all_true tests t 6);
        height_small = leb-true _ _ (all_true tests t 7);
        zero_field = eqb-true _ _ (all_true tests t 8);
        tail_zero = λ k p q.
            ap (λ (i : ℕ). get_or b i 0) (omega arith)
            ∙ sym (part_at b (Fields.slot_offset b o + Fields.text_length b o) (Fields.slot_size b o - Fields.text_length b o) (k - Fields.text_length b o) (omega arith))
            ∙ zero_at tail w.0 (k - Fields.text_length b o);
        text_well = (need_zero well 9 0 w.1).0;
      }

  pub item_passes : ItemFits b o → check_item b o ≡ 0
  unfolding check_item item_limits item_fields
  item_passes f = rw (
    le-leb _ _ f.slot_small,
    le-leb _ _ f.text_in,
    lt-ltb _ _ f.font_there,
    modes_known _ _ _ _ f.text_mode_known f.background_mode_known f.underline_mode_known f.strikethrough_mode_known,
    le-leb _ _ f.alignment_known,
    le-leb _ _ f.baseline_known,
    le-leb _ _ f.kind_known,
    le-leb _ _ f.height_small,
    eq-eqb _ _ f.zero_field,
    tail,
    f.text_well,
  )
    where
      from : ℕ
      from = Fields.slot_offset b o + Fields.text_length b o

      size : ℕ
      size = Fields.slot_size b o - Fields.text_length b o

      tail : zeros (Fields.slot_tail b o) ≡ true
      tail = all-zeros (Fields.slot_tail b o) (λ k l. part_at b from size k (omega (arith, length_part b from size)) ∙ ap (λ (i : ℕ). get_or b i 0) (omega arith) ∙ f.tail_zero (Fields.text_length b o + k) (omega arith) (omega (arith, length_part b from size)))

-- ---- records, by number

-- no record is refused
no_refusal : (f : ℕ → ℕ) (n k : ℕ) → first_refusal f n k ≡ 0 → (j : ℕ) → k ≤ j → j < k + n → f j ≡ 0
unfolding first_refusal
no_refusal f zero k h j l m = absurd (omega arith)
no_refusal f (suc n) k h j l m = go (no_refusal f n (suc k) e.1 j) (eqb j k) refl
  where
    e : (f k ≡ 0) × (first_refusal f n (suc k) ≡ 0)
    e = or_else_zero (f k) (first_refusal f n (suc k)) h

    go : (suc k ≤ j → j < suc k + n → f j ≡ 0) → (t : Bool) → eqb j k ≡ t → f j ≡ 0
    go ih true u = rw (eqb-true j k u) e.0
    go ih false u = let d = eqb-false j k u in ih (omega arith) (omega arith)

pub none_refused : (f : ℕ → ℕ) (n k : ℕ) → ((j : ℕ) → j < k + n → f j ≡ 0) → first_refusal f n k ≡ 0
unfolding first_refusal
none_refused f zero k h = refl
none_refused f (suc n) k h = rw (h k (omega arith), none_refused f n (suc k) (λ j m. h j (omega arith)))

-- ---- the whole

-- the four groups of tests
pub record Passed (b : List ℕ) : Type 0 where
  pub header : check_header b ≡ 0
  pub layout : is_laid_out b ≡ true
  pub fonts : check_fonts b ≡ 0
  pub items : check_items b ≡ 0

pub passed : (b : List ℕ) → check b ≡ 0 → Passed b
unfolding check
passed b h =
    let e₁ = or_else_zero (check_header b) (need (is_laid_out b) 5 (or_else (check_fonts b) (check_items b))) h in
    let e₂ = need_zero (is_laid_out b) 4 (or_else (check_fonts b) (check_items b)) e₁.1 in
    let e₃ = or_else_zero (check_fonts b) (check_items b) e₂.1 in
    record { header = e₁.0; layout = e₂.0; fonts = e₃.0; items = e₃.1 }

conforming : (b : List ℕ) → check b ≡ 0 → Conforming b
unfolding check_fonts check_items font_refusal item_refusal layout_tests
conforming b h =
    let p = passed b h in
    record {
      headed = headed b p.header;
      fonts_offset_lem = eqb-true _ _ (all_true (layout_tests b) p.layout 0);
      items_offset_lem = eqb-true _ _ (all_true (layout_tests b) p.layout 1);
      without_gaps = ends_chain (pieces b) (Fields.pieces_at b) (length b) (all_true (layout_tests b) p.layout 2);
      font-fits = λ k l. font-fits b (Fields.font_at k) (no_refusal (font_refusal b) (Fields.font_count b) 0 p.fonts k (omega arith) (omega arith));
      item-fits = λ j l. item-fits b (Fields.item_at b j) (no_refusal (item_refusal b) (Fields.item_count b) 0 p.items j (omega arith) (omega arith));
    }

conforming_accepted : (b : List ℕ) → Conforming b → check b ≡ 0
unfolding check check_fonts check_items font_refusal item_refusal layout_tests
conforming_accepted b g = rw (
  header_passes b g.headed,
  eq-eqb _ _ g.fonts_offset_lem,
  eq-eqb _ _ g.items_offset_lem,
  chain_ends (pieces b) (Fields.pieces_at b) (length b) g.without_gaps,
  none_refused (font_refusal b) (Fields.font_count b) 0 (λ k l. font-passes b (Fields.font_at k) (g.font-fits k (omega arith))),
) (none_refused (item_refusal b) (Fields.item_count b) 0 (λ j l. item_passes b (Fields.item_at b j) (g.item-fits j (omega arith))))

-- demand 2 (docs/DEMANDS.md): "a sheet is accepted exactly when it meets document 01's layout and limits and its texts and mappings are well-formed UTF-8"
pub accepted_exactly_when : (b : List ℕ) → (check b ≡ 0) ↔ Conforming b
accepted_exactly_when b = (conforming b, conforming_accepted b)

required : (b : List ℕ) → Conforming b → Accepted b
required b g = record { laid_out = laid_out b g.headed g.without_gaps; font-fits = g.font-fits; item-fits = g.item-fits }

pub accepted : (b : List ℕ) → check b ≡ 0 → Accepted b
accepted b h = required b ((accepted_exactly_when b).0 h)
