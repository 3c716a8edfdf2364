-- One law for each way out of a test over the whole sheet. Assumes nothing.
use Prim.Native.Nat.{ℕ, ◌+◌, ◌-◌, ◌≤◌, ◌<◌}
use mathlib.Core.Path.{◌≡◌, refl, sym, ap, ◌∙◌}
use mathlib.Core.Bool.{Bool, true, false, true≢false, and-true, and-false}
use mathlib.Core.List.{List}
use mathlib.Mathlib.Data.Bool.Basic.{eq-false_of_not-eq-true}
use lib.Dec.{leb, eqb}
use lib.ListN.{length}
use native.Mathlib.Omega.{arith}
use borrow.Author.Tests.{eq-eqb, ne_eqb, leb-true}
use Rattle.limits.specs.declared.ItemFields.{ItemFields}
use Rattle.limits.specs.Limits.{header_refusal, item_limits}
use Rattle.std.specs.Prelude.{Option, None, Some, IsSome, Result, Err}
use Rattle.std.specs.Option.{option_eq, ok_or}
use Rattle.std.specs.Result.{IsErrAnd}
use Rattle.refusals.specs.declared.Refusal.{Refusal}
use Rattle.refusals.specs.declared.Refusal.TheVariants.{Length}
use Rattle.refusals.specs.Numbers.{refusal_of}
use Rattle.refusals.proofs.Numbers.{not_zero}
use Rattle.sheet.specs.Fields.{le16_at, le32_at, fonts_offset, items_offset, font_count, item_count, font_at, item_at, pieces_at}
use Rattle.sheet.specs.Pieces.{font_pieces, slot_pieces, pieces_of, pieces}
use Rattle.sheet.specs.Conforming.{Headed}
use Rattle.sheet.specs.Check.{reach, ends_at, header_fields, layout_tests, is_laid_out, item_fields, item_numbers, check_header, check_fonts, check_items, check}
use Rattle.sheet.specs.Accepted.{FontIn, ItemIn, LaidOut, Accepted}
use Rattle.characters.proofs.Refusals.{handed_on, all_true}
use Rattle.sheet.proofs.Chains.{ends_chain, chain_le, then_reach, reach-append}
use Rattle.sheet.proofs.LaidOut.{laid_out}
use Rattle.sheet.proofs.Acceptance.{headed, text_in_slot, accepted}

-- ---- the layout

module _ (b : List ℕ) (p : ℕ) (r : Option ℕ) (e : r ≡ reach (pieces_of (font_pieces b) (font_count b) 0) p) where
  whole : reach (pieces b) p ≡ then_reach r (pieces_of (slot_pieces b) (item_count b) 0)
  unfolding pieces
  whole = rw e (reach-append (pieces_of (font_pieces b) (font_count b) 0) (pieces_of (slot_pieces b) (item_count b) 0) p)

pub fonts_misplaced : (b : List ℕ) (p : ℕ) → None ≡ reach (pieces_of (font_pieces b) (font_count b) 0) p → None ≡ reach (pieces b) p
fonts_misplaced b p e = sym (whole b p None e)

pub slots_from : (b : List ℕ) (p q : ℕ) (s : Option ℕ) → Some q ≡ reach (pieces_of (font_pieces b) (font_count b) 0) p → s ≡ reach (pieces_of (slot_pieces b) (item_count b) 0) q → s ≡ reach (pieces b) p
slots_from b p q s e k = k ∙ sym (whole b p (Some q) e)

-- a place compared with the end of the file
at_end : (r : Option ℕ) (n : ℕ) → option_eq eqb r (Some n) ≡ ends_at r n
at_end None n = refl
at_end (Some p) n = refl

module _ (b : List ℕ) where
  pub fonts_elsewhere : (w : ℕ) → w ≡ le32_at b 12 → (w ≡ 24 → ⊥) → false ≡ is_laid_out b
  unfolding layout_tests
  fonts_elsewhere w e h = rw (← e, ne_eqb _ _ h)

  pub items_elsewhere : (w f n : ℕ) → w ≡ le32_at b 16 → f ≡ font_at n → n ≡ font_count b → (w ≡ f → ⊥) → false ≡ is_laid_out b
  unfolding layout_tests
  items_elsewhere w f n e ef en h = rw (← e, ← en, ← ef, ne_eqb _ _ h, and-false (eqb (fonts_offset b) 24))

  ends-elsewhere : ends_at (reach (pieces b) (pieces_at b)) (length b) ≡ false → false ≡ is_laid_out b
  unfolding layout_tests
  ends-elsewhere h = rw (h, and-false (eqb (items_offset b) (font_at (font_count b))), and-false (eqb (fonts_offset b) 24))

  module _ (from n : ℕ) (ef : from ≡ item_at b n) (en : n ≡ item_count b) where
    pub records_out : length b < from → false ≡ is_laid_out b
    records_out h = ends-elsewhere (eq-false_of_not-eq-true (λ t. let r = chain_le (pieces b) (pieces_at b) (length b) (ends_chain (pieces b) (pieces_at b) (length b) t) in omega arith))

    pub laid_out_is : (r : Option ℕ) (t : Bool) (v w f m : ℕ) → r ≡ reach (pieces b) from → t ≡ option_eq eqb r (Some (length b)) → v ≡ le32_at b 12 → v ≡ 24 → w ≡ le32_at b 16 → f ≡ font_at m → m ≡ font_count b → w ≡ f
        → t ≡ is_laid_out b
    unfolding layout_tests
    laid_out_is r t v w f m er et ev e₁ ew fm em e₂ = rw (← en, ← ef, ← er, ← ev, ← ew, ← em, ← fm, eq-eqb _ _ e₁, eq-eqb _ _ e₂) (et ∙ at_end r (length b) ∙ sym (and-true (ends_at r (length b))))

-- ---- a font

pub font_in_at : (b c : List ℕ) (n k o : ℕ) → LaidOut b → n ≡ font_count b → k < n → c ≡ b → o ≡ font_at k → FontIn c o
font_in_at b c n k o g e h s q = rw (s, q) (g.font_in k (omega arith))

-- ---- an item

module _ (b : List ℕ) (o fonts : ℕ) (i : ItemFields) (ei : i ≡ item_fields b o) (ef : fonts ≡ font_count b) (z : 0 ≡ item_limits i fonts) (size len : ℕ) (ez : size ≡ le16_at b (o + 8)) (el : len ≡ le16_at b (o + 10)) where
  numbers : item_numbers b o ≡ 0
  numbers = rw (← ei, ← ef, ← z)

  pub text_fits : len ≤ size
  text_fits = omega (arith, text_in_slot b o numbers)

  module _ (slot : ℕ) (ea : slot ≡ le32_at b (o + 4)) (g : ItemIn b o) where
    pub text_in : slot + len ≤ length b
    text_in = omega (arith, text_fits, g.slot_in)

    pub tail_in : slot + len + (size - len) ≤ length b
    tail_in = omega (arith, text_fits, g.slot_in)

pub item_in_at : (b c : List ℕ) (n k o : ℕ) → LaidOut b → n ≡ item_count b → k < n → c ≡ b → o ≡ item_at b k → ItemIn c o
item_in_at b c n k o g e h s q = rw (s, q) (g.item_in k (omega arith))

-- ---- the whole

module _ (b : List ℕ) (short : 24 ≤ length b → ⊥) where
  length_refused : 1 ≡ check_header b
  unfolding check_header header_refusal header_fields
  length_refused = go (leb 24 (length b)) refl
    where
      go : (t : Bool) → leb 24 (length b) ≡ t → 1 ≡ check_header b
      go true h = absurd (short (leb-true _ _ h))
      go false h = rw h

pub short_header : {A B : Type 0} (b : List ℕ) (o : Option A) (r : Result B Refusal) (d : Refusal) → (24 ≤ length b → IsSome o) → Err d ≡ ok_or o Length → IsErrAnd r (λ e. e ≡ d) → refusal_of r ≡ check_header b
short_header b None r d f e h = handed_on r d h ∙ ap refusal_of e ∙ length_refused b (λ l. true≢false (sym (f l)))
short_header b (Some x) r d f e h = absurd (not_zero d (ap refusal_of e))

-- c is the file whose header was read
module _ (b c : List ℕ) (same : c ≡ b) (z : 0 ≡ check_header b) where
  pub header_passed : Headed c
  header_passed = rw same (headed b (sym z))

  module _ (t : Bool) (et : t ≡ is_laid_out c) (ht : t ≡ true) where
    layout : is_laid_out c ≡ true
    layout = sym et ∙ ht

    pub layout_passed : LaidOut c
    unfolding layout_tests
    layout_passed = laid_out c header_passed (ends_chain (pieces c) (pieces_at c) (length c) (all_true (layout_tests c) layout 2))

    pub all_passed : 0 ≡ check_fonts c → 0 ≡ check_items c → Accepted b
    unfolding check
    all_passed f i = accepted b (rw (← z, ← same, layout, ← f, ← i))
