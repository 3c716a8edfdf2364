-- The ink box of a line is the smallest rectangle over the rows that count and the advance (specs/Ink.antt). Assumes nothing.
use Prim.Native.Nat.{ℕ, ◌+◌, ◌-◌, ◌≤◌, ◌<◌}
use native.Mathlib.Omega.{arith}
use mathlib.Core.Path.{◌≡◌, refl, sym, ◌∙◌}
use mathlib.Core.Bool.{Bool, true, false, true≢false}
use mathlib.Core.Logic.{◌⊎◌, inl, inr}
use lib.Dec.{eqb}
use borrow.Author.Tests.{eqb-true, eqb-false}
use Rattle.geometry.specs.declared.Rectangle.{Rectangle}
use Rattle.geometry.specs.Rectangle.{is_empty, envelope}
use Rattle.geometry.proofs.Rectangles.{covers_in, in_covers, in_not_empty, not_empty, empty_if, Ends, join_ends}
use Rattle.line.specs.declared.MonoFont.{MonoFont}
use Rattle.line.specs.declared.MonoTextStyle.{MonoTextStyle}
use Rattle.line.specs.Line.{character_height, is_set, is_painted, to_color, advance, rows_if, ink_rows, ink_box}
use Rattle.line.specs.Ink.{Counts, NoRow, box, HoldsRows, Tight}
use Rattle.line.proofs.Ink.{counts_box, rows_cases}

-- the first and the last row of a part that has rows are rows of it
part_ends : (P : ℕ → Type 0) (counts : Bool) (offset height : ℕ) → ((r : ℕ) → counts ≡ true → offset ≤ r → r < offset + height → P r) → Ends P (rows_if counts offset height)
part_ends P true offset height h e = let p = not_empty (rows_if true offset height) e in (h offset refl (omega arith) (omega arith), h (offset + height - 1) refl (omega arith) (omega arith))
part_ends P false offset height h e = absurd (omega (arith, not_empty (rows_if false offset height) e))

module _ (m : MonoFont) (s : MonoTextStyle) where
  -- those of the ink count
  rows_end : Ends (Counts m s) (ink_rows m s)
  unfolding ink_rows
  rows_end =
      join_ends (Counts m s) _ _
      (join_ends (Counts m s) _ _
      (part_ends (Counts m s) (is_painted s) 0 (character_height m) (λ r e p q. inl (record { painted = e; above_foot = omega arith })))
      (part_ends (Counts m s) (is_set (to_color s s.strikethrough_color)) m.strikethrough.offset m.strikethrough.height (λ r e p q. inr (inl (record { resolves = e; from_offset = p; above_foot = q })))))
      (part_ends (Counts m s) (is_set (to_color s s.underline_color)) m.underline.offset m.underline.height (λ r e p q. inr (inr (record { resolves = e; from_offset = p; above_foot = q }))))

  -- they are one column wide
  abbrev OneWide : Rectangle → Type 0
  OneWide a = (a.left ≡ 0) × (a.width ≡ 1)

  one-wide : OneWide (ink_rows m s)
  unfolding envelope
  one-wide = rows_cases OneWide m s (refl, refl) (refl, refl) (refl, refl) (λ a b p q. omega (arith, p, q))

  rows-some : 0 < (ink_rows m s).height → is_empty (ink_rows m s) ≡ false
  rows-some h = in_not_empty (ink_rows m s) 0 (ink_rows m s).top (omega (arith, one-wide))

  module _ (n x top : ℕ) where
    box-holds : HoldsRows m s n x top (box m s n x top)
    box-holds k r h c = in_covers (box m s n x top) (x + k) (top + r) (counts_box m s n x top (x + k) (top + r) (omega arith) (omega arith) (omega arith) (let e : top + r - top ≡ r = omega arith in rw e c))

    -- unless it is empty, the rows at its two ends count
    box_ends : is_empty (box m s n x top) ≡ false → Counts m s (ink_rows m s).top × Counts m s ((ink_rows m s).top + (ink_rows m s).height - 1)
    unfolding ink_box
    box_ends e = rows_end (rows-some (not_empty (box m s n x top) e).1)

    empty_unless : is_empty (box m s n x top) ≡ true → NoRow m s ⊎ (advance m s n ≡ 0)
    empty_unless e = go (eqb (advance m s n) 0) refl
      where
        go : (t : Bool) → eqb (advance m s n) 0 ≡ t → NoRow m s ⊎ (advance m s n ≡ 0)
        go true z = inr (eqb-true (advance m s n) 0 z)
        go false z = inl (λ r c. true≢false (sym e ∙ in_not_empty _ (x + 0) (top + r) (covers_in _ (x + 0) (top + r) (box-holds 0 r (omega (arith, eqb-false (advance m s n) 0 z)) c))))

    pub ink_tight : Tight m s n x top
    unfolding ink_box
    ink_tight = record {
      holds = box-holds;
      empty_unless = empty_unless;
      empty_no_row = λ none. empty_if (box m s n x top) (λ e. none _ (box_ends e).0);
      empty_no_advance = λ z. empty_if (box m s n x top) (λ e. omega (arith, not_empty (box m s n x top) e));
      left_edge = refl;
      right_edge = refl;
      top_edge_lem = λ e. record { row = (ink_rows m s).top; counts = (box_ends e).0; said = refl };
      foot = λ e. record { row = (ink_rows m s).top + (ink_rows m s).height - 1; counts = (box_ends e).1; said = omega (arith, not_empty (box m s n x top) e) };
      smallest = λ a h c r i.
          let p = covers_in (box m s n x top) c r i in
          let ends = box_ends (in_not_empty _ c r p) in
          let upper = covers_in a _ _ (h (c - x) _ (omega arith) ends.0) in
          let lower = covers_in a _ _ (h (c - x) _ (omega arith) ends.1) in
          in_covers a c r (omega (arith, upper, lower, p));
    }

-- in a style without a grey no row counts, whatever the font
pub unset_no_row : (m : MonoFont) (s : MonoTextStyle) → is_painted s ≡ false → is_set (to_color s s.strikethrough_color) ≡ false → is_set (to_color s s.underline_color) ≡ false → NoRow m s
unset_no_row m s p q o r (inl c) = true≢false (sym c.painted ∙ p)
unset_no_row m s p q o r (inr (inl c)) = true≢false (sym c.resolves ∙ q)
unset_no_row m s p q o r (inr (inr c)) = true≢false (sym c.resolves ∙ o)
