-- What the ink box of a line has to be (docs/SHEET.md, Ink): which rows count, and the smallest rectangle over them and the advance, which
-- `ink_tight` proves (proofs/Tight.antt). Assumes nothing.
-- To be believed: it says what a sheet means.
use Rattle.std.specs.Prelude.{ℕ, Option, ◌+◌, ◌≤◌, ◌<◌, ◌≡◌, true, false, ◌⊎◌}
use Rattle.geometry.specs.declared.Rectangle.{Rectangle}
use Rattle.geometry.specs.Rectangle.{covers, is_empty}
use Rattle.line.specs.declared.DecorationDimensions.{DecorationDimensions}
use Rattle.line.specs.declared.MonoFont.{MonoFont}
use Rattle.line.specs.declared.MonoTextStyle.{MonoTextStyle}
use Rattle.line.specs.Line.{character_height, is_set, is_painted, to_color, advance, ink_box}

-- "the ch rows only if a text or background grey is set": row r below the top edge is one
pub record CharacterRow (m : MonoFont) (s : MonoTextStyle) (r : ℕ) : Type 0 where
  pub painted : is_painted s ≡ true
  pub above_foot : r < character_height m

-- "a decoration's rows only if its colour resolves"
pub record DecorationRow (d : DecorationDimensions) (color : Option ℕ) (r : ℕ) : Type 0 where
  pub resolves : is_set color ≡ true
  pub from_offset : d.offset ≤ r
  pub above_foot : r < d.offset + d.height

-- row r below the top edge of a line counts
abbrev pub Counts : MonoFont → MonoTextStyle → ℕ → Type 0
Counts m s r = CharacterRow m s r ⊎ (DecorationRow m.strikethrough (to_color s s.strikethrough_color) r ⊎ DecorationRow m.underline (to_color s s.underline_color) r)

-- "no row counts"
abbrev pub NoRow : MonoFont → MonoTextStyle → Type 0
NoRow m s = (r : ℕ) → Counts m s r → ⊥

-- a row that counts, and what is said of it
pub record CountingRow (m : MonoFont) (s : MonoTextStyle) (P : ℕ → Type 0) : Type 0 where
  pub row : ℕ
  pub counts : Counts m s row
  pub said : P row

-- the ink box of n characters from x on, with their top edge at `top`
module _ (m : MonoFont) (s : MonoTextStyle) (n x top : ℕ) where
  abbrev pub box : Rectangle
  box = ink_box m s n x top

  -- a rectangle holds the rows that count, as far as the advance goes
  abbrev pub HoldsRows : Rectangle → Type 0
  HoldsRows a = (k r : ℕ) → k < advance m s n → Counts m s r → covers a (x + k) (top + r) ≡ true

  pub record Tight : Type 0 where
    pub holds : HoldsRows box
    -- empty exactly when no row counts or the advance is 0
    pub empty_unless : is_empty box ≡ true → NoRow m s ⊎ (advance m s n ≡ 0)
    pub empty_no_row : NoRow m s → is_empty box ≡ true
    pub empty_no_advance : advance m s n ≡ 0 → is_empty box ≡ true
    -- otherwise its edges are the start, the end of the advance, and those of rows that count
    pub left_edge : box.left ≡ x
    pub right_edge : box.left + box.width ≡ x + advance m s n
    pub top_edge_lem : is_empty box ≡ false → CountingRow m s (λ r. top + r ≡ box.top)
    pub foot : is_empty box ≡ false → CountingRow m s (λ r. top + r + 1 ≡ box.top + box.height)
    -- so that each rectangle that holds those rows holds it
    pub smallest : (a : Rectangle) → HoldsRows a → (c r : ℕ) → covers box c r ≡ true → covers a c r ≡ true
