-- A text paints nothing outside its ink box, and that is the smallest rectangle over the rows of its lines that count. Assumes nothing.
use Prim.Native.Nat.{ℕ}
use native.Mathlib.Omega.{arith}
use mathlib.Core.Path.{◌≡◌, refl, ◌∙◌}
use mathlib.Core.Bool.{true}
use mathlib.Core.List.{List, [], ◌∷◌, map, Memᴰ}
use lib.ListN.{length}
use Rattle.geometry.specs.declared.Rectangle.{Rectangle}
use Rattle.geometry.specs.Rectangle.{covers, join, joins}
use Rattle.geometry.proofs.Rectangles.{In, covers_in, in_covers, join-right, joins_first, joins_each, joins-within}
use Rattle.characters.specs.Utf8.{chars}
use Rattle.line.specs.declared.MonoFont.{MonoFont}
use Rattle.line.specs.Line.{Font}
use Rattle.line.specs.Ink.{HoldsRows}
use Rattle.line.proofs.Ink.{string_out}
use Rattle.line.proofs.Tight.{ink_tight}
use Rattle.text.specs.Text.{Text, PlacedLine, placed_lines, line_top, line_layer, lines_layer, layer, nowhere, line_ink, ink_box}

module _ (f : Font) (t : Text) (c r : ℕ) where
  pub line_out : (l : PlacedLine) (grey : ℕ) → (In (line_ink f.mono t l) c r → ⊥) → line_layer f t l c r grey ≡ grey
  unfolding line_layer line_ink
  line_out l grey o = string_out c r f t.character_style l.text l.x (line_top f.mono t l) grey o

  lines-out : (a : Rectangle) (ls : List PlacedLine) (grey : ℕ) → (In (joins a (map (line_ink f.mono t) ls)) c r → ⊥) → lines_layer f t ls c r grey ≡ grey
  unfolding lines_layer joins
  lines-out a [] grey o = refl
  lines-out a (l ∷ ls) grey o =
      lines-out (join a (line_ink f.mono t l)) ls _ o
      ∙ line_out l grey (λ h. o (joins_first c r (join a (line_ink f.mono t l)) (map (line_ink f.mono t) ls) (join-right c r a (line_ink f.mono t l) h)))

  pub layer_out : (grey : ℕ) → (In (ink_box f.mono t) c r → ⊥) → layer f t c r grey ≡ grey
  unfolding layer ink_box
  layer_out grey o = lines-out (nowhere t) (placed_lines f.mono t) grey o

module _ (m : MonoFont) (t : Text) where
  -- a rectangle holds the rows of the lines that count, each as far as its line's advance goes
  abbrev pub HoldsLines : Rectangle → Type 0
  HoldsLines a = (l : PlacedLine) → Memᴰ l (placed_lines m t) → HoldsRows m t.character_style (length (chars l.text)) l.x (line_top m t l) a

  pub ink_holds : HoldsLines (ink_box m t)
  unfolding ink_box line_ink
  ink_holds l q k r h n = in_covers _ _ _ (joins_each _ _ (line_ink m t) (nowhere t) (placed_lines m t) l q (covers_in _ _ _ ((ink_tight m t.character_style (length (chars l.text)) l.x (line_top m t l)).holds k r h n)))

  pub ink_smallest : (a : Rectangle) → HoldsLines a → (c r : ℕ) → covers (ink_box m t) c r ≡ true → covers a c r ≡ true
  unfolding ink_box line_ink
  ink_smallest a h c r i = in_covers a c r (joins-within a (line_ink m t) (nowhere t) (placed_lines m t) (λ c r j. absurd (omega arith))
      (λ l q c r j. covers_in a c r ((ink_tight m t.character_style (length (chars l.text)) l.x (line_top m t l)).smallest a (h l q) c r (in_covers _ c r j))) c r (covers_in _ c r i))
