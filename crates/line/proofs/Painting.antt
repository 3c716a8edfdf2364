-- Layers that a draw target does not show. Assumes nothing.
use Prim.Native.Nat.{ℕ, ◌+◌, ◌-◌, ◌≤◌, ◌<◌}
use native.Mathlib.Omega.{arith}
use mathlib.Core.Path.{◌≡◌, sym, ◌∙◌}
use mathlib.Core.Bool.{true, false, true≢false}
use mathlib.Core.List.{List}
use mathlib.Core.Logic.{⊎_elim}
use borrow.Author.Tests.{lt-leb}
use Rattle.geometry.specs.declared.Rectangle.{Rectangle}
use Rattle.geometry.specs.declared.DrawTarget.{DrawTarget}
use Rattle.geometry.specs.Layer.{Layer}
use Rattle.geometry.specs.Canvas.{paint_on}
use Rattle.geometry.proofs.Rectangles.{In, in_or_out}
use Rattle.geometry.proofs.Layers.{within_in, within_out, paint_none}
use Rattle.line.specs.Clip.{disjoint}

-- a layer changes nothing outside an area
abbrev pub Inside : Rectangle → Layer → Type 0
Inside area f = (c r grey : ℕ) → (In area c r → ⊥) → f c r grey ≡ grey

-- two rectangles share no pixel
abbrev pub Disjoint : Rectangle → Rectangle → Type 0
Disjoint clip area = (c r : ℕ) → In clip c r → In area c r → ⊥

-- a layer that changes nothing in a draw target's clip changes nothing
pub paint_unseen : (t : DrawTarget) (f : Layer) (xs : List ℕ) → ((c r grey : ℕ) → In t.clip_area c r → f c r grey ≡ grey) → xs ≡ paint_on t f xs
paint_unseen t f xs none = sym (paint_none t.width _ xs (λ c r grey. ⊎_elim
    (λ i. within_in t.clip_area f c r grey i ∙ none c r grey i)
    (λ o. within_out t.clip_area f c r grey o)
    (in_or_out t.clip_area c r)))

-- so does one of an area that shares no pixel with it
pub paint-disjoint : (t : DrawTarget) (area : Rectangle) (f : Layer) (xs : List ℕ) → Inside area f → Disjoint t.clip_area area → xs ≡ paint_on t f xs
paint-disjoint t area f xs inside none-shared = paint_unseen t f xs (λ c r grey i. inside c r grey (none-shared c r i))

disjoint_false : (a n b m k : ℕ) → a ≤ k → k < a + n → b ≤ k → k < b + m → disjoint a n b m ≡ false
unfolding disjoint
disjoint_false a n b m k p q u v = rw (lt-leb n (b - a) (omega arith), lt-leb m (a - b) (omega arith))

-- rectangles that share no column, or no row
module _ (clip area : Rectangle) where
  pub columns_disjoint : disjoint area.left area.width clip.left clip.width ≡ true → Disjoint clip area
  columns_disjoint e c r i j = true≢false (sym e ∙ disjoint_false _ _ _ _ c j.past_left j.before-right i.past_left i.before-right)

  pub rows_disjoint : disjoint area.top area.height clip.top clip.height ≡ true → Disjoint clip area
  rows_disjoint e c r i j = true≢false (sym e ∙ disjoint_false _ _ _ _ r j.past_top j.before-foot i.past_top i.before-foot)
