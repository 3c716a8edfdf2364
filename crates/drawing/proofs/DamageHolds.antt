-- The damage rectangle holds every pixel of the frame that either ink box holds, and lies in each rectangle that holds both. Assumes nothing.
use Prim.Native.Nat.{ℕ, ◌+◌, ◌<◌}
use native.Mathlib.Omega.{arith}
use mathlib.Core.Path.{◌≡◌, refl}
use mathlib.Core.Bool.{Bool, true, false, cond}
use mathlib.Core.List.{List}
use Rattle.geometry.specs.declared.Rectangle.{Rectangle}
use Rattle.geometry.specs.Rectangle.{rectangle, covers, is_empty, join}
use Rattle.geometry.specs.Layer.{origin, frame_of}
use Rattle.geometry.proofs.Rectangles.{In, covers_in, in_covers, in_not_empty, not_empty, join_left, join-right, intersection_in, intersection_both, Within, join-within}
use Rattle.line.specs.declared.MonoFont.{MonoFont}
use Rattle.line.specs.Ink.{NoRow}
use Rattle.text.specs.Text.{Text, ink_box}
use Rattle.text.proofs.Ink.{HoldsLines, ink_smallest}
use Rattle.sheet.specs.Fields.{frame_width, frame_height}
use Rattle.records.specs.Records.{item, item_font}
use Rattle.drawing.specs.Drawing.{or_none, cut_to_frame, item_ink, damage}

-- an empty rectangle holds nothing, so `or_none` loses nothing
or_none_in : (a : Rectangle) (c r : ℕ) → In a c r → In (or_none a) c r
unfolding or_none
or_none_in a c r h = rw (in_not_empty a c r h) h

module _ (b b' : List ℕ) (n c r : ℕ) (wide : c < frame_width b) (high : r < frame_height b) where
  held : In (join (item_ink b n) (item_ink b' n)) (origin + c) (origin + r) → In (damage b b' n) (origin + c) (origin + r)
  unfolding damage cut_to_frame
  held h = or_none_in _ (origin + c) (origin + r) (intersection_in (origin + c) (origin + r) _ (frame_of (frame_width b) (frame_height b)) h (omega arith))

  pub damage-before : In (item_ink b n) (origin + c) (origin + r) → In (damage b b' n) (origin + c) (origin + r)
  damage-before h = held (join_left (origin + c) (origin + r) _ _ h)

  pub damage-after : In (item_ink b' n) (origin + c) (origin + r) → In (damage b b' n) (origin + c) (origin + r)
  damage-after h = held (join-right (origin + c) (origin + r) _ _ h)

none_in : (a : Rectangle) (c r : ℕ) → In (or_none a) c r → In a c r
unfolding or_none
none_in a c r = go (is_empty a)
  where
    go : (t : Bool) → In (cond t (rectangle origin origin 0 0) a) c r → In a c r
    go true h = absurd (omega arith)
    go false h = h

pub damage-within : (b b' : List ℕ) (n : ℕ) (a : Rectangle) → Within (item_ink b n) a → Within (item_ink b' n) a → Within (damage b b' n) a
unfolding damage cut_to_frame
damage-within b b' n a before after c r h =
    join-within a (item_ink b n) (item_ink b' n) before after c r (intersection_both c r _ (frame_of (frame_width b) (frame_height b)) (none_in _ c r h)).0

-- the same of the rows that count, of the lines before and of those after
pub damage_smallest : (b b' : List ℕ) (n : ℕ) (a : Rectangle) → HoldsLines (item_font b n).mono (item b n) a → HoldsLines (item_font b' n).mono (item b' n) a
    → (c r : ℕ) → covers (damage b b' n) c r ≡ true → covers a c r ≡ true
unfolding item_ink
damage_smallest b b' n a before after c r i =
    in_covers a c r (damage-within b b' n a (inside (item_font b n).mono (item b n) before) (inside (item_font b' n).mono (item b' n) after) c r (covers_in _ c r i))
  where
    inside : (m : MonoFont) (t : Text) → HoldsLines m t a → Within (ink_box m t) a
    inside m t h c r i = covers_in a c r (ink_smallest m t a h c r (in_covers _ c r i))

or_none_empty : (a : Rectangle) → ((c r : ℕ) → In (or_none a) c r → ⊥) → or_none a ≡ rectangle origin origin 0 0
unfolding or_none
or_none_empty a = go (is_empty a) refl
  where
    go : (t : Bool) → is_empty a ≡ t → ((c r : ℕ) → In (cond t (rectangle origin origin 0 0) a) c r → ⊥) → cond t (rectangle origin origin 0 0) a ≡ rectangle origin origin 0 0
    go true e o = refl
    go false e o = absurd (o a.left a.top (omega (arith, not_empty a e)))

-- where no row counts, before and after, there is none
pub damage_none : (b b' : List ℕ) (n : ℕ) → NoRow (item_font b n).mono (item b n).character_style → NoRow (item_font b' n).mono (item b' n).character_style → damage b b' n ≡ rectangle origin origin 0 0
unfolding damage cut_to_frame
damage_none b b' n before after = or_none_empty _ (λ c r i. nowhere c r (covers_in (rectangle 0 0 0 0) c r
    (damage_smallest b b' n (rectangle 0 0 0 0) (λ l m k r h x. absurd (before r x)) (λ l m k r h x. absurd (after r x)) c r (in_covers (damage b b' n) c r i))))
  where
    nowhere : (c r : ℕ) → In (rectangle 0 0 0 0) c r → ⊥
    nowhere c r i = omega arith
