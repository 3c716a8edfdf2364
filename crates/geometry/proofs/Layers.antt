-- Laws of layers: inside a rectangle, outside it, and painted on a frame. Assumes nothing.
use Prim.Native.Nat.{ℕ, zero, suc, ◌+◌, ◌/◌, ◌%◌, ◌<◌}
use native.Mathlib.Nat.{add-zero, add-suc, suc-add, zero-add, le_of_suc-le-suc, not-suc-le-zero}
use native.Mathlib.Omega.{arith}
use mathlib.Core.Path.{◌≡◌, refl, sym, ap, ◌∙◌}
use mathlib.Core.Bool.{cond}
use mathlib.Core.List.{List, [], ◌∷◌}
use mathlib.Core.Logic.{⊎_elim}
use lib.ListN.{length, get_or}
use lib.Seq.{ext_get_or}
use Rattle.std.specs.Prelude.{Option}
use Rattle.geometry.specs.declared.Rectangle.{Rectangle}
use Rattle.geometry.specs.Rectangle.{covers, intersection}
use Rattle.geometry.specs.Layer.{origin, Layer, over, within, colored, filled, map_indexed, paint}
use Rattle.geometry.proofs.Rectangles.{In, in_covers, out_covers, in_or_out, intersection_in, intersection_both}

module _ (a : Rectangle) (f : Layer) (c r grey : ℕ) where
  pub within_in : In a c r → within a f c r grey ≡ f c r grey
  within_in h = rw (in_covers a c r h)

  pub within_out : (In a c r → ⊥) → within a f c r grey ≡ grey
  within_out o = rw (out_covers a c r o)

-- layers that agree, in a rectangle
pub within_same : (a : Rectangle) (f g : Layer) → ((c r grey : ℕ) → f c r grey ≡ g c r grey) → (c r grey : ℕ) → within a f c r grey ≡ within a g c r grey
within_same a f g h c r grey = ap (λ (v : ℕ). cond (covers a c r) v grey) (h c r grey)

-- a layer that changes nothing changes nothing in a rectangle
pub within_none : (a : Rectangle) (f : Layer) → ((c r grey : ℕ) → f c r grey ≡ grey) → (c r grey : ℕ) → within a f c r grey ≡ grey
within_none a f h c r grey = ⊎_elim (λ i. within_in a f c r grey i ∙ h c r grey) (λ o. within_out a f c r grey o) (in_or_out a c r)

-- a layer in two rectangles is that layer in what they share
pub within-intersection : (a b : Rectangle) (f : Layer) (c r grey : ℕ) → within a (within b f) c r grey ≡ within (intersection a b) f c r grey
within-intersection a b f c r grey = ⊎_elim
    (λ i. let both = intersection_both c r a b i in within_in a (within b f) c r grey both.0 ∙ within_in b f c r grey both.1 ∙ sym (within_in _ f c r grey i))
    (λ o. ⊎_elim
    (λ i. within_in a (within b f) c r grey i ∙ within_out b f c r grey (λ j. o (intersection_in c r a b i j)))
    (λ p. within_out a (within b f) c r grey p) (in_or_out a c r) ∙ sym (within_out _ f c r grey o))
    (in_or_out (intersection a b) c r)

pub within_over : (a : Rectangle) (f g : Layer) (c r grey : ℕ) → over (within a g) (within a f) c r grey ≡ within a (over g f) c r grey
within_over a f g c r grey = ⊎_elim
    (λ i. within_in a g c r _ i ∙ ap (g c r) (within_in a f c r grey i) ∙ sym (within_in a (over g f) c r grey i))
    (λ o. within_out a g c r _ o ∙ within_out a f c r grey o ∙ sym (within_out a (over g f) c r grey o))
    (in_or_out a c r)

pub filled_out : (a : Rectangle) (color : Option ℕ) (c r grey : ℕ) → (In a c r → ⊥) → filled a color c r grey ≡ grey
unfolding filled
filled_out a color c r grey o = within_out a (λ c r grey. colored color grey) c r grey o

pub length-map_indexed : (f : ℕ → ℕ → ℕ) (k : ℕ) (xs : List ℕ) → length (map_indexed f k xs) ≡ length xs
unfolding map_indexed
length-map_indexed f k [] = refl
length-map_indexed f k (x ∷ xs) = ap suc (length-map_indexed f (suc k) xs)

pub map_indexed_at : (f : ℕ → ℕ → ℕ) (k : ℕ) (xs : List ℕ) (i : ℕ) → i < length xs → get_or (map_indexed f k xs) i 0 ≡ f (k + i) (get_or xs i 0)
unfolding map_indexed
map_indexed_at f k [] i h = absurd (not-suc-le-zero h)
map_indexed_at f k (x ∷ xs) zero h = rw (add-zero k)
map_indexed_at f k (x ∷ xs) (suc i) h = rw (add-suc k i, ← suc-add k i) (map_indexed_at f (suc k) xs i (le_of_suc-le-suc h))

pub map_indexed_twice : (f g : ℕ → ℕ → ℕ) (k : ℕ) (xs : List ℕ) → map_indexed g k (map_indexed f k xs) ≡ map_indexed (λ i x. g i (f i x)) k xs
unfolding map_indexed
map_indexed_twice f g k [] = refl
map_indexed_twice f g k (x ∷ xs) = ap (λ (l : List ℕ). g k (f k x) ∷ l) (map_indexed_twice f g (suc k) xs)

-- two maps that agree at each element agree
pub map_indexed-same : (f g : ℕ → ℕ → ℕ) (a b : ℕ) (xs : List ℕ) → ((i x : ℕ) → i < length xs → f (a + i) x ≡ g (b + i) x) → map_indexed f a xs ≡ map_indexed g b xs
map_indexed-same f g a b xs h =
    ext_get_or 0 (map_indexed f a xs) (map_indexed g b xs) (length-map_indexed f a xs ∙ sym (length-map_indexed g b xs))
    (λ i k. map_indexed_at f a xs i (omega (arith, length-map_indexed f a xs)) ∙ h i (get_or xs i 0) (omega (arith, length-map_indexed f a xs)) ∙ sym (map_indexed_at g b xs i (omega (arith, length-map_indexed f a xs))))

pub length-paint : (fw : ℕ) (f : Layer) (frame : List ℕ) → length (paint fw f frame) ≡ length frame
unfolding paint
length-paint fw f frame = length-map_indexed _ 0 frame

-- a pixel of a painted frame
pub paint_at : (fw : ℕ) (f : Layer) (frame : List ℕ) (k : ℕ) → k < length frame → get_or (paint fw f frame) k 0 ≡ f (origin + k % fw) (origin + k / fw) (get_or frame k 0)
unfolding paint
paint_at fw f frame k h = map_indexed_at _ 0 frame k h ∙ rw (zero-add k)

-- one layer after another is one layer
pub paint-over : (fw : ℕ) (f g : Layer) (frame : List ℕ) → paint fw g (paint fw f frame) ≡ paint fw (over g f) frame
unfolding paint
paint-over fw f g frame = map_indexed_twice _ _ 0 frame

-- layers that agree on each pixel of two frames paint them alike
pub paint_agree : (fw n : ℕ) (f g : Layer) (xs ys : List ℕ) → length xs ≡ n → length ys ≡ n
    → ((k : ℕ) → k < n → f (origin + k % fw) (origin + k / fw) (get_or xs k 0) ≡ g (origin + k % fw) (origin + k / fw) (get_or ys k 0))
    → paint fw f xs ≡ paint fw g ys
paint_agree fw n f g xs ys ex ey h = ext_get_or 0 (paint fw f xs) (paint fw g ys) (length-paint fw f xs ∙ ex ∙ sym (length-paint fw g ys ∙ ey))
    (λ k l. let b : k < n = omega (arith, length-paint fw f xs) in paint_at fw f xs k (omega arith) ∙ h k b ∙ sym (paint_at fw g ys k (omega arith)))

-- a layer that changes no pixel of the frame
pub paint_none : (fw : ℕ) (f : Layer) (frame : List ℕ) → ((c r grey : ℕ) → f c r grey ≡ grey) → paint fw f frame ≡ frame
paint_none fw f frame h = ext_get_or 0 (paint fw f frame) frame (length-paint fw f frame) (λ k l. paint_at fw f frame k (omega (arith, length-paint fw f frame)) ∙ h _ _ _)

pub paint-same : (fw : ℕ) (f g : Layer) (frame : List ℕ) → ((c r grey : ℕ) → f c r grey ≡ g c r grey) → paint fw f frame ≡ paint fw g frame
paint-same fw f g frame h = paint_agree fw (length frame) f g frame frame refl refl (λ k l. h (origin + k % fw) (origin + k / fw) (get_or frame k 0))
