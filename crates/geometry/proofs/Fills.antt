-- Laws of filling: from a row filled to an area filled in a clip. Assumes nothing.
use Prim.Native.Nat.{ℕ, ◌+◌, ◌-◌, ◌*◌, ◌≤◌, ◌<◌}
use native.Mathlib.Nat.{add-mul, add-sub_cancel_left}
use native.Mathlib.Omega.{arith}
use mathlib.Core.Path.{◌≡◌, refl, sym, ◌∙◌}
use mathlib.Core.Bool.{Bool, true}
use mathlib.Core.List.{List}
use lib.ListN.{length, take, drop, replicate}
use borrow.Rule.Slice.PartMut.{put_mid}
use Rattle.std.specs.Prelude.{Option, None, Some}
use Rattle.geometry.specs.declared.Rectangle.{Rectangle}
use Rattle.geometry.specs.declared.DrawTarget.{DrawTarget}
use Rattle.geometry.specs.declared.FrameArea.{FrameArea}
use Rattle.geometry.specs.Rectangle.{is_empty, intersection}
use Rattle.geometry.specs.Layer.{Layer, colored, filled, paint}
use Rattle.geometry.specs.Canvas.{Canvas, InFrame, from_corner, on_frame, paint_on}
use Rattle.geometry.proofs.Rectangles.{empty_out}
use Rattle.geometry.proofs.Layers.{within_none, filled_out, paint_none}
use Rattle.geometry.proofs.Rows.{replicate-map_indexed}
use Rattle.geometry.proofs.Frames.{RowsPainted, rows_step, rows_run, paint-run}
use Rattle.geometry.proofs.Clips.{paint_unshown, part-on_frame, paint_shown}

-- the layer that is grey everywhere
abbrev pub solid : ℕ → Layer
solid grey c r old = grey

-- a loop over the rows of an area fills one row more
pub fill_step : (fw : ℕ) (a : FrameArea) (k grey : ℕ) (xs frame part : List ℕ) → InFrame fw (length xs) a → RowsPainted fw a k (solid grey) xs frame → k < a.height
    → part ≡ replicate (length (take ((a.top + k) * fw + a.left + a.width - ((a.top + k) * fw + a.left)) (drop ((a.top + k) * fw + a.left) frame))) grey
    → RowsPainted fw a (k + 1) (solid grey) xs (put_mid ((a.top + k) * fw + a.left) ((a.top + k) * fw + a.left + a.width - ((a.top + k) * fw + a.left)) frame part)
fill_step fw a k grey xs frame part room p less e =
    rows_step fw a k 0 (solid grey) (λ i x. grey) xs frame part room p less (e ∙ sym (replicate-map_indexed grey 0 _)) (λ i x u. refl)

-- rows as wide as the frame are one part of it
module _ (fw n : ℕ) (a : FrameArea) (room : InFrame fw n a) where
  rows-room : (a.top * fw + a.height * fw ≤ n) × (n ≤ 262144)
  rows-room = omega (arith, room, add-mul a.top a.height fw)

  pub rows_end_in : a.top * fw + a.height * fw ≤ n
  rows_end_in = rows-room.0

pub fill_whole_rows : (fw : ℕ) (a : FrameArea) (grey : ℕ) (xs part : List ℕ) → InFrame fw (length xs) a → a.width ≡ fw
    → part ≡ replicate (length (take (a.top * fw + a.height * fw - a.top * fw) (drop (a.top * fw) xs))) grey
    → put_mid (a.top * fw) (a.top * fw + a.height * fw - a.top * fw) xs part ≡ paint fw (filled (on_frame a) (Some grey)) xs
unfolding filled
fill_whole_rows fw a grey xs part room e ep =
    let t : ℕ = a.top * fw in
    let h : ℕ = a.height * fw in
    rw (ep ∙ sym (replicate-map_indexed grey t (take (t + h - t) (drop t xs))), add-sub_cancel_left t h)
    (paint-run fw t h (on_frame a) (solid grey) xs (rows_run fw a e room.right) (rows_end_in fw (length xs) a room))

-- an area filled on a draw target: nothing where they share nothing, else what they share
module _ (t : DrawTarget) (area shown : Rectangle) (color : Option ℕ) (xs : List ℕ) (e : shown ≡ intersection t.clip_area area) where
  pub fill_unshown : (empty : Bool) → empty ≡ is_empty shown → empty ≡ true → xs ≡ paint_on t (filled area color) xs
  unfolding filled
  fill_unshown empty is-empty holds = paint_unshown t.clip_area area shown e t.width (λ c r grey. colored color grey) xs empty is-empty holds

  pub fill_shown : (n : ℕ) (part : FrameArea) (ys : List ℕ) → Canvas t n → part ≡ from_corner shown → ys ≡ paint t.width (filled (on_frame part) color) xs → ys ≡ paint_on t (filled area color) xs
  unfolding filled
  fill_shown n part ys canvas p f =
      f ∙ rw (part-on_frame t area shown e n canvas part p) (paint_shown t.clip_area area shown e t.width (λ c r grey. colored color grey) xs)

-- filling an empty area changes nothing
pub fill_empty : (t : DrawTarget) (area : Rectangle) (color : Option ℕ) (xs : List ℕ) (empty : Bool) → empty ≡ is_empty area → empty ≡ true → xs ≡ paint_on t (filled area color) xs
fill_empty t area color xs empty is-empty holds =
    sym (paint_none t.width _ xs (within_none t.clip_area (filled area color) (λ c r grey. filled_out area color c r grey (empty_out area empty is-empty holds c r))))

-- filling with a colour that is unset changes nothing
pub fill_unset : (t : DrawTarget) (area : Rectangle) (color : Option ℕ) (xs : List ℕ) → color ≡ None → xs ≡ paint_on t (filled area color) xs
unfolding filled
fill_unset t area color xs e =
    rw e (sym (paint_none t.width _ xs (within_none t.clip_area (filled area None) (within_none area (λ c r grey. grey) (λ c r grey. refl)))))
