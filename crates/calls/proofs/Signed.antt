-- A coordinate as a signed number of 32 bits, and the replies made of two of them. Assumes nothing.
use Prim.Native.Nat.{ℕ, suc, ◌-◌, ◌%◌, ◌^◌, ◌<◌}
use native.Mathlib.Omega.{arith}
use mathlib.Core.Path.{◌≡◌}
use mathlib.Core.Bool.{Bool, true, false, cond}
use lib.Dec.{ltb}
use lib.IntN.{ℤ, pos, negsuc, ◌-ℤ◌}
use mir.Syntax.{w32}
use mir.Val.{SFits, to_z}
use mir.Facts.{to_z-of_z}
use borrow.Author.Tests.{lt-ltb}
use Rattle.geometry.specs.declared.Point.{Point}
use Rattle.geometry.specs.declared.Rectangle.{Rectangle}
use Rattle.geometry.specs.Layer.{origin, signed}
use Rattle.text.specs.Signed.{signed_rectangle}
use Rattle.edits.proofs.Signed.{read}
use Rattle.calls.specs.declared.Position.{Position}
use Rattle.calls.specs.declared.Drawn.{Drawn}
use Rattle.calls.specs.declared.Box.{Box}
use Rattle.calls.specs.declared.Batch.{Batch}
use Rattle.calls.specs.Calls.{position_reply, drawn_reply, box_reply, batch}
use Rattle.calls.specs.Replies.{PointFits, CornerFits, box_of}

by_sign : (x : ℕ) → x < 2 ^ 31 → (t : Bool) → SFits w32 (cond t (negsuc (origin - suc x)) (pos (x - origin)))
by_sign x h true = record { sfits = omega arith }
by_sign x h false = record { sfits = omega arith }

signed-fits : (x : ℕ) → x < 2 ^ 31 → SFits w32 (signed x)
unfolding signed
signed-fits x h = by_sign x h (ltb x origin)

module _ (x : ℕ) (h : x < 2 ^ 31) where
  difference : to_z w32 x -ℤ pos origin ≡ signed x
  unfolding signed
  difference = simp (lt-ltb x (2 ^ 31) h)

  pub difference_fits : SFits w32 (to_z w32 x -ℤ pos origin)
  difference_fits = rw difference (signed-fits x h)

  pub difference_is : read (to_z w32 x -ℤ pos origin) ≡ signed x
  difference_is = rw difference (to_z-of_z {z = signed x} (signed-fits x h))

  pub read_signed : (z : ℤ) → z ≡ signed x → read z ≡ signed x
  read_signed z e = rw e (to_z-of_z {z = signed x} (signed-fits x h))

pub position_is : (p : Point) (x y : ℤ) → PointFits p → x ≡ signed p.x → y ≡ signed p.y → ◌≡◌ {A = Position} (record { code = 0; x = read x; y = read y }) (position_reply 0 p)
unfolding position_reply
position_is p x y f ex ey = rw (read_signed p.x f.x x ex, read_signed p.y f.y y ey)

pub drawn_is : (p : Point) (x y : ℤ) (n : ℕ) → PointFits p → x ≡ signed p.x → y ≡ signed p.y
    → ◌≡◌ {A = Drawn} (record { code = 0; x = read x; y = read y; replaced = n }) (drawn_reply 0 p n)
unfolding drawn_reply
drawn_is p x y n f ex ey = rw (read_signed p.x f.x x ex, read_signed p.y f.y y ey)

pub box_is : (a : Rectangle) (r : Box) → r ≡ box_of 0 a → r ≡ box_reply 0 a
unfolding box_reply
box_is a r q = q

pub edited_is : (code : ℕ) (a : Rectangle) (left top : ℤ) → CornerFits a → left ≡ signed a.left → top ≡ signed a.top
    → ◌≡◌ {A = Box} (record { code = code; left = read left; top = read top; width = a.width; height = a.height }) (box_of code a)
edited_is code a left top f el et = rw (read_signed a.left f.left left el, read_signed a.top f.top top et)

pub batch_is : (n code made : ℕ) (a : Rectangle) (left top : ℤ) → CornerFits a → n ≡ code → left ≡ signed a.left → top ≡ signed a.top
    → ◌≡◌ {A = Batch} (record { code = n; made = made % 4_294_967_296; left = read left; top = read top; width = a.width; height = a.height }) (batch code made (signed_rectangle a))
batch_is n code made a left top f e el et = rw (e, read_signed a.left f.left left el, read_signed a.top f.top top et)
