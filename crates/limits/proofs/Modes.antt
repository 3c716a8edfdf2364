-- Known modes as facts. Assumes nothing.
use Prim.Native.Nat.{ℕ, ◌≤◌}
use mathlib.Core.Path.{◌≡◌}
use mathlib.Core.Bool.{true, ◌&&◌, and-eq-true_iff}
use lib.Dec.{leb}
use borrow.Author.Tests.{le-leb, leb-true}
use Rattle.limits.specs.Limits.{good_modes}

module _ (text background underline strikethrough : ℕ) where
  pub known_modes : good_modes text background underline strikethrough ≡ true → (text ≤ 1) × (background ≤ 1) × (underline ≤ 2) × (strikethrough ≤ 2)
  unfolding good_modes
  known_modes h =
      let p = (and-eq-true_iff (leb text 1 && leb background 1 && leb underline 2) (leb strikethrough 2)).0 h in
      let q = (and-eq-true_iff (leb text 1 && leb background 1) (leb underline 2)).0 p.0 in
      let r = (and-eq-true_iff (leb text 1) (leb background 1)).0 q.0 in
      (leb-true _ _ r.0, leb-true _ _ r.1, leb-true _ _ q.1, leb-true _ _ p.1)

  pub modes_known : text ≤ 1 → background ≤ 1 → underline ≤ 2 → strikethrough ≤ 2 → good_modes text background underline strikethrough ≡ true
  unfolding good_modes
  modes_known p q r s = rw (le-leb _ _ p, le-leb _ _ q, le-leb _ _ r, le-leb _ _ s)
