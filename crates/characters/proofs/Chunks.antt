-- A chunk that is taken off the rest of a list, as `chunks_exact` takes it. Assumes nothing.
use mathlib.Core.Path.{◌≡◌, sym, ◌∙◌, ap}
use mathlib.Core.List.{List, ◌++◌}
use Prim.Native.Nat.{ℕ, ◌+◌, ◌<◌, ◌≤◌}
use native.Mathlib.Omega.{arith}
use lib.ListN.{length, drop, length-drop, length-append}
use lib.Seq.{drop-drop, drop-append_seam}

module _ {A : Type 0} (s : List A) (at n : ℕ) (chunk left rest : List A) (l : left ≡ drop at s) (p : left ≡ chunk ++ rest) (m : length chunk ≡ n) where
  pub rest_is : rest ≡ drop (at + n) s
  rest_is = rw (← drop-drop n at s, ← l, p, ← m) (sym (drop-append_seam chunk rest))

  pub chunk_within : 0 < n → at + n ≤ length s
  chunk_within h = omega (arith, ap length (sym l ∙ p) ∙ length-append chunk rest, length-drop at s)
