-- `next`: a law for each way out, where n is the count of the lead byte's ones. Assumes nothing.
use mathlib.Core.Path.{◌≡◌}
use mathlib.Core.List.{List}
use Prim.Native.Nat.{ℕ, ◌+◌, ◌-◌, ◌<◌, ◌≤◌}
use borrow.Author.Tests.{lt-ltb, le-ltb, ne_eqb}
use lib.ListN.{length, get_or}
use Rattle.characters.specs.declared.Step.{Step}
use Rattle.characters.specs.declared.Step.TheVariants.{Character, IllFormed, End}
use Rattle.characters.specs.Utf8.{leading_ones, two, three, four, sequence, step_at}

pub step_past : (s : List ℕ) (at : ℕ) → length s ≤ at → End ≡ step_at s at
unfolding step_at
step_past s at h = rw (le-ltb at (length s) h)

module _ (s : List ℕ) (at n : ℕ) (e : n ≡ leading_ones (get_or s at 0)) (h : at < length s) where
  pub step_alone : (r : ℕ) → n ≡ 0 → r ≡ get_or s at 0 → Character r (record { at = at + 1 }) ≡ step_at s at
  unfolding step_at sequence
  step_alone r z q = rw (lt-ltb at (length s) h, ← e, z, q)

  pub step_cut : (n ≡ 0 → ⊥) → length s - at < n → IllFormed ≡ step_at s at
  unfolding step_at sequence
  step_cut z l = rw (lt-ltb at (length s) h, ← e, ne_eqb n 0 z, lt-ltb (length s - at) n l)

  module _ (r : Step) (l : n ≤ length s - at) where
    pub step-two : n ≡ 2 → r ≡ two (get_or s at 0) (get_or s (at + 1) 0) (at + 2) → r ≡ step_at s at
    unfolding step_at sequence
    step-two z q = rw (lt-ltb at (length s) h, ← e, le-ltb (length s - at) n l, z) q

    pub step-three : n ≡ 3 → r ≡ three (get_or s at 0) (get_or s (at + 1) 0) (get_or s (at + 2) 0) (at + 3) → r ≡ step_at s at
    unfolding step_at sequence
    step-three z q = rw (lt-ltb at (length s) h, ← e, le-ltb (length s - at) n l, z) q

    pub step-four : n ≡ 4 → r ≡ four (get_or s at 0) (get_or s (at + 1) 0) (get_or s (at + 2) 0) (get_or s (at + 3) 0) (at + 4) → r ≡ step_at s at
    unfolding step_at sequence
    step-four z q = rw (lt-ltb at (length s) h, ← e, le-ltb (length s - at) n l, z) q

  pub step_no_length : n ≤ length s - at → (n ≡ 0 → ⊥) → (n ≡ 2 → ⊥) → (n ≡ 3 → ⊥) → (n ≡ 4 → ⊥) → IllFormed ≡ step_at s at
  unfolding step_at sequence
  step_no_length l z0 z2 z3 z4 =
      rw (lt-ltb at (length s) h, ← e, ne_eqb n 0 z0, le-ltb (length s - at) n l, ne_eqb n 2 z2, ne_eqb n 3 z3, ne_eqb n 4 z4)
