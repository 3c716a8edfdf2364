-- Bytes stored in a part of a slice. Assumes nothing.
use Prim.Native.Nat.{ℕ, ◌+◌, ◌-◌, ◌≤◌}
use native.Mathlib.Omega.{arith}
use mathlib.Core.Path.{◌≡◌, sym, ◌∙◌}
use mathlib.Core.List.{List, ◌++◌, append_assoc}
use lib.ListN.{length, take, drop}
use lib.Seq.{sets, sets-eq, drop-drop}

-- the n bytes from a on, put back as others, are a run of stores
pub part_stored : (l vs : List ℕ) (a n : ℕ) → a + n ≤ length l → length vs ≡ n → take a l ++ (vs ++ drop (a + n - a) (drop a l)) ≡ sets l a vs
part_stored l vs a n h e =
    let s : a + n - a ≡ length vs = omega arith in
    rw (s, drop-drop (length vs) a l) (sym (append_assoc (take a l) vs (drop (a + length vs) l)) ∙ sym (sets-eq vs l a (omega arith)))
