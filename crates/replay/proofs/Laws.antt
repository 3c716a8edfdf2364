-- Laws of stored bytes, of the kinds of edits and of what stands behind an entry. Assumes nothing.
use Prim.Native.Nat.{ℕ, ◌+◌, ◌-◌, ◌≤◌, ◌<◌}
use native.Mathlib.Omega.{arith}
use mathlib.Core.Path.{◌≡◌, refl, sym}
use mathlib.Core.List.{List, [], ◌++◌, append_assoc}
use lib.IntN.{ℤ}
use lib.ListN.{length, take, drop}
use lib.Seq.{sets-eq, drop-drop}
use mir.Syntax.{w32}
use mir.Val.{to_z, of_z, SFits}
use mir.Facts.{to_z-of_z}
use borrow.Author.Tests.{le-leb, lt-leb, eq-eqb, ne_eqb}
use Rattle.sheet.specs.Edits.{new_text, new_place, new_style}
use Rattle.replay.specs.Edits.{edit_of}
use Rattle.replay.specs.Given.{behind}
use Rattle.replay.specs.Stored.{stored}

-- ---- bytes stored

module _ (l bytes : List ℕ) (at : ℕ) where
  stored_not : length l < at + length bytes → l ≡ stored l at bytes
  unfolding stored
  stored_not h = rw (lt-leb (at + length bytes) (length l) h) refl

  pub stored_past : length l < at → l ≡ stored l at bytes
  stored_past h = stored_not (omega arith)

  pub stored_cut : at ≤ length l → length l - at < length bytes → l ≡ stored l at bytes
  stored_cut g h = stored_not (omega arith)

  pub stored_all : (part : List ℕ) → at ≤ length l → length bytes ≤ length l - at → part ≡ bytes
      → take at l ++ (part ++ drop (at + length bytes - at) (drop at l)) ≡ stored l at bytes
  unfolding stored
  stored_all part f g p =
      let h : at + length bytes ≤ length l = omega arith in
      let n : at + length bytes - at ≡ length bytes = omega arith in
      rw (le-leb (at + length bytes) (length l) h, p, n, drop-drop (length bytes) at l, ← append_assoc (take at l) bytes (drop (at + length bytes) l)) (sym (sets-eq bytes l at h))

-- ---- the kinds of edits

module _ (kind item : ℕ) (x y : ℤ) (bytes : List ℕ) where
  pub edit_text : kind ≡ 0 → edit_of kind item x y bytes ≡ new_text item bytes
  unfolding edit_of
  edit_text e = rw (eq-eqb kind 0 e)

  -- x and y are handed on as 32 bits
  pub edit_place : SFits w32 x → SFits w32 y → kind ≡ 1 → edit_of kind item x y bytes ≡ new_place item (to_z w32 (of_z w32 x)) (to_z w32 (of_z w32 y))
  unfolding edit_of
  edit_place f g e =
      let n : kind ≡ 0 → ⊥ = λ (z : kind ≡ 0). omega arith in
      rw (ne_eqb kind 0 n, eq-eqb kind 1 e, to_z-of_z {z = x} f, to_z-of_z {z = y} g)

  pub edit_style : (kind ≡ 0 → ⊥) → (kind ≡ 1 → ⊥) → edit_of kind item x y bytes ≡ new_style item bytes
  unfolding edit_of
  edit_style n m = rw (ne_eqb kind 0 n, ne_eqb kind 1 m)

-- ---- what stands behind an entry

module _ (l r : List ℕ) (size : ℕ) where
  pub behind_last : size ≡ 0 → r ≡ [] → r ≡ behind size l
  unfolding behind
  behind_last e q = rw (eq-eqb size 0 e) q

  pub behind_some : (size ≡ 0 → ⊥) → r ≡ drop size l → r ≡ behind size l
  unfolding behind
  behind_some n q = rw (ne_eqb size 0 n) q
