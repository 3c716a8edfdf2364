-- The bytes that spell a character, by how large it is, and that they fill a part as long as they are. Assumes nothing.
use Prim.Native.Nat.{ℕ, ◌+◌, ◌/◌, ◌%◌, ◌<◌, ◌≤◌}
use mathlib.Core.Path.{◌≡◌, sym, ◌∙◌, ap}
use mathlib.Core.List.{List, [], ◌∷◌}
use native.Mathlib.Omega.{arith}
use borrow.Author.Tests.{lt-ltb, le-ltb, eq-eqb, ne_eqb}
use lib.ListN.{length, set}
use lib.Seq.{sets}
use Rattle.bdf.specs.Reader.{utf8, spelling}
use Rattle.bdf.proofs.Stores.{sets_all}

module _ (v : ℕ) where
  pub spelling_null : v ≡ 0 → spelling v ≡ 0 ∷ 0 ∷ 0 ∷ []
  unfolding spelling
  spelling_null z = rw (eq-eqb v 0 z)

  module _ (n : v ≡ 0 → ⊥) where
    pub spelling_one : v < 0x80 → spelling v ≡ v ∷ []
    unfolding spelling utf8
    spelling_one h = rw (ne_eqb v 0 n, lt-ltb v 0x80 h)

    pub spelling-two : 0x80 ≤ v → v < 0x800 → spelling v ≡ (0xC0 + v / 64) ∷ (0x80 + v % 64) ∷ []
    unfolding spelling utf8
    spelling-two l h = rw (ne_eqb v 0 n, le-ltb v 0x80 l, lt-ltb v 0x800 h)

    pub spelling-three : 0x800 ≤ v → v < 0x10000 → spelling v ≡ (0xE0 + v / 4_096) ∷ (0x80 + v / 64 % 64) ∷ (0x80 + v % 64) ∷ []
    unfolding spelling utf8
    spelling-three l h = rw (ne_eqb v 0 n, le-ltb v 0x80 (omega arith), le-ltb v 0x800 l, lt-ltb v 0x10000 h)

    pub spelling-four : 0x10000 ≤ v → spelling v ≡ (0xF0 + v / 262_144) ∷ (0x80 + v / 4_096 % 64) ∷ (0x80 + v / 64 % 64) ∷ (0x80 + v % 64) ∷ []
    unfolding spelling utf8
    spelling-four l = rw (ne_eqb v 0 n, le-ltb v 0x80 (omega arith), le-ltb v 0x800 (omega arith), le-ltb v 0x10000 l)

-- how long a spelling is
pub length-spelling : (n v : ℕ) (vs : List ℕ) → spelling v ≡ vs → n ≡ length vs → n ≡ length (spelling v)
length-spelling n v vs e h = h ∙ sym (ap length e)

-- a part that is as long as a spelling has room for each of its bytes, and they fill it
module _ (s : List ℕ) (v : ℕ) (e : length s ≡ length (spelling v)) where
  room : (vs : List ℕ) → spelling v ≡ vs → (i : ℕ) → i < length vs → i < length s
  room vs f i h = let l = ap length f in omega arith

  filled : (vs : List ℕ) → spelling v ≡ vs → sets s 0 vs ≡ spelling v
  filled vs f = sets_all s vs (e ∙ ap length f) ∙ sym f

  module _ (z : v ≡ 0) where
    pub room_null : (i : ℕ) → i < 3 → i < length s
    room_null = room _ (spelling_null v z)

    pub put_null : set (set (set s 0 0) 1 0) 2 0 ≡ spelling v
    put_null = filled _ (spelling_null v z)

  module _ (n : v ≡ 0 → ⊥) where
    module _ (h : v < 0x80) where
      pub room_one : (i : ℕ) → i < 1 → i < length s
      room_one = room _ (spelling_one v n h)

      pub put_one : set s 0 v ≡ spelling v
      put_one = filled _ (spelling_one v n h)

    module _ (l : 0x80 ≤ v) (h : v < 0x800) where
      pub room_two : (i : ℕ) → i < 2 → i < length s
      room_two = room _ (spelling-two v n l h)

      pub put_two : set (set s 0 (0xC0 + v / 64)) 1 (0x80 + v % 64) ≡ spelling v
      put_two = filled _ (spelling-two v n l h)

    module _ (l : 0x800 ≤ v) (h : v < 0x10000) where
      pub room_three : (i : ℕ) → i < 3 → i < length s
      room_three = room _ (spelling-three v n l h)

      pub put_three : set (set (set s 0 (0xE0 + v / 4_096)) 1 (0x80 + v / 64 % 64)) 2 (0x80 + v % 64) ≡ spelling v
      put_three = filled _ (spelling-three v n l h)

    module _ (l : 0x10000 ≤ v) where
      pub room_four : (i : ℕ) → i < 4 → i < length s
      room_four = room _ (spelling-four v n l)

      pub put_four : set (set (set (set s 0 (0xF0 + v / 262_144)) 1 (0x80 + v / 4_096 % 64)) 2 (0x80 + v / 64 % 64)) 3 (0x80 + v % 64) ≡ spelling v
      put_four = filled _ (spelling-four v n l)
