-- Laws of bytes: what a run of stores leaves in its place and elsewhere, numbers read back, and files that agree. Assumes nothing.
use Prim.Native.Nat.{ℕ, zero, suc, ◌+◌, ◌-◌, ◌/◌, ◌%◌, ◌≤◌, ◌<◌}
use mathlib.Core.Path.{◌≡◌, refl, sym, ◌∙◌, ap}
use mathlib.Core.List.{List, [], ◌∷◌, ◌++◌}
use lib.ListN.{length, get_or, take, drop, set, replicate, length-take, length-drop, length-set, length-append, length-replicate}
use lib.Seq.{sets, length-sets, get_or-set_other, get_or-set_same, ext_get_or, get_or-take, get_or-drop}
use native.Mathlib.Nat.{add-zero, add-suc, suc-add}
use native.Mathlib.Omega.{arith}
use Rattle.sheet.specs.Fields.{le16_at, le32_at, part, le16}

pub sets_other : (vs l : List ℕ) (i k : ℕ) → (i ≤ k → k < i + length vs → ⊥) → get_or (sets l i vs) k 0 ≡ get_or l k 0
sets_other [] l i k h = refl
sets_other (a ∷ vs) l i k h =
    sets_other vs (set l i a) (suc i) k (λ p q. h (omega arith) (omega arith)) ∙ get_or-set_other l i k a 0 (λ e. h (omega arith) (omega arith))

pub sets_at : (vs l : List ℕ) (i k : ℕ) → i + length vs ≤ length l → k < length vs → get_or (sets l i vs) (i + k) 0 ≡ get_or vs k 0
sets_at [] l i k h m = absurd (omega arith)
sets_at (a ∷ vs) l i zero h m = rw add-zero (sets_other vs (set l i a) (suc i) i (omega arith) ∙ get_or-set_same l i a 0 (omega arith))
sets_at (a ∷ vs) l i (suc k) h m = rw (add-suc i k, ← suc-add i k) (sets_at vs (set l i a) (suc i) k (omega (arith, length-set l i a)) (omega arith))

pub sets_part : (vs l : List ℕ) (o i n : ℕ) → o + length vs ≤ length l → i + n ≤ length vs → part (sets l o vs) (o + i) n ≡ take n (drop i vs)
unfolding part
sets_part vs l o i n h m = ext_get_or 0 (take n (drop (o + i) (sets l o vs))) (take n (drop i vs)) (simp (length-take, length-drop, length-sets) (omega arith)) at
  where
    at : (k : ℕ) → k < length (take n (drop (o + i) (sets l o vs))) → get_or (take n (drop (o + i) (sets l o vs))) k 0 ≡ get_or (take n (drop i vs)) k 0
    at k q =
        let r : k < n = omega (arith, simp (length-take, length-drop) at q) in
        get_or-take n (drop (o + i) (sets l o vs)) k 0 r ∙ get_or-drop (o + i) (sets l o vs) k 0 ∙ ap (λ (j : ℕ). get_or (sets l o vs) j 0) (omega arith)
        ∙ sets_at vs l o (i + k) h (omega arith) ∙ sym (get_or-take n (drop i vs) k 0 r ∙ get_or-drop i vs k 0)

-- a byte of a part, and how long a part is at most
pub part_at : (b : List ℕ) (o n k : ℕ) → k < n → get_or (part b o n) k 0 ≡ get_or b (o + k) 0
unfolding part
part_at b o n k h = get_or-take n (drop o b) k 0 h ∙ get_or-drop o b k 0

pub length_part : (b : List ℕ) (o n : ℕ) → length (part b o n) ≤ n
unfolding part
length_part b o n = simp length-take (omega arith)

-- the two bytes of a number, read back
pub le16_at_sets : (l : List ℕ) (o n : ℕ) → o + 2 ≤ length l → le16_at (sets l o (le16 n)) o ≡ n % 65_536
unfolding le16_at le16
le16_at_sets l o n h =
    let bytes = n % 256 ∷ n / 256 % 256 ∷ [] in
    let p : get_or (sets l o bytes) o 0 ≡ n % 256 = ap (λ (k : ℕ). get_or (sets l o bytes) k 0) (omega arith) ∙ sets_at bytes l o 0 h (omega arith) in
    let q : get_or (sets l o bytes) (o + 1) 0 ≡ n / 256 % 256 = sets_at bytes l o 1 h (omega arith) in
    omega arith

-- bytes store a number of 16 bits
pub le16_at_small : (b : List ℕ) (o : ℕ) → ((k : ℕ) → get_or b k 0 < 256) → le16_at b o < 65_536
unfolding le16_at
le16_at_small b o h = omega (arith, h o, h (o + 1))

-- a text and the zeros after it
pub length_padded : (t : List ℕ) (n : ℕ) → length t ≤ n → length (t ++ replicate (n - length t) 0) ≡ n
length_padded t n h = simp (length-append, length-replicate) (omega arith)

zeros_at : (n k : ℕ) → ◌≡◌ {A = ℕ} (get_or (replicate n 0) k 0) 0
zeros_at zero k = refl
zeros_at (suc n) zero = refl
zeros_at (suc n) (suc k) = zeros_at n k

pub padded_at : (t : List ℕ) (n k : ℕ) → get_or (t ++ replicate n 0) k 0 ≡ get_or t k 0
padded_at [] n k = zeros_at n k
padded_at (a ∷ t) n zero = refl
padded_at (a ∷ t) n (suc k) = padded_at t n k

-- ---- n bytes from o on are the same in two files

abbrev pub SameBytes : List ℕ → List ℕ → ℕ → ℕ → Type 0
SameBytes b b' o n = (k : ℕ) → o ≤ k → k < o + n → get_or b' k 0 ≡ get_or b k 0

module _ (b b' : List ℕ) (o : ℕ) where
  pub same-le16_at : SameBytes b b' o 2 → le16_at b' o ≡ le16_at b o
  unfolding le16_at
  same-le16_at s = rw (s o (omega arith) (omega arith), s (o + 1) (omega arith) (omega arith))

  pub same-le32_at : SameBytes b b' o 4 → le32_at b' o ≡ le32_at b o
  unfolding le32_at
  same-le32_at s = rw (s o (omega arith) (omega arith), s (o + 1) (omega arith) (omega arith), s (o + 2) (omega arith) (omega arith), s (o + 3) (omega arith) (omega arith))

  pub same-part : (n : ℕ) → length b' ≡ length b → SameBytes b b' o n → part b' o n ≡ part b o n
  unfolding part
  same-part n e s = ext_get_or 0 (take n (drop o b')) (take n (drop o b)) (simp (length-take, length-drop, e)) at
    where
      at : (i : ℕ) → i < length (take n (drop o b')) → get_or (take n (drop o b')) i 0 ≡ get_or (take n (drop o b)) i 0
      at i h =
          let l : i < n = omega (arith, simp (length-take, length-drop) at h) in
          get_or-take n (drop o b') i 0 l ∙ get_or-drop o b' i 0 ∙ s (o + i) (omega arith) (omega arith) ∙ sym (get_or-take n (drop o b) i 0 l ∙ get_or-drop o b i 0)

-- the bytes of a file from a up to a + n
pub slice_part : (b : List ℕ) (a n : ℕ) → take (a + n - a) (drop a b) ≡ part b a n
unfolding part
slice_part b a n = let s : a + n - a ≡ n = omega arith in rw s
