-- Characters are counted and found in a range without listing it. Assumes nothing.
use mathlib.Core.Path.{◌≡◌, refl, sym, ◌∙◌, ap}
use mathlib.Core.Logic.{⊎_elim}
use mathlib.Core.Bool.{true, false, cond}
use mathlib.Core.List.{List, ◌++◌, append_assoc}
use mathlib.Mathlib.Data.Bool.Basic.{dichotomy}
use Prim.Native.Nat.{ℕ, zero, suc, ◌+◌, ◌-◌, ◌<◌, ◌≤◌}
use native.Mathlib.Numerals.{add-one}
use native.Mathlib.Omega.{arith}
use native.Mathlib.Decide.{dec_lt}
use borrow.Author.Tests.{lt-ltb, le-ltb, lt-leb, le-leb, eq-eqb, ne_eqb}
use lib.ListN.{length}
use Rattle.characters.specs.Utf8.{is_surrogate}
use Rattle.std.specs.Prelude.{Some}
use Rattle.mapping.specs.Entries.{scalars_below}
use Rattle.mapping.specs.Mapping.{scalars_from, from_to, place_from}

-- ---- how many characters a range has

-- below the surrogates, among them, above them
by_region : (v : ℕ) {P : Type 0} → (v < 0xD800 → is_surrogate v ≡ false → scalars_below v ≡ v → P)
    → (0xD800 ≤ v → v < 0xE000 → is_surrogate v ≡ true → scalars_below v ≡ 0xD800 → P)
    → (0xE000 ≤ v → is_surrogate v ≡ false → scalars_below v ≡ v - 0x800 → P) → P
unfolding scalars_below is_surrogate
by_region v below among above = elim (dec_lt v 0xD800) [
  | yes l ↦ below l (rw (lt-leb 0xD800 v l)) (rw (lt-ltb v 0xD800 l))
  | no n ↦ (
      let l : 0xD800 ≤ v = omega arith in
      elim (dec_lt v 0xE000) [
        | yes m ↦ among l m (rw (le-leb 0xD800 v l, lt-ltb v 0xE000 m)) (rw (le-ltb v 0xD800 l, lt-ltb v 0xE000 m))
        | no k ↦ (
            let m : 0xE000 ≤ v = omega arith in
            above m (rw (le-leb 0xD800 v l, le-ltb v 0xE000 m)) (rw (le-ltb v 0xD800 l, le-ltb v 0xE000 m))
            )
      ]
      )
]

-- one number more is one character more, unless it is a surrogate
below_suc : (v : ℕ) → scalars_below (suc v) ≡ cond (is_surrogate v) (scalars_below v) (suc (scalars_below v))
below_suc v =
    by_region v
    (λ l t e. rw t (by_region (suc v) (λ m u f. omega arith) (λ m n u f. omega arith) (λ m u f. omega arith)))
    (λ l h t e. rw t (by_region (suc v) (λ m u f. omega arith) (λ m n u f. omega arith) (λ m u f. omega arith)))
    (λ l t e. rw t (by_region (suc v) (λ m u f. omega arith) (λ m n u f. omega arith) (λ m u f. omega arith)))

pub length_scalars : (n a : ℕ) → scalars_below a + length (scalars_from n a) ≡ scalars_below (a + n)
unfolding scalars_from
length_scalars zero a = let e : a + 0 ≡ a = omega arith in rw e (omega arith)
length_scalars (suc n) a =
    let i = length_scalars n (suc a) in
    let e : suc a + n ≡ a + suc n = omega arith in
    let v = ap scalars_below e in
    ⊎_elim
    (λ t. let s : scalars_below (suc a) ≡ suc (scalars_below a) = rw t at (below_suc a) in rw t (omega arith))
    (λ t. let s : scalars_below (suc a) ≡ scalars_below a = rw t at (below_suc a) in rw t (omega arith))
    (dichotomy (is_surrogate a))

length_scalars_between : (start end : ℕ) → length (scalars_from (end - start) start) ≡ scalars_below end - scalars_below start
unfolding scalars_from
length_scalars_between start end = elim (dec_lt end start) [
  | yes l ↦ (
      let o = length_scalars (start - end) end in
      let i : end + (start - end) ≡ start = omega arith in
      let v = ap scalars_below i in
      let z : end - start ≡ 0 = omega arith in
      rw z (omega arith)
      )
  | no l ↦ (
      let o = length_scalars (end - start) start in
      let i : start + (end - start) ≡ end = omega arith in
      let v = ap scalars_below i in
      omega arith
      )
]

pub length_range : (start end r p q x y : ℕ) → r ≡ p - q → p ≡ scalars_below (x + 1) → x ≡ end → q ≡ scalars_below y → y ≡ start → r ≡ length (from_to start end)
length_range start end r p q x y e f h g i =
    let l = length_scalars_between start (suc end) in
    let v : p ≡ scalars_below (suc end) = f ∙ ap (λ z. scalars_below (z + 1)) h ∙ ap scalars_below (add-one end) in
    let w : q ≡ scalars_below start = g ∙ ap scalars_below i in
    omega arith

scalars_below_le : (v : ℕ) → scalars_below v ≤ v
scalars_below_le v = by_region v (λ l t e. omega arith) (λ l h t e. omega arith) (λ l t e. omega arith)

pub length_range_le : (start end : ℕ) → length (from_to start end) ≤ suc end
length_range_le start end = omega (arith, length_scalars_between start (suc end), scalars_below_le (suc end))

-- up to a character in it, a range has the characters before it and itself
pub length_range_through : (start ch : ℕ) → is_surrogate ch ≡ false → start ≤ ch → length (from_to start ch) ≡ suc (length (scalars_from (ch - start) start))
length_range_through start ch p h =
    let o = length_scalars (ch - start) start in
    let i : start + (ch - start) ≡ ch = omega arith in
    let v = ap scalars_below i in
    let n : scalars_below (suc ch) ≡ suc (scalars_below ch) = rw p at (below_suc ch) in
    omega (arith, length_scalars_between start (suc ch))

-- ---- where a character stands

scalars_append : (m n a : ℕ) → scalars_from (m + n) a ≡ scalars_from m a ++ scalars_from n (a + m)
unfolding scalars_from
scalars_append zero n a =
    let e : 0 + n ≡ n = omega arith in
    let f : a + 0 ≡ a = omega arith in
    rw (e, f)
scalars_append (suc m) n a =
    let e : suc m + n ≡ suc (m + n) = omega arith in
    let f : a + suc m ≡ suc a + m = omega arith in
    rw (e, f, scalars_append m n (suc a)) (⊎_elim (λ t. rw t) (λ t. rw t) (dichotomy (is_surrogate a)))

module _ (ch : ℕ) (r : List ℕ) where
  -- not among the numbers: where it stands after them
  pub place_past : (n k a : ℕ) → (is_surrogate ch ≡ false → a ≤ ch → ch < a + n → ⊥)
      → place_from k ch (scalars_from n a ++ r) ≡ place_from (k + length (scalars_from n a)) ch r
  unfolding scalars_from place_from
  place_past zero k a out = let e : k + 0 ≡ k = omega arith in rw e
  place_past (suc n) k a out =
      let rest : (j : ℕ) → place_from j ch (scalars_from n (suc a) ++ r) ≡ place_from (j + length (scalars_from n (suc a))) ch r =
      λ j. place_past n j (suc a) (λ p l h. out p (omega arith) (omega arith)) in
      let i : k + suc (length (scalars_from n (suc a))) ≡ suc k + length (scalars_from n (suc a)) = omega arith in
      ⊎_elim
      (λ t. rw t (rw (ne_eqb a ch (λ e. out (ap is_surrogate (sym e) ∙ t) (omega arith) (omega arith)), i) (rest (suc k))))
      (λ t. rw t (rest k))
      (dichotomy (is_surrogate a))

  -- first of the numbers
  place_here : (n k : ℕ) → is_surrogate ch ≡ false → place_from k ch (scalars_from (suc n) ch ++ r) ≡ Some k
  unfolding scalars_from place_from
  place_here n k p = rw (p, eq-eqb ch ch refl)

-- in a range: as far on as there are characters in it up to this one
pub place_in : (ch : ℕ) (r : List ℕ) (k start end : ℕ) → is_surrogate ch ≡ false → start ≤ ch → ch ≤ end
    → place_from k ch (from_to start end ++ r) ≡ Some (k + length (from_to start ch) - 1)
place_in ch r k start end p l h =
    let rest = scalars_from (suc (end - ch)) ch ++ r in
    let parts : suc end - start ≡ (ch - start) + suc (end - ch) = omega arith in
    let i : start + (ch - start) ≡ ch = omega arith in
    let n = length_range_through start ch p l in
    rw (parts, scalars_append (ch - start) (suc (end - ch)) start, i, append_assoc (scalars_from (ch - start) start) (scalars_from (suc (end - ch)) ch) r)
    (place_past ch rest (ch - start) k start (λ s a b. omega arith) ∙ place_here ch r (end - ch) _ p ∙ ap Some (omega arith))
