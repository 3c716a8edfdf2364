-- Pieces one after another: the test of it, both ways, where each piece stands, and a test that is run record by record. Assumes nothing.
use Prim.Native.Nat.{ℕ, zero, suc, ◌+◌, ◌-◌, ◌≤◌, ◌<◌}
use mathlib.Core.Path.{◌≡◌, refl, sym, ◌∙◌, ap}
use mathlib.Core.Bool.{Bool, true, false}
use mathlib.Core.List.{List, [], ◌∷◌, ◌++◌}
use lib.Dec.{eqb}
use native.Mathlib.Numerals.{add-one}
use native.Mathlib.Omega.{arith}
use borrow.Author.Tests.{eqb-true, eqb-false, eq-eqb}
use Rattle.std.specs.Prelude.{Option, None, Some}
use Rattle.sheet.specs.Pieces.{Piece, pieces_of}
use Rattle.sheet.specs.Conforming.{Chain}
use Rattle.sheet.specs.Check.{given, reach, ends_at}

-- ---- the test reaches q just where the pieces stand in a chain that ends at q

given_to : (t : Bool) (r : Option ℕ) (q : ℕ) → given t r ≡ Some q → (t ≡ true) × (r ≡ Some q)
given_to true r q h = (refl, h)
given_to false r q h = let z : ◌≡◌ {A = ℕ} 0 1 = cc in absurd (omega arith)

reach_chain : (l : List Piece) (p q : ℕ) → reach l p ≡ Some q → Chain l p q
unfolding reach Chain
reach_chain [] p q h = cc
reach_chain (c ∷ l) p q h =
    let g = given_to (eqb c.offset p) (reach l (p + c.size)) q h in
    let e = eqb-true c.offset p g.0 in
    (e, rw e (reach_chain l (p + c.size) q g.1))

chain_reach : (l : List Piece) (p q : ℕ) → Chain l p q → reach l p ≡ Some q
unfolding reach Chain
chain_reach [] p q h = ap Some h
chain_reach (c ∷ l) p q h = rw (eq-eqb _ _ h.0) (chain_reach l (p + c.size) q (rw h.0 at h).1)

ends_at_to : (r : Option ℕ) (n : ℕ) → ends_at r n ≡ true → r ≡ Some n
ends_at_to None n h = let z : ◌≡◌ {A = ℕ} 0 1 = cc in absurd (omega arith)
ends_at_to (Some p) n h = ap Some (eqb-true p n h)

pub ends_chain : (l : List Piece) (p q : ℕ) → ends_at (reach l p) q ≡ true → Chain l p q
ends_chain l p q h = reach_chain l p q (ends_at_to (reach l p) q h)

pub chain_ends : (l : List Piece) (p q : ℕ) → Chain l p q → ends_at (reach l p) q ≡ true
chain_ends l p q h = rw (chain_reach l p q h) (eq-eqb q q refl)

-- ---- where pieces of a chain stand

-- pieces in a chain that lies between p and q
pub record Between (l : List Piece) (p q : ℕ) : Type 0 where
  pub from : ℕ
  pub to : ℕ
  pub chain : Chain l from to
  pub after : p ≤ from
  pub before : to ≤ q

pub chain_le : (l : List Piece) (p q : ℕ) → Chain l p q → p ≤ q
unfolding Chain
chain_le [] p q h = omega arith
chain_le (c ∷ l) p q h = omega (arith, h.0, chain_le l (c.offset + c.size) q h.1)

-- a chain of two lists is two chains
pub record Split (l m : List Piece) (p q : ℕ) : Type 0 where
  pub at : ℕ
  pub first : Chain l p at
  pub second : Chain m at q

pub chain_split : (l m : List Piece) (p q : ℕ) → Chain (l ++ m) p q → Split l m p q
unfolding Chain
chain_split [] m p q h = record { at = p; first = refl; second = h }
chain_split (c ∷ l) m p q h = let s = chain_split l m (c.offset + c.size) q h.1 in record { at = s.at; first = (h.0, s.first); second = s.second }

module _ (f : ℕ → List Piece) where
  pub chain_at : (n k p q : ℕ) → Chain (pieces_of f n k) p q → (j : ℕ) → k ≤ j → j < k + n → Between (f j) p q
  unfolding pieces_of
  chain_at zero k p q h j l m = absurd (omega arith)
  chain_at (suc n) k p q h j l m = let s = chain_split (f k) (pieces_of f n (suc k)) p q h in go s (chain_at n (suc k) s.at q s.second j) (eqb j k) refl
    where
      go : (s : Split (f k) (pieces_of f n (suc k)) p q) → (suc k ≤ j → j < suc k + n → Between (f j) s.at q) → (t : Bool) → eqb j k ≡ t → Between (f j) p q
      go s ih true u = rw (eqb-true j k u) (record { from = p; to = s.at; chain = s.first; after = omega arith; before = chain_le (pieces_of f n (suc k)) s.at q s.second })
      go s ih false u =
          let d = eqb-false j k u in
          let b = ih (omega arith) (omega arith) in
          record { from = b.from; to = b.to; chain = b.chain; after = omega (arith, chain_le (f k) p s.at s.first, b.after); before = b.before }

  -- one record's pieces stand before the next one's
  pub record Apart (i j p q : ℕ) : Type 0 where
    pub at : ℕ
    pub first : Between (f i) p at
    pub second : Between (f j) at q

  pub chain_apart : (n k p q : ℕ) → Chain (pieces_of f n k) p q → (i j : ℕ) → k ≤ i → i < j → j < k + n → Apart i j p q
  unfolding pieces_of
  chain_apart zero k p q h i j l m o = absurd (omega arith)
  chain_apart (suc n) k p q h i j l m o = let s = chain_split (f k) (pieces_of f n (suc k)) p q h in go s (chain_apart n (suc k) s.at q s.second i j) (eqb i k) refl
    where
      go : (s : Split (f k) (pieces_of f n (suc k)) p q) → (suc k ≤ i → i < j → j < suc k + n → Apart i j s.at q) → (t : Bool) → eqb i k ≡ t → Apart i j p q
      go s ih true u = record {
        at = s.at;
        first = rw (eqb-true i k u) (record { from = p; to = s.at; chain = s.first; after = omega arith; before = omega arith });
        second = chain_at n (suc k) s.at q s.second j (omega (arith, eqb-true i k u)) (omega arith);
      }
      go s ih false u =
          let d = eqb-false i k u in
          let a = ih (omega arith) m (omega arith) in
          let b = a.first in
          record { at = a.at; first = record { from = b.from; to = b.to; chain = b.chain; after = omega (arith, chain_le (f k) p s.at s.first, b.after); before = b.before }; second = a.second }

  -- ---- the test, record by record

  pub pieces-start : (m n p : ℕ) → n ≡ m → reach (pieces_of f (n - 0) 0) p ≡ reach (pieces_of f m 0) p
  pieces-start m n p e = ap (λ (i : ℕ). reach (pieces_of f i 0) p) (omega arith)

  pub pieces_done : (n k p : ℕ) (e : Option ℕ) → n ≤ k → reach (pieces_of f (n - k) k) p ≡ e → Some p ≡ e
  unfolding pieces_of reach
  pieces_done n k p e h i = let z : n - k ≡ 0 = omega arith in rw z at i

-- what the first list reaches, then the second from there on
abbrev pub then_reach : Option ℕ → List Piece → Option ℕ
then_reach None m = None
then_reach (Some q) m = reach m q

pub reach-append : (l m : List Piece) (p : ℕ) → reach (l ++ m) p ≡ then_reach (reach l p) m
unfolding reach
reach-append [] m p = refl
reach-append (c ∷ l) m p = go (eqb c.offset p) (reach-append l m (p + c.size))
  where
    go : (t : Bool) → reach (l ++ m) (p + c.size) ≡ then_reach (reach l (p + c.size)) m → given t (reach (l ++ m) (p + c.size)) ≡ then_reach (given t (reach l (p + c.size))) m
    go true ih = ih
    go false ih = refl

module _ (f : ℕ → List Piece) (n k p : ℕ) (e : Option ℕ) (h : k < n) (i : reach (pieces_of f (n - k) k) p ≡ e) where
  unrolled : then_reach (reach (f k) p) (pieces_of f (n - suc k) (suc k)) ≡ e
  unfolding pieces_of
  unrolled = let z : n - k ≡ suc (n - suc k) = omega arith in sym (reach-append (f k) (pieces_of f (n - suc k) (suc k)) p) ∙ (rw z at i)

  pub pieces_more : (q : ℕ) → reach (f k) p ≡ Some q → reach (pieces_of f (n - (k + 1)) (k + 1)) q ≡ e
  pieces_more q r = rw add-one (rw r at unrolled)

  pub pieces_misplaced : reach (f k) p ≡ None → None ≡ e
  pieces_misplaced r = rw r at unrolled

-- ---- pieces of records that read the same

pub same-pieces_of : (f g : ℕ → List Piece) (n k : ℕ) → ((j : ℕ) → k ≤ j → j < k + n → f j ≡ g j) → pieces_of f n k ≡ pieces_of g n k
unfolding pieces_of
same-pieces_of f g zero k h = refl
same-pieces_of f g (suc n) k h = rw (h k (omega arith) (omega arith), same-pieces_of f g n (suc k) (λ j l m. h j (omega arith) (omega arith)))
