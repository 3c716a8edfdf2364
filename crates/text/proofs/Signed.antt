-- Counting from `origin` commutes with sums, differences that are not cut, least and greatest, and so with every box made of them.
-- Assumes nothing.
use Prim.Native.Nat.{ℕ, zero, suc, ◌+◌, ◌-◌, ◌≤◌, ◌<◌, min, max}
use native.Mathlib.Omega.{arith}
use mathlib.Core.Path.{◌≡◌, refl, sym, ap, ◌∙◌}
use mathlib.Core.Bool.{Bool, true, false, not, cond}
use mathlib.Core.List.{List, [], ◌∷◌, map}
use lib.Dec.{leb, ltb}
use lib.IntN.{ℤ, pos, negsuc, neg_ℤ, ◌+ℤ◌, ◌-ℤ◌, +ℤ_assoc, +ℤ_comm, +ℤ_invr, +ℤ_idl, +ℤ-neg_ℤ_cancel, neg_ℤ-+ℤ}
use lib.Signed.{le_z, lt_z}
use borrow.Author.Tests.{leb-true, leb-false, ltb-true, ltb-false, le-leb, lt-leb, lt-ltb, le-ltb}
use Rattle.geometry.specs.declared.Rectangle.{Rectangle}
use Rattle.geometry.specs.Layer.{origin, signed}
use Rattle.geometry.specs.Rectangle.{covers, is_empty, envelope, join, joins, intersection}
use Rattle.text.specs.Signed
use Rattle.text.specs.Signed.{to_nat, min_z, max_z, SignedRectangle, signed_rectangle}

-- ---- numbers

pub signed_add : (x n : ℕ) → signed x +ℤ pos n ≡ signed (x + n)
unfolding signed
signed_add x n = +ℤ_assoc (pos x) (neg_ℤ (pos origin)) (pos n) ∙ ap (λ (z : ℤ). pos x +ℤ z) (+ℤ_comm (neg_ℤ (pos origin)) (pos n)) ∙ sym (+ℤ_assoc (pos x) (pos n) (neg_ℤ (pos origin)))

pub signed_sub : (x n : ℕ) → n ≤ x → signed x -ℤ pos n ≡ signed (x - n)
signed_sub x n h =
    let e : x ≡ x - n + n = omega arith in
    ap (λ (k : ℕ). signed k -ℤ pos n) e ∙ ap (λ (z : ℤ). z -ℤ pos n) (sym (signed_add (x - n) n)) ∙ +ℤ-neg_ℤ_cancel (signed (x - n)) (pos n)

not_above : (n : ℕ) → to_nat (neg_ℤ (pos n)) ≡ 0
not_above zero = refl
not_above (suc n) = refl

-- a difference, at least 0
pub difference : (x y : ℕ) → to_nat (signed y -ℤ signed x) ≡ y - x
difference x y = go (leb x y) refl
  where
    go : (t : Bool) → leb x y ≡ t → to_nat (signed y -ℤ signed x) ≡ y - x
    go true q =
        let l = leb-true x y q in
        let e : y ≡ x + (y - x) = omega arith in
        ap (λ (k : ℕ). to_nat (signed k -ℤ signed x)) e ∙ ap (λ (z : ℤ). to_nat (z -ℤ signed x)) (sym (signed_add x (y - x)) ∙ +ℤ_comm (signed x) (pos (y - x)))
        ∙ ap to_nat (+ℤ-neg_ℤ_cancel (pos (y - x)) (signed x))
    go false q =
        let l = leb-false x y q in
        let e : x ≡ y + (x - y) = omega arith in
        let z : 0 ≡ y - x = omega arith in
        ap (λ (k : ℕ). to_nat (signed y -ℤ signed k)) e
        ∙ ap (λ (z : ℤ). to_nat (signed y +ℤ z)) (ap neg_ℤ (sym (signed_add y (x - y))) ∙ neg_ℤ-+ℤ (signed y) (pos (x - y)))
        ∙ ap to_nat (sym (+ℤ_assoc (signed y) (neg_ℤ (signed y)) (neg_ℤ (pos (x - y)))) ∙ ap (λ (z : ℤ). z +ℤ neg_ℤ (pos (x - y))) (+ℤ_invr (signed y)) ∙ +ℤ_idl (neg_ℤ (pos (x - y))))
        ∙ not_above (x - y) ∙ z

same_leb : (a b c d : ℕ) → (a ≤ b → c ≤ d) → (b < a → d < c) → leb a b ≡ leb c d
same_leb a b c d f g = go (leb a b) refl
  where
    go : (t : Bool) → leb a b ≡ t → t ≡ leb c d
    go true e = sym (le-leb c d (f (leb-true a b e)))
    go false e = sym (lt-leb c d (g (leb-false a b e)))

pub signed_le : (x y : ℕ) → le_z (signed x) (signed y) ≡ leb x y
unfolding signed
signed_le x y = go (ltb x origin) (ltb y origin) refl refl
  where
    go : (s t : Bool) → ltb x origin ≡ s → ltb y origin ≡ t → le_z (cond s (negsuc (origin - suc x)) (pos (x - origin))) (cond t (negsuc (origin - suc y)) (pos (y - origin))) ≡ leb x y
    go true true p q = let l = ltb-true x origin p in let m = ltb-true y origin q in same_leb (origin - suc y) (origin - suc x) x y (λ h. omega arith) (λ h. omega arith)
    go true false p q = let l = ltb-true x origin p in let m = ltb-false y origin q in sym (le-leb x y (omega arith))
    go false true p q = let l = ltb-false x origin p in let m = ltb-true y origin q in sym (lt-leb x y (omega arith))
    go false false p q = let l = ltb-false x origin p in let m = ltb-false y origin q in same_leb (x - origin) (y - origin) x y (λ h. omega arith) (λ h. omega arith)

-- a column or a row of the frame
pub signed-origin : (n : ℕ) → signed (origin + n) ≡ pos n
signed-origin n = sym (signed_add origin n) ∙ ap (λ (z : ℤ). z +ℤ pos n) corner ∙ +ℤ_idl (pos n)
  where
    corner : signed origin ≡ pos 0
    corner = unfold signed in refl

-- the smaller or the larger of two
chosen : (x y a b z : ℕ) → (x ≤ y → a ≡ z) → (y < x → b ≡ z) → cond (le_z (signed x) (signed y)) (signed a) (signed b) ≡ signed z
chosen x y a b z f g = rw (signed_le x y) (go (leb x y) refl)
  where
    go : (t : Bool) → leb x y ≡ t → cond t (signed a) (signed b) ≡ signed z
    go true e = ap signed (f (leb-true x y e))
    go false e = ap signed (g (leb-false x y e))

pub least : (x y : ℕ) → min_z (signed x) (signed y) ≡ signed (min x y)
least x y = chosen x y x y (min x y) (λ h. omega arith) (λ h. omega arith)

pub greatest : (x y : ℕ) → max_z (signed x) (signed y) ≡ signed (max x y)
greatest x y = chosen x y y x (max x y) (λ h. omega arith) (λ h. omega arith)

-- ---- rectangles

not_less : (a b : ℕ) → ltb a b ≡ not (leb b a)
not_less a b = go (leb b a) refl
  where
    go : (t : Bool) → leb b a ≡ t → ltb a b ≡ not t
    go true e = le-ltb a b (leb-true b a e)
    go false e = lt-ltb a b (leb-false b a e)

less : (a b : ℤ) → lt_z a b ≡ not (le_z b a)
less (pos a) (pos b) = not_less a b
less (pos a) (negsuc b) = refl
less (negsuc a) (pos b) = refl
less (negsuc a) (negsuc b) = not_less b a

signed_lt : (x y : ℕ) → lt_z (signed x) (signed y) ≡ ltb x y
signed_lt x y = less (signed x) (signed y) ∙ ap not (signed_le y x) ∙ sym (not_less x y)

pub signed-covers : (a : Rectangle) (c r : ℕ) → Signed.covers (signed_rectangle a) (signed c) (signed r) ≡ covers a c r
unfolding Signed.covers covers
signed-covers a c r = simp (signed_add, signed_le, signed_lt)

pub signed-envelope : (a b : Rectangle) → Signed.envelope (signed_rectangle a) (signed_rectangle b) ≡ signed_rectangle (envelope a b)
unfolding Signed.envelope envelope
signed-envelope a b = simp (signed_add, least, greatest, difference)

pub signed-intersection : (a b : Rectangle) → Signed.intersection (signed_rectangle a) (signed_rectangle b) ≡ signed_rectangle (intersection a b)
unfolding Signed.intersection intersection
signed-intersection a b = simp (signed_add, least, greatest, difference)

pub signed-join : (a b : Rectangle) → Signed.join (signed_rectangle a) (signed_rectangle b) ≡ signed_rectangle (join a b)
unfolding Signed.join join Signed.is_empty is_empty
signed-join a b = go (is_empty b) (is_empty a)
  where
    go : (u v : Bool) → cond u (signed_rectangle a) (cond v (signed_rectangle b) (Signed.envelope (signed_rectangle a) (signed_rectangle b))) ≡ signed_rectangle (cond u a (cond v b (envelope a b)))
    go true v = refl
    go false true = refl
    go false false = signed-envelope a b

pub signed-joins : (bs : List Rectangle) (a : Rectangle) → Signed.joins (signed_rectangle a) (map signed_rectangle bs) ≡ signed_rectangle (joins a bs)
unfolding Signed.joins joins
signed-joins [] a = refl
signed-joins (b ∷ bs) a = ap (λ (c : SignedRectangle). Signed.joins c (map signed_rectangle bs)) (signed-join a b) ∙ signed-joins bs (join a b)
