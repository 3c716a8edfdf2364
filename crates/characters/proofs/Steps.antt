-- Each step goes forward, within the bytes, to a number that is no surrogate and at most 10FFFF. Assumes nothing.
use mathlib.Core.Path.{◌≡◌, refl, sym, ◌∙◌}
use mathlib.Core.Bool.{Bool, true, false, not, cond, ◌&&◌, and-eq-true_iff}
use mathlib.Core.List.{List}
use Prim.Native.Nat.{ℕ, ◌+◌, ◌-◌, ◌<◌, ◌≤◌}
use native.Mathlib.Omega.{arith}
use native.Mathlib.Decide.{dec_lt}
use borrow.Author.Tests.{ltb-true, ltb-false, eqb-true, leb-true, not-true, le-ltb, lt-leb}
use lib.ListN.{length, get_or}
use lib.Dec.{ltb, leb, eqb, lit≤}
use Rattle.characters.specs.declared.Cursor.{Cursor}
use Rattle.characters.specs.declared.Step.{Step}
use Rattle.characters.specs.declared.Step.TheVariants.{Character, IllFormed, End}
use Rattle.characters.specs.Utf8.{leading_ones, is_continuation, is_surrogate, scalar, two, three, four, sequence, step_at}

-- what holds of both outcomes of a test holds of the choice
pub cond_both : {A : Type 0} (P : A → Type 0) (t : Bool) (x y : A) → (t ≡ true → P x) → (t ≡ false → P y) → P (cond t x y)
cond_both P true x y f g = f refl
cond_both P false x y f g = g refl

-- a number that stands for a character: Rust's `char`
pub record IsScalar (ch : ℕ) : Type 0 where
  pub no_surrogate : is_surrogate ch ≡ false
  pub in_range_lem : ch ≤ 0x10FFFF

-- from `at`, within n bytes, to the character ch with c after it
pub record Advances (at n ch : ℕ) (c : Cursor) : Type 0 where
  pub forward : at < c.at
  pub within : c.at ≤ n
  pub is_scalar : IsScalar ch

-- what a step at a position of n bytes can be
abbrev pub Steps : ℕ → ℕ → Step → Type 0
Steps at n (Character ch c) = Advances at n ch c
Steps at n IllFormed = at < n
Steps at n End = n ≤ at

module _ (at n next : ℕ) (f : at < next) (w : next ≤ n) where
  scalar-steps : (v least : ℕ) → Steps at n (scalar v least next)
  unfolding scalar
  scalar-steps v least = cond_both (Steps at n) (leb least v && (not (is_surrogate v) && leb v 0x10FFFF)) _ _ (λ e.
      let r = ((and-eq-true_iff (leb least v) _).0 e).1 in
      let q = (and-eq-true_iff (not (is_surrogate v)) _).0 r in
      record { forward = f; within = w; is_scalar = record { no_surrogate = not-true _ q.0; in_range_lem = leb-true _ _ q.1 } })
      (λ e. omega arith)

  continued-steps : (t : Bool) (v least : ℕ) → Steps at n (cond t (scalar v least next) IllFormed)
  continued-steps t v least = cond_both (Steps at n) t _ _ (λ o. scalar-steps v least) (λ o. omega arith)

  two_steps : (a b : ℕ) → Steps at n (two a b next)
  unfolding two
  two_steps a b = continued-steps (is_continuation b) _ _

  three-steps : (a b c : ℕ) → Steps at n (three a b c next)
  unfolding three
  three-steps a b c = continued-steps (is_continuation b && is_continuation c) _ _

  four-steps : (a b c d : ℕ) → Steps at n (four a b c d next)
  unfolding four
  four-steps a b c d = continued-steps (is_continuation b && (is_continuation c && is_continuation d)) _ _

leading_ones_pos : (b : ℕ) → 0x80 ≤ b → 1 ≤ leading_ones b
unfolding leading_ones
leading_ones_pos b h =
    let pos : (t : Bool) (n m : ℕ) → 1 ≤ n → 1 ≤ m → 1 ≤ cond t n m = λ t n m p q. cond_both (λ k. 1 ≤ k) t n m (λ e. p) (λ e. q) in
    rw (le-ltb b 0x80 h)
    (pos (ltb b 0xC0) 1 _ (lit≤ tt)
    (pos (ltb b 0xE0) 2 _ (lit≤ tt)
    (pos (ltb b 0xF0) 3 _ (lit≤ tt)
    (pos (ltb b 0xF8) 4 _ (lit≤ tt)
    (pos (ltb b 0xFC) 5 _ (lit≤ tt)
    (pos (ltb b 0xFE) 6 _ (lit≤ tt)
    (pos (ltb b 0xFF) 7 8 (lit≤ tt) (lit≤ tt))))))))

pub alone_small : (b : ℕ) → leading_ones b ≡ 0 → b < 0x80
alone_small b e = elim (dec_lt b 0x80) [ yes l ↦ l | no l ↦ absurd (let p = leading_ones_pos b (omega arith) in omega arith) ]

small_no_surrogate : (b : ℕ) → b < 0xD800 → is_surrogate b ≡ false
unfolding is_surrogate
small_no_surrogate b h = rw (lt-leb 0xD800 b h)

sequence_steps : (n : ℕ) (s : List ℕ) (at : ℕ) → n ≡ leading_ones (get_or s at 0) → at < length s → Steps at (length s) (sequence n s at)
unfolding sequence
sequence_steps n s at e h =
    let S : Step → Type 0 = Steps at (length s) in
    cond_both S (eqb n 0) _ _ (λ z.
    let a = alone_small (get_or s at 0) (sym e ∙ eqb-true n 0 z) in
    record { forward = omega arith; within = omega arith; is_scalar = record { no_surrogate = small_no_surrogate _ (omega arith); in_range_lem = omega arith } }) (λ z.
    cond_both S (ltb (length s - at) n) _ _ (λ l. h) (λ l.
    let m = ltb-false (length s - at) n l in
    cond_both S (eqb n 2) _ _ (λ q. let i = eqb-true n 2 q in two_steps at _ (at + 2) (omega arith) (omega arith) _ _) (λ q.
    cond_both S (eqb n 3) _ _ (λ q. let i = eqb-true n 3 q in three-steps at _ (at + 3) (omega arith) (omega arith) _ _ _) (λ q.
    cond_both S (eqb n 4) _ _ (λ q. let i = eqb-true n 4 q in four-steps at _ (at + 4) (omega arith) (omega arith) _ _ _ _) (λ q. h)))))

pub step_steps : (s : List ℕ) (at : ℕ) → Steps at (length s) (step_at s at)
unfolding step_at
step_steps s at = cond_both (Steps at (length s)) (ltb at (length s)) _ _
    (λ e. sequence_steps _ s at refl (ltb-true at (length s) e))
    (λ e. ltb-false at (length s) e)

-- x is what stands at a position
module _ (s : List ℕ) (at : ℕ) {x : Step} (e : x ≡ step_at s at) where
  pub step_advances : {ch : ℕ} {c : Cursor} → x ≡ Character ch c → Advances at (length s) ch c
  step_advances q = rw (sym e ∙ q) at (step_steps s at)

  pub step_ill_formed : x ≡ IllFormed → at < length s
  step_ill_formed q = rw (sym e ∙ q) at (step_steps s at)

  pub step_end : x ≡ End → length s ≤ at
  step_end q = rw (sym e ∙ q) at (step_steps s at)
