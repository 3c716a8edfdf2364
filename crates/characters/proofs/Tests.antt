-- What the returns of a chain of tests follow from: each test's outcome, by a comparison or by calls. Assumes nothing.
use mathlib.Core.Path.{◌≡◌, ap, ap₂}
use mathlib.Core.Bool.{Bool, true, false, cond, ◌&&◌, not}
use borrow.Author.Tests.{lt-ltb, le-ltb, le-leb, lt-leb, eq-eqb, ne_eqb}

pub cond_true : {A : Type 0} (t u : Bool) (x y r : A) → t ≡ true → t ≡ u → r ≡ x → r ≡ cond u x y
cond_true t u x y r o e q = rw (← e, o) q

pub cond_false : {A : Type 0} (t u : Bool) (x y : A) → t ≡ false → t ≡ u → y ≡ cond u x y
cond_false t u x y o e = rw (← e, o)

pub and_same : (t u p q : Bool) → t ≡ p → u ≡ q → (t && u) ≡ (p && q)
and_same t u p q e f = ap₂ ◌&&◌ e f

pub not_same : (t p : Bool) → t ≡ p → not t ≡ not p
not_same t p e = ap not e

pub ruleset tests = (lt-ltb, le-ltb, le-leb, lt-leb, eq-eqb, ne_eqb)

pub ruleset calls = (cond_true, cond_false, and_same, not_same)
