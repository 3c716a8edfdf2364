-- What tests in a row tell: where the refusal is 0 each test holds, and a refusal that is not 0 is the first. Assumes nothing.
use Prim.Native.Nat.{ℕ, zero, suc}
use mathlib.Core.Path.{◌≡◌, refl, sym, ◌∙◌, ap}
use mathlib.Core.Bool.{Bool, true, false, cond, and-eq-true_iff}
use mathlib.Core.List.{List, [], ◌∷◌}
use native.Mathlib.Omega.{arith}
use lib.ListN.{get_or}
use Rattle.std.specs.Prelude.{Result, Ok, Err}
use Rattle.std.specs.Result.{IsErrAnd}
use Rattle.refusals.specs.declared.Refusal.{Refusal}
use Rattle.refusals.specs.Numbers.{number, refusal_of}
use Rattle.refusals.proofs.Numbers.{not_zero}
use Rattle.characters.specs.Refusal.{need, or_else, all}

pub need_zero : (t : Bool) (n rest : ℕ) → need t (suc n) rest ≡ 0 → (t ≡ true) × (rest ≡ 0)
need_zero true n rest h = (refl, h)
need_zero false n rest h = absurd (omega arith)

pub or_else_zero : (n rest : ℕ) → or_else n rest ≡ 0 → (n ≡ 0) × (rest ≡ 0)
or_else_zero zero rest h = (refl, h)
or_else_zero (suc n) rest h = absurd (omega arith)

pub or_else_first : (n rest : ℕ) → (n ≡ 0 → ⊥) → or_else n rest ≡ n
or_else_first zero rest h = absurd (h refl)
or_else_first (suc n) rest h = refl

-- ---- the same of what a function gives that may refuse

-- the refusal that `?` hands on
pub handed_on : {A : Type 0} (r : Result A Refusal) (d : Refusal) → IsErrAnd r (λ e. e ≡ d) → refusal_of r ≡ number d
handed_on (Ok x) d h = absurd h
handed_on (Err e) d h = ap number h

module _ (n rest : ℕ) where
  pub or_else_refused : (d : Refusal) → number d ≡ n → number d ≡ or_else n rest
  or_else_refused d e = e ∙ sym (or_else_first n rest (λ z. not_zero d (e ∙ z)))

  pub or_else_handed_on : {A : Type 0} (r : Result A Refusal) (d : Refusal) → IsErrAnd r (λ e. e ≡ d) → number d ≡ n → refusal_of r ≡ or_else n rest
  or_else_handed_on r d h e = handed_on r d h ∙ or_else_refused d e

  pub or_else_passed : (m : ℕ) → 0 ≡ n → m ≡ rest → m ≡ or_else n rest
  or_else_passed m z e = rw (← z) e

module _ (t : Bool) (n rest : ℕ) where
  pub need_failed : t ≡ false → n ≡ need t n rest
  need_failed f = rw f

  pub need_passed : (m : ℕ) → t ≡ true → m ≡ rest → m ≡ need t n rest
  need_passed m f e = rw f e

-- what `walk` says, in a row of tests
pub walked : (w : Bool) (d : Refusal) (r : Result Unit Refusal) → r ≡ cond w (Ok tt) (Err d) → refusal_of r ≡ need w (number d) 0
walked true d r e = ap refusal_of e
walked false d r e = ap refusal_of e

pub ruleset chain = (or_else_handed_on, or_else_passed, need_failed, need_passed, walked)

-- test number i of a list of tests that all hold
pub all_true : (l : List Bool) → all l ≡ true → (i : ℕ) → get_or l i true ≡ true
all_true [] h i = refl
all_true (t ∷ ts) h zero = ((and-eq-true_iff t (all ts)).0 h).0
all_true (t ∷ ts) h (suc i) = all_true ts ((and-eq-true_iff t (all ts)).0 h).1 i
