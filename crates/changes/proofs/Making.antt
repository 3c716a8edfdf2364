-- One edit on an accepted sheet: what is left where it is refused, and where it is made. Assumes nothing.
use Prim.Native.Nat.{ℕ, suc, ◌-◌}
use native.Mathlib.Omega.{arith}
use mathlib.Core.Path.{◌≡◌, refl, sym, ◌∙◌}
use mathlib.Core.List.{List}
use Rattle.std.specs.Prelude.{Result, Ok, Err}
use Rattle.std.specs.Result.{IsErrAnd}
use Rattle.refusals.specs.declared.Refusal.{Refusal}
use Rattle.refusals.specs.Numbers.{number}
use Rattle.refusals.proofs.Numbers.{not_zero}
use Rattle.geometry.specs.declared.Rectangle.{Rectangle}
use Rattle.sheet.specs.declared.edit.Edit as code
use Rattle.sheet.specs.declared.edit.Edit.TheVariants.{Text, Place, Style}
use Rattle.sheet.specs.Edits.{Edit, item_number, refusal, edited}
use Rattle.sheet.specs.OfItem.{of_item}
use Rattle.drawing.specs.Drawing.{damage}
use Rattle.changes.specs.Change.{Change, change_of, outcome, sheet_after}

-- ---- refused

module _ (b : List ℕ) (e : Edit) (d : Refusal) (q : number d ≡ refusal b e) where
  refused : refusal b e ≡ suc (number d - 1)
  refused = let p : number d ≡ suc (number d - 1) = omega (arith, not_zero d) in sym q ∙ p

  pub outcome_refused : (r : Result Rectangle Refusal) → IsErrAnd r (λ x. x ≡ d) → change_of r ≡ outcome b e
  unfolding outcome
  outcome_refused (Ok a) h = absurd h
  outcome_refused (Err x) h = rw (h, q, refused)

  pub sheet_kept : b ≡ sheet_after b e
  unfolding sheet_after
  sheet_kept = rw refused

-- ---- made

number_of : (i : ℕ) (e : code.Edit) → item_number (of_item i e) ≡ i
number_of i (Text t) = refl
number_of i (Place x y) = refl
number_of i (Style t) = refl

module _ (b : List ℕ) (i : ℕ) (e : code.Edit) (z : 0 ≡ refusal b (of_item i e)) where
  pub outcome_made : (a : Rectangle) → a ≡ damage b (edited b (of_item i e)) i → ◌≡◌ {A = Change} (record { code = 0; area = a }) (outcome b (of_item i e))
  unfolding outcome
  outcome_made a ea = rw (← z, number_of i e) (rw ea)

  pub sheet_made : (s : List ℕ) → s ≡ edited b (of_item i e) → s ≡ sheet_after b (of_item i e)
  unfolding sheet_after
  sheet_made s es = rw (← z) es
