-- `walk` and `count`: a law for each fact that a turn of their loops needs, where x is what `next` gave. Assumes nothing.
use mathlib.Core.Path.{◌≡◌, sym, ◌∙◌, ap}
use mathlib.Core.Bool.{Bool, cond}
use mathlib.Core.List.{List}
use Prim.Native.Nat.{ℕ, ◌+◌, ◌-◌, ◌<◌, ◌≤◌}
use native.Mathlib.Omega.{arith}
use lib.ListN.{length}
use Rattle.characters.specs.declared.Cursor.{Cursor}
use Rattle.characters.specs.declared.Step.{Step}
use Rattle.characters.specs.declared.Step.TheVariants.{Character}
use Rattle.characters.specs.Utf8.{step_at, chars_from, well_formed_from}
use Rattle.characters.proofs.Steps.{step_advances}
use Rattle.characters.proofs.Folds.{Stopped, chars-character, chars_stopped, well_formed-character, well_formed_stopped, well_formed_past}

module _ (s : List ℕ) (at : ℕ) {x : Step} (e : x ≡ step_at s at) where
  module _ {ch : ℕ} {c : Cursor} (q : x ≡ Character ch c) where
    pub step-within : c.at ≤ length s
    step-within = (step_advances s at e q).within

    pub step_less : length s - c.at < length s - at
    step_less = let a = step_advances s at e q in omega arith

    pub walk_again : (w : Bool) → well_formed_from s at ≡ w → well_formed_from s c.at ≡ w
    walk_again w i = sym (well_formed-character s at e q) ∙ i

    pub count_again : (n total : ℕ) → n + length (chars_from s at) ≡ total → n + 1 + length (chars_from s c.at) ≡ total
    count_again n total i = let l = ap length (chars-character s at e q) in omega arith

    pub count_below : (n : ℕ) → n ≤ at → n + 1 ≤ c.at
    count_below n h = let a = step_advances s at e q in omega arith

  pub walk_stopped : Stopped x → at < length s → {R : Type 0} (good refused : R) (w : Bool) → well_formed_from s at ≡ w → refused ≡ cond w good refused
  walk_stopped t h good refused w i = rw (sym i ∙ well_formed_stopped s at e t h)

  pub count_stopped : Stopped x → (n total : ℕ) → n + length (chars_from s at) ≡ total → n ≡ total
  count_stopped t n total i = let l = ap length (chars_stopped s at e t) in omega arith

pub walk_past : (s : List ℕ) (at : ℕ) → length s ≤ at → {R : Type 0} (good refused : R) (w : Bool) → well_formed_from s at ≡ w → good ≡ cond w good refused
walk_past s at h good refused w i = rw (sym i ∙ well_formed_past s at h)
