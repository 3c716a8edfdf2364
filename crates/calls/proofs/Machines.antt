-- A run up to the first refusal, one input further. Assumes nothing.
use Prim.Native.Nat.{ℕ, suc}
use mathlib.Core.Path.{◌≡◌, refl}
use mathlib.Core.List.{List, [], ◌∷◌}
use Rattle.calls.specs.declared.Box.{Box}
use Rattle.calls.specs.Machine.{Machine, run_until_refused}

module _ {S Input : Type 0} (m : Machine S Input Box) (s : S) where
  pub until_end : run_until_refused m s [] ≡ record { state = s; replies = [] }
  unfolding run_until_refused
  until_end = refl

  module _ (i : Input) (is : List Input) where
    pub until_made : (m.reply s i).code ≡ 0
        → run_until_refused m s (i ∷ is) ≡ record { state = (run_until_refused m (m.next s i) is).state; replies = m.reply s i ∷ (run_until_refused m (m.next s i) is).replies }
    unfolding run_until_refused
    until_made z = rw z

    pub until_refused : (n : ℕ) → (m.reply s i).code ≡ suc n → run_until_refused m s (i ∷ is) ≡ record { state = m.next s i; replies = m.reply s i ∷ [] }
    unfolding run_until_refused
    until_refused n z = rw z
