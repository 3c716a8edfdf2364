-- A fold unfolds by the step at its position: each step goes forward, so how many steps it may take does not matter. Assumes nothing.
use mathlib.Core.Path.{◌≡◌, refl, sym, ◌∙◌, ap}
use mathlib.Core.Logic.{◌⊎◌, inl, inr, ⊎_elim}
use mathlib.Core.Bool.{true, false}
use mathlib.Core.List.Memᴰ
use mathlib.Core.List.{List, [], ◌∷◌, Memᴰ}
use Prim.Native.Nat.{ℕ, zero, suc, ◌-◌, ◌<◌, ◌≤◌}
use native.Mathlib.Omega.{arith}
use lib.ListN.{length}
use Rattle.characters.specs.declared.Cursor.{Cursor}
use Rattle.characters.specs.declared.Step.{Step}
use Rattle.characters.specs.declared.Step.TheVariants.{Character, IllFormed, End}
use Rattle.characters.specs.Utf8.{step_at, fold_by, fold_at, chars_from, well_formed_from, chars}
use Rattle.characters.proofs.Sequences.{step_past}
use Rattle.characters.proofs.Steps.{IsScalar, Advances, step_advances, step_end}

module _ {A : Type 0} (f : ℕ → A → A) (ill end : A) (s : List ℕ) where
  -- steps enough are enough
  pub fold_fuel : (k j at : ℕ) (x : Step) → x ≡ step_at s at → length s - at < k → length s - at < j → fold_by f ill end k s x ≡ fold_by f ill end j s x
  unfolding fold_by
  fold_fuel zero j at x e p q = absurd (omega arith)
  fold_fuel (suc k) zero at x e p q = absurd (omega arith)
  fold_fuel (suc k) (suc j) at (Character ch c) e p q =
      let a = step_advances s at e refl in
      ap (f ch) (fold_fuel k j c.at (step_at s c.at) refl (omega arith) (omega arith))
  fold_fuel (suc k) (suc j) at IllFormed e p q = refl
  fold_fuel (suc k) (suc j) at End e p q = refl

  module _ (at : ℕ) {x : Step} (e : x ≡ step_at s at) where
    pub fold-character : {ch : ℕ} {c : Cursor} → x ≡ Character ch c → fold_at f ill end s at ≡ f ch (fold_at f ill end s c.at)
    unfolding fold_at fold_by
    fold-character {ch} {c} q =
        let a = step_advances s at e q in
        rw (sym e ∙ q) (ap (f ch) (fold_fuel (length s) (suc (length s)) c.at (step_at s c.at) refl (omega arith) (omega arith)))

    pub fold_ill_formed : x ≡ IllFormed → fold_at f ill end s at ≡ ill
    unfolding fold_at fold_by
    fold_ill_formed q = rw (sym e ∙ q)

    pub fold_end : x ≡ End → fold_at f ill end s at ≡ end
    unfolding fold_at fold_by
    fold_end q = rw (sym e ∙ q)

  -- what the ends have and each character keeps, the fold has
  pub fold-all : (P : ℕ → A → Type 0) → ((at : ℕ) → P at ill) → ((at : ℕ) → P at end)
      → ((at ch : ℕ) (c : Cursor) (rest : A) → Advances at (length s) ch c → P c.at rest → P at (f ch rest))
      → (at : ℕ) → P at (fold_at f ill end s at)
  unfolding fold_at fold_by
  fold-all P p-ill p-end p-character at = all-by (suc (length s)) at (step_at s at) refl
    where
      all-by : (k at : ℕ) (x : Step) → x ≡ step_at s at → P at (fold_by f ill end k s x)
      all-by zero at x e = p-end at
      all-by (suc k) at (Character ch c) e = p-character at ch c _ (step_advances s at e refl) (all-by k c.at (step_at s c.at) refl)
      all-by (suc k) at IllFormed e = p-ill at
      all-by (suc k) at End e = p-end at

  pub fold_past : (at : ℕ) → length s ≤ at → fold_at f ill end s at ≡ end
  fold_past at h = fold_end at (step_past s at h) refl

-- the `else` of a `let Step::Character(..) = .. else`
abbrev pub Stopped : Step → Type 0
Stopped x = (ch : ℕ) (c : Cursor) → x ≡ Character ch c → ⊥

pub ill_formed_stopped : Stopped IllFormed
ill_formed_stopped ch c q = cc

pub end_stopped : Stopped End
end_stopped ch c q = cc

pub stopped_cases : (x : Step) → Stopped x → (x ≡ IllFormed) ⊎ (x ≡ End)
stopped_cases (Character ch c) h = absurd (h ch c refl)
stopped_cases IllFormed h = inl refl
stopped_cases End h = inr refl

-- x is what stands at a position
module _ (s : List ℕ) (at : ℕ) {x : Step} (e : x ≡ step_at s at) where
  pub chars-character : {ch : ℕ} {c : Cursor} → x ≡ Character ch c → chars_from s at ≡ ch ∷ chars_from s c.at
  unfolding chars_from
  chars-character q = fold-character ◌∷◌ [] [] s at e q

  pub chars_stopped : Stopped x → chars_from s at ≡ []
  unfolding chars_from
  chars_stopped t = ⊎_elim (fold_ill_formed ◌∷◌ [] [] s at e) (fold_end ◌∷◌ [] [] s at e) (stopped_cases x t)

  pub well_formed-character : {ch : ℕ} {c : Cursor} → x ≡ Character ch c → well_formed_from s at ≡ well_formed_from s c.at
  unfolding well_formed_from
  well_formed-character q = fold-character (λ ch rest. rest) false true s at e q

  pub well_formed_stopped : Stopped x → at < length s → well_formed_from s at ≡ false
  unfolding well_formed_from
  well_formed_stopped t h =
      ⊎_elim (fold_ill_formed (λ ch rest. rest) false true s at e) (λ q. absurd (let p = step_end s at e q in omega arith)) (stopped_cases x t)

pub well_formed_past : (s : List ℕ) (at : ℕ) → length s ≤ at → well_formed_from s at ≡ true
unfolding well_formed_from
well_formed_past = fold_past (λ ch rest. rest) false true

pub length-chars_from : (s : List ℕ) (at : ℕ) → length (chars_from s at) ≤ length s - at
unfolding chars_from
length-chars_from s =
    fold-all ◌∷◌ [] [] s (λ at l. length l ≤ length s - at) (λ at. omega arith) (λ at. omega arith) (λ at ch c rest a h. omega arith)

pub length-chars : (s : List ℕ) → length (chars s) ≤ length s
length-chars s = omega (arith, length-chars_from s 0)

pub chars-scalar : (s : List ℕ) (at : ℕ) {ch : ℕ} → Memᴰ ch (chars_from s at) → IsScalar ch
unfolding chars_from
chars-scalar s at {ch} =
    fold-all ◌∷◌ [] [] s (λ at l. Memᴰ ch l → IsScalar ch) (λ at m. absurd (Memᴰ.not-nil m)) (λ at m. absurd (Memᴰ.not-nil m))
    (λ at x c rest a h m. ⊎_elim (λ e. rw e a.is_scalar) h (Memᴰ.cases_cons m)) at
