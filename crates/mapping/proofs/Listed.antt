-- What a mapping lists: characters only, each at a position within its list; and what an accepted mapping is. Assumes nothing.
use mathlib.Core.Path.{◌≡◌, refl, sym, ◌∙◌, ap}
use mathlib.Core.Logic.{⊎_elim}
use mathlib.Core.Bool.{Bool, true, false, true≢false}
use mathlib.Core.List.Memᴰ
use mathlib.Core.List.{List, [], ◌∷◌, Memᴰ}
use Prim.Native.Nat.{ℕ, zero, suc, ◌+◌, ◌-◌, ◌<◌, ◌≤◌}
use native.Mathlib.Omega.{arith}
use borrow.Author.Tests.{eqb-true, leb-true}
use lib.ListN.{length}
use lib.Dec.{eqb, leb}
use Rattle.characters.specs.Refusal.{need}
use Rattle.characters.specs.Utf8.{is_surrogate, well_formed}
use Rattle.characters.proofs.Steps.{cond_both, IsScalar}
use Rattle.characters.proofs.Folds.{chars-scalar}
use Rattle.std.specs.Prelude.{Option, Some, None, unwrap_or, is_some, Result, Ok}
use Rattle.refusals.specs.declared.Refusal.{Refusal}
use Rattle.refusals.specs.Numbers.{refusal_of}
use Rattle.mapping.specs.Entries.{WithinLimit}
use Rattle.mapping.specs.Mapping.{scalars_from, from_to, spelled, list_of, place_from, index, contains, refusal}
use Rattle.mapping.proofs.Places.{place_below}

-- ---- no surrogate and no number above 10FFFF is listed

module _ {ch : ℕ} where
  scalars-scalar : (n a : ℕ) → a + n ≤ 0x110000 → Memᴰ ch (scalars_from n a) → IsScalar ch
  unfolding scalars_from
  scalars-scalar zero a h = λ m. absurd (Memᴰ.not-nil m)
  scalars-scalar (suc n) a h =
      let rest = scalars-scalar n (suc a) (omega arith) in
      cond_both (λ l. Memᴰ ch l → IsScalar ch) (is_surrogate a) _ _ (λ t. rest) (λ t m.
      ⊎_elim (λ q. record { no_surrogate = ap is_surrogate q ∙ t; in_range_lem = omega arith }) rest (Memᴰ.cases_cons m))

  spelled-scalar : (l : List ℕ) → ((x : ℕ) → Memᴰ x l → IsScalar x) → Memᴰ ch (spelled l) → IsScalar ch
  unfolding spelled
  spelled-scalar [] all m = absurd (Memᴰ.not-nil m)
  spelled-scalar (suc x ∷ rest) all m =
      ⊎_elim (λ q. all ch (Memᴰ.head q)) (spelled-scalar rest (λ y n. all y (Memᴰ.tail n))) (Memᴰ.cases_cons m)
  spelled-scalar (zero ∷ []) all m = absurd (Memᴰ.not-nil m)
  spelled-scalar (zero ∷ start ∷ []) all m = absurd (Memᴰ.not-nil m)
  spelled-scalar (zero ∷ start ∷ end ∷ rest) all m =
      let s = all start (Memᴰ.tail (Memᴰ.head refl)) in
      let e = all end (Memᴰ.tail (Memᴰ.tail (Memᴰ.head refl))) in
      ⊎_elim
      (scalars-scalar (suc end - start) start (omega arith))
      (spelled-scalar rest (λ y n. all y (Memᴰ.tail (Memᴰ.tail (Memᴰ.tail n)))))
      (Memᴰ.append_cases (from_to start end) m)

  pub listed_scalar : (mapping : List ℕ) → Memᴰ ch (list_of mapping) → IsScalar ch
  listed_scalar mapping = spelled-scalar _ (λ x m. chars-scalar mapping 0 m)

-- ---- positions

found_member : (k ch : ℕ) (l : List ℕ) → is_some (place_from k ch l) ≡ true → Memᴰ ch l
unfolding place_from
found_member k ch [] = λ e. absurd (true≢false (sym e))
found_member k ch (x ∷ l) =
    cond_both (λ (f : Option ℕ). is_some f ≡ true → Memᴰ ch (x ∷ l)) (eqb x ch) _ _
    (λ q e. Memᴰ.head (sym (eqb-true x ch q)))
    (λ q e. Memᴰ.tail (found_member (suc k) ch l e))

module _ (mapping : List ℕ) (replacement ch : ℕ) where
  -- "A number that is no character is not"
  pub contains-scalar : contains mapping ch ≡ true → IsScalar ch
  contains-scalar e = listed_scalar mapping (found_member 0 ch (list_of mapping) e)

  pub index-unlisted : contains mapping ch ≡ false → index mapping replacement ch ≡ replacement
  index-unlisted = by (place_from 0 ch (list_of mapping))
    where
      by : (f : Option ℕ) → is_some f ≡ false → unwrap_or f replacement ≡ replacement
      by (Some k) e = absurd (true≢false e)
      by None e = refl

  pub index_listed : contains mapping ch ≡ true → index mapping replacement ch < length (list_of mapping)
  index_listed = by (place_from 0 ch (list_of mapping)) refl
    where
      by : (f : Option ℕ) → place_from 0 ch (list_of mapping) ≡ f → is_some f ≡ true → unwrap_or f replacement < length (list_of mapping)
      by (Some k) p e = omega (arith, place_below 0 ch (list_of mapping) p)
      by None p e = absurd (true≢false (sym e))

-- ---- a mapping whose refusal was found to be none

pub accepted_within : (mapping : List ℕ) (n : ℕ) → n ≡ refusal mapping → n ≡ 0 → WithinLimit mapping
unfolding refusal
accepted_within mapping n e z = by (well_formed mapping) (leb (length (list_of mapping)) 65_536) refl refl (sym e ∙ z)
  where
    by : (w l : Bool) → well_formed mapping ≡ w → leb (length (list_of mapping)) 65_536 ≡ l → need w 7 (need l 8 0) ≡ 0 → WithinLimit mapping
    by true true p q z = record { well = p; spelled = leb-true _ _ q }
    by true false p q z = absurd (omega arith)
    by false l p q z = absurd (omega arith)

pub checked_within : {A : Type 0} {x : A} (mapping : List ℕ) (r : Result A Refusal) → refusal_of r ≡ refusal mapping → r ≡ Ok x → WithinLimit mapping
checked_within mapping r e q = accepted_within mapping (refusal_of r) e (ap refusal_of q)
