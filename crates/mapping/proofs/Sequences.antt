-- The bytes of a character's sequence: which of them is a lead byte, and that they are those of its needle. Assumes nothing.
use mathlib.Core.Path.{◌≡◌, refl, sym}
use mathlib.Core.Bool.{true, false, not, ◌&&◌, and-eq-true_iff}
use mathlib.Core.List.{List}
use Prim.Native.Nat.{ℕ, ◌+◌, ◌-◌, ◌*◌, ◌/◌, ◌%◌, ◌<◌, ◌≤◌}
use native.Mathlib.Omega.{arith}
use native.Mathlib.Decide.{dec_lt}
use borrow.Author.Tests.{ltb-true, leb-true, eqb-true, lt-ltb, le-ltb, lt-leb, le-leb}
use lib.ListN.{length, get_or}
use lib.Dec.{ltb, leb, eqb}
use Rattle.characters.specs.declared.Cursor.{Cursor}
use Rattle.characters.specs.declared.Step.{Step}
use Rattle.characters.specs.declared.Step.TheVariants.{Character, IllFormed, End}
use Rattle.characters.specs.Utf8.{leading_ones, is_continuation, is_surrogate, scalar, two, three, four, sequence, step_at}
use Rattle.characters.proofs.Steps.{cond_both}
use Rattle.mapping.specs.declared.search.Needle.{Needle}
use Rattle.mapping.specs.Search.{is_lead, needle_of, IsNeedle}

-- ---- bytes

pub continues : (b : ℕ) → is_continuation b ≡ true → (0x80 ≤ b) × (b < 0xC0)
unfolding is_continuation
continues b e = let p = (and-eq-true_iff (leb 0x80 b) _).0 e in (leb-true _ _ p.0, ltb-true _ _ p.1)

continues_not : (b : ℕ) → is_continuation b ≡ true → is_lead b ≡ false
unfolding is_lead
continues_not b e = rw e

low_leads : (b : ℕ) → b < 0x80 → is_lead b ≡ true
unfolding is_lead is_continuation
low_leads b h = rw (lt-leb 0x80 b h)

high_leads : (b : ℕ) → 0xC0 ≤ b → is_lead b ≡ true
unfolding is_lead is_continuation
high_leads b h = rw (le-leb 0x80 b (omega arith), le-ltb b 0xC0 h)

-- how many ones a byte begins with, by where it stands
by_ones : (b : ℕ) {P : Type 0} → (b < 0x80 → leading_ones b ≡ 0 → P) → (leading_ones b ≡ 1 → P) → (0xC0 ≤ b → b < 0xE0 → leading_ones b ≡ 2 → P)
    → (0xE0 ≤ b → b < 0xF0 → leading_ones b ≡ 3 → P) → (0xF0 ≤ b → b < 0xF8 → leading_ones b ≡ 4 → P) → (5 ≤ leading_ones b → P) → P
unfolding leading_ones
by_ones b n0 n1 n2 n3 n4 n5 =
    elim (dec_lt b 0x80) [
      | yes h ↦ n0 h (rw (lt-ltb b 0x80 h))
      | no l0 ↦ elim (dec_lt b 0xC0) [
        | yes h ↦ n1 (rw (le-ltb b 0x80 (omega arith), lt-ltb b 0xC0 h))
        | no l1 ↦ elim (dec_lt b 0xE0) [
          | yes h ↦ n2 (omega arith) h (rw (le-ltb b 0x80 (omega arith), le-ltb b 0xC0 (omega arith), lt-ltb b 0xE0 h))
          | no l2 ↦ elim (dec_lt b 0xF0) [
            | yes h ↦ n3 (omega arith) h (rw (le-ltb b 0x80 (omega arith), le-ltb b 0xC0 (omega arith), le-ltb b 0xE0 (omega arith), lt-ltb b 0xF0 h))
            | no l3 ↦ elim (dec_lt b 0xF8) [
              | yes h ↦ n4 (omega arith) h
                  (rw (le-ltb b 0x80 (omega arith), le-ltb b 0xC0 (omega arith), le-ltb b 0xE0 (omega arith), le-ltb b 0xF0 (omega arith), lt-ltb b 0xF8 h))
              | no l4 ↦ n5
                  (rw (le-ltb b 0x80 (omega arith), le-ltb b 0xC0 (omega arith), le-ltb b 0xE0 (omega arith), le-ltb b 0xF0 (omega arith), le-ltb b 0xF8 (omega arith))
                  (cond_both (λ k. 5 ≤ k) (ltb b 0xFC) 5 _ (λ e. omega arith) (λ e.
                  cond_both (λ k. 5 ≤ k) (ltb b 0xFE) 6 _ (λ f. omega arith) (λ f.
                  cond_both (λ k. 5 ≤ k) (ltb b 0xFF) 7 8 (λ g. omega arith) (λ g. omega arith)))))
            ]
          ]
        ]
      ]
    ]

lone : (b n : ℕ) → n ≡ leading_ones b → n ≡ 0 → b < 0x80
lone b n e z = by_ones b (λ h f. h) (λ f. absurd (omega arith)) (λ l h f. absurd (omega arith)) (λ l h f. absurd (omega arith)) (λ l h f. absurd (omega arith)) (λ f. absurd (omega arith))

of_two : (b n : ℕ) → n ≡ leading_ones b → n ≡ 2 → (0xC0 ≤ b) × (b < 0xE0)
of_two b n e z = by_ones b (λ h f. absurd (omega arith)) (λ f. absurd (omega arith)) (λ l h f. (l, h)) (λ l h f. absurd (omega arith)) (λ l h f. absurd (omega arith)) (λ f. absurd (omega arith))

of_three : (b n : ℕ) → n ≡ leading_ones b → n ≡ 3 → (0xE0 ≤ b) × (b < 0xF0)
of_three b n e z = by_ones b (λ h f. absurd (omega arith)) (λ f. absurd (omega arith)) (λ l h f. absurd (omega arith)) (λ l h f. (l, h)) (λ l h f. absurd (omega arith)) (λ f. absurd (omega arith))

of_four : (b n : ℕ) → n ≡ leading_ones b → n ≡ 4 → (0xF0 ≤ b) × (b < 0xF8)
of_four b n e z = by_ones b (λ h f. absurd (omega arith)) (λ f. absurd (omega arith)) (λ l h f. absurd (omega arith)) (λ l h f. absurd (omega arith)) (λ l h f. (l, h)) (λ f. absurd (omega arith))

-- ---- needles

module _ (ch : ℕ) where
  needle-one : ch < 0x80 → needle_of ch ≡ record { lead = ch; inner = ch; middle = ch; last = ch; near = 0; mid = 0; end = 0 }
  unfolding needle_of
  needle-one h = rw (lt-ltb ch 0x80 h)

  needle-two : 0x80 ≤ ch → ch < 0x800
      → needle_of ch ≡ record { lead = 0xC0 + ch / 64; inner = 0xC0 + ch / 64; middle = 0xC0 + ch / 64; last = 0x80 + ch % 64; near = 0; mid = 0; end = 1 }
  unfolding needle_of
  needle-two l h = rw (le-ltb ch 0x80 l, lt-ltb ch 0x800 h)

  needle-three : 0x800 ≤ ch → ch < 0x10000
      → needle_of ch ≡ record { lead = 0xE0 + ch / 4_096; inner = 0xE0 + ch / 4_096; middle = 0x80 + ch / 64 % 64; last = 0x80 + ch % 64; near = 0; mid = 1; end = 2 }
  unfolding needle_of
  needle-three l h = rw (le-ltb ch 0x80 (omega arith), le-ltb ch 0x800 l, lt-ltb ch 0x10000 h)

  needle-four : 0x10000 ≤ ch → needle_of ch
      ≡ record { lead = 0xF0 + ch / 262_144 % 8; inner = 0x80 + ch / 4_096 % 64; middle = 0x80 + ch / 64 % 64; last = 0x80 + ch % 64; near = 1; mid = 2; end = 3 }
  unfolding needle_of
  needle-four l = rw (le-ltb ch 0x80 (omega arith), le-ltb ch 0x800 (omega arith), le-ltb ch 0x10000 l)

  pub is_needle : IsNeedle (needle_of ch)
  is_needle = elim (dec_lt ch 0x80) [
    | yes h ↦ rw (needle-one h) (record { near_within = omega arith; mid_within = omega arith; end_within = omega arith; leads = low_leads ch h })
    | no l0 ↦ elim (dec_lt ch 0x800) [
      | yes h ↦ rw (needle-two (omega arith) h) (record { near_within = omega arith; mid_within = omega arith; end_within = omega arith; leads = high_leads _ (omega arith) })
      | no l1 ↦ elim (dec_lt ch 0x10000) [
        | yes h ↦ rw (needle-three (omega arith) h) (record { near_within = omega arith; mid_within = omega arith; end_within = omega arith; leads = high_leads _ (omega arith) })
        | no l2 ↦ rw (needle-four (omega arith)) (record { near_within = omega arith; mid_within = omega arith; end_within = omega arith; leads = high_leads _ (omega arith) })
      ]
    ]
  ]

pub needle_found : (ch : ℕ) (p : Needle) → p ≡ needle_of ch → IsNeedle p
needle_found ch p e = rw e (is_needle ch)

-- ---- a character's bytes

-- the needle's bytes stand from `at` on
pub record Holds (s : List ℕ) (at : ℕ) (p : Needle) : Type 0 where
  pub lead : get_or s at 0 ≡ p.lead
  pub inner : get_or s (at + p.near) 0 ≡ p.inner
  pub middle : get_or s (at + p.mid) 0 ≡ p.middle
  pub last : get_or s (at + p.end) 0 ≡ p.last

pub record Spelt (s : List ℕ) (at ch : ℕ) (c : Cursor) : Type 0 where
  pub starts : is_lead (get_or s at 0) ≡ true
  pub goes_on : (q : ℕ) → at < q → q < c.at → is_lead (get_or s q 0) ≡ false
  pub null : ch ≡ 0 → get_or s at 0 ≡ 0
  pub holds : Holds s at (needle_of ch)

abbrev Spells : List ℕ → ℕ → Step → Type 0
Spells s at (Character ch c) = Spelt s at ch c
Spells s at IllFormed = Unit {0}
Spells s at End = Unit {0}

module _ (s : List ℕ) (at : ℕ) where
  alone-spelt : get_or s at 0 < 0x80 → Spelt s at (get_or s at 0) (record { at = at + 1 })
  alone-spelt h =
      let e : at + 0 ≡ at = omega arith in
      record {
        starts = low_leads _ h;
        goes_on = λ q x y. absurd (omega arith);
        null = λ z. z;
        holds = rw (needle-one _ h) (record { lead = refl; inner = rw e; middle = rw e; last = rw e });
      }

  scalar-spells : (v least next : ℕ) → (least ≤ v → Spelt s at v (record { at = next })) → Spells s at (scalar v least next)
  unfolding scalar
  scalar-spells v least next f = cond_both (Spells s at) (leb least v && (not (is_surrogate v) && leb v 0x10FFFF)) _ _
      (λ e. f (leb-true least v ((and-eq-true_iff (leb least v) _).0 e).0))
      (λ e. tt)

  module _ (c1 : is_continuation (get_or s (at + 1) 0) ≡ true) (v : ℕ) where
    two-spelt : 0xC0 ≤ get_or s at 0 → get_or s at 0 < 0xE0 → v ≡ get_or s at 0 % 32 * 64 + get_or s (at + 1) 0 % 64 → 0x80 ≤ v → Spelt s at v (record { at = at + 2 })
    two-spelt l h e m =
        let k1 = continues _ c1 in
        let z : at + 0 ≡ at = omega arith in
        record {
          starts = high_leads _ l;
          goes_on = λ q x y. let i : q ≡ at + 1 = omega arith in rw i (continues_not _ c1);
          null = λ n. absurd (omega arith);
          holds = rw (needle-two v m (omega arith)) (record { lead = omega arith; inner = rw z (omega arith); middle = rw z (omega arith); last = omega arith });
        }

    module _ (c2 : is_continuation (get_or s (at + 2) 0) ≡ true) where
      three-spelt : 0xE0 ≤ get_or s at 0 → get_or s at 0 < 0xF0
          → v ≡ get_or s at 0 % 16 * 4_096 + get_or s (at + 1) 0 % 64 * 64 + get_or s (at + 2) 0 % 64 → 0x800 ≤ v → Spelt s at v (record { at = at + 3 })
      three-spelt l h e m =
          let k1 = continues _ c1 in
          let k2 = continues _ c2 in
          let z : at + 0 ≡ at = omega arith in
          record {
            starts = high_leads (get_or s at 0) (omega arith);
            goes_on = λ q x y. elim (dec_lt q (at + 2)) [
              | yes k ↦ let i : q ≡ at + 1 = omega arith in rw i (continues_not _ c1)
              | no k ↦ let i : q ≡ at + 2 = omega arith in rw i (continues_not _ c2)
            ];
            null = λ n. absurd (omega arith);
            holds = rw (needle-three v m (omega arith)) (record { lead = omega arith; inner = rw z (omega arith); middle = omega arith; last = omega arith });
          }

      four-spelt : is_continuation (get_or s (at + 3) 0) ≡ true → 0xF0 ≤ get_or s at 0 → get_or s at 0 < 0xF8
          → v ≡ get_or s at 0 % 8 * 262_144 + get_or s (at + 1) 0 % 64 * 4_096 + get_or s (at + 2) 0 % 64 * 64 + get_or s (at + 3) 0 % 64 → 0x10000 ≤ v
          → Spelt s at v (record { at = at + 4 })
      four-spelt c3 l h e m =
          let k1 = continues _ c1 in
          let k2 = continues _ c2 in
          let k3 = continues _ c3 in
          record {
            starts = high_leads (get_or s at 0) (omega arith);
            goes_on = λ q x y. elim (dec_lt q (at + 2)) [
              | yes k ↦ let i : q ≡ at + 1 = omega arith in rw i (continues_not _ c1)
              | no k ↦ elim (dec_lt q (at + 3)) [
                | yes j ↦ let i : q ≡ at + 2 = omega arith in rw i (continues_not _ c2)
                | no j ↦ let i : q ≡ at + 3 = omega arith in rw i (continues_not _ c3)
              ]
            ];
            null = λ n. absurd (omega arith);
            holds = rw (needle-four v m) (record { lead = omega arith; inner = omega arith; middle = omega arith; last = omega arith });
          }

  two-spells : 0xC0 ≤ get_or s at 0 → get_or s at 0 < 0xE0 → Spells s at (two (get_or s at 0) (get_or s (at + 1) 0) (at + 2))
  unfolding two
  two-spells l h = cond_both (Spells s at) (is_continuation (get_or s (at + 1) 0)) _ _
      (λ e. scalar-spells _ 0x80 (at + 2) (two-spelt e _ l h refl))
      (λ e. tt)

  three-spells : 0xE0 ≤ get_or s at 0 → get_or s at 0 < 0xF0 → Spells s at (three (get_or s at 0) (get_or s (at + 1) 0) (get_or s (at + 2) 0) (at + 3))
  unfolding three
  three-spells l h = cond_both (Spells s at) (is_continuation (get_or s (at + 1) 0) && is_continuation (get_or s (at + 2) 0)) _ _
      (λ e.
      let p = (and-eq-true_iff (is_continuation (get_or s (at + 1) 0)) _).0 e in
      scalar-spells _ 0x800 (at + 3) (three-spelt p.0 _ p.1 l h refl))
      (λ e. tt)

  four-spells : 0xF0 ≤ get_or s at 0 → get_or s at 0 < 0xF8
      → Spells s at (four (get_or s at 0) (get_or s (at + 1) 0) (get_or s (at + 2) 0) (get_or s (at + 3) 0) (at + 4))
  unfolding four
  four-spells l h = cond_both (Spells s at) (is_continuation (get_or s (at + 1) 0) && (is_continuation (get_or s (at + 2) 0) && is_continuation (get_or s (at + 3) 0))) _ _
      (λ e.
      let p = (and-eq-true_iff (is_continuation (get_or s (at + 1) 0)) _).0 e in
      let q = (and-eq-true_iff (is_continuation (get_or s (at + 2) 0)) _).0 p.1 in
      scalar-spells _ 0x10000 (at + 4) (four-spelt p.0 _ q.0 q.1 l h refl))
      (λ e. tt)

  sequence-spells : (n : ℕ) → n ≡ leading_ones (get_or s at 0) → Spells s at (sequence n s at)
  unfolding sequence
  sequence-spells n e =
      let S : Step → Type 0 = Spells s at in
      cond_both S (eqb n 0) _ _ (λ z. alone-spelt (lone _ n e (eqb-true n 0 z))) (λ z.
      cond_both S (ltb (length s - at) n) _ _ (λ l. tt) (λ l.
      cond_both S (eqb n 2) _ _ (λ q. let b = of_two _ n e (eqb-true n 2 q) in two-spells b.0 b.1) (λ q.
      cond_both S (eqb n 3) _ _ (λ q. let b = of_three _ n e (eqb-true n 3 q) in three-spells b.0 b.1) (λ q.
      cond_both S (eqb n 4) _ _ (λ q. let b = of_four _ n e (eqb-true n 4 q) in four-spells b.0 b.1) (λ q. tt)))))

  step-spells : Spells s at (step_at s at)
  unfolding step_at
  step-spells = cond_both (Spells s at) (ltb at (length s)) _ _ (λ e. sequence-spells _ refl) (λ e. tt)

  pub step_spelt : {ch : ℕ} {c : Cursor} → Character ch c ≡ step_at s at → Spelt s at ch c
  step_spelt e = rw (sym e) at step-spells
