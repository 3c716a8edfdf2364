-- A mapping that spells characters that rise: it is well-formed, lists them in order, and gives each the index of its glyph. Assumes nothing.
use Prim.Native.Nat.{ℕ, zero, suc, ◌+◌, ◌*◌, ◌/◌, ◌%◌, ◌<◌, ◌≤◌}
use mathlib.Core.Path.{◌≡◌, refl, ◌∙◌, ap}
use mathlib.Core.Bool.{Bool, true, false, not, cond, ◌&&◌, and-eq-true_iff}
use mathlib.Core.List.{List, [], ◌∷◌, ◌++◌}
use native.Mathlib.Omega.{arith}
use native.Mathlib.Decide.{dec_lt}
use borrow.Author.Tests.{lt-ltb, le-ltb, le-leb, eq-eqb, ne_eqb, leb-true, not-true}
use lib.ListN.{length, get_or, length-append}
use lib.Dec.{ltb, leb, eqb}
use Rattle.characters.specs.declared.Step.TheVariants.{Character}
use Rattle.characters.specs.Utf8.{leading_ones, is_continuation, is_surrogate, scalar, two, three, four, step_at, fold_at, chars_from, well_formed_from, chars, well_formed}
use Rattle.characters.proofs.Sequences.{step_alone, step-two, step-three, step-four}
use Rattle.characters.proofs.Steps.{IsScalar, cond_both}
use Rattle.characters.proofs.Folds.{fold-character, fold_past, well_formed_past}
use Rattle.characters.proofs.Parts.{fold-after}
use Rattle.std.specs.Prelude.{Some}
use Rattle.mapping.specs.Mapping.{scalars_from, spelled, list_of, place_from, index, refusal}
use Rattle.bdf.specs.Reader.{utf8, spelling}
use Rattle.bdf.specs.Font.{spellings}
use Rattle.bdf.specs.Rising.{are_rising}

-- ---- bytes

module _ (b : ℕ) where
  ones_none : b < 0x80 → 0 ≡ leading_ones b
  unfolding leading_ones
  ones_none h = rw (lt-ltb b 0x80 h)

  ones-two : 0xC0 ≤ b → b < 0xE0 → 2 ≡ leading_ones b
  unfolding leading_ones
  ones-two l h = rw (le-ltb b 0x80 (omega arith), le-ltb b 0xC0 l, lt-ltb b 0xE0 h)

  ones-three : 0xE0 ≤ b → b < 0xF0 → 3 ≡ leading_ones b
  unfolding leading_ones
  ones-three l h = rw (le-ltb b 0x80 (omega arith), le-ltb b 0xC0 (omega arith), le-ltb b 0xE0 l, lt-ltb b 0xF0 h)

  ones-four : 0xF0 ≤ b → b < 0xF8 → 4 ≡ leading_ones b
  unfolding leading_ones
  ones-four l h = rw (le-ltb b 0x80 (omega arith), le-ltb b 0xC0 (omega arith), le-ltb b 0xE0 (omega arith), le-ltb b 0xF0 l, lt-ltb b 0xF8 h)

continued : (n : ℕ) → is_continuation (0x80 + n % 64) ≡ true
unfolding is_continuation
continued n = rw (le-leb 0x80 (0x80 + n % 64) (omega arith), lt-ltb (0x80 + n % 64) 0xC0 (omega arith))

low_bits : (n : ℕ) → (0x80 + n % 64) % 64 ≡ n % 64
low_bits n = omega arith

-- a number in four parts
four_parts : (v : ℕ) → v / 262_144 * 262_144 + v / 4_096 % 64 * 4_096 + v / 64 % 64 * 64 + v % 64 ≡ v
four_parts v =
    let a : v / 64 * 64 + v % 64 ≡ v = omega arith in
    let b : v / 4_096 * 64 + v / 64 % 64 ≡ v / 64 = omega arith in
    let c : v / 262_144 * 64 + v / 4_096 % 64 ≡ v / 4_096 = omega arith in
    by (v / 262_144) (v / 4_096 % 64) (v / 64 % 64) (v % 64) (v / 4_096) (v / 64) a b c
  where
    by : (p q r t x y : ℕ) → y * 64 + t ≡ v → x * 64 + r ≡ y → p * 64 + q ≡ x → p * 262_144 + q * 4_096 + r * 64 + t ≡ v
    by p q r t x y a b c = omega arith

-- ---- a character's sequence stands for it

module _ (v : ℕ) (g : IsScalar v) where
  scalar_is : (w least next : ℕ) → w ≡ v → least ≤ v → Character v (record { at = next }) ≡ scalar w least next
  unfolding scalar
  scalar_is w least next e l = rw (e, le-leb least v l, g.no_surrogate, le-leb v 0x10FFFF g.in_range_lem)

  two_is : 0x80 ≤ v → v < 0x800 → Character v (record { at = 2 }) ≡ two (0xC0 + v / 64) (0x80 + v % 64) 2
  unfolding two
  two_is l h = rw (continued v) (scalar_is _ 0x80 2 (omega arith) l)

  three-is : 0x800 ≤ v → v < 0x10000 → Character v (record { at = 3 }) ≡ three (0xE0 + v / 4_096) (0x80 + v / 64 % 64) (0x80 + v % 64) 3
  unfolding three
  three-is l h = rw (continued (v / 64), continued v) (scalar_is _ 0x800 3 (omega arith) l)

  four_is : 0x10000 ≤ v → Character v (record { at = 4 }) ≡ four (0xF0 + v / 262_144) (0x80 + v / 4_096 % 64) (0x80 + v / 64 % 64) (0x80 + v % 64) 4
  unfolding four
  four_is l =
      let r = g.in_range_lem in
      let high : (0xF0 + v / 262_144) % 8 ≡ v / 262_144 = omega arith in
      rw (continued (v / 4_096), continued (v / 64), continued v, high, low_bits (v / 4_096), low_bits (v / 64), low_bits v) (scalar_is _ 0x10000 4 (four_parts v) l)

  -- what stands at the head of its bytes and others
  step-utf8 : (s : List ℕ) → Character v (record { at = length (utf8 v) }) ≡ step_at (utf8 v ++ s) 0
  unfolding utf8
  step-utf8 s =
      let r = g.in_range_lem in
      elim (dec_lt v 0x80) [
        | yes h ↦ rw (lt-ltb v 0x80 h) (step_alone (v ∷ s) 0 0 (ones_none v h) (omega arith) v refl refl)
        | no l0 ↦ rw (le-ltb v 0x80 (omega arith)) (elim (dec_lt v 0x800) [
          | yes h ↦ rw (lt-ltb v 0x800 h)
              (step-two (_ ∷ _ ∷ s) 0 2 (ones-two (0xC0 + v / 64) (omega arith) (omega arith)) (omega arith) _ (omega arith) refl (two_is (omega arith) h))
          | no l1 ↦ rw (le-ltb v 0x800 (omega arith)) (elim (dec_lt v 0x10000) [
            | yes h ↦ rw (lt-ltb v 0x10000 h)
                (step-three (_ ∷ _ ∷ _ ∷ s) 0 3 (ones-three (0xE0 + v / 4_096) (omega arith) (omega arith)) (omega arith) _ (omega arith) refl (three-is (omega arith) h))
            | no l2 ↦ rw (le-ltb v 0x10000 (omega arith))
                (step-four (_ ∷ _ ∷ _ ∷ _ ∷ s) 0 4 (ones-four (0xF0 + v / 262_144) (omega arith) (omega arith)) (omega arith) _ (omega arith) refl (four_is (omega arith)))
          ])
        ])
      ]

  -- a walk over them goes on over the others
  fold-utf8 : {A : Type 0} (f : ℕ → A → A) (ill end : A) (s : List ℕ) → fold_at f ill end (utf8 v ++ s) 0 ≡ f v (fold_at f ill end s 0)
  fold-utf8 f ill end s =
      let z : length (utf8 v) + 0 ≡ length (utf8 v) = omega arith in
      fold-character f ill end (utf8 v ++ s) 0 (step-utf8 s) refl ∙ ap (f v) (rw z at (fold-after f ill end (utf8 v) s 0))

-- ---- a character's spelling

null_is : IsScalar 0
unfolding is_surrogate
null_is = record { no_surrogate = refl; in_range_lem = omega arith }

-- U+0000 three times, else the character
abbrev said : {A : Type 0} → (ℕ → A → A) → ℕ → A → A
said f zero x = f 0 (f 0 (f 0 x))
said f (suc v) x = f (suc v) x

spelling_other : (v : ℕ) → spelling (suc v) ≡ utf8 (suc v)
unfolding spelling
spelling_other v = rw (ne_eqb (suc v) 0 (λ e. omega arith))

fold-spelling : {A : Type 0} (f : ℕ → A → A) (ill end : A) (v : ℕ) → IsScalar v → (s : List ℕ) → fold_at f ill end (spelling v ++ s) 0 ≡ said f v (fold_at f ill end s 0)
unfolding spelling utf8
fold-spelling f ill end zero g s =
    fold-utf8 0 null_is f ill end (0 ∷ 0 ∷ s) ∙ ap (f 0) (fold-utf8 0 null_is f ill end (0 ∷ s) ∙ ap (f 0) (fold-utf8 0 null_is f ill end s))
fold-spelling f ill end (suc v) g s = rw (spelling_other v) (fold-utf8 (suc v) g f ill end s)

module _ (v : ℕ) (g : IsScalar v) (s : List ℕ) where
  well-formed-spelling : well_formed (spelling v ++ s) ≡ well_formed s
  unfolding well_formed_from
  well-formed-spelling = fold-spelling (λ ch rest. rest) false true v g s ∙ same v
    where
      same : (v : ℕ) → said (λ ch rest. rest) v (well_formed s) ≡ well_formed s
      same zero = refl
      same (suc v) = refl

  listed-spelling : list_of (spelling v ++ s) ≡ v ∷ list_of s
  unfolding chars_from spelled scalars_from is_surrogate
  listed-spelling = ap spelled (fold-spelling ◌∷◌ [] [] v g s) ∙ same v
    where
      same : (v : ℕ) → spelled (said ◌∷◌ v (chars s)) ≡ v ∷ list_of s
      same zero = refl
      same (suc v) = refl

spelling_pos : (v : ℕ) → 1 ≤ length (spelling v)
unfolding spelling utf8
spelling_pos v =
    let pos : (t : Bool) (l m : List ℕ) → 1 ≤ length l → 1 ≤ length m → 1 ≤ length (cond t l m) = λ t l m p q. cond_both (λ k. 1 ≤ length k) t l m (λ e. p) (λ e. q) in
    pos (eqb v 0) _ _ (omega arith) (pos (ltb v 0x80) _ _ (omega arith) (pos (ltb v 0x800) _ _ (omega arith) (pos (ltb v 0x10000) _ _ (omega arith) (omega arith))))

-- ---- characters that rise

record Rises (least v : ℕ) (vs : List ℕ) : Type 0 where
  from : least ≤ v
  is_scalar : IsScalar v
  rest : are_rising (v + 1) vs ≡ true

rises : (least v : ℕ) (vs : List ℕ) → are_rising least (v ∷ vs) ≡ true → Rises least v vs
unfolding are_rising
rises least v vs e =
    let p = (and-eq-true_iff (leb least v && (leb v 0x10FFFF && not (is_surrogate v))) _).0 e in
    let q = (and-eq-true_iff (leb least v) _).0 p.0 in
    let r = (and-eq-true_iff (leb v 0x10FFFF) _).0 q.1 in
    record { from = leb-true _ _ q.0; is_scalar = record { no_surrogate = not-true _ r.1; in_range_lem = leb-true _ _ r.0 }; rest = p.1 }

well_formed_from_lem : (least : ℕ) (vs : List ℕ) → are_rising least vs ≡ true → well_formed (spellings vs) ≡ true
unfolding spellings
well_formed_from_lem least [] e = well_formed_past [] 0 (omega arith)
well_formed_from_lem least (v ∷ vs) e =
    let r = rises least v vs e in
    well-formed-spelling v r.is_scalar (spellings vs) ∙ well_formed_from_lem (v + 1) vs r.rest

listed_from : (least : ℕ) (vs : List ℕ) → are_rising least vs ≡ true → list_of (spellings vs) ≡ vs
unfolding spellings spelled chars_from
listed_from least [] e = ap spelled (fold_past ◌∷◌ [] [] [] 0 (omega arith))
listed_from least (v ∷ vs) e =
    let r = rises least v vs e in
    listed-spelling v r.is_scalar (spellings vs) ∙ ap (◌∷◌ v) (listed_from (v + 1) vs r.rest)

pub length-spellings : (vs : List ℕ) → length vs ≤ length (spellings vs)
unfolding spellings
length-spellings [] = omega arith
length-spellings (v ∷ vs) = omega (arith, length-append (spelling v) (spellings vs), spelling_pos v, length-spellings vs)

-- ---- positions

least_first : (least : ℕ) (vs : List ℕ) (k : ℕ) → are_rising least vs ≡ true → k < length vs → least ≤ get_or vs k 0
least_first least [] k e h = absurd (omega arith)
least_first least (v ∷ vs) zero e h = (rises least v vs e).from
least_first least (v ∷ vs) (suc k) e h =
    let r = rises least v vs e in
    let i = r.from in
    omega (arith, least_first (v + 1) vs k r.rest (omega arith))

placed : (least from : ℕ) (vs : List ℕ) (k : ℕ) → are_rising least vs ≡ true → k < length vs → place_from from (get_or vs k 0) vs ≡ Some (from + k)
unfolding place_from
placed least from [] k e h = absurd (omega arith)
placed least from (v ∷ vs) zero e h = let z : from + 0 ≡ from = omega arith in rw (eq-eqb v v refl, z)
placed least from (v ∷ vs) (suc k) e h =
    let r = rises least v vs e in
    let m = least_first (v + 1) vs k r.rest (omega arith) in
    let z : from + suc k ≡ suc from + k = omega arith in
    rw (ne_eqb v (get_or vs k 0) (λ q. omega arith), z) (placed (v + 1) (suc from) vs k r.rest (omega arith))

-- ---- what a sheet asks

module _ (vs : List ℕ) (rising : are_rising 0 vs ≡ true) where
  pub well_formed_lem : well_formed (spellings vs) ≡ true
  well_formed_lem = well_formed_from_lem 0 vs rising

  pub spelled_in_order : list_of (spellings vs) ≡ vs
  spelled_in_order = listed_from 0 vs rising

  pub index_of : (replacement k : ℕ) → k < length vs → index (spellings vs) replacement (get_or vs k 0) ≡ k
  index_of replacement k h = let z : 0 + k ≡ k = omega arith in rw (spelled_in_order, placed 0 0 vs k rising h, z)

  -- tests 7 and 8
  pub mapping_passes : length (spellings vs) ≤ 65_535 → refusal (spellings vs) ≡ 0
  unfolding refusal
  mapping_passes h = rw (well_formed_lem, spelled_in_order, le-leb (length vs) 65_536 (omega (arith, length-spellings vs)))
