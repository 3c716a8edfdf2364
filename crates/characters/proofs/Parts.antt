-- A text that is put together of two, where no sequence goes across the seam: after a well-formed text, whose last sequence ends there, and
-- before a byte below 80, which continues none. Assumes nothing.
use mathlib.Core.Path.{◌≡◌, refl, sym, ◌∙◌, ap}
use mathlib.Core.Bool.{Bool, true, false, cond, ◌&&◌, and-eq-true_iff, false≢true, true≢false, and-false}
use mathlib.Core.List.{List, [], ◌∷◌, ◌++◌, append_assoc}
use Prim.Native.Nat.{ℕ, zero, suc, ◌+◌, ◌-◌, ◌<◌, ◌≤◌}
use native.Mathlib.Nat.{add_assoc}
use native.Mathlib.Omega.{arith}
use native.Mathlib.Decide.{dec_lt}
use borrow.Author.Tests.{lt-ltb, le-ltb, eqb-true, ne_eqb, lt-leb}
use lib.ListN.{length, get_or, length-append, get_or-append}
use lib.Seq.{get_or-append-add, get_or-append_seam}
use lib.Dec.{ltb, eqb, lit<}
use Rattle.characters.specs.declared.Cursor.{Cursor}
use Rattle.characters.specs.declared.Step.{Step}
use Rattle.characters.specs.declared.Step.TheVariants.{Character, IllFormed, End}
use Rattle.characters.specs.Utf8.{leading_ones, is_continuation, scalar, two, three, four, sequence, step_at, fold_by, fold_at, chars_from, well_formed_from, chars, well_formed}
use Rattle.characters.proofs.Sequences.{step_alone}
use Rattle.characters.proofs.Steps.{cond_both, step_advances, step_ill_formed, step_end}
use Rattle.characters.proofs.Folds.{fold_fuel, fold-character, fold_ill_formed, well_formed-character}

cond_same : {A : Type 0} (t : Bool) (x x' y y' : A) → (t ≡ true → x ≡ x') → (t ≡ false → y ≡ y') → cond t x y ≡ cond t x' y'
cond_same true x x' y y' f g = f refl
cond_same false x x' y y' f g = g refl

-- ---- before the seam

module _ (a b : List ℕ) (at : ℕ) (h : at < length a) where
  -- a sequence that ends before it
  sequence-fits : (n : ℕ) → n ≤ length a - at → sequence n (a ++ b) at ≡ sequence n a at
  unfolding sequence
  sequence-fits n l =
      let j = length-append a b in
      let byte : (i : ℕ) → i < length a → get_or (a ++ b) i 0 ≡ get_or a i 0 = get_or-append a b 0 in
      cond_same (eqb n 0) _ _ _ _ (λ z. rw (byte at h)) (λ z.
      rw (le-ltb (length (a ++ b) - at) n (omega arith), le-ltb (length a - at) n l)
      (cond_same (eqb n 2) _ _ _ _ (λ q. let i = eqb-true n 2 q in rw (byte at h, byte (at + 1) (omega arith))) (λ q.
      cond_same (eqb n 3) _ _ _ _ (λ q. let i = eqb-true n 3 q in rw (byte at h, byte (at + 1) (omega arith), byte (at + 2) (omega arith))) (λ q.
      cond_same (eqb n 4) _ _ _ _ (λ q. let i = eqb-true n 4 q in rw (byte at h, byte (at + 1) (omega arith), byte (at + 2) (omega arith), byte (at + 3) (omega arith))) (λ q. refl)))))

  -- a sequence that the end of the first text cuts
  cut-here : (n : ℕ) → (n ≡ 0 → ⊥) → length a - at < n → sequence n a at ≡ IllFormed
  unfolding sequence
  cut-here n z l = rw (ne_eqb n 0 z, lt-ltb (length a - at) n l)

  -- so the step is the same, if a cut sequence stays ill-formed or there is none
  step-before : (length a - at < leading_ones (get_or a at 0) → sequence (leading_ones (get_or a at 0)) (a ++ b) at ≡ sequence (leading_ones (get_or a at 0)) a at) → step_at (a ++ b) at ≡ step_at a at
  unfolding step_at
  step-before cut =
      let j = length-append a b in
      rw (lt-ltb at (length (a ++ b)) (omega arith), lt-ltb at (length a) h, get_or-append a b 0 at h)
      (elim (dec_lt (length a - at) (leading_ones (get_or a at 0))) [ yes l ↦ cut l | no l ↦ sequence-fits (leading_ones (get_or a at 0)) (omega arith) ])

  -- in a well-formed text no sequence is cut
  step-well-formed : well_formed_from a at ≡ true → step_at (a ++ b) at ≡ step_at a at
  unfolding well_formed_from step_at
  step-well-formed w = step-before (λ l. absurd (true≢false (sym w ∙ fold_ill_formed (λ ch rest. rest) false true a at refl (rw (lt-ltb at (length a) h) (cut-here (leading_ones (get_or a at 0)) (λ z. omega arith) l)))))

-- ---- before a byte below 80

small_alone : (x : ℕ) → x < 0x80 → leading_ones x ≡ 0
unfolding leading_ones
small_alone x h = rw (lt-ltb x 0x80 h)

small_continues_not : (x : ℕ) → x < 0x80 → is_continuation x ≡ false
unfolding is_continuation
small_continues_not x h = rw (lt-leb 0x80 x h)

module _ (a : List ℕ) (x : ℕ) (b : List ℕ) where
  length-join : length (a ++ (x ∷ b)) ≡ length a + suc (length b)
  length-join = length-append a (x ∷ b)

  -- a sequence that would go across the byte
  module _ (small : x < 0x80) (at : ℕ) (h : at < length a) where
    seam : (i : ℕ) → at + i ≡ length a → is_continuation (get_or (a ++ (x ∷ b)) (at + i) 0) ≡ false
    seam i e = rw (e, get_or-append_seam a x b 0) (small_continues_not x small)

    three-cut : (l next : ℕ) → length a < at + 3 → three l (get_or (a ++ (x ∷ b)) (at + 1) 0) (get_or (a ++ (x ∷ b)) (at + 2) 0) next ≡ IllFormed
    unfolding three
    three-cut l next p = elim (dec_lt (at + 1) (length a)) [
      | yes q ↦ rw (seam 2 (omega arith), and-false)
      | no q ↦ rw (seam 1 (omega arith))
    ]

    four-cut : (l next : ℕ) → length a < at + 4
        → four l (get_or (a ++ (x ∷ b)) (at + 1) 0) (get_or (a ++ (x ∷ b)) (at + 2) 0) (get_or (a ++ (x ∷ b)) (at + 3) 0) next ≡ IllFormed
    unfolding four
    four-cut l next p = elim (dec_lt (at + 1) (length a)) [
      | yes q ↦ elim (dec_lt (at + 2) (length a)) [
        | yes r ↦ rw (seam 3 (omega arith), and-false, and-false)
        | no r ↦ rw (seam 2 (omega arith), and-false)
      ]
      | no q ↦ rw (seam 1 (omega arith))
    ]

    sequence-cut : (n : ℕ) → (n ≡ 0 → ⊥) → length a - at < n → sequence n (a ++ (x ∷ b)) at ≡ IllFormed
    unfolding sequence two
    sequence-cut n z l =
        let I : Step → Type 0 = λ r. r ≡ IllFormed in
        rw (ne_eqb n 0 z)
        (cond_both I (ltb (length (a ++ (x ∷ b)) - at) n) _ _ (λ p. refl) (λ p.
        cond_both I (eqb n 2) _ _ (λ q. let i = eqb-true n 2 q in rw (seam 1 (omega arith))) (λ q.
        cond_both I (eqb n 3) _ _ (λ q. let i = eqb-true n 3 q in three-cut _ _ (omega arith)) (λ q.
        cond_both I (eqb n 4) _ _ (λ q. let i = eqb-true n 4 q in four-cut _ _ (omega arith)) (λ q. refl)))))

    step-before-byte : step_at (a ++ (x ∷ b)) at ≡ step_at a at
    step-before-byte = step-before a (x ∷ b) at h (λ l. sequence-cut _ (λ z. omega arith) l ∙ sym (cut-here a (x ∷ b) at h _ (λ z. omega arith) l))

  step-byte : x < 0x80 → Character x (record { at = length a + 1 }) ≡ step_at (a ++ (x ∷ b)) (length a)
  step-byte small =
      let j = length-join in
      let e = get_or-append_seam a x b 0 in
      step_alone (a ++ (x ∷ b)) (length a) (leading_ones (get_or (a ++ (x ∷ b)) (length a) 0)) refl (omega arith) x (rw e (small_alone x small)) (sym e)

-- ---- after the seam

shift : ℕ → Step → Step
shift m (Character ch c) = Character ch (record { at = m + c.at })
shift m IllFormed = IllFormed
shift m End = End

shift_cond : (m : ℕ) (t : Bool) (x y : Step) → shift m (cond t x y) ≡ cond t (shift m x) (shift m y)
shift_cond m true x y = refl
shift_cond m false x y = refl

module _ (p b : List ℕ) (k : ℕ) where
  sequence-after : (n : ℕ) → sequence n (p ++ b) (length p + k) ≡ shift (length p) (sequence n b k)
  unfolding sequence two three four scalar shift
  sequence-after n =
      let j = length-append p b in
      let left : length (p ++ b) - (length p + k) ≡ length b - k = omega arith in
      simp (shift_cond, left, add_assoc, get_or-append-add)

  step_after : step_at (p ++ b) (length p + k) ≡ shift (length p) (step_at b k)
  unfolding step_at shift
  step_after =
      let j = length-append p b in
      elim (dec_lt k (length b)) [
        | yes h ↦ rw (lt-ltb (length p + k) (length (p ++ b)) (omega arith), lt-ltb k (length b) h, get_or-append-add p b k 0) (sequence-after (leading_ones (get_or b k 0)))
        | no h ↦ rw (le-ltb (length p + k) (length (p ++ b)) (omega arith), le-ltb k (length b) (omega arith))
      ]

-- ---- folds

module _ {A : Type 0} (f : ℕ → A → A) (ill end : A) where
  after-by : (p b : List ℕ) (n : ℕ) (y : Step) → fold_by f ill end n (p ++ b) (shift (length p) y) ≡ fold_by f ill end n b y
  unfolding fold_by shift
  after-by p b zero y = refl
  after-by p b (suc n) (Character ch c) = ap (f ch) (rw (step_after p b c.at) (after-by p b n (step_at b c.at)))
  after-by p b (suc n) IllFormed = refl
  after-by p b (suc n) End = refl

  pub fold-after : (p b : List ℕ) (k : ℕ) → fold_at f ill end (p ++ b) (length p + k) ≡ fold_at f ill end b k
  unfolding fold_at
  fold-after p b k =
      let j = length-append p b in
      rw (step_after p b k)
      (after-by p b (suc (length (p ++ b))) (step_at b k) ∙ fold_fuel f ill end b (suc (length (p ++ b))) (suc (length b)) k (step_at b k) refl (omega arith) (omega arith))

  -- a walk over the first text that meets the positions `Met`, at each of which the second text does not matter
  module _ (a b : List ℕ) (Met : ℕ → Type 0) (kept : (at : ℕ) → Met at → at < length a → step_at (a ++ b) at ≡ step_at a at)
      (onward : (at ch : ℕ) (c : Cursor) → Met at → Character ch c ≡ step_at a at → Met c.at) where
    before-by : (k at : ℕ) (y : Step) → Met at → y ≡ step_at a at → at ≤ length a → length a - at < k
        → fold_at f ill end (a ++ b) at ≡ fold_by f ill (fold_at f ill end (a ++ b) (length a)) k a y
    unfolding fold_by
    before-by zero at y m e h l = absurd (omega arith)
    before-by (suc k) at (Character ch c) m e h l =
        let s = step_advances a at e refl in
        fold-character f ill end (a ++ b) at (e ∙ sym (kept at m (omega arith))) refl
        ∙ ap (f ch) (before-by k c.at (step_at a c.at) (onward at ch c m e) refl s.within (omega arith))
    before-by (suc k) at IllFormed m e h l = fold_ill_formed f ill end (a ++ b) at (e ∙ sym (kept at m (step_ill_formed a at e refl))) refl
    before-by (suc k) at End m e h l =
        let q = step_end a at e refl in
        let i : at ≡ length a = omega arith in
        ap (fold_at f ill end (a ++ b)) i

    -- the fold over the whole is the fold over the first text, ended by the fold over what is after it
    fold-before : Met 0 → fold_at f ill end (a ++ b) 0 ≡ fold_at f ill (fold_at f ill end (a ++ b) (length a)) a 0
    unfolding fold_at
    fold-before m = before-by (suc (length a)) 0 (step_at a 0) m refl (omega arith) (omega arith)

  fold-append : (a b : List ℕ) → well_formed a ≡ true → fold_at f ill end (a ++ b) 0 ≡ fold_at f ill (fold_at f ill end b 0) a 0
  fold-append a b w =
      fold-before a b (λ at. well_formed_from a at ≡ true) (λ at m h. step-well-formed a b at h m) (λ at ch c m e. sym (well_formed-character a at e refl) ∙ m) w
      ∙ ap (λ (rest : A). fold_at f ill rest a 0) (ap (fold_at f ill end (a ++ b)) (omega arith) ∙ fold-after a b 0)

  fold-parts : (a : List ℕ) (x : ℕ) (b : List ℕ) → x < 0x80 → fold_at f ill end (a ++ (x ∷ b)) 0 ≡ fold_at f ill (f x (fold_at f ill end b 0)) a 0
  fold-parts a x b small =
      fold-before a (x ∷ b) (λ at. Unit {0}) (λ at m h. step-before-byte a x b small at h) (λ at ch c m e. tt) tt
      ∙ ap (λ (rest : A). fold_at f ill rest a 0)
      (fold-character f ill end (a ++ (x ∷ b)) (length a) (step-byte a x b small) refl ∙ ap (f x) rest-after)
    where
      rest-after : fold_at f ill end (a ++ (x ∷ b)) (length a + 1) ≡ fold_at f ill end b 0
      rest-after =
          let l = length-append a (x ∷ []) in
          let i : length (a ++ (x ∷ [])) + 0 ≡ length a + 1 = omega arith in
          rw (← append_assoc a (x ∷ []) b, ← i) (fold-after (a ++ (x ∷ [])) b 0)

-- ---- well-formedness and characters

and_by : (t : Bool) (k : ℕ) (s : List ℕ) (y : Step)
    → fold_by (λ ch rest. rest) false t k s y ≡ (fold_by (λ ch rest. rest) false true k s y && t)
unfolding fold_by
and_by t zero s y = refl
and_by t (suc k) s (Character ch c) = and_by t k s (step_at s c.at)
and_by t (suc k) s IllFormed = refl
and_by t (suc k) s End = refl

append_by : (l : List ℕ) (k : ℕ) (s : List ℕ) (y : Step) → fold_by (λ ch rest. rest) false true k s y ≡ true
    → fold_by ◌∷◌ [] l k s y ≡ fold_by ◌∷◌ [] [] k s y ++ l
unfolding fold_by
append_by l zero s y w = refl
append_by l (suc k) s (Character ch c) w = ap (◌∷◌ ch) (append_by l k s (step_at s c.at) w)
append_by l (suc k) s IllFormed w = absurd (false≢true w)
append_by l (suc k) s End w = refl

module _ (a b : List ℕ) (w : well_formed a ≡ true) where
  pub well_formed-append : well_formed (a ++ b) ≡ well_formed b
  unfolding well_formed_from fold_at
  well_formed-append = fold-append (λ ch rest. rest) false true a b w ∙ and_by (well_formed b) (suc (length a)) a (step_at a 0) ∙ rw w

  pub chars-append : chars (a ++ b) ≡ chars a ++ chars b
  unfolding chars_from well_formed_from fold_at
  chars-append = fold-append ◌∷◌ [] [] a b w ∙ append_by (chars b) (suc (length a)) a (step_at a 0) w

module _ (a : List ℕ) (x : ℕ) (b : List ℕ) (small : x < 0x80) where
  pub well_formed_parts : well_formed (a ++ (x ∷ b)) ≡ (well_formed a && well_formed b)
  unfolding well_formed_from fold_at
  well_formed_parts = fold-parts (λ ch rest. rest) false true a x b small ∙ and_by (well_formed b) (suc (length a)) a (step_at a 0)

  pub chars_parts : well_formed a ≡ true → chars (a ++ (x ∷ b)) ≡ chars a ++ (x ∷ chars b)
  unfolding chars_from well_formed_from fold_at
  chars_parts w = fold-parts ◌∷◌ [] [] a x b small ∙ append_by (x ∷ chars b) (suc (length a)) a (step_at a 0) w

-- the lines of a text: the byte 0A stands between them
module _ (a b : List ℕ) where
  pub well_formed_line_feed : well_formed (a ++ (10 ∷ b)) ≡ (well_formed a && well_formed b)
  well_formed_line_feed = well_formed_parts a 10 b (lit< tt)

  pub well_formed-lines : well_formed (a ++ (10 ∷ b)) ≡ true → (well_formed a ≡ true) × (well_formed b ≡ true)
  well_formed-lines w = (and-eq-true_iff (well_formed a) (well_formed b)).0 (sym well_formed_line_feed ∙ w)

  pub chars_line_feed : well_formed (a ++ (10 ∷ b)) ≡ true → chars (a ++ (10 ∷ b)) ≡ chars a ++ (10 ∷ chars b)
  chars_line_feed w = chars_parts a 10 b (lit< tt) (well_formed-lines w).0
