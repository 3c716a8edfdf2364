-- `find`, `glyph_with`, `glyph_of` and `check_mapping`: a law for each fact that they need, where x is the entry at a position. Assumes nothing.
use mathlib.Core.Path.{◌≡◌, refl, sym, ◌∙◌, ap}
use mathlib.Core.Logic.{⊎_elim}
use mathlib.Core.Bool.{Bool, true, false, cond, and-eq-true_iff, true≢false}
use mathlib.Core.List.{List, [], ◌∷◌}
use Prim.Native.Nat.{ℕ, suc, ◌+◌, ◌-◌, ◌^◌, ◌<◌, ◌≤◌, min}
use native.Mathlib.Omega.{arith}
use native.Mathlib.Decide.{dec_lt}
use borrow.Author.Tests.{leb-true, not-true, le-leb, lt-leb}
use lib.ListN.{length, drop, length-append}
use lib.Dec.{leb, eqb}
use mir.Val.{Fits}
use mir.Syntax.{w32, w64}
use Rattle.characters.specs.declared.Cursor.{Cursor}
use Rattle.characters.specs.Utf8.{is_surrogate, chars_from, well_formed_from, well_formed}
use Rattle.mapping.specs.declared.Entry.{Entry}
use Rattle.mapping.specs.declared.Entry.TheVariants as entry
use Rattle.std.specs.Prelude.{Option, Some, None, IfSome}
use Rattle.mapping.specs.declared.Glyph.{Glyph}
use Rattle.mapping.specs.declared.PassedBelow.{PassedBelow}
use Rattle.mapping.specs.Search.{SkipsBelow, StartOf}
use Rattle.mapping.specs.Entries.{entry_at, after_entry, in_range, at_most, glyph_at, stop_refusal, WithinLimit}
use Rattle.mapping.specs.Mapping.{from_to, spelled, list_of, place_from, refusal}
use Rattle.mapping.proofs.Blocks.{bytes_from, rest_is, chars_rest, well_rest}
use Rattle.mapping.proofs.Ranges.{length_range_le, length_range_through, place_in, place_past}
use Rattle.mapping.proofs.Entries.{StoppedEntry, entry_range, entry_stopped, entry_ill_formed, entry_end, stopped_entry}

-- ---- positions up to a limit

-- from which position on it is counted does not matter where both are past the limit
pub place_capped : (most ch : ℕ) (l : List ℕ) (j k : ℕ) → min j most ≡ min k most → at_most most (place_from j ch l) ≡ at_most most (place_from k ch l)
unfolding place_from
place_capped most ch [] j k e = refl
place_capped most ch (x ∷ l) j k e = by (eqb x ch) (place_capped most ch l (suc j) (suc k) (omega arith))
  where
    by : (t : Bool) → at_most most (place_from (suc j) ch l) ≡ at_most most (place_from (suc k) ch l)
        → at_most most (cond t (Some j) (place_from (suc j) ch l)) ≡ at_most most (cond t (Some k) (place_from (suc k) ch l))
    by true i = ap Some e
    by false i = i

-- a position is within the list
pub place_below : (k ch : ℕ) (l : List ℕ) {i : ℕ} → place_from k ch l ≡ Some i → i < k + length l
unfolding place_from
place_below k ch [] {i} e = absurd (let z : ◌≡◌ {A = ℕ} 0 1 = cc in omega arith)
place_below k ch (x ∷ l) {i} e = by (eqb x ch) (λ q. omega (arith, place_below (suc k) ch l q)) e
  where
    by : (t : Bool) → (place_from (suc k) ch l ≡ Some i → i < k + suc (length l)) → cond t (Some k) (place_from (suc k) ch l) ≡ Some i → i < k + suc (length l)
    by true ih q = let j : k ≡ i = cc in omega arith
    by false ih q = ih q

-- ---- a turn of the loops

module _ (s : List ℕ) (at : ℕ) {x : Entry} (e : x ≡ entry_at s at) {start end : ℕ} {c : Cursor} (q : x ≡ entry.Range start end c) where
  pub entry_within : c.at ≤ length s
  entry_within = (entry_range s at e q).within

  pub entry_less : length s - c.at < length s - at
  entry_less = let g = entry_range s at e q in omega arith

  pub count_fits : (k z : ℕ) → k ≤ 65_537 → z ≡ length (from_to start end) → Fits w64 (k + z)
  count_fits k z h i = let g = entry_range s at e q in let l = length_range_le start end in omega arith

  module _ (ch : ℕ) (t : Bool) (i : t ≡ in_range start end ch) where
    module _ (y : t ≡ true) where
      in_range_lem : (start ≤ ch) × (ch ≤ end) × (is_surrogate ch ≡ false)
      unfolding in_range
      in_range_lem =
          let p = (and-eq-true_iff (leb start ch) _).0 (sym i ∙ y) in
          let r = (and-eq-true_iff (leb ch end) _).0 p.1 in
          (leb-true start ch p.0, leb-true ch end r.0, not-true _ r.1)

      pub found_fits : (k p : ℕ) → k ≤ 65_537 → p ≡ length (from_to start ch) → Fits w64 (k + p)
      found_fits k p h z = let g = entry_range s at e q in let r = in_range_lem in let l = length_range_le start ch in omega arith

      pub found_pos : (k p : ℕ) → p ≡ length (from_to start ch) → 1 ≤ k + p
      found_pos k p z = let r = in_range_lem in let l = length_range_through start ch r.2 r.0 in omega arith

      -- where it stands
      found-place : (k p : ℕ) → p ≡ length (from_to start ch) → place_from k ch (spelled (chars_from s at)) ≡ Some (k + p - 1)
      found-place k p z =
          let r = in_range_lem in
          rw ((entry_range s at e q).spells, z) (place_in ch (spelled (chars_from s c.at)) k start end r.2 r.0 r.1)

      -- in the first entry's range
      pub first_pos : (p : ℕ) → p ≡ length (from_to start ch) → 1 ≤ p
      first_pos p z = omega (arith, found_pos 0 p z)

      pub first_fits : (p : ℕ) → p ≡ length (from_to start ch) → ch < 2 ^ 32 → Fits w32 (p - 1)
      first_fits p z h = let l = length_range_le start ch in omega arith

      pub glyph_first : (replacement p i : ℕ) (g : Glyph) → p ≡ length (from_to start ch) → i ≡ p - 1 → g ≡ glyph_at replacement (Some i)
          → g ≡ glyph_at replacement (place_from 0 ch (spelled (chars_from s at)))
      glyph_first replacement p i g z j h = let k : 0 + p - 1 ≡ i = omega arith in rw (found-place 0 p z, k) h

      pub found_at : (most k p j : ℕ) (f : Option ℕ) → p ≡ length (from_to start ch) → j ≡ min (k + p - 1) most
          → at_most most (place_from k ch (spelled (chars_from s at))) ≡ f → Some j ≡ f
      found_at most k p j f z m h = rw m (rw (found-place k p z) at h)

    pub find_again : t ≡ false → (most k z j : ℕ) (f : Option ℕ) → z ≡ length (from_to start end) → j ≡ min (k + z) most
        → at_most most (place_from k ch (spelled (chars_from s at))) ≡ f → at_most most (place_from j ch (list_of (bytes_from s c.at))) ≡ f
    unfolding in_range
    find_again n most k z j f l m h =
        let inside : is_surrogate ch ≡ false → start ≤ ch → ch ≤ end → in_range start end ch ≡ true =
        λ p a b. rw (le-leb start ch a, le-leb ch end b, p) in
        let there : place_from k ch (spelled (chars_from s at)) ≡ place_from (k + z) ch (spelled (chars_from s c.at)) =
        rw ((entry_range s at e q).spells, l)
        (place_past ch (spelled (chars_from s c.at)) (suc end - start) k start (λ p a b. true≢false (sym (inside p a (omega arith)) ∙ sym i ∙ n))) in
        rw (chars_rest s c.at entry_within) (place_capped most ch (spelled (chars_from s c.at)) j (k + z) (omega arith) ∙ (rw there at h))

    -- after the first entry, counted from as many as it has
    pub after_first : t ≡ false → (z j : ℕ) (f : Option ℕ) → z ≡ length (from_to start end) → j ≡ min z 65_536
        → f ≡ at_most 65_536 (place_from j ch (list_of (bytes_from s c.at))) → f ≡ at_most 65_536 (place_from 0 ch (spelled (chars_from s at)))
    after_first n z j f l m h = h ∙ find_again n 65_536 0 z j _ l (omega arith) refl

  pub walk_again : (w : Bool) → well_formed_from s at ≡ w → well_formed_from s c.at ≡ w
  walk_again w i = sym (entry_range s at e q).well_formed_lem ∙ i

  pub rest_well : well_formed_from s at ≡ true → well_formed (bytes_from s c.at) ≡ true
  rest_well i = well_rest s c.at entry_within ∙ walk_again true i

  pub count_again : (most k z j total : ℕ) → z ≡ length (from_to start end) → j ≡ min (k + z) most
      → min (k + length (spelled (chars_from s at))) most ≡ total → min (j + length (spelled (chars_from s c.at))) most ≡ total
  count_again most k z j total l m h =
      let g = ap length (entry_range s at e q).spells ∙ length-append (from_to start end) (spelled (chars_from s c.at)) in
      omega arith

-- ---- the end of the loops

limit_same : (j k : ℕ) → min j 65_537 ≡ min k 65_537 → leb j 65_536 ≡ leb k 65_536
limit_same j k e = elim (dec_lt 65_536 j) [
  | yes l ↦ rw (lt-leb j 65_536 l, lt-leb k 65_536 (omega arith))
  | no l ↦ rw (le-leb j 65_536 (omega arith), le-leb k 65_536 (omega arith))
]

module _ (s : List ℕ) (at : ℕ) {x : Entry} (e : x ≡ entry_at s at) (t : StoppedEntry x) where
  pub find_stopped : (most k ch : ℕ) (f : Option ℕ) → at_most most (place_from k ch (spelled (chars_from s at))) ≡ f → None ≡ f
  unfolding place_from
  find_stopped most k ch f h = rw (entry_stopped s at e t) at h

  pub glyph_stopped : (replacement ch : ℕ) (g : Glyph) → g ≡ glyph_at replacement None → g ≡ glyph_at replacement (place_from 0 ch (spelled (chars_from s at)))
  unfolding place_from
  glyph_stopped replacement ch g h = rw (entry_stopped s at e t) h

  pub check_stopped : (k r : ℕ) → k ≤ 65_537 → well_formed_from s at ≡ well_formed_from s 0
      → min (k + length (spelled (chars_from s at))) 65_537 ≡ min (length (list_of s)) 65_537 → r ≡ stop_refusal x k → r ≡ refusal s
  unfolding refusal stop_refusal
  check_stopped k r h w i o = ⊎_elim
      (λ q. let v : well_formed_from s 0 ≡ false = sym w ∙ (entry_ill_formed s at e q).well_formed_lem in rw (o, q, v))
      (λ q.
      let v : well_formed_from s 0 ≡ true = sym w ∙ (entry_end s at e q).well_formed_lem in
      let l = ap length (entry_end s at e q).spells in
      rw (o, q, v, limit_same k (length (list_of s)) (omega arith)))
      (stopped_entry x t)

-- ---- where the search starts

module _ (s : List ℕ) (x : Entry) {start end : ℕ} {c : Cursor} (q : x ≡ entry.Range start end c) where
  after-range : bytes_from s c.at ≡ drop (after_entry x) s
  unfolding after_entry
  after-range = rw q (rest_is s c.at)

  -- bytes passed over after the first entry
  pub start_after : (o : Option PassedBelow) → x ≡ entry_at s 0 → IfSome o (λ b. SkipsBelow (bytes_from s c.at) b.lead b.passed)
      → StartOf s (record { first = entry.Range start end c; below = o })
  start_after o e g = record { first = sym q ∙ e; below = rw (after-range, q) at g }

  pub start_below : (o : Option PassedBelow) → IfSome o (λ b. SkipsBelow (drop (after_entry x) s) b.lead b.passed) → IfSome o (λ b. SkipsBelow (bytes_from s c.at) b.lead b.passed)
  start_below o g = rw after-range g

-- ---- `glyph_with` and `glyph_of`

-- in a mapping within the limit no position is cut
pub glyph_placed : (m : List ℕ) (replacement ch : ℕ) (f : Option ℕ) (g : Glyph) → WithinLimit m → f ≡ at_most 65_536 (place_from 0 ch (list_of m))
    → g ≡ glyph_at replacement f → g ≡ glyph_at replacement (place_from 0 ch (list_of m))
glyph_placed m replacement ch f g h e q = q ∙ ap (glyph_at replacement) (e ∙ by (place_from 0 ch (list_of m)) refl)
  where
    by : (o : Option ℕ) → place_from 0 ch (list_of m) ≡ o → at_most 65_536 o ≡ o
    by (Some k) p =
        let b = place_below 0 ch (list_of m) p in
        let l = h.spelled in
        ap Some (omega arith)
    by None p = refl
