-- What `skip` passes over: a character for each lead byte, none of which is looked for. Assumes nothing.
use mathlib.Core.Path.{◌≡◌, refl, sym, ◌∙◌}
use mathlib.Core.Bool.{Bool, true, false, ◌||◌, true≢false}
use mathlib.Core.List.{List, ◌∷◌}
use Prim.Native.Nat.{ℕ, zero, suc, ◌+◌, ◌-◌, ◌%◌, ◌<◌, ◌≤◌, min}
use native.Mathlib.Omega.{arith}
use native.Mathlib.Decide.{dec_lt}
use borrow.Author.Tests.{eq-eqb, ne_eqb}
use lib.ListN.{length, get_or}
use mir.Val.{Fits}
use mir.Syntax.{w8}
use lib.Dec.{eqb}
use Rattle.characters.specs.declared.Cursor.{Cursor}
use Rattle.characters.specs.declared.Step.{Step}
use Rattle.characters.specs.declared.Step.TheVariants.{Character, IllFormed, End}
use Rattle.characters.specs.Utf8.{step_at, chars_from, well_formed_from, well_formed}
use Rattle.characters.proofs.Steps.{step_advances, step_end}
use Rattle.characters.proofs.Folds.{ill_formed_stopped, chars-character, well_formed-character, well_formed_stopped}
use Rattle.mapping.specs.declared.search.Needle.{Needle}
use Rattle.mapping.specs.declared.search.Passed.{Passed}
use Rattle.mapping.specs.declared.Entry.{Entry}
use Rattle.mapping.specs.declared.Entry.TheVariants as entry
use Rattle.std.specs.Prelude.{Option, None}
use Rattle.mapping.specs.Entries.{entry_at, at_most}
use Rattle.mapping.specs.Mapping.{spelled, list_of, place_from}
use Rattle.mapping.specs.Search.{is_lead, leads, before, needle_of, may_begin, may_begin_at, SkipsBelow, Passes, Skips, Resumes}
use Rattle.mapping.proofs.Blocks.{leads-append, leads_one, passes_none, passes_from, skips_from, skips_both, bytes_from, rest_length, chars_rest, well_rest}
use Rattle.mapping.proofs.Entries.{StoppedEntry, entry_range}
use Rattle.mapping.proofs.Places.{place_capped, find_stopped}
use Rattle.mapping.proofs.Sequences.{Spelt, step_spelt}

or_true : (t : Bool) → (t || true) ≡ true
or_true true = refl
or_true false = refl

-- a character begins with a lead byte
well_lead : (s : List ℕ) (at : ℕ) (x : Step) → x ≡ step_at s at → well_formed_from s at ≡ true → at < length s → is_lead (get_or s at 0) ≡ true
well_lead s at (Character ch c) e v h = (step_spelt s at e).starts
well_lead s at IllFormed e v h = absurd (true≢false (sym v ∙ well_formed_stopped s at e ill_formed_stopped h))
well_lead s at End e v h = absurd (let q = step_end s at e refl in omega arith)

module _ (s : List ℕ) (p : Needle) (v : well_formed s ≡ true) where
  pub skips_none : Skips s p (record { at = 0; count = 0 })
  skips_none = record { passes = passes_none s p; boundary = λ h. well_lead s 0 (step_at s 0) refl v h }

  -- up to a lead byte, where nothing is passed over too
  skips-all : (r : Passed) → Passes s p r → (0 < r.at → Skips s p r) → Skips s p r
  skips-all r g f = elim (dec_lt 0 r.at) [
    | yes l ↦ f l
    | no l ↦ let z : r.at ≡ 0 = omega arith in record { passes = g; boundary = λ h. rw z (well_lead s 0 (step_at s 0) refl v (omega arith)) }
  ]

-- the needle that was found is the character's
pub skips_needle : (s : List ℕ) (ch : ℕ) (p : Needle) (g r : Passed) → p ≡ needle_of ch → Passes s p g → Skips (bytes_from s g.at) p r
    → Skips s (needle_of ch) (record { at = g.at + r.at; count = g.count + r.count })
skips_needle s ch p g r e a b = rw (← e) (skips_both s p g r a b)

module _ (s : List ℕ) (ch : ℕ) where
  -- where 00 or the character stands, it may begin
  begins-null : (q : ℕ) → get_or s q 0 ≡ 0 → may_begin_at s (needle_of ch) q ≡ true
  unfolding may_begin
  begins-null q e = rw (eq-eqb _ 0 e)

  begins-here : (q : ℕ) {c : Cursor} → Spelt s q ch c → may_begin_at s (needle_of ch) q ≡ true
  unfolding may_begin
  begins-here q p =
      let h = p.holds in
      rw (eq-eqb _ (needle_of ch).lead h.lead, eq-eqb _ (needle_of ch).inner h.inner, eq-eqb _ (needle_of ch).middle h.middle, eq-eqb _ (needle_of ch).last h.last) (or_true (eqb (get_or s q 0) 0))

  -- the rest from a boundary on, where nothing begins before it
  record Rest (from at : ℕ) : Type 0 where
    well : well_formed_from s at ≡ true
    placed : (k : ℕ) → place_from k ch (spelled (chars_from s from)) ≡ place_from (k + leads s from (at - from)) ch (spelled (chars_from s at))

  module _ (at : ℕ) (w : at ≤ length s) (b : at < length s → is_lead (get_or s at 0) ≡ true) where
    abbrev Clear : ℕ → Type 0
    Clear from = (q : ℕ) → from ≤ q → q < at → may_begin_at s (needle_of ch) q ≡ false

    spelled-other : (k x : ℕ) (l : List ℕ) → (x ≡ 0 → ⊥) → (x ≡ ch → ⊥) → place_from k ch (spelled (x ∷ l)) ≡ place_from (suc k) ch (spelled l)
    unfolding spelled place_from
    spelled-other k zero l z n = absurd (z refl)
    spelled-other k (suc x) l z n = rw (ne_eqb (suc x) ch n)

    -- the sequence at a position before it ends before it
    within : (from x : ℕ) (c : Cursor) → Spelt s from x c → c.at ≤ length s → from < at → c.at ≤ at
    within from x c p n h = elim (dec_lt at c.at) [
      | yes l ↦ absurd (true≢false (sym (b (omega arith)) ∙ p.goes_on at h l))
      | no l ↦ omega arith
    ]

    step-rest : (from x : ℕ) (c : Cursor) → from < at → Clear from → Spelt s from x c → Character x c ≡ step_at s from → from < c.at → c.at ≤ at
        → Rest c.at at → Rest from at
    step-rest from x c h clear p e f l r =
        let split : at - from ≡ (1 + (c.at - from - 1)) + (at - c.at) = omega arith in
        let to : from + (1 + (c.at - from - 1)) ≡ c.at = omega arith in
        let one : leads s from (1 + (c.at - from - 1)) ≡ 1 =
        leads_one s from (c.at - from - 1) p.starts (λ j m. p.goes_on (from + 1 + j) (omega arith) (omega arith)) in
        let count : leads s from (at - from) ≡ 1 + leads s c.at (at - c.at) =
        rw (split, leads-append s from (1 + (c.at - from - 1)) (at - c.at), to, one) in
        record {
          well = r.well;
          placed = λ k.
              let i : k + leads s from (at - from) ≡ suc k + leads s c.at (at - c.at) = omega arith in
              rw (chars-character s from e refl, i)
              (spelled-other k x (chars_from s c.at)
              (λ z. true≢false (sym (begins-null from (p.null z)) ∙ clear from (omega arith) h))
              (λ z. true≢false (sym (begins-here from (rw z at p)) ∙ clear from (omega arith) h))
              ∙ r.placed (suc k));
        }

    rest-none : (from : ℕ) → from ≡ at → well_formed_from s from ≡ true → Rest from at
    unfolding leads
    rest-none from e v =
        let z : at - at ≡ 0 = omega arith in
        record { well = rw e at v; placed = λ k. let i : k + 0 ≡ k = omega arith in rw (e, z, i) }

    rest-by : (n from : ℕ) (x : Step) → x ≡ step_at s from → at - from < n → from ≤ at → well_formed_from s from ≡ true → Clear from → Rest from at
    rest-by zero from x e m h v clear = absurd (omega arith)
    rest-by (suc n) from (Character x c) e m h v clear = elim (dec_lt from at) [
      | yes l ↦ (
          let a = step_advances s from e refl in
          let p = step_spelt s from e in
          let t = within from x c p a.within l in
          step-rest from x c l clear p e a.forward t
          (rest-by n c.at (step_at s c.at) refl (omega arith) t (sym (well_formed-character s from e refl) ∙ v) (λ q y z. clear q (omega arith) z))
          )
      | no l ↦ rest-none from (omega arith) v
    ]
    rest-by (suc n) from IllFormed e m h v clear = elim (dec_lt from at) [
      | yes l ↦ absurd (true≢false (sym v ∙ well_formed_stopped s from e ill_formed_stopped (omega arith)))
      | no l ↦ rest-none from (omega arith) v
    ]
    rest-by (suc n) from End e m h v clear = elim (dec_lt from at) [
      | yes l ↦ absurd (let q = step_end s from e refl in omega arith)
      | no l ↦ rest-none from (omega arith) v
    ]

-- ---- what `skip` passed over

module _ (s : List ℕ) (ch : ℕ) (r : Passed) (g : Skips s (needle_of ch) r) (v : well_formed s ≡ true) where
  rest : Rest s ch 0 r.at
  rest =
      let p = g.passes in
      rest-by s ch r.at p.within g.boundary (suc r.at) 0 (step_at s 0) refl (omega arith) (omega arith) v (λ q a b. p.clear q b)

  pub skip_well : well_formed_from s r.at ≡ true
  skip_well = rest.well

  -- the position after it
  skip-placed : (k : ℕ) → place_from k ch (list_of s) ≡ place_from (k + leads s 0 r.at) ch (spelled (chars_from s r.at))
  skip-placed k = let z : r.at - 0 ≡ r.at = omega arith in rw z at (rest.placed k)

  pub skip_again : (most k m j : ℕ) (f : Option ℕ) → m ≡ min r.count most → j ≡ min (k + m) most
      → at_most most (place_from k ch (list_of s)) ≡ f → at_most most (place_from j ch (spelled (chars_from s r.at))) ≡ f
  skip_again most k m j f a b h =
      let n = g.passes.counted in
      place_capped most ch (spelled (chars_from s r.at)) j (k + leads s 0 r.at) (omega arith) ∙ (rw (skip-placed k) at h)

  pub skip_stopped : {x : Entry} → x ≡ entry_at s r.at → StoppedEntry x
      → (most k : ℕ) (f : Option ℕ) → at_most most (place_from k ch (list_of s)) ≡ f → None ≡ f
  skip_stopped e t most k f h = find_stopped s r.at e t most _ ch f (rw (skip-placed k) at h)

-- after what was passed over, counted from as many as that has
pub resumes : (s : List ℕ) (ch limit : ℕ) (r : Passed) → SkipsBelow s limit r → well_formed s ≡ true → (lead : ℕ) → lead ≡ (needle_of ch).lead
    → (low high : ℕ) → low ≡ (limit + 255) % 256 → high ≡ (lead + 255) % 256 → low ≤ high
    → (k m j : ℕ) → m ≡ min r.count 65_536 → j ≡ min (k + m) 65_536 → Resumes s ch k (bytes_from s r.at) j
unfolding before
resumes s ch limit r g v lead e low high x y h k m j a b =
    let t = skips-all s (needle_of ch) v r (passes_from s limit r g ch lead low high e x y h) (skips_from s limit r g ch lead low high e x y h) in
    record {
      well = well_rest s r.at t.passes.within ∙ skip_well s ch r t v;
      small = omega arith;
      placed = rw (chars_rest s r.at t.passes.within) (skip_again s ch r t v 65_536 k m j _ a b refl);
    }

pub resumed : (s : List ℕ) (ch k : ℕ) (l : List ℕ) (n : ℕ) (f : Option ℕ) → Resumes s ch k l n
    → f ≡ at_most 65_536 (place_from n ch (list_of l)) → f ≡ at_most 65_536 (place_from k ch (list_of s))
resumed s ch k l n f g h = h ∙ g.placed

-- after an entry less is left
pub skip_less : (s : List ℕ) (at : ℕ) {x : Entry} → x ≡ entry_at s at → {start end : ℕ} {c : Cursor} → x ≡ entry.Range start end c → length (bytes_from s c.at) < length s
skip_less s at {x} e {start} {end} {c} q = let a = entry_range s at e q in omega (arith, rest_length s c.at)

-- a position that is cut is small
pub capped : (k v : ℕ) → k ≡ min v 65_536 → k ≤ 65_537
capped k v e = omega arith
