-- `skip` and the functions that it calls: a law for each fact that a turn of their loops needs. Assumes nothing.
use mathlib.Core.Path.{◌≡◌, refl, sym, ◌∙◌, ap}
use mathlib.Core.Bool.{Bool, true, false, not, cond, and-eq-true_iff}
use mathlib.Core.List.{List, [], ◌∷◌}
use mathlib.Mathlib.Data.Bool.Basic.{dichotomy}
use mathlib.Core.Logic.{⊎_elim}
use Prim.Native.Nat.{ℕ, zero, suc, ◌+◌, ◌-◌, ◌*◌, ◌/◌, ◌%◌, ◌<◌, ◌≤◌, min, max}
use native.Mathlib.Numerals.{add-one}
use native.Mathlib.Omega.{arith}
use native.Mathlib.Decide.{dec_lt}
use borrow.Author.Tests.{ne_eqb, eqb-true, not-false}
use lib.ListN.{length, get_or, take, drop, length-drop}
use Rattle.std.proofs.Math.Seq.{take-length, length-take-le}
use Rattle.std.proofs.lemmas.List.{get_or-drop, get_or-take, take-append-drop}
use Rattle.std.proofs.lemmas.List.Sums.{fails_before_first, prefix_len-le-length, prefix_len_stops}
use Rattle.std.specs.List.{position_or_len}
use mir.Val.{Fits}
use mir.Syntax.{w8, w64}
use lib.Dec.{eqb}
use Rattle.std.specs.Int.{from_bool}
use Rattle.std.specs.Prelude.{Option, Some, None, unwrap_or}
use Rattle.characters.specs.Utf8.{is_continuation, fold_at, chars_from, well_formed_from}
use Rattle.characters.proofs.Parts.{fold-after}
use Rattle.mapping.specs.declared.search.Needle.{Needle}
use Rattle.mapping.specs.declared.search.Block.{Block}
use Rattle.mapping.specs.declared.search.Passed.{Passed}
use Rattle.mapping.specs.Search.{is_lead, leads, may_begin, may_begin_at, before, needle_of, OfBlock, OfHit, Below, SkipsBelow, Passes, Skips, IsNeedle}
use Rattle.mapping.proofs.Sequences.{continues}

-- ---- the bytes from a position on

abbrev pub bytes_from : List ℕ → ℕ → List ℕ
bytes_from s at = take (length s - at) (drop at s)

module _ (s : List ℕ) (at : ℕ) where
  pub rest_is : bytes_from s at ≡ drop at s
  rest_is = rw (← length-drop at s) (take-length (drop at s))

  rest_byte : (i : ℕ) → get_or (bytes_from s at) i 0 ≡ get_or s (at + i) 0
  rest_byte i = ap (λ l. get_or l i 0) rest_is ∙ get_or-drop at s i 0

  pub rest_length : length (bytes_from s at) ≡ length s - at
  rest_length = ap length rest_is ∙ length-drop at s

  begins_after : (p : Needle) (q : ℕ) → may_begin_at (bytes_from s at) p q ≡ may_begin_at s p (at + q)
  begins_after p q =
      let e : (j : ℕ) → at + (q + j) ≡ at + q + j = λ j. omega arith in
      rw (rest_byte q, rest_byte (q + p.near), rest_byte (q + p.mid), rest_byte (q + p.end), e p.near, e p.mid, e p.end)

  begins_first : (p : Needle) → may_begin_at (bytes_from s at) p 0 ≡ may_begin_at s p at
  begins_first p = begins_after p 0 ∙ (let e : at + 0 ≡ at = omega arith in rw e)

-- they are walked as from there on
module _ (s : List ℕ) (at : ℕ) (h : at ≤ length s) where
  fold-rest : {A : Type 0} (f : ℕ → A → A) (ill end : A) → fold_at f ill end (bytes_from s at) 0 ≡ fold_at f ill end s at
  fold-rest f ill end =
      let n : length (take at s) + 0 ≡ at = omega (arith, length-take-le at s h) in
      rw (rest_is s at) (sym (rw (n, take-append-drop at s) at (fold-after f ill end (take at s) (drop at s) 0)))

  pub chars_rest : chars_from (bytes_from s at) 0 ≡ chars_from s at
  unfolding chars_from
  chars_rest = fold-rest ◌∷◌ [] []

  pub well_rest : well_formed_from (bytes_from s at) 0 ≡ well_formed_from s at
  unfolding well_formed_from
  well_rest = fold-rest (λ ch rest. rest) false true

-- n bytes from a position on
abbrev pub part : List ℕ → ℕ → ℕ → List ℕ
part s at n = take (at + n - at) (drop at s)

take_byte : (s : List ℕ) (at n j : ℕ) → j < n → get_or (take n (drop at s)) j 0 ≡ get_or s (at + j) 0
take_byte s at n j l = get_or-take n (drop at s) j 0 l ∙ get_or-drop at s j 0

part_byte : (s : List ℕ) (at n j : ℕ) → j < n → get_or (part s at n) j 0 ≡ get_or s (at + j) 0
part_byte s at n j l = take_byte s at (at + n - at) j (omega arith)

-- ---- lead bytes

one_le : (t : Bool) → cond {A = ℕ} t 1 0 ≤ 1
one_le true = omega arith
one_le false = omega arith

one_is : (t : Bool) → from_bool t ≡ cond {A = ℕ} t 1 0
one_is true = refl
one_is false = refl

pub leads_le : (s : List ℕ) (at n : ℕ) → leads s at n ≤ n
unfolding leads
leads_le s at zero = omega arith
leads_le s at (suc n) = omega (arith, leads_le s at n, one_le (is_lead (get_or s (at + n) 0)))

pub leads-append : (s : List ℕ) (at m n : ℕ) → leads s at (m + n) ≡ leads s at m + leads s (at + m) n
unfolding leads
leads-append s at m zero = let e : m + 0 ≡ m = omega arith in rw e (omega arith)
leads-append s at m (suc n) =
    let e : m + suc n ≡ suc (m + n) = omega arith in
    let f : at + (m + n) ≡ at + m + n = omega arith in
    rw (e, f) (omega (arith, leads-append s at m n))

leads_none : (s : List ℕ) (at n : ℕ) → ((j : ℕ) → j < n → is_lead (get_or s (at + j) 0) ≡ false) → leads s at n ≡ 0
unfolding leads
leads_none s at zero c = refl
leads_none s at (suc n) c = rw (leads_none s at n (λ j l. c j (omega arith)), c n (omega arith))

-- n bytes more
leads-after : (s : List ℕ) (to n : ℕ) → leads s 0 (to + n) ≡ leads s 0 to + leads s to n
leads-after s to n = let z : 0 + to ≡ to = omega arith in rw z at (leads-append s 0 to n)

module _ (s : List ℕ) (to k n v : ℕ) (e : k ≡ leads s 0 to) where
  leads-on : v ≡ leads s to n → k + v ≡ leads s 0 (to + n)
  leads-on f = omega (arith, leads-after s to n)

  leads-fit : v ≤ n → to + n ≤ length s → Fits w64 (length s) → Fits w64 (k + v)
  leads-fit l m f = omega (arith, leads_le s 0 to)

module _ (s : List ℕ) where
  pub leads-start : 0 ≡ leads s 0 0
  unfolding leads
  leads-start = refl

  -- one byte more
  module _ (i n v b : ℕ) (t : Bool) (e : n ≡ leads s 0 i) (h : v ≡ from_bool t) where
    pub leads_more : t ≡ is_lead b → b ≡ get_or s i 0 → n + v ≡ leads s 0 (i + 1)
    unfolding leads
    leads_more f g = let z : 0 + i ≡ i = omega arith in rw (add-one i, z, e, h, one_is t, f, g)

    pub leads_fit : i < length s → length s ≡ 128 → Fits w8 (n + v)
    leads_fit l m = omega (arith, leads_le s 0 i, one_is t, one_le t)

  pub counted_start : (n : ℕ) → 0 ≡ leads s 0 (min 0 n)
  unfolding leads
  counted_start n = let m : min 0 n ≡ 0 = omega arith in rw m

  -- one byte more, of those before n
  module _ (n i k x y v : ℕ) (t : Bool) (e : k ≡ leads s 0 (min i n)) (h : x ≡ from_bool t) where
    pub counted_more : (b p : ℕ) → p ≡ i → t ≡ is_lead b → b ≡ get_or s i 0 → y ≡ n - p → v ≡ min x y → k + v ≡ leads s 0 (min (i + 1) n)
    counted_more b p q f g w u = elim (dec_lt i n) [
      | yes l ↦ (
          let m : min i n ≡ i = omega arith in
          let m' : min (i + 1) n ≡ i + 1 = omega arith in
          rw m' (leads_more i k v b t (rw m at e) (let o = one_le t in let z = one_is t in omega arith) f g)
          )
      | no l ↦ (
          let m : min (i + 1) n ≡ min i n = omega arith in
          rw m (omega arith)
          )
    ]

    pub counted_fits : i < length s → length s ≡ 64 → v ≡ min x y → Fits w8 (k + v)
    counted_fits l m u = omega (arith, leads_le s 0 (min i n), one_is t, one_le t)

  pub bounded_more : (i most m b : ℕ) → ((j : ℕ) → j < i → before (get_or s j 0) ≤ most) → b ≡ get_or s i 0 → m ≡ max most ((b + 255) % 256)
      → (j : ℕ) → j < i + 1 → before (get_or s j 0) ≤ m
  unfolding before
  bounded_more i most m b h f g j l = elim (dec_lt j i) [
    | yes k ↦ omega (arith, h j k)
    | no k ↦ (
        let q : j ≡ i = omega arith in
        let y : b ≡ get_or s j 0 = rw q f in
        omega arith
        )
  ]

-- ---- what is said of a part

module _ (s : List ℕ) (at : ℕ) where
  leads_take : (n m : ℕ) → n ≤ m → leads (take m (drop at s)) 0 n ≡ leads s at n
  unfolding leads
  leads_take zero m l = refl
  leads_take (suc n) m l = let e : 0 + n ≡ n = omega arith in rw (leads_take n m (omega arith), e, take_byte s at m n (omega arith))

  block_part : (b : Block) → OfBlock (part s at 128) 0 b → OfBlock s at b
  block_part b o = record {
    bounded = λ j l. let e : 0 + j ≡ j = omega arith in rw (← part_byte s at 128 j l) (rw e at (o.bounded j l));
    counted = o.counted ∙ leads_take 128 (at + 128 - at) (omega arith);
  }

  hit_part : (p : Needle) (r : Option ℕ) → IsNeedle p → OfHit (part s at 67) p 0 r → OfHit s p at r
  hit_part p r i o = record {
    within = o.within;
    clear = λ j l.
        let c = o.clear j l in
        let e : 0 + j ≡ j = omega arith in
        let n = i.near_within in
        let m = i.mid_within in
        let d = i.end_within in
        let z : (k : ℕ) → k ≤ 3 → get_or (part s at 67) (j + k) 0 ≡ get_or s (at + j + k) 0 =
        λ k h. part_byte s at 67 (j + k) (omega arith) ∙ (let y : at + (j + k) ≡ at + j + k = omega arith in rw y) in
        rw (← part_byte s at 67 j (omega arith), ← z p.near n, ← z p.mid m, ← z p.end d) (rw e at c);
  }

-- ---- bytes that are passed over

begins_not : (p : Needle) (a b c d : ℕ) → (a ≡ 0 → ⊥) → (a ≡ p.lead → ⊥) → may_begin p a b c d ≡ false
unfolding may_begin
begins_not p a b c d z n = rw (ne_eqb a 0 z, ne_eqb a p.lead n)

zero_leads : is_lead 0 ≡ true
unfolding is_lead is_continuation
zero_leads = refl

-- what begins begins with a lead byte
begins_lead : (p : Needle) (a b c d : ℕ) → is_lead p.lead ≡ true → may_begin p a b c d ≡ true → is_lead a ≡ true
unfolding may_begin
begins_lead p a b c d i y = ⊎_elim
    (λ n.
    let z = rw n at y in
    ap is_lead (eqb-true a p.lead ((and-eq-true_iff (eqb a p.lead) _).0 z).0) ∙ i)
    (λ n. ap is_lead (eqb-true a 0 n) ∙ zero_leads)
    (dichotomy (eqb a 0))

before_less : (p : Needle) (a b c d : ℕ) → before a < before p.lead → may_begin p a b c d ≡ false
unfolding before
before_less p a b c d l = begins_not p a b c d (λ z. omega arith) (λ z. omega arith)

-- ---- bytes below a limit

before_continued : (limit b : ℕ) → 0xC0 ≤ limit → Fits w8 limit → is_lead b ≡ false → before b < before limit
unfolding before is_lead
before_continued limit b m n f = let c = continues b (not-false _ f) in omega arith

module _ (s : List ℕ) (limit : ℕ) where
  module _ (r : Passed) (g : Below s limit r) where
    below-passes : (p : Needle) → before limit ≤ before p.lead → Passes s p r
    below-passes p h = record {
      within = g.within;
      counted = g.counted;
      clear = λ q x. before_less p _ _ _ _ (omega (arith, g.low q x));
    }

    pub passes_lead : (p : Needle) → limit ≡ p.lead → Passes s p (record { at = r.at + 0; count = r.count })
    passes_lead p e = let i : r.at + 0 ≡ r.at = omega arith in rw i (below-passes p (rw e (omega arith)))

    -- on to the first lead byte: a byte that continues a sequence is below every byte with which one of several begins
    module _ (n : ℕ) (e : n ≡ position_or_len is_lead (bytes_from s r.at)) where
      lead_within : n ≤ length s - r.at
      lead_within = omega (arith, prefix_len-le-length (λ b. not (is_lead b)) (bytes_from s r.at), rest_length s r.at)

      pub lead_fits : Fits w64 (length s) → Fits w64 (r.at + n)
      lead_fits f = let l = lead_within in let w = g.within in omega arith

      continued : (j : ℕ) → j < n → is_lead (get_or s (r.at + j) 0) ≡ false
      continued j l = rw (← rest_byte s r.at j) (fails_before_first is_lead (bytes_from s r.at) j 0 (rw e at l))

      pub on_lead : r.at + n < length s → is_lead (get_or s (r.at + n) 0) ≡ true
      on_lead y =
          let z : position_or_len is_lead (bytes_from s r.at) < length (bytes_from s r.at) = omega (arith, rest_length s r.at) in
          let t = prefix_len_stops (λ b. not (is_lead b)) (bytes_from s r.at) 0 z in
          rw (e, ← rest_byte s r.at (position_or_len is_lead (bytes_from s r.at))) (not-false _ t)

      pub skips_on : 0xC0 ≤ limit → Fits w8 limit → SkipsBelow s limit (record { at = r.at + n; count = r.count })
      skips_on m f =
          let none = leads_none s r.at n continued in
          let l = lead_within in
          let w = g.within in
          record {
            below = record {
              within = omega arith;
              counted = let c = g.counted in omega (arith, leads-after s r.at n);
              low = λ q x. elim (dec_lt q r.at) [
                | yes l ↦ g.low q l
                | no l ↦ (
                    let j : r.at + (q - r.at) ≡ q = omega arith in
                    before_continued limit (get_or s q 0) m f (rw j at (continued (q - r.at) (omega arith)))
                    )
              ];
            };
            boundary = λ x y. on_lead y;
          }

  -- for a character whose sequence begins with the limit or a higher byte; 00 is the highest
  module _ (r : Passed) (g : SkipsBelow s limit r) (ch lead x y : ℕ) (e : lead ≡ (needle_of ch).lead) (f : x ≡ before limit) (i : y ≡ before lead) (l : x ≤ y) where
    pub passes_from : Passes s (needle_of ch) r
    passes_from = below-passes r g.below (needle_of ch) (rw (← e, ← f, ← i) l)

    pub skips_from : 0 < r.at → Skips s (needle_of ch) r
    skips_from h = record { passes = passes_from; boundary = g.boundary h }

  -- no block yet
  pub below_start : Below s limit (record { at = 0; count = 0 })
  below_start = record { within = omega arith; counted = leads-start s; low = λ q a. absurd (omega arith) }

  pub skips_below_none : SkipsBelow s limit (record { at = 0; count = 0 })
  skips_below_none = record { below = below_start; boundary = λ l. absurd (omega arith) }

  module _ (k n : ℕ) (g : Below s limit (record { at = 128 * k; count = n })) where
    -- a block more
    module _ (l : k < length s / 128) (b : Block) (h : OfBlock (part s (128 * k) 128) 0 b) (v : ℕ) (w : v ≡ b.leads) where
      pub below_block : (m : ℕ) → m ≡ (limit + 255) % 256 → b.most < m → Below s limit (record { at = 128 * (k + 1); count = n + v })
      unfolding before
      below_block m i c =
          let o = block_part s (128 * k) b h in
          let z : 128 * (k + 1) ≡ 128 * k + 128 = omega arith in
          rw z (record {
            within = omega arith;
            counted = leads-on s (128 * k) n 128 v g.counted (w ∙ o.counted);
            low = λ q x. elim (dec_lt q (128 * k)) [
              | yes z ↦ g.low q z
              | no z ↦ (
                  let j : 128 * k + (q - 128 * k) ≡ q = omega arith in
                  let t : before (get_or s q 0) ≤ b.most = rw j at (o.bounded (q - 128 * k) (omega arith)) in
                  omega arith
                  )
            ];
          })

      pub block_fits : Fits w64 (length s) → Fits w64 (n + v)
      block_fits f = let o = block_part s (128 * k) b h in leads-fit s (128 * k) n 128 v g.counted (omega (arith, leads_le s (128 * k) 128, o.counted)) (omega arith) f

-- ---- bytes with which nothing begins

module _ (s : List ℕ) (p : Needle) where
  pub passes_none : Passes s p (record { at = 0; count = 0 })
  passes_none = record { within = omega arith; counted = leads-start s; clear = λ q a. absurd (omega arith) }

  module _ (at k : ℕ) (g : Passes s p (record { at = at; count = k })) where
    passes-fits : (n v : ℕ) → v ≤ n → at + n ≤ length s → Fits w64 (length s) → Fits w64 (k + v)
    passes-fits n v l h f = leads-fit s at k n v g.counted l h f

    passes-more : (n v : ℕ) → at + n ≤ length s → v ≡ leads s at n → ((j : ℕ) → j < n → may_begin_at s p (at + j) ≡ false)
        → Passes s p (record { at = at + n; count = k + v })
    passes-more n v h e c = record {
      within = h;
      counted = leads-on s at k n v g.counted e;
      clear = λ q b. elim (dec_lt q at) [
        | yes l ↦ g.clear q l
        | no l ↦ let j : at + (q - at) ≡ q = omega arith in rw j at (c (q - at) (omega arith))
      ];
    }

    -- byte by byte

    pub byte_fits : (v : ℕ) (t : Bool) → at < length s → v ≡ from_bool t → Fits w64 (length s) → Fits w64 (k + v)
    byte_fits v t h e f = passes-fits 1 v (let o = one_le t in let z = one_is t in omega arith) (omega arith) f

    pub passes_byte : (v : ℕ) (t u : Bool) → at < length s → u ≡ may_begin_at (bytes_from s at) p 0 → u ≡ false → t ≡ is_lead (get_or s at 0) → v ≡ from_bool t
        → Passes s p (record { at = at + 1; count = k + v })
    unfolding leads
    passes_byte v t u h o n f e =
        let z : at + 0 ≡ at = omega arith in
        passes-more 1 v (omega arith) (rw z (e ∙ one_is t ∙ rw f (omega arith))) (λ j l. let i : j ≡ 0 = omega arith in rw (i, z, ← begins_first s at p, ← o) n)

    pub skips_begin : (u : Bool) → IsNeedle p → u ≡ may_begin_at (bytes_from s at) p 0 → u ≡ true → Skips s p (record { at = at; count = k })
    skips_begin u i o y = record { passes = g; boundary = λ h. begins_lead p _ _ _ _ i.leads (sym (begins_first s at p) ∙ sym o ∙ y) }

  -- 64 bytes after `base`, k times
  module _ (base k n : ℕ) (g : Passes s p (record { at = base + 64 * k; count = n })) where
    module _ (r : ℕ) (e : r ≡ length s - base - 3) (l : k < r / 64) (o : Option ℕ) (i : IsNeedle p) (h : OfHit (part s (base + 64 * k) 67) p 0 o) where
      -- m bytes more
      module _ (m u v : ℕ) (w : u ≡ leads (part s (base + 64 * k) 64) 0 m) (x : v ≡ u) where
        counted-part : m ≤ 64 → u ≡ leads s (base + 64 * k) m
        counted-part y = w ∙ leads_take s (base + 64 * k) m (base + 64 * k + 64 - (base + 64 * k)) (omega arith)

        more-fits : m ≤ 64 → Fits w64 (length s) → Fits w64 (n + v)
        more-fits y f = passes-fits (base + 64 * k) n g m v (omega (arith, leads_le s (base + 64 * k) m, counted-part y)) (omega arith) f

        more : m ≤ unwrap_or o 64 → Passes s p (record { at = base + 64 * k + m; count = n + v })
        more y =
            let q = hit_part s (base + 64 * k) p o i h in
            let t = q.within in
            passes-more (base + 64 * k) n g m v (omega arith) (x ∙ counted-part (omega arith)) (λ j l. q.clear j (omega arith))

        pub upto_fits : o ≡ Some m → Fits w64 (length s) → Fits w64 (n + v)
        upto_fits q = more-fits (rw q at h.within)

        pub through_fits : m ≡ 64 → Fits w64 (length s) → Fits w64 (n + v)
        through_fits q = more-fits (omega arith)

        pub passes_hit : (z : ℕ) → z ≡ m → o ≡ Some m → Passes s p (record { at = base + 64 * k + z; count = n + v })
        passes_hit z f q = rw f (more (rw q (omega arith)))

        pub passes_through : m ≡ 64 → o ≡ None → Passes s p (record { at = base + 64 * (k + 1); count = n + v })
        passes_through q z =
            let e : base + 64 * (k + 1) ≡ base + 64 * k + m = omega arith in
            rw e (more (rw z (omega arith)))

-- what was passed over one after the other
module _ (s : List ℕ) (p : Needle) (g r : Passed) (a : Passes s p g) (b : Skips (bytes_from s g.at) p r) where
  rest-leads : (n : ℕ) → leads (bytes_from s g.at) 0 n ≡ leads s g.at n
  unfolding leads
  rest-leads zero = refl
  rest-leads (suc n) = let e : 0 + n ≡ n = omega arith in rw (rest-leads n, e, rest_byte s g.at n)

  pub skips_both : Skips s p (record { at = g.at + r.at; count = g.count + r.count })
  skips_both =
      let c = b.passes in
      let e = rest_length s g.at in
      record {
        passes = record {
          within = let u = a.within in let v = c.within in omega arith;
          counted = leads-on s g.at g.count r.at r.count a.counted (c.counted ∙ rest-leads r.at);
          clear = λ q x. elim (dec_lt q g.at) [
            | yes l ↦ a.clear q l
            | no l ↦ (
                let j : g.at + (q - g.at) ≡ q = omega arith in
                rw j at (sym (begins_after s g.at p (q - g.at)) ∙ c.clear (q - g.at) (omega arith))
                )
          ];
        };
        boundary = λ l. rw (← rest_byte s g.at r.at) (b.boundary (omega arith));
      }

  pub count_fits : Fits w64 (length s) → Fits w64 (g.count + r.count)
  count_fits f = let k = skips_both.passes in let w = k.within in omega (arith, leads_le s 0 (g.at + r.at), k.counted)

-- ---- the lead byte of a sequence

pub leads_one : (s : List ℕ) (at n : ℕ) → is_lead (get_or s at 0) ≡ true → ((j : ℕ) → j < n → is_lead (get_or s (at + 1 + j) 0) ≡ false) → leads s at (1 + n) ≡ 1
unfolding leads
leads_one s at n y c =
    let e : at + 0 ≡ at = omega arith in
    rw (leads-append s at 1 n, leads_none s (at + 1) n c, e, y)
