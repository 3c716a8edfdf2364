-- What the search over characters that are listed singly cites: lead bytes, the bytes by which a character is looked for, and where it
-- cannot begin. Assumes nothing.
-- Serves contracts: nothing here has to be believed.
use Rattle.std.specs.Prelude.{ℕ, zero, suc, ◌+◌, ◌/◌, ◌%◌, ◌<◌, ◌≤◌, ◌≡◌, List, Bool, true, false, not, cond, ◌&&◌, ◌||◌, length, get_or, drop, ltb, eqb, Option, unwrap_or, IfSome}
use Rattle.characters.specs.Utf8.{is_continuation, well_formed}
use Rattle.mapping.specs.declared.search.Needle.{Needle}
use Rattle.mapping.specs.declared.search.Block.{Block}
use Rattle.mapping.specs.declared.search.Passed.{Passed}
use Rattle.mapping.specs.declared.Start.{Start}
use Rattle.mapping.specs.Entries.{entry_at, after_entry, at_most}
use Rattle.mapping.specs.Mapping.{list_of, place_from}

-- a byte that does not continue a sequence
unfoldable pub is_lead : ℕ → Bool
is_lead b = not (is_continuation b)

-- how many of n bytes from a position on are lead bytes
unfoldable pub leads : List ℕ → ℕ → ℕ → ℕ
leads s at zero = 0
leads s at (suc n) = leads s at n + cond (is_lead (get_or s (at + n) 0)) 1 0

-- RFC 3629, section 3: the bytes of a character's sequence, and how far on they stand
unfoldable pub needle_of : ℕ → Needle
needle_of ch =
    let two = 0xC0 + ch / 64 in
    let three = 0xE0 + ch / 4_096 in
    let four = 0xF0 + ch / 262_144 % 8 in
    let inner = 0x80 + ch / 4_096 % 64 in
    let middle = 0x80 + ch / 64 % 64 in
    let last = 0x80 + ch % 64 in
    cond (ltb ch 0x80) (record { lead = ch; inner = ch; middle = ch; last = ch; near = 0; mid = 0; end = 0 })
    (cond (ltb ch 0x800) (record { lead = two; inner = two; middle = two; last = last; near = 0; mid = 0; end = 1 })
    (cond (ltb ch 0x10000) (record { lead = three; inner = three; middle = middle; last = last; near = 0; mid = 1; end = 2 })
    (record { lead = four; inner = inner; middle = middle; last = last; near = 1; mid = 2; end = 3 })))

-- whether a range or the character may begin with the byte a, where b, c and d stand in the places of the others
unfoldable pub may_begin : Needle → ℕ → ℕ → ℕ → ℕ → Bool
may_begin p a b c d = eqb a 0 || (eqb a p.lead && (eqb b p.inner && (eqb c p.middle && eqb d p.last)))

abbrev pub may_begin_at : List ℕ → Needle → ℕ → Bool
may_begin_at s p q = may_begin p (get_or s q 0) (get_or s (q + p.near) 0) (get_or s (q + p.mid) 0) (get_or s (q + p.end) 0)

-- the byte before, of 256 in a circle: 00 comes last
unfoldable pub before : ℕ → ℕ
before b = (b + 255) % 256

-- the byte before each of 128 bytes is at most `most`, and `leads` of them are lead bytes
pub record OfBlock (s : List ℕ) (at : ℕ) (b : Block) : Type 0 where
  pub bounded : (j : ℕ) → j < 128 → before (get_or s (at + j) 0) ≤ b.most
  pub counted : b.leads ≡ leads s at 128

-- of 64 bytes nothing begins at one before r, or at any if r is none
pub record OfHit (s : List ℕ) (p : Needle) (at : ℕ) (r : Option ℕ) : Type 0 where
  pub within : unwrap_or r 64 ≤ 64
  pub clear : (j : ℕ) → j < unwrap_or r 64 → may_begin_at s p (at + j) ≡ false

-- every byte up to r is below `limit` and not 00, and r counts the lead bytes there
pub record Below (s : List ℕ) (limit : ℕ) (r : Passed) : Type 0 where
  pub within : r.at ≤ length s
  pub counted : r.count ≡ leads s 0 r.at
  pub low : (q : ℕ) → q < r.at → before (get_or s q 0) < before limit

-- the same, up to the end or to a lead byte, unless there are none
pub record SkipsBelow (s : List ℕ) (limit : ℕ) (r : Passed) : Type 0 where
  pub below : Below s limit r
  pub boundary : 0 < r.at → r.at < length s → is_lead (get_or s r.at 0) ≡ true

-- where the search starts: the first entry, and bytes after it that are below `lead`, if any are passed over
pub record StartOf (s : List ℕ) (x : Start) : Type 0 where
  pub first : x.first ≡ entry_at s 0
  pub below : IfSome x.below (λ b. SkipsBelow (drop (after_entry x.first) s) b.lead b.passed)

-- nothing begins up to r, and r counts the lead bytes there
pub record Passes (s : List ℕ) (p : Needle) (r : Passed) : Type 0 where
  pub within : r.at ≤ length s
  pub counted : r.count ≡ leads s 0 r.at
  pub clear : (q : ℕ) → q < r.at → may_begin_at s p q ≡ false

-- the same, up to the end or to a lead byte: no sequence goes across
pub record Skips (s : List ℕ) (p : Needle) (r : Passed) : Type 0 where
  pub passes : Passes s p r
  pub boundary : r.at < length s → is_lead (get_or s r.at 0) ≡ true

-- a rest in which a character's position, counted from n, is its position in all bytes, counted from k
pub record Resumes (s : List ℕ) (ch k : ℕ) (rest : List ℕ) (n : ℕ) : Type 0 where
  pub well : well_formed rest ≡ true
  pub small : n ≤ 65_536
  pub placed : at_most 65_536 (place_from n ch (list_of rest)) ≡ at_most 65_536 (place_from k ch (list_of s))

-- the distances stay within a sequence, and the lead byte is one
pub record IsNeedle (p : Needle) : Type 0 where
  pub near_within : p.near ≤ 3
  pub mid_within : p.mid ≤ 3
  pub end_within : p.end ≤ 3
  pub leads : is_lead p.lead ≡ true
