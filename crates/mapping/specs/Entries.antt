-- What the functions on a mapping cite besides its definition: an entry at a position, characters counted without listing them, and
-- positions up to the limit. Assumes nothing.
-- Serves contracts: nothing here has to be believed.
use Rattle.std.specs.Prelude.{ℕ, zero, suc, ◌-◌, ◌≤◌, min, ◌≡◌, List, Bool, true, not, cond, ◌&&◌, ltb, leb, length, Option, Some, None, unwrap_or, is_some}
use Rattle.characters.specs.declared.Step.{Step}
use Rattle.characters.specs.declared.Step.TheVariants.{Character, IllFormed, End}
use Rattle.characters.specs.Refusal.{need}
use Rattle.characters.specs.Utf8.{is_surrogate, step_at, well_formed}
use Rattle.mapping.specs.declared.Entry.{Entry}
use Rattle.mapping.specs.declared.Entry.TheVariants as entry
use Rattle.mapping.specs.declared.Glyph.{Glyph}
use Rattle.mapping.specs.Mapping.{list_of}

-- where no character stands, there is no entry
unfoldable pub stop_of : Step → Entry
stop_of (Character ch c) = entry.End
stop_of IllFormed = entry.IllFormed
stop_of End = entry.End

unfoldable pub end_of : ℕ → Step → Entry
end_of start (Character end c) = entry.Range start end c
end_of start IllFormed = entry.IllFormed
end_of start End = entry.End

unfoldable pub start_of : List ℕ → Step → Entry
start_of s (Character start c) = end_of start (step_at s c.at)
start_of s IllFormed = entry.IllFormed
start_of s End = entry.End

unfoldable pub entry_of : List ℕ → Step → Entry
entry_of s (Character (suc ch) c) = entry.Range (suc ch) (suc ch) c
entry_of s (Character zero c) = start_of s (step_at s c.at)
entry_of s IllFormed = entry.IllFormed
entry_of s End = entry.End

-- a single character as a range of one, or the range after 00
abbrev pub entry_at : List ℕ → ℕ → Entry
entry_at s at = entry_of s (step_at s at)

-- the position after an entry, or 0 where there is none
unfoldable pub after_entry : Entry → ℕ
after_entry (entry.Range start end c) = c.at
after_entry entry.IllFormed = 0
after_entry entry.End = 0

-- whether ch is a character from start to end
unfoldable pub in_range : ℕ → ℕ → ℕ → Bool
in_range start end ch = leb start ch && (leb ch end && not (is_surrogate ch))

-- how many characters stand below v
unfoldable pub scalars_below : ℕ → ℕ
scalars_below v = cond (ltb v 0xD800) v (cond (ltb v 0xE000) 0xD800 (v - 0x800))

-- a position, or `most` for every position from there on
abbrev pub at_most : ℕ → Option ℕ → Option ℕ
at_most most (Some k) = Some (min k most)
at_most most None = None

-- the glyph of a character that stands at a position, or nowhere
abbrev pub glyph_at : ℕ → Option ℕ → Glyph
glyph_at other place = record { index = unwrap_or place other; listed = is_some place }

-- the refusal of a mapping whose entries stop after `count` characters
unfoldable pub stop_refusal : Entry → ℕ → ℕ
stop_refusal (entry.Range start end c) count = 7
stop_refusal entry.IllFormed count = 7
stop_refusal entry.End count = need (leb count 65_536) 8 0

-- what refusals 7 and 8 leave: a well-formed mapping that "spells ≤ 65,536 characters"
pub record WithinLimit (mapping : List ℕ) : Type 0 where
  pub well : well_formed mapping ≡ true
  pub spelled : length (list_of mapping) ≤ 65_536
