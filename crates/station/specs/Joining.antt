-- A line sent in two runs, and whitespace in two widths, by the exported calls (docs/SHEET.md, Joining strings): what the host does, what it has
-- to keep to, and what it may then rely on, which `strings_joined` and `widths_joined` prove (proofs/Joining.antt). Assumes nothing.
-- To be believed: it says what a sheet means.
use Rattle.std.specs.Prelude.{ℕ, ◌+◌, ◌≤◌, ◌<◌, ◌≡◌, true, List, ◌++◌, length}
use Rattle.characters.specs.Utf8.{well_formed}
use Rattle.characters.specs.Lines.{OneLine}
use Rattle.line.specs.Line.{spacing}
use Rattle.text.specs.declared.Alignment.TheVariants.{Left}
use Rattle.sheet.specs.Fields.{item_count, item_at, slot_size}
use Rattle.sheet.specs.Check.{check}
use Rattle.sheet.specs.Edits.{Edit, new_text, new_place, in_range}
use Rattle.records.specs.Records.{item, item_font}
use Rattle.drawing.specs.Drawing.{pixel_count}
use Rattle.calls.specs.declared.Drawn.{Drawn}
use Rattle.calls.specs.declared.Position.{Position}
use Rattle.calls.specs.Calls.{draw_item_reply, draw_item_frame, whitespace_reply, whitespace_frame, on_sheet_reply, on_sheet_sheet}

-- an accepted sheet, a frame of its size with any greys, and an item
pub record ItemOnFrame (b frame : List ℕ) (n : ℕ) : Type 0 where
  pub sheet_accepted : check b ≡ 0
  pub frame_of_its_size : length frame ≡ pixel_count b
  pub item_there : n < item_count b

-- ---- texts t and u of item n

module _ (b frame : List ℕ) (n : ℕ) (t u : List ℕ) where
  -- "drawing the first": station_set_text_on_sheet, station_draw_item
  abbrev pub set_first : Edit
  set_first = new_text n t

  abbrev pub first_sheet : List ℕ
  first_sheet = on_sheet_sheet b set_first

  abbrev pub first_reply : Drawn
  first_reply = draw_item_reply first_sheet frame n

  abbrev pub first_frame : List ℕ
  first_frame = draw_item_frame first_sheet frame n

  -- "and then the second at the returned position": station_set_place_on_sheet, station_set_text_on_sheet, station_draw_item
  abbrev pub set_place : Edit
  set_place = new_place n first_reply.x first_reply.y

  abbrev pub moved_sheet : List ℕ
  moved_sheet = on_sheet_sheet first_sheet set_place

  abbrev pub set_second : Edit
  set_second = new_text n u

  abbrev pub second_sheet : List ℕ
  second_sheet = on_sheet_sheet moved_sheet set_second

  abbrev pub second_reply : Drawn
  second_reply = draw_item_reply second_sheet first_frame n

  abbrev pub second_frame : List ℕ
  second_frame = draw_item_frame second_sheet first_frame n

  -- "drawing them joined": station_set_text_on_sheet, station_draw_item, on the sheet and the frame as they were at first
  abbrev pub set_joined : Edit
  set_joined = new_text n (t ++ u)

  abbrev pub joined_sheet : List ℕ
  joined_sheet = on_sheet_sheet b set_joined

  abbrev pub joined_reply : Drawn
  joined_reply = draw_item_reply joined_sheet frame n

  abbrev pub joined_frame : List ℕ
  joined_frame = draw_item_frame joined_sheet frame n

  pub record TwoRuns : Type 0 where
    pub drawable : ItemOnFrame b frame n
    -- "With spacing 0"
    pub spacing_zero : spacing (item_font b n).mono ≡ 0
    -- "each set as one left line"
    pub aligned_left : (item b n).text_style.alignment ≡ Left
    -- "for any two texts without 0A or 0D"; each is UTF-8 by itself, so that no character is cut in two
    pub first_one_line : OneLine t
    pub second_one_line : OneLine u
    pub first_well_formed : well_formed t ≡ true
    pub second_well_formed : well_formed u ≡ true
    -- "All three texts fit a slot"
    pub joined_fits_slot : length (t ++ u) ≤ slot_size b (item_at b n)
    -- "the second position lies in −32,768 to 32,767"
    pub second_x_in_range : in_range first_reply.x ≡ true
    pub second_y_in_range : in_range first_reply.y ≡ true

  pub record StringsJoined : Type 0 where
    -- no call is refused
    pub first_set : (on_sheet_reply b set_first).code ≡ 0
    pub first_drawn : first_reply.code ≡ 0
    pub place_set : (on_sheet_reply first_sheet set_place).code ≡ 0
    pub second_set : (on_sheet_reply moved_sheet set_second).code ≡ 0
    pub second_drawn : second_reply.code ≡ 0
    pub joined_set : (on_sheet_reply b set_joined).code ≡ 0
    pub joined_drawn : joined_reply.code ≡ 0
    -- "must give the frame and position of drawing them joined"
    pub same_frame : second_frame ≡ joined_frame
    pub same_x : second_reply.x ≡ joined_reply.x
    pub same_y : second_reply.y ≡ joined_reply.y
    pub replaced_adds_up : first_reply.replaced + second_reply.replaced ≡ joined_reply.replaced

-- ---- widths v and w at item n, whatever its text, spacing and alignment

module _ (b frame : List ℕ) (n v w : ℕ) where
  -- the first: station_draw_whitespace
  abbrev pub first_width_reply : Position
  first_width_reply = whitespace_reply b frame n v

  abbrev pub first_width_frame : List ℕ
  first_width_frame = whitespace_frame b frame n v

  -- the second at the returned position: station_set_place_on_sheet, station_draw_whitespace
  abbrev pub set_width_place : Edit
  set_width_place = new_place n first_width_reply.x first_width_reply.y

  abbrev pub moved_width_sheet : List ℕ
  moved_width_sheet = on_sheet_sheet b set_width_place

  abbrev pub second_width_reply : Position
  second_width_reply = whitespace_reply moved_width_sheet first_width_frame n w

  abbrev pub second_width_frame : List ℕ
  second_width_frame = whitespace_frame moved_width_sheet first_width_frame n w

  -- both as one width: station_draw_whitespace, on the sheet and the frame as they were at first
  abbrev pub joined_width_reply : Position
  joined_width_reply = whitespace_reply b frame n (v + w)

  abbrev pub joined_width_frame : List ℕ
  joined_width_frame = whitespace_frame b frame n (v + w)

  pub record TwoWidths : Type 0 where
    pub drawable : ItemOnFrame b frame n
    -- "the widths add up to at most 65,535"
    pub widths_add_up : v + w ≤ 65_535
    -- "the second position lies in −32,768 to 32,767"
    pub second_x_in_range : in_range first_width_reply.x ≡ true
    pub second_y_in_range : in_range first_width_reply.y ≡ true

  pub record WidthsJoined : Type 0 where
    -- no call is refused
    pub first_drawn : first_width_reply.code ≡ 0
    pub place_set : (on_sheet_reply b set_width_place).code ≡ 0
    pub second_drawn : second_width_reply.code ≡ 0
    pub joined_drawn : joined_width_reply.code ≡ 0
    -- "Show the same for two whitespace widths, at any spacing"
    pub same_frame : second_width_frame ≡ joined_width_frame
    pub same_x : second_width_reply.x ≡ joined_width_reply.x
    pub same_y : second_width_reply.y ≡ joined_width_reply.y
