-- The walker over one line: "keeps the line's bytes and the offset of the next character". Assumes nothing.
-- Serves contracts: nothing here has to be believed.
use Rattle.characters.specs.declared.Cursor.{Cursor}
use Rattle.characters.specs.declared.walker.Walker.{Walker}

-- the walker over the same line, at a cursor
abbrev pub moved_to : Walker → Cursor → Walker
moved_to w c = record { line = w.line; at = c.at }
