-- The characters that an iterator has still to give. Assumes nothing.
-- Serves contracts: nothing here has to be believed.
use Rattle.std.specs.Prelude.{ℕ, List}
use Rattle.characters.specs.declared.Characters.{Characters}
use Rattle.characters.specs.Utf8.{chars_from}

abbrev pub chars_left : Characters → List ℕ
chars_left c = chars_from c.text.now c.cursor.at
