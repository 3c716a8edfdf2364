-- `PreparedLine::draw_glyphs` meets its contract: before each character the glyphs before it are drawn, and those from it on make up the rest. Assumes nothing.
use Rattle.characters.specs.Utf8.{chars}
use Rattle.characters.specs.Characters.{chars_left}
use Rattle.line.specs.Lent.{lent}
use Rattle.line.proofs.Glyphs.{Drawn}
use Rattle.line.proofs.PreparedLine.draw_glyphs.Given as goal

abbrev pub invariant-loop-ch : goal.invariant-loop-ch
invariant-loop-ch l = Drawn (lent l.self.line.font) l.self.line.style l.self.columns (chars l.self.line.text.now) l.self.line.corner.x l.self.line.corner.y l.initial.frame l.gap (chars_left l.ch-iterator) l.x l.replaced l.frame
