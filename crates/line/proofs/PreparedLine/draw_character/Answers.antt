-- `PreparedLine::draw_character` meets its contract: a character beside the columns changes nothing in the clip, and else the gap and the glyph are
-- painted in turn, and the lookup says whether the character is listed. Assumes nothing.
use Rattle.geometry.proofs.Paintings.{painted_none}
use Rattle.line.specs.Lent.{lent}
use Rattle.line.proofs.Strings.{character_beside, character_painted}
use Rattle.line.proofs.Unlisted.{met_beside, count_met}
use Rattle.line.proofs.PreparedLine.draw_character.Goals as goal

pub returns-then-is_beside-clause-painted : goal.returns-then-is_beside-clause-painted
returns-then-is_beside-clause-painted c =
    painted_none _ _ (character_beside c.args.frame.now.target (lent c.args.self.now.line.font) _ _ _ _ _ c.args.self.now.columns c.is_beside.result _ c.requires.prepared_for.columns c.is_beside.ensures c.if-is_beside.true)

pub returns-then-is_beside-clause-value : goal.returns-then-is_beside-clause-value
returns-then-is_beside-clause-value c = search met_beside

pub returns-clause-painted : goal.returns-clause-painted
returns-clause-painted c =
    character_painted (lent c.args.self.now.line.font) c.args.self.now.line.style c.args.gap _ _ _ _ _ _ _ c.requires.gap_height c.requires.prepared_for.image_bytes c.requires.prepared_for.image_atlas c.glyph_with-glyph.ensures c.fill.ensures c.draw_glyph.ensures.painted

pub returns-clause-value : goal.returns-clause-value
returns-clause-value c = count_met _ _ _ _ _ _ _ _ _ _ c.is_beside.ensures c.if-is_beside.false c.glyph_with-glyph.ensures c.from.ensures
