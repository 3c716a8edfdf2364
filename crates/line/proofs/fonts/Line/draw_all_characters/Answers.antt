-- `Line::draw_all_characters` meets its contract: what the walk needs is made of the font's bytes, of the text and of the clip. Assumes nothing.
use native.Mathlib.Omega.{arith}
use Rattle.line.proofs.Unlisted.{columns_cover, met_in}
use Rattle.line.proofs.fonts.Line.draw_all_characters.Goals as goal

pub draw_glyphs-requires : goal.draw_glyphs-requires
draw_glyphs-requires c = record {
  image_bytes = c.new.ensures.bytes_value;
  image_atlas = c.new.ensures.atlas_value;
  start = c.start_of.ensures;
  columns = columns_cover c.args.frame.now.target.clip_area c.args.self.now.counts _ (omega (arith, c.args.frame.now.canvas)) c.of_clip.ensures;
}

pub returns-clause-replaced_value : goal.returns-clause-replaced_value
returns-clause-replaced_value c = search met_in
