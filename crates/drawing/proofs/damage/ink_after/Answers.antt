-- What is measured after each edit is the item of the edited sheet. Assumes nothing.
use borrow.Author.Rules.{rules}
use Rattle.edits.proofs.Stored.{x_in_range, y_in_range}
use Rattle.drawing.proofs.Changes.{new_limits, style_eight, text_ink, place_limits, place_ink, style_ink}
use Rattle.drawing.proofs.damage.ink_after.Goals as goal

pub ink_box_of-requires : goal.ink_box_of-requires
ink_box_of-requires c = new_limits _ _ _ (rw c.in-Text.is at c.requires)

pub biased-requires : goal.biased-requires
biased-requires c = x_in_range _ _ _ _ (rw c.in-Place.is at c.requires) (search rules)

pub biased-requires-in-Place : goal.biased-requires-in-Place
biased-requires-in-Place c = y_in_range _ _ _ _ (rw c.in-Place.is at c.requires) (search rules)

pub invariant_of-moved : goal.invariant_of-moved
invariant_of-moved c = record {
  limits = place_limits _ _ c.layout-layout.result c.layout-layout.ensures.font_value c.layout-layout.ensures.value _ _ (rw c.in-Place.is at c.requires) (search rules) (search rules) _ _ c.biased.ensures c.biased-in-Place.ensures;
}

pub style_of-requires : goal.style_of-requires
style_of-requires c = style_eight _ _ _ (rw c.in-Style.is at c.requires)

pub returns-in-Text-clause-value : goal.returns-in-Text-clause-value
returns-in-Text-clause-value c =
    rw c.in-Text.is (text_ink _ _ c.layout-layout.result c.layout-layout.ensures.font_value c.layout-layout.ensures.value _ (rw c.in-Text.is at c.requires) _ c.ink_box_of.ensures.value)

pub returns-in-Place-clause-value : goal.returns-in-Place-clause-value
returns-in-Place-clause-value c =
    rw c.in-Place.is (place_ink _ _ c.layout-layout.result c.layout-layout.ensures.font_value c.layout-layout.ensures.value _ _ (rw c.in-Place.is at c.requires) (search rules) (search rules) _ _ c.biased.ensures c.biased-in-Place.ensures _ c.ink_box.ensures.value)

pub returns-in-Style-clause-value : goal.returns-in-Style-clause-value
returns-in-Style-clause-value c =
    rw c.in-Style.is (style_ink _ _ c.layout-layout.result c.layout-layout.ensures.font_value c.layout-layout.ensures.value _ (rw c.in-Style.is at c.requires) _ _ c.style_of.ensures c.ink_box-in-Style.ensures.value)
