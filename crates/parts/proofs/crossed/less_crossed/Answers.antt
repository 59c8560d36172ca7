use Rattle.std.proofs.Common.{◌∙◌}
use Rattle.parts.proofs.CrossedParts.{rows-done}
use Rattle.parts.proofs.crossed.less_crossed.Goals as goal

pub returns-then-is_contiguous : goal.returns-then-is_contiguous
returns-then-is_contiguous c = rows-done c.args.ring c.args.start.now c.of_terms.result
    c.args.crossed.now.left.now c.args.crossed.now.right.now c.args.crossed.now.power c.args.factor
    c.in_ok-terms.terms.items c.in_ok-terms.ensures (c.of_terms.ensures.degree ∙ c.degree.ensures)
    c.of_terms.ensures.map c.of_terms.ensures.part

pub returns : goal.returns
returns c = c.from_parts.ensures
