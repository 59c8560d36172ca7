use Rattle.std.proofs.Common.{◌+◌, ◌-◌, ◌/◌, ◌∙◌, ap, sym, arith}
use Rattle.std.specs.Option.{unwrap_or}
use Rattle.ps_model.specs.Keys.{key_compare}
use Rattle.parts.specs.Terms.{key_of}
use Rattle.parts.specs.declared.terms.Term.{Term}
use Rattle.parts.proofs.Found.{all_below, all_above, found_at, searched}
use Rattle.parts.proofs.merging.find_coefficient.Goals as goal

pub loop-low-preserved-in-Less : goal.loop-low-preserved-in-Less
loop-low-preserved-in-Less c = record {
  inside = c.loop-low.invariant.inside;
  below = all_below (key_of c.args.at.now) c.args.terms.now
      (c.loop-low.low + (c.loop-low.high - c.loop-low.low) / 2) c.index-terms-middle.result c.requires.0 (omega arith)
      (sym (c.in-Less.ensures ∙
      ap (λ (t : Term). key_compare 8 (key_of t.monomial) (key_of c.args.at.now)) c.index-terms-middle.is));
  above = c.loop-low.invariant.above;
}

pub loop-low-preserved : goal.loop-low-preserved
loop-low-preserved c = record {
  inside = omega arith;
  below = c.loop-low.invariant.below;
  above = all_above (key_of c.args.at.now) c.args.terms.now
      (c.loop-low.low + (c.loop-low.high - c.loop-low.low) / 2) c.index-terms-middle.result c.requires.0 (omega arith)
      (sym (c.in-Greater.ensures ∙
      ap (λ (t : Term). key_compare 8 (key_of t.monomial) (key_of c.args.at.now)) c.index-terms-middle.is));
}

pub returns-in-Equal : goal.returns-in-Equal
returns-in-Equal c = ap (λ (t : Term). t.coefficient) c.index-terms-middle.is ∙ sym
    (ap (λ o. unwrap_or o 0)
    (found_at (key_of c.args.at.now) c.args.terms.now (c.loop-low.low + (c.loop-low.high - c.loop-low.low) / 2)
    c.index-terms-middle.result c.requires.0 (omega arith) (sym (c.in-Equal.ensures ∙
    ap (λ (t : Term). key_compare 8 (key_of t.monomial) (key_of c.args.at.now)) c.index-terms-middle.is))))

pub returns : goal.returns
returns c = sym (ap (λ o. unwrap_or o 0)
    (searched (key_of c.args.at.now) c.args.terms.now c.loop-low.low c.loop-low.high (omega arith)
    c.loop-low.invariant.below c.loop-low.invariant.above))
