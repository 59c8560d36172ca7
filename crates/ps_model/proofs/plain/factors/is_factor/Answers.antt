-- proofs/plain/factors/is_factor/Answers.antt
use Rattle.ps_model.proofs.PlainPolynomials.{values_below}
use Rattle.ps_model.proofs.PlainChecks.{factor_tested}
use Rattle.ps_model.proofs.plain.factors.is_factor.Goals as goal

pub is_monic-requires-clause-residues : goal.is_monic-requires-clause-residues
is_monic-requires-clause-residues c = values_below c.args.m c.requires.modulus c.args.f.now c.requires.residues

pub is_at_origin-requires-clause-residues : goal.is_at_origin-requires-clause-residues
is_at_origin-requires-clause-residues c = values_below c.args.m c.requires.modulus c.args.f.now c.requires.residues

pub returns : goal.returns
returns c = factor_tested c.args.m c.args.weights.now c.args.d c.args.root.now c.args.f.now c.in_ok-is_monic.field-0
    c.in_ok-is_at_origin.field-0
    c.is_within.result c.requires.modulus (values_below c.args.m c.requires.modulus c.args.f.now c.requires.residues)
    c.if-not-branch.false (c.in_ok-is_monic.ensures c.args.weights.now) c.if-not-branch-2.false
    c.in_ok-is_at_origin.ensures
    c.is_within.ensures
