use Rattle.std.proofs.Common.{◌≡◌, Err, refl, ap, subst, arith}
use Rattle.prepare.specs.Calls.{IsWithoutInverse}
use Rattle.parts.specs.RowsOfParts.{parts_of}
use Rattle.prepare.specs.declared.error.PrepError.TheVariants.{NotAUnit}
use Rattle.prepare.proofs.RowsRead.{same_constant, without_inverse, same_divisor}
use Rattle.prepare.proofs.prep.Prep.begin.Goals as goal

pub returns-in-Err-clause-not_a_unit : goal.returns-in-Err-clause-not_a_unit
returns-in-Err-clause-not_a_unit c =
    let constant = same_constant c.args.ring c.args.row0.now c.args.k c.constant_term-constant.result
    c.index-row0-k.result c.deref.result.now c.requires.within c.index-row0-k.is c.deref.ensures
    c.constant_term-constant.ensures.constant in
    λ gcd. (
      λ e. subst (IsWithoutInverse c.args.ring c.args.k (parts_of c.args.row0.now))
          (let same : c.in-Err.field-0.gcd ≡ gcd = cc in same)
          (without_inverse c.args.ring c.args.k (parts_of c.args.row0.now) _ _ _ c.in_default.ensures constant
          c.modulus.ensures c.in-Err.ensures.common c.in-Err.ensures.divisor),
      λ without. ap (λ g. Err (NotAUnit g)) (same_divisor c.args.ring c.args.k (parts_of c.args.row0.now) _ _ _ gcd
          constant c.modulus.ensures c.in-Err.ensures.divisor without),
    )

pub returns-in_err-prep-clause-not_a_unit : goal.returns-in_err-prep-clause-not_a_unit
returns-in_err-prep-clause-not_a_unit c =
    let constant = same_constant c.args.ring c.args.row0.now c.args.k c.constant_term-constant.result
    c.index-row0-k.result c.deref.result.now c.requires.within c.index-row0-k.is c.deref.ensures
    c.constant_term-constant.ensures.constant in
    λ gcd. (
      λ e. absurd (grind (arith)),
      λ without. absurd (let one : 1 ≡ gcd = same_divisor c.args.ring c.args.k (parts_of c.args.row0.now) _ _ 1 gcd
          constant c.modulus.ensures (c.in-Ok.ensures.coprime.0 refl) without in
          let above = without.above in omega arith),
    )

pub returns-clause-not_a_unit : goal.returns-clause-not_a_unit
returns-clause-not_a_unit c =
    let constant = same_constant c.args.ring c.args.row0.now c.args.k c.constant_term-constant.result
    c.index-row0-k.result c.deref.result.now c.requires.within c.index-row0-k.is c.deref.ensures
    c.constant_term-constant.ensures.constant in
    λ gcd. (
      λ e. absurd (cc),
      λ without. absurd (let one : 1 ≡ gcd = same_divisor c.args.ring c.args.k (parts_of c.args.row0.now) _ _ 1 gcd
          constant c.modulus.ensures (c.in-Ok.ensures.coprime.0 refl) without in
          let above = without.above in omega arith),
    )
