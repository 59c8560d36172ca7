-- What each test of the roots tells.
use Rattle.std.proofs.Common.{◌-◌, length, refl, subst, arith}
use Rattle.ps_model.specs.Factors.{total_times}
use Rattle.ps_model.specs.Job.{LeadNotAUnit, DegreeMismatch, NotApart, RootsMismatch}
use Rattle.intake.specs.Differences.{IsFirstDifference}
use Rattle.intake.proofs.NearPairs.{unit_of_inverse}
use Rattle.intake.proofs.RootTests.{residues, near_few, told_total, found_lead, found_mismatch, found_near}
use Rattle.intake.proofs.RootTests.{found_none, found_difference}
use Rattle.intake.proofs.root_faults.test_roots.Goals as goal

pub returns-in-Err-clause-err : goal.returns-in-Err-clause-err
returns-in-Err-clause-err c = λ job is other. (
  LeadNotAUnit _ c.in-Err.field-0.gcd,
  found_lead c.args.modulus.value c.args.input.now c.args.roots.now c.args.modulus.low job is _
      (length c.args.input.now - 1) refl refl c.in-Err.field-0.gcd c.in-Err.ensures.common c.in-Err.ensures.divisor,
  refl,
)

pub returns-then-degree-sum-clause-err : goal.returns-then-degree-sum-clause-err
returns-then-degree-sum-clause-err c = λ job is other. (
  DegreeMismatch _ c.total_times-sum.result,
  found_mismatch c.args.modulus.value c.args.input.now c.args.roots.now c.args.modulus.low job is _
      (length c.args.input.now - 1) refl refl
      (unit_of_inverse c.args.modulus _ c.in_default.field-0 c.in_default.ensures.inverse) c.total_times-sum.result
      c.total_times-sum.ensures c.if-degree-sum.true,
  refl,
)

pub near_pair-requires : goal.near_pair-requires
near_pair-requires c = residues c.args.modulus.value c.args.roots.now c.requires.roots

pub overflow_cast-result : goal.overflow_cast-result
overflow_cast-result c = omega (
  arith,
  (near_few c.args.modulus.value c.args.roots.now c.in-Some.pair
      (length c.args.input.now - 1) c.total_times-sum.result c.requires.roots c.in-Some.ensures
      (let few = c.requires.few in omega arith) c.if-degree-sum.false c.total_times-sum.ensures).0,
)

pub overflow_cast-result-in-Some : goal.overflow_cast-result-in-Some
overflow_cast-result-in-Some c = omega (
  arith,
  (near_few c.args.modulus.value c.args.roots.now c.in-Some.pair
      (length c.args.input.now - 1) c.total_times-sum.result c.requires.roots c.in-Some.ensures
      (let few = c.requires.few in omega arith) c.if-degree-sum.false c.total_times-sum.ensures).1,
)

pub returns-in-Some-clause-err : goal.returns-in-Some-clause-err
returns-in-Some-clause-err c = λ job is other. (
  NotApart c.in-Some.pair.first c.in-Some.pair.second c.in-Some.pair.difference c.in-Some.pair.gcd,
  found_near c.args.modulus.value c.args.input.now c.args.roots.now c.args.modulus.low job is _
      (length c.args.input.now - 1) refl refl
      (unit_of_inverse c.args.modulus _ c.in_default.field-0 c.in_default.ensures.inverse) c.total_times-sum.result
      c.total_times-sum.ensures c.if-degree-sum.false c.in-Some.pair c.in-Some.ensures,
  refl,
)

pub first_difference-requires-clause-residues : goal.first_difference-requires-clause-residues
first_difference-requires-clause-residues c = residues c.args.modulus.value c.args.roots.now c.requires.roots

pub first_difference-requires-clause-degree : goal.first_difference-requires-clause-degree
first_difference-requires-clause-degree c = told_total (length c.args.input.now) (total_times c.args.roots.now)
    c.total_times-sum.result c.requires.some c.requires.few c.if-degree-sum.false c.total_times-sum.ensures

pub returns-in-Some-2-clause-err : goal.returns-in-Some-2-clause-err
returns-in-Some-2-clause-err c = λ job is other. (
  RootsMismatch c.in-Some-2.difference.power c.in-Some-2.difference.input c.in-Some-2.difference.roots,
  found_difference c.args.modulus.value c.args.input.now c.args.roots.now c.args.modulus.low job is _
      (length c.args.input.now - 1) refl refl
      (unit_of_inverse c.args.modulus _ c.in_default.field-0 c.in_default.ensures.inverse) c.total_times-sum.result
      c.total_times-sum.ensures c.if-degree-sum.false c.in_default-near_pair.ensures c.in-Some-2.difference
      (λ ws. subst (IsFirstDifference _ ws _ _ _) c.in-Some-2.is (c.in_ok-difference.ensures ws)),
  refl,
)

pub returns-clause-ok : goal.returns-clause-ok
returns-clause-ok c = λ job is. found_none c.args.modulus.value c.args.input.now c.args.roots.now c.args.modulus.low
    job is _ (length c.args.input.now - 1) refl refl
    (unit_of_inverse c.args.modulus _ c.in_default.field-0 c.in_default.ensures.inverse) c.total_times-sum.result
    c.total_times-sum.ensures c.if-degree-sum.false c.in_default-near_pair.ensures
    (λ ws. subst (IsFirstDifference _ ws _ _ _) c.in_default-2.is (c.in_ok-difference.ensures ws))
