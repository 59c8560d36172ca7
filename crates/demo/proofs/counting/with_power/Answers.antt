use Rattle.std.proofs.Common.{◌≡◌, ◌^◌, ℕ, ◌+◌, ◌*◌, ◌%◌, ◌<◌, ◌≤◌, ◌∙◌, ap, subst, sym, arith}
use Rattle.residue.specs.Residues.{number_of}
use Rattle.parts.specs.Rings.{modulus_of}
use Rattle.printer.specs.View.{part_at}
use Rattle.demo.specs.Counts.{number_in, sum_below, total_in}
use Rattle.demo.proofs.CountSteps.{part_told, told_none}
use Rattle.demo.proofs.counting.with_power.Goals as goal

pub loop-r-init : goal.loop-r-init
loop-r-init g c = told_none _ _ _ _ _ _ c.requires.residue

few_so_far : (t first n : ℕ) → t ≤ first + n * 2 ^ 64 → first ≤ 2 ^ 125 → n < 41 → t ≤ 2 ^ 126
few_so_far t first n le low lt = omega arith

few_in_all : (t first n : ℕ) → t ≤ first + n * 2 ^ 64 → n ≤ 41 → t ≤ first + 2 ^ 70
few_in_all t first n le low = omega arith

pub with_part-now-requires-clause-few : goal.with_part-now-requires-clause-few
with_part-now-requires-clause-few g c =
    few_so_far _ _ _ c.loop-r.invariant.few c.requires.few c.loop-r-test.true

pub with_part-now-requires-clause-residue : goal.with_part-now-requires-clause-residue
with_part-now-requires-clause-residue g c = subst (λ m. c.loop-r.now.sum < m)
    (sym (c.modulus-modulus.ensures ∙ ap modulus_of c.ring.ensures)) c.loop-r.invariant.residue

pub loop-r-preserved : goal.loop-r-preserved
loop-r-preserved g c =
    let value = g.V.BlockView.value c.args.view.now in
    let told = c.with_part-now.ensures in
    part_told (modulus_of value.ring) (number_of c.modulus-modulus.result) c.args.summary.terms c.args.summary.sum
    c.loop-r.r (λ r. number_in (part_at value c.args.i c.args.power r))
    (λ r. total_in (part_at value c.args.i c.args.power r)) c.loop-r.now.terms c.loop-r.now.sum
    c.with_part-now.result.terms c.with_part-now.result.sum c.part.result.now c.loop-r.invariant
    (c.modulus-modulus.ensures ∙ ap modulus_of c.ring.ensures) (ap number_in c.part.ensures)
    (ap total_in c.part.ensures) told.terms told.few told.sum told.residue

pub returns-clause-terms : goal.returns-clause-terms
returns-clause-terms g c =
    let value = g.V.BlockView.value c.args.view.now in
    let last : c.loop-r.r ≡ 41 = omega (arith, c.loop-r-test.false, c.loop-r.auto.r-end) in
    c.loop-r.invariant.number
    ∙ ap (λ n. c.args.summary.terms + sum_below n (λ r. number_in (part_at value c.args.i c.args.power r)))
    last

pub returns-clause-few : goal.returns-clause-few
returns-clause-few g c = few_in_all _ _ _ c.loop-r.invariant.few c.loop-r.auto.r-end

pub returns-clause-sum : goal.returns-clause-sum
returns-clause-sum g c =
    let value = g.V.BlockView.value c.args.view.now in
    let last : c.loop-r.r ≡ 41 = omega (arith, c.loop-r-test.false, c.loop-r.auto.r-end) in
    c.loop-r.invariant.total_is
    ∙ ap (λ n. (c.args.summary.sum + sum_below n (λ r. total_in (part_at value c.args.i c.args.power r)))
    % modulus_of value.ring)
    last

pub returns-clause-residue : goal.returns-clause-residue
returns-clause-residue g c = c.loop-r.invariant.residue
