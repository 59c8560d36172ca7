use Rattle.std.proofs.Common.{◌≡◌, ◌*◌, ◌%◌, refl, sym, ◌∙◌, ap, subst, arith}
use Rattle.std.specs.Arc.{arc_value}
use Rattle.std.proofs.lemmas.List.{length-map}
use Rattle.ps_model.specs.Shift.{binomial}
use Rattle.parts.specs.Rings.{modulus_of}
use Rattle.parts.specs.PartValue.{IsPartOf}
use Rattle.parts.specs.RowsOfParts.{parts_of, part_in}
use Rattle.taylor.proofs.PartRows.{place_is, degree_there, part_there}
use Rattle.taylor.proofs.Shares.{shares_none, shares_more, first_power, next_power, remainder_low, finished}
use Rattle.taylor.proofs.shifts.shifted_part.Goals as goal

pub new-sum-requires : goal.new-sum-requires
new-sum-requires c =
    let row = c.args.row.now in
    let is : c.deref.result.now ≡ part_in (parts_of row) c.args.i =
    place_is row c.args.i c.index-row-i.result c.deref.result.now c.requires.place c.index-row-i.is c.deref.ensures in
    omega (
      arith,
      degree_there c.args.ring row c.args.i c.deref.result.now c.requires.parts c.requires.place is,
      c.degree.ensures,
      c.requires.parts.low,
    )

pub loop-j-init : goal.loop-j-init
loop-j-init c =
    let row = c.args.row.now in
    let is : c.deref.result.now ≡ part_in (parts_of row) c.args.i =
    place_is row c.args.i c.index-row-i.result c.deref.result.now c.requires.place c.index-row-i.is c.deref.ensures in
    record {
      shares = shares_none c.args.ring c.args.c (parts_of row) c.args.i c.degree.result c.new-sum.result
          c.new-sum.ensures (c.degree.ensures ∙ ap (λ p. p.degree) is);
      power = first_power (modulus_of c.args.ring) c.args.c c.args.i c.args.ring.modulus.low;
    }

pub mul-factor-requires-clause-a_residue : goal.mul-factor-requires-clause-a_residue
mul-factor-requires-clause-a_residue c = remainder_low c.number.result _ c.args.table.now.modulus _ c.number.ensures
    (c.requires.same ∙ sym c.modulus-modulus.ensures) c.modulus-modulus.result.low

pub mul-factor-requires-clause-b_residue : goal.mul-factor-requires-clause-b_residue
mul-factor-requires-clause-b_residue c = remainder_low c.loop-j.power _ (modulus_of c.args.ring) _
    c.loop-j.invariant.power (sym c.modulus-modulus.ensures) c.modulus-modulus.result.low

pub add_scaled-requires-clause-degrees : goal.add_scaled-requires-clause-degrees
add_scaled-requires-clause-degrees c =
    let row = c.args.row.now in
    let are = c.requires.parts in
    degree_there c.args.ring row c.loop-j.j c.deref-in-loop-j.result.now are c.loop-j-test.true
    (place_is row c.loop-j.j c.index-row-j.result c.deref-in-loop-j.result.now c.loop-j-test.true c.index-row-j.is
    c.deref-in-loop-j.ensures)
    ∙ sym (degree_there c.args.ring row c.args.i (part_in (parts_of row) c.args.i) are c.requires.place refl)
    ∙ sym c.loop-j.invariant.shares.degree

pub add_scaled-requires-clause-parts : goal.add_scaled-requires-clause-parts
add_scaled-requires-clause-parts c =
    let row = c.args.row.now in
    subst (λ r. IsPartOf r c.deref-in-loop-j.result.now) (sym c.loop-j.invariant.shares.same_ring)
    (part_there c.args.ring row c.loop-j.j c.deref-in-loop-j.result.now c.requires.parts c.loop-j-test.true
    (place_is row c.loop-j.j c.index-row-j.result c.deref-in-loop-j.result.now c.loop-j-test.true c.index-row-j.is
    c.deref-in-loop-j.ensures))

pub add_scaled-requires-clause-residue : goal.add_scaled-requires-clause-residue
add_scaled-requires-clause-residue c = remainder_low c.mul-factor.result _ _ (modulus_of c.loop-j.sum.ring)
    c.mul-factor.ensures (c.modulus-modulus.ensures ∙ ap modulus_of (sym c.loop-j.invariant.shares.same_ring))
    c.loop-j.sum.ring.modulus.low

pub mul-power-requires-clause-a_residue : goal.mul-power-requires-clause-a_residue
mul-power-requires-clause-a_residue c = remainder_low c.loop-j.power _ (modulus_of c.args.ring) _
    c.loop-j.invariant.power (sym c.modulus-modulus.ensures) c.modulus-modulus.result.low

pub loop-j-preserved : goal.loop-j-preserved
loop-j-preserved c =
    let m = modulus_of c.args.ring in
    let row = c.args.row.now in
    let n = c.number.result in
    let power = c.loop-j.power in
    record {
      shares = shares_more c.args.ring c.args.c (parts_of row) c.args.i c.loop-j.j n power c.mul-factor.result
          c.loop-j.sum c.add_scaled.new.self c.deref-in-loop-j.result.now c.loop-j.auto.j
          (place_is row c.loop-j.j c.index-row-j.result c.deref-in-loop-j.result.now c.loop-j-test.true
          c.index-row-j.is c.deref-in-loop-j.ensures)
          (c.mul-factor.ensures ∙ ap (λ m. (n * power) % m) c.modulus-modulus.ensures)
          (c.number.ensures ∙ ap (λ m. binomial c.loop-j.j c.args.i % m) c.requires.same) c.loop-j.invariant.power
          c.loop-j.invariant.shares c.in_ok-add_scaled.ensures.ok;
      power = next_power m c.args.c c.args.i c.loop-j.j power c.mul-power.result c.loop-j.auto.j
          c.loop-j.invariant.power (c.mul-power.ensures ∙ ap (λ m. (power * c.args.c) % m) c.modulus-modulus.ensures);
    }

pub returns : goal.returns
returns c = finished c.finish.result c.args.ring c.args.c (parts_of c.args.row.now) c.args.i c.loop-j.j c.loop-j.sum
    c.loop-j.invariant.shares (omega (arith, length-map c.args.row.now arc_value)) c.finish.ensures.degree
    c.finish.ensures.map c.finish.ensures.part
