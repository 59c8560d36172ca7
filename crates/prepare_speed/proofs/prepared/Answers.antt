use Rattle.std.proofs.Common.{◌≡◌, ◌-◌, ◌+◌, length, refl, sym, ◌∙◌, ap, subst, arith}
use Rattle.std.proofs.lemmas.List.{length-map}
use Rattle.std.specs.Arc.{arc_value}
use Rattle.parts.specs.RowsOfParts.{parts_of, parts_in, IsRowOfParts}
use Rattle.parts.proofs.RowsRead.{row_read, row_read_is}
use Rattle.prepare_speed.specs.Prepared.{IsPreparationOf}
use Rattle.prepare_speed.proofs.Steps.{begun, more, fits}
use Rattle.prepare_speed.proofs.prepared.Goals as goal

pub begin-requires-clause-row : goal.begin-requires-clause-row
begin-requires-clause-row c =
    let is = row_read_is c.args.ring c.args.ring 8 8 c.args.rows.now 0 c.index-rows-0.result c.deref.result.now
    c.requires.some c.index-rows-0.is c.deref.ensures.value c.requires.rows refl refl in
    let places = is.places in
    let long = length-map c.deref.result.now arc_value in
    let eight : length c.deref.result.now - 1 ≡ 8 = omega (arith, places, long) in
    subst (λ n. IsRowOfParts c.args.ring n 0 (parts_of c.deref.result.now)) (sym eight) is

pub loop-r-init : goal.loop-r-init
loop-r-init c =
    let is = row_read_is c.args.ring c.args.ring 8 8 c.args.rows.now 0 c.index-rows-0.result c.deref.result.now
    c.requires.some c.index-rows-0.is c.deref.ensures.value c.requires.rows refl refl in
    record {
      tally = c.in_ok-prep.ensures.ticks;
      prep = begun c.args.ring (parts_in c.args.rows.now) c.in_ok-prep.prep (parts_of c.deref.result.now)
          (row_read c.args.rows.now 0 c.index-rows-0.result c.deref.result.now c.requires.some c.index-rows-0.is
          c.deref.ensures.value) is.places c.in_ok-prep.ensures.ok;
    }

pub step-requires-clause-row : goal.step-requires-clause-row
step-requires-clause-row c = fits c.args.ring (parts_in c.args.rows.now) c.loop-r.r c.loop-r.prep
    (parts_of c.deref-in-loop-r.result.now) c.loop-r.invariant.prep
    (row_read_is c.args.ring c.args.ring 8 8 c.args.rows.now c.loop-r.r c.index-rows-r.result
    c.deref-in-loop-r.result.now c.loop-r-test.true c.index-rows-r.is c.deref-in-loop-r.ensures.value c.requires.rows
    refl refl)

pub loop-r-preserved : goal.loop-r-preserved
loop-r-preserved c = record {
  tally = omega (arith, c.in_ok-step.ensures.ticks, c.loop-r.invariant.tally);
  prep = more c.args.ring (parts_in c.args.rows.now) c.loop-r.r c.loop-r.prep c.step.new.self
      (parts_of c.deref-in-loop-r.result.now)
      (row_read c.args.rows.now c.loop-r.r c.index-rows-r.result c.deref-in-loop-r.result.now c.loop-r-test.true
      c.index-rows-r.is c.deref-in-loop-r.ensures.value) c.in_ok-step.ensures.ok c.loop-r.invariant.prep;
}

pub returns-clause-prepared : goal.returns-clause-prepared
returns-clause-prepared c = subst (λ n. IsPreparationOf c.args.ring (parts_in c.args.rows.now) n c.loop-r.prep)
    (omega arith) c.loop-r.invariant.prep
