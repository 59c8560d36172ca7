use Rattle.std.proofs.Common.{◌≡◌, ℕ, ◌+◌, ◌<◌, length, sym, ◌∙◌, ap, subst, arith}
use Rattle.std.specs.Arc.{arc_value}
use Rattle.std.proofs.lemmas.List.{length_push, length-map}
use Rattle.parts.specs.PartValue.{PartValue, IsPartOf}
use Rattle.parts.specs.RowsOfParts.{parts_of}
use Rattle.taylor.proofs.PartRows.{parts_more}
use Rattle.series_tests.proofs.shifts.constants.Goals as goal

pub loop-c-preserved : goal.loop-c-preserved
loop-c-preserved c =
    let IsConstant : PartValue → Type 0 = λ p. (p.degree ≡ 0) × IsPartOf c.args.ring p in
    let part : IsConstant (arc_value c.in_ok-new.field-0) = subst IsConstant (sym c.in_ok-new.ensures.ok)
    (c.in_ok-part.ensures.degree, c.in_ok-part.ensures.part) in
    record {
      count = ap length c.in_ok-push.ensures.items ∙ length_push c.loop-c.row.items c.in_ok-new.field-0
          ∙ ap (λ n. n + 1) c.loop-c.invariant.count;
      part = parts_more (λ _ p. IsConstant p) c.loop-c.row.items c.push.new.self.items
          c.in_ok-new.field-0 c.loop-c.c-index c.loop-c.invariant.count c.in_ok-push.ensures.items
          c.loop-c.invariant.part part;
    }

pub returns-clause-parts : goal.returns-clause-parts
returns-clause-parts c =
    let there : (i : ℕ) → i < length (parts_of c.loop-c.row.items) → i < c.loop-c.c-index =
    λ i lt. omega (arith, length-map c.loop-c.row.items arc_value, c.loop-c.invariant.count) in
    record {
      places = length-map c.loop-c.row.items arc_value ∙ omega (arith, c.loop-c.invariant.count, c.requires);
      degrees = λ i other lt. (c.loop-c.invariant.part i other (there i lt)).0;
      parts = λ i other lt. (c.loop-c.invariant.part i other (there i lt)).1;
    }
