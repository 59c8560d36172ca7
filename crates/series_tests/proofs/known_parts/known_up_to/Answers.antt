use Rattle.std.proofs.Common.{◌≡◌, ◌+◌, ◌++◌, ◌∷◌, [], length, sym, ◌∙◌, ap, subst, arith}
use Rattle.std.proofs.lemmas.List.{length_push}
use Rattle.parts.specs.PartValue.{PartValue}
use Rattle.units.specs.SeriesParts.{IsPartAt, AreSeriesParts}
use Rattle.units.proofs.Parts.{parts-more}
use Rattle.series_tests.proofs.known_parts.known_up_to.Goals as goal

pub loop-r-init : goal.loop-r-init
loop-r-init c = record {
  count = ap length c.new-known.ensures;
  parts = subst (AreSeriesParts c.args.ring) (sym c.new-known.ensures) (λ r lt. absurd (omega arith));
}

pub loop-r-preserved : goal.loop-r-preserved
loop-r-preserved c =
    let same = c.in_ok-push.ensures.ok ∙ ap (λ (p : PartValue). c.loop-r.known ++ p ∷ []) c.in_ok-new.ensures.ok in
    record {
      count = ap length same ∙ length_push c.loop-r.known c.in_ok-part.part
          ∙ ap (λ n. n + 1) c.loop-r.invariant.count;
      parts = subst (AreSeriesParts c.args.ring) (sym same)
          (parts-more c.args.ring c.loop-r.known c.in_ok-part.part c.loop-r.invariant.parts
          (subst (λ n. IsPartAt c.args.ring n c.in_ok-part.part) (sym c.loop-r.invariant.count)
          c.in_ok-part.ensures));
    }
