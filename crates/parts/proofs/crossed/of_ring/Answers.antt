use Rattle.std.proofs.Common.{[], take, get_or, take_all, sym, subst, arith, All}
use Rattle.std.proofs.lemmas.List.{take_more}
use Rattle.std.proofs.lemmas.List.Elements.{All-append, All-cons}
use Rattle.parts.specs.SeriesParts.{SeriesValue, AreSeriesParts}
use Rattle.parts.specs.declared.rings.Ring.{Ring}
use Rattle.parts.proofs.Built.{none}
use Rattle.parts.proofs.SeriesRead.{all_parts}
use Rattle.parts.proofs.crossed.of_ring.Goals as goal

abbrev IsOf : Ring → SeriesValue → Type 0
IsOf ring s = AreSeriesParts ring s.parts

pub loop-s-preserved : goal.loop-s-preserved
loop-s-preserved c =
    let here : IsOf c.args.ring (get_or c.args.series.now c.loop-s.s-index c.s-item.result) =
    subst (λ (R : Ring). IsOf R (get_or c.args.series.now c.loop-s.s-index c.s-item.result))
    (c.requires c.loop-s.s-index c.s-item.result (omega arith))
    (subst (λ (s : SeriesValue). IsOf s.ring s) c.s-item.is c.parts_are.ensures) in
    subst (All (IsOf c.args.ring))
    (sym (take_more c.args.series.now c.loop-s.s-index c.s-item.result (omega arith)))
    (All-append (IsOf c.args.ring) _ _ c.loop-s.invariant
    (All-cons (IsOf c.args.ring) (get_or c.args.series.now c.loop-s.s-index c.s-item.result) [] here
    (none (IsOf c.args.ring))))

pub returns : goal.returns
returns c = all_parts c.args.ring c.args.series.now
    (subst (All (IsOf c.args.ring)) (take_all c.loop-s.s-index c.args.series.now (omega arith)) c.loop-s.invariant)
