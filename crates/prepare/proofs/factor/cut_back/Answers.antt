use Rattle.std.proofs.Common.{◌≡◌, ◌+◌, ◌<◌, ◌≤◌, length, get_or, sym, ◌∙◌, ap, subst, arith}
use Rattle.std.proofs.lemmas.List.{get_or_default}
use Rattle.parts.specs.SeriesParts.{SeriesValue}
use Rattle.prepare.proofs.CutBack.{IsCutBelow, cut_more, cut_none, cut_long}
use Rattle.prepare.proofs.factor.cut_back.Goals as goal
use Rattle.prepare.proofs.factor.cut_back.Goals.{then-len-r, else-len-r}

pub loop-i-preserved : goal.loop-i-preserved
loop-i-preserved c =
    let before : IsCutBelow c.args.r c.args.series.now c.loop-i.i c.loop-i.series = record {
      long = c.loop-i.invariant.long;
      cut = c.loop-i.invariant.cut;
      kept = c.loop-i.invariant.kept;
    } in
    let within : c.loop-i.i < length c.loop-i.series =
    omega (arith, c.loop-i.invariant.long, c.loop-i-test.true) in
    let after : IsCutBelow c.args.r c.args.series.now (c.loop-i.i + 1) c.if-len-r.series = elim c.if-len-r.branch [
      | then-len-r w ↦
          (let s : SeriesValue = get_or c.loop-i.series c.loop-i.i w.index-series-i-then-len-r.result in
          let read : length (get_or c.loop-i.series c.loop-i.i c.index-series-i.result).parts ≡ length s.parts =
          ap (λ (t : SeriesValue). length t.parts) (get_or_default c.loop-i.series c.loop-i.i c.index-series-i.result
          w.index-series-i-then-len-r.result within) in
          let more : c.args.r < length s.parts = omega (arith, w.if-len-r.true, c.len.ensures.length, read) in
          subst (IsCutBelow c.args.r c.args.series.now (c.loop-i.i + 1)) (sym w.series-is)
          (cut_more c.args.r c.loop-i.i c.args.series.now c.loop-i.series before c.loop-i-test.true s w.pop.new.self
          (get_or_default c.loop-i.series c.loop-i.i w.index-series-i-then-len-r.result s within)
          (w.pop.ensures ∙ cut_long c.args.r s more)))
      | else-len-r w ↦
          (let s = c.index-series-i.result in
          let short : length s.parts ≤ c.args.r = omega (
            arith,
            w.if-len-r.false,
            c.len.ensures.length,
            ap (λ (t : SeriesValue). length t.parts) c.index-series-i.is,
          ) in
          subst (IsCutBelow c.args.r c.args.series.now (c.loop-i.i + 1)) (sym w.series-is)
          (cut_none c.args.r c.loop-i.i c.args.series.now c.loop-i.series before c.loop-i-test.true s
          c.index-series-i.is short))
    ] in
    record {
      long = after.long;
      cut = after.cut;
      kept = after.kept;
    }
