use Rattle.std.proofs.Common.{◌∙◌, refl, arith}
use Rattle.ports.proofs.WritingLemmas.{WritesAll-more}
use Rattle.ports.proofs.writing.put_all.Goals as goal

pub loop-done-preserved : goal.loop-done-preserved
loop-done-preserved g c =
    let before = c.loop-done.invariant.written in
    let adds = c.in-Took.ensures.adds in
    record {
      within = omega (arith, c.in-Took.ensures.count.1);
      written = WritesAll-more _ _ _ c.args.piece.now _ c.loop-done.done c.in-Took.count refl before adds;
      no_fault = c.in-Took.ensures.no_fault (λ e. cc) ∙ c.loop-done.invariant.no_fault;
    }
