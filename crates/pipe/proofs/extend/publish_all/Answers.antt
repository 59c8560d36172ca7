use Rattle.std.proofs.Common.{◌+◌, length, arith, ap, sym, ◌∙◌}
use Rattle.std.proofs.lemmas.List.{get_or_default}
use Rattle.stages.specs.States.{StageState}
use Rattle.pipe.specs.Works.{work_of, count_of}
use Rattle.pipe.proofs.Rounds.{at_place}
use Rattle.pipe.proofs.Extending.{same_on, publish_more, publish_skip, publish_moved}
use Rattle.pipe.proofs.extend.publish_all.Goals as goal
use Rattle.pipe.proofs.extend.publish_all.Goals.{then-published-len+in_ok-_told, else-published-len}

pub returns-in_err-_told-clause-same : goal.returns-in_err-_told-clause-same
returns-in_err-_told-clause-same g c =
    same_on _ c.loop-i.i _ c.loop-i.stages
    (at_place _ c.args.stages.now c.loop-i.stages c.loop-i.i (omega arith) (omega arith))
    c.index-stages-i-then-published-len.result c.loop-i.invariant _ c.in_err-_told.ensures.state

pub loop-i-preserved : goal.loop-i-preserved
loop-i-preserved g c = elim c.if-published-len.branch [
  | then-published-len+in_ok-_told w ↦ publish_moved _ (c.loop-i.i + 1) _ _ _ w.stages-is
      (publish_more _ c.loop-i.i _ c.loop-i.stages
      (at_place _ c.args.stages.now c.loop-i.stages c.loop-i.i (omega arith) (omega arith))
      w.index-stages-i-then-published-len.result c.loop-i.invariant _ w.in_ok-_told.ensures.state
      (w.in_ok-_told.ensures.ok ∙ ap (λ (s : StageState). length s.items) (sym w.in_ok-_told.ensures.state)))
  | else-published-len w ↦ publish_moved _ (c.loop-i.i + 1) _ _ _ w.stages-is
      (publish_skip _ c.loop-i.i _ c.loop-i.stages
      (at_place _ c.args.stages.now c.loop-i.stages c.loop-i.i (omega arith) (omega arith))
      c.index-stages-i.result c.loop-i.invariant
      (sym c.published.ensures ∙ w.if-published-len.false ∙ c.len.ensures
      ∙ ap (λ s. count_of (work_of s)) (get_or_default c.loop-i.stages c.loop-i.i c.index-stages-i-in-loop-i.result
      c.index-stages-i.result (omega arith))))
]
