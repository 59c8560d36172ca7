use Rattle.std.proofs.Common.{◌∙◌, ap}
use Rattle.pipe.proofs.Steps.{later_takes}
use Rattle.pipe.proofs.step.step_later.Goals as goal

pub put_next-requires-clause-row : goal.put_next-requires-clause-row
put_next-requires-clause-row g c =
    later_takes _ _ c.args.r _ _ c.requires.behind c.requires.next c.in_ok-item.ensures.fits
    (c.left.ensures ∙ ap (λ i. i.left) c.deref.ensures)
