use Rattle.stages.proofs.splitter.shifted.Goals as goal

pub returns : goal.returns
returns c = λ K r is. (c.in_ok-out.ensures.parts K r is, c.in_ok-out.ensures.shifted K r is)
