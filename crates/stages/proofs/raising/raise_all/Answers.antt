use Rattle.std.proofs.Common.{◌≡◌, ◌<◌, ◌≤◌, length, arith, sym, ap, ◌∙◌}
use Rattle.stages.proofs.Growth.{all_twice, at_stage, of_stage}
use Rattle.stages.proofs.LineTitles.{seen}
use Rattle.stages.proofs.Rounds.{line_grown, room_grown, have_grown, few_prepared, round_more, round_skip, round_moved}
use Rattle.stages.proofs.Rounds.{lacks, on_err, tally_small}
use Rattle.stages.proofs.raising.raise_all.Goals as goal
use Rattle.stages.proofs.raising.raise_all.Goals.{then-len-r+in_ok-raise_one, else-len-r}

pub raise_one-requires-clause-room : goal.raise_one-requires-clause-room
raise_one-requires-clause-room g c κs within = λ d.
    room_grown _ _ _ _ c.requires.room c.loop-s.invariant.round.grow c.loop-s.s d
    (seen _ c.loop-s.stages c.loop-s.s (omega arith))

pub raise_one-requires-clause-tally : goal.raise_one-requires-clause-tally
raise_one-requires-clause-tally g c κs within =
    tally_small _ _ _ _ c.loop-s.invariant.round.ticks c.requires.tally
    (few_prepared _ c.loop-s.stages (g.I.RowSource.job c.args.input.now)
    (line_grown _ _ _ _ c.requires.line c.loop-s.invariant.round.grow)
    (λ x. let low = (g.met.R.RowOut g.world.𝓛 g.world.𝓜 g.world.𝓡 (λ s a. a, λ p. p, λ p. p, λ c. c)).within x.row in
    let ahead = x.ahead in omega arith))

pub returns-in_err-raise_one-clause-grow : goal.returns-in_err-raise_one-clause-grow
returns-in_err-raise_one-clause-grow g c =
    all_twice _ _ _ _ _ (omega arith) c.loop-s.invariant.round.grow c.in_err-raise_one.ensures.grow

pub returns-in_err-raise_one-clause-falling : goal.returns-in_err-raise_one-clause-falling
returns-in_err-raise_one-clause-falling g c = λ falling.
    c.in_err-raise_one.ensures.falling (c.loop-s.invariant.round.falling falling)

pub returns-in_err-raise_one-clause-err : goal.returns-in_err-raise_one-clause-err
returns-in_err-raise_one-clause-err g c = on_err _ _
    (lacks c.args.r c.loop-s.s _ _ _ _ (seen _ c.args.stages.now c.loop-s.s (omega arith)) c.loop-s.invariant.round
    (at_stage _ c.loop-s.stages c.loop-s.s c.index-stages-s.result (omega arith) (λ s. length s.items ≡ c.args.r)
    (sym c.len.ensures ∙ c.if-len-r.true)))

pub returns-in_err-raise_one-clause-there : goal.returns-in_err-raise_one-clause-there
returns-in_err-raise_one-clause-there g c = λ have.
    absurd (lacks c.args.r c.loop-s.s _ _ _ _ (seen _ c.args.stages.now c.loop-s.s (omega arith))
    c.loop-s.invariant.round (at_stage _ c.loop-s.stages c.loop-s.s c.index-stages-s.result (omega arith)
    (λ s. length s.items ≡ c.args.r) (sym c.len.ensures ∙ c.if-len-r.true)) have)

pub loop-s-preserved : goal.loop-s-preserved
loop-s-preserved g c = elim c.if-len-r.branch [
  | then-len-r+in_ok-raise_one w ↦ record {
    round = round_moved _ _ _ _ _ _ _ _ _ w.stages-is w.tally-is
        (round_more _ _ _ _ _ _ _ _ (seen _ c.args.stages.now c.loop-s.s (omega arith)) c.loop-s.invariant.round
        w.in_ok-raise_one.ensures.grow w.in_ok-raise_one.ensures.ok w.in_ok-raise_one.ensures.falling
        w.in_ok-raise_one.ensures.ticks);
    source = ap g.I.RowSource.job w.input-is ∙ w.in_ok-raise_one.ensures.source ∙ c.loop-s.invariant.source;
    there = λ have. absurd (lacks c.args.r c.loop-s.s _ _ _ _ (seen _ c.args.stages.now c.loop-s.s (omega arith))
        c.loop-s.invariant.round (at_stage _ c.loop-s.stages c.loop-s.s c.index-stages-s.result (omega arith)
        (λ s. length s.items ≡ c.args.r) (sym c.len.ensures ∙ w.if-len-r.true)) have);
  }
  | else-len-r w ↦ record {
    round = round_moved _ _ _ _ _ _ _ _ _ w.stages-is w.tally-is
        (round_skip _ _ _ _ _ _ (seen _ c.args.stages.now c.loop-s.s (omega arith)) c.loop-s.invariant.round
        (at_stage _ c.loop-s.stages c.loop-s.s c.index-stages-s.result (omega arith) (λ s. c.args.r < length s.items)
        (let have = of_stage _ c.loop-s.stages c.loop-s.s c.index-stages-s.result (omega arith)
        (λ s. c.args.r ≤ length s.items)
        (λ d. have_grown _ _ _ _ c.requires.have c.loop-s.invariant.round.grow c.loop-s.s d
        (seen _ c.loop-s.stages c.loop-s.s (omega arith))) in
        omega (arith, c.len.ensures, w.if-len-r.false))));
    source = ap g.I.RowSource.job w.input-is ∙ c.loop-s.invariant.source;
    there = λ have. w.input-is ∙ c.loop-s.invariant.there have;
  }
]
