use Rattle.std.proofs.Common.{ap, arith}
use Rattle.stages.proofs.NewLines.{splitter_is, row_empty, row_title, made_more, made_fresh, fresh_line}
use Rattle.stages.proofs.NewLines.{fresh_stages}
use Rattle.stages.proofs.line.Line.new.Goals as goal

pub over-requires-clause-fresh : goal.over-requires-clause-fresh
over-requires-clause-fresh g c κs within = ap (λ x. x.preparation) (splitter_is _ _ _ _ _ _ _ _ _ _ _ _ _ _ _
    c.loop-row.invariant.made c.in-Some-next.ensures.items c.in-Some.ensures.items)

pub over-requires-clause-empty : goal.over-requires-clause-empty
over-requires-clause-empty g c κs within = row_empty _ _ _ _ _ _ _ _ _ _ _ _ _ _ _ c.loop-row.invariant.made
    c.in-Some-next.ensures.items c.in-Some.ensures.items

pub over-requires-clause-title : goal.over-requires-clause-title
over-requires-clause-title g c κs within = row_title _ _ _ _ _ _ _ _ _ _ _ _ _ _ _ c.loop-row.invariant.made
    c.in-Some-next.ensures.items c.in-Some.ensures.items

pub loop-row-preserved : goal.loop-row-preserved
loop-row-preserved g c = record {
  made = made_more _ _ _ _ _ _ _ _ _ _ _ _ _ _ _ c.loop-row.invariant.made c.in-Some-next.ensures.items
      c.in-Some.ensures.items c.over.result _ c.push_reserved.ensures.items c.over.ensures;
  room = omega (arith, c.in-Some.ensures.len);
}

pub invariant_of-result-clause-of_job : goal.invariant_of-result-clause-of_job
invariant_of-result-clause-of_job g c some = fresh_stages _ _ _ _ _ c.loop-row.stages.items c.requires.accepted
    (made_fresh _ _ _ _ _ _ _ _ _ _ _ _ c.loop-row.invariant.made c.loop-row.rows.rest.ok.0
    c.in_default-next.ensures.cases.0 c.requires.count)

pub returns-clause-states : goal.returns-clause-states
returns-clause-states g c = made_fresh _ _ _ _ _ _ _ _ _ _ _ _ c.loop-row.invariant.made c.loop-row.rows.rest.ok.0
    c.in_default-next.ensures.cases.0 c.requires.count

pub returns-clause-whole : goal.returns-clause-whole
returns-clause-whole g c = fresh_line _ _ _ _ _ c.requires.accepted
    (made_fresh _ _ _ _ _ _ _ _ _ _ _ _ c.loop-row.invariant.made c.loop-row.rows.rest.ok.0
    c.in_default-next.ensures.cases.0 c.requires.count)
