use Rattle.std.proofs.Common.{ap, arith}
use Rattle.std.proofs.lemmas.List.{length-map}
use Rattle.std.specs.Arc.{arc_value}
use Rattle.stages.proofs.LineTitles.{few_roots}
use Rattle.session.specs.SeenBy.{seen_by}
use Rattle.session.specs.Shared.{place_of}
use Rattle.session.proofs.SeenSteps.{partly_more, seen_twice, reader_there, places_set}
use Rattle.session.proofs.following.take_degree.Goals as goal

pub overflow_cast-i : goal.overflow_cast-i
overflow_cast-i g c =
    let few = few_roots (arc_value c.args.seen.now.job) c.args.seen.now.holds.of_job.accepted in
    let count = c.requires.readers.count in
    let same = length-map c.args.outer.now place_of in
    omega (arith, c.loop-i-test.true)

pub take_item-requires-clause-reader : goal.take_item-requires-clause-reader
take_item-requires-clause-reader g c = reader_there c.args.outer.now c.loop-i.outer c.loop-i.i c.index-outer-i.result
    (let low = c.loop-i-test.true in let same = c.loop-i.auto.outer in omega arith) c.loop-i.invariant.kept
    (arc_value c.args.seen.now.job) (arc_value c.loop-i.seen.job) (ap (λ j. j.job) c.loop-i.invariant.same.job)
    c.requires.readers

pub returns-in_err-take_item-clause-kept : goal.returns-in_err-take_item-clause-kept
returns-in_err-take_item-clause-kept g c = places_set c.args.outer.now c.loop-i.outer c.loop-i.i
    c.index-outer-i.result (let low = c.loop-i-test.true in let same = c.loop-i.auto.outer in omega arith)
    c.loop-i.invariant.kept c.take_item.new.place c.take_item.ensures.kept

pub loop-i-preserved : goal.loop-i-preserved
loop-i-preserved g c = record {
  kept = places_set c.args.outer.now c.loop-i.outer c.loop-i.i
      c.index-outer-i.result (let low = c.loop-i-test.true in let same = c.loop-i.auto.outer in omega arith)
      c.loop-i.invariant.kept c.take_item.new.place c.take_item.ensures.kept;
  same = seen_twice (seen_by c.args.seen.now) (seen_by c.loop-i.seen) (seen_by c.take_item.new.seen)
      c.loop-i.invariant.same c.take_item.ensures.same;
  partly = partly_more c.args.r c.loop-i.i (seen_by c.loop-i.seen) (seen_by c.take_item.new.seen)
      c.take_item.ensures.same c.take_item.ensures.others c.in_ok-take_item.ensures.more c.loop-i.invariant.partly;
}
