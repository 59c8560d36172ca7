use Rattle.std.proofs.Common.{◌<◌, length, arith}
use Rattle.std.proofs.lemmas.Grind.{common_steps}
use Rattle.pipe.specs.Looks.{state_of}
use Rattle.pipe_tests.proofs.Readers.{reader_there}
use Rattle.pipe_tests.proofs.pipelines.tell_first.Goals as goal

pub learn-requires-after_bounds : goal.learn-requires-after_bounds
learn-requires-after_bounds c κs =
    let some : 0 < length c.args.readers.now = grind (arith, common_steps, c.is_empty.ensures, c.if-is_empty.false) in
    reader_there state_of _ _ c.args.readers.now 0 _ c.requires
    (let n = c.stages.ensures.count in let some = c.if-stages-eq0.false in omega arith)
    some
    c.told-told.ensures.name
