use Rattle.std.proofs.Common.{length, arith, ap}
use Rattle.std.proofs.lemmas.List.{with_items_is}
use Rattle.pipe.specs.Looks.{state_of}
use Rattle.pipe.proofs.Keeping.{readers_on}
use Rattle.pipe.proofs.ReadersOf.{still_stages, still_readers}
use Rattle.pipe.proofs.extend.extend_blocks.Goals as goal

pub invariant_of-line : goal.invariant_of-line
invariant_of-line g c = record {
  stages = still_stages _ _ c.extend_line.ensures.kept _ _ c.extend_line.ensures.job c.args.line.now.stages;
  readers = readers_on state_of _ c.args.line.now.inner.items c.as_mut_slice.result.now c.extend_line.new.inner _
      c.as_mut_slice.ensures.value
      (with_items_is c.args.line.now.inner c.extend_line.new.inner
      (let a = c.extend_line.auto.inner in let b = ap length c.as_mut_slice.ensures.value in
      let v = c.args.line.now.inner.ok.0 in omega arith))
      c.extend_line.ensures.readers
      (still_readers _ _ c.extend_line.ensures.kept _ c.args.line.now.readers);
}
