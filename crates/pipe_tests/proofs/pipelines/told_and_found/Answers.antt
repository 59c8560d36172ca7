use Rattle.pipe.proofs.ReadersOf.{still_readers}
use Rattle.pipe_tests.proofs.pipelines.told_and_found.Goals as goal

pub tell_first-told-requires : goal.tell_first-told-requires
tell_first-told-requires g c = still_readers _ _ c.in_ok-steps.ensures.kept _ c.requires.readers
