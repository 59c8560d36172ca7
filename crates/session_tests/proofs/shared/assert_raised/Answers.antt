use Rattle.session_tests.proofs.ReadRows.{still_read, same_read}
use Rattle.session_tests.proofs.shared.assert_raised.Goals as goal

pub found_length-requires : goal.found_length-requires
found_length-requires g c =
    let raised = still_read _ _ 1 _ c.in_ok-raised_by_workers.ensures.kept c.in_ok-reader.ensures.row in
    record { row = same_read _ _ 1 _ c.told_length.ensures.state raised }
