use Rattle.session_tests.proofs.ReadRows.{still_read, same_read}
use Rattle.session_tests.proofs.shared.assert_mixed.Goals as goal

pub found_length-requires : goal.found_length-requires
found_length-requires g c =
    let first = still_read _ _ 1 _ c.in_ok-raised_by_workers.ensures.kept c.in_ok-reader.ensures.row in
    let alone = still_read _ _ 1 _ c.in_ok-raised_alone.ensures.kept first in
    let told = same_read _ _ 1 _ c.told_length.ensures.state alone in
    let second = still_read _ _ 1 _ c.in_ok-raised_by_workers-2.ensures.kept told in
    record { row = same_read _ _ 1 _ c.told_length-2.ensures.state second }
