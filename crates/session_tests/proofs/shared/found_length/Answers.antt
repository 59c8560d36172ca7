use Rattle.std.proofs.Common.{sym, ◌∙◌}
use Rattle.session_tests.proofs.ReadRows.{blank_stage}
use Rattle.session_tests.proofs.shared.found_length.Goals as goal

pub learn-requires-after_bounds : goal.learn-requires-after_bounds
learn-requires-after_bounds c κs =
    let d = blank_stage c.args.session.now.job.job c.args.session.now.ring in
    c.in-Some.ensures.name d ∙ sym (c.requires.row d).name
