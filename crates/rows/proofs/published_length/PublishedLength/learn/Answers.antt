use Rattle.std.proofs.Common.{rules}
use Rattle.rows.proofs.LengthSteps.{learns}
use Rattle.rows.proofs.published_length.PublishedLength.learn.Goals as goal

pub join_seat-requires : goal.join_seat-requires
join_seat-requires c = (search rules, search rules, search rules, search rules, learns _ _ _ _)
