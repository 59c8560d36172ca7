use Rattle.std.proofs.Common.{rules}
use Rattle.rows.proofs.LengthSteps.{tells}
use Rattle.rows.proofs.published_length.PublishedLength.tell.Goals as goal

pub split_seat-requires : goal.split_seat-requires
split_seat-requires c = (search rules, search rules, tells _ _)
