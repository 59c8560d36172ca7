use Rattle.std.proofs.Common.{◌≡◌, ◌≤◌, length}
use Rattle.std.proofs.lemmas.List.Elements.{All-contains}
use Rattle.parts.specs.Counting.{powers_up_to}
use Rattle.parts.specs.Places.{dot}
use Rattle.parts.proofs.Listed.{only_listed, all_listed, listed_once}
use Rattle.parts.proofs.counting.counting_laws.Goals as goal

pub returns-clause-which : goal.returns-clause-which
returns-clause-which c = λ ws d xs positive. (
  All-contains (λ ys. (length ys ≡ length ws) × (dot ws ys ≤ d)) (powers_up_to ws d) xs (only_listed ws d),
  λ h. all_listed ws xs d positive h.0 h.1,
)

pub returns-clause-once : goal.returns-clause-once
returns-clause-once c = listed_once
