-- Degrees below one that may be asked for.
use Rattle.std.proofs.Common.{ℕ, ◌≤◌, List, arith}
use Rattle.parts.specs.JobRows.{IsPermitted}
use Rattle.parts.proofs.Counted.{count-lower}

-- a degree below one that is permitted is permitted
pub permitted_lower : (ws : List ℕ) (r to : ℕ) → r ≤ to → IsPermitted ws to → IsPermitted ws r
permitted_lower ws r to le (few, small) = (omega arith, omega (arith, count-lower ws r to le, small))
