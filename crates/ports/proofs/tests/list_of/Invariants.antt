use Rattle.std.proofs.Common.{◌<◌, All, vec_len}
use Rattle.ports.proofs.tests.list_of.Given as goal

abbrev pub invariant-loop-text : goal.invariant-loop-text
invariant-loop-text l = All (λ p. 0 < vec_len p) l.pieces.items
