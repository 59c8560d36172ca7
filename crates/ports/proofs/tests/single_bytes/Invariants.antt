use Rattle.std.proofs.Common.{◌<◌, All, vec_len}
use Rattle.ports.proofs.tests.single_bytes.Given as goal

abbrev pub invariant-loop-byte : goal.invariant-loop-byte
invariant-loop-byte l = All (λ p. 0 < vec_len p) l.pieces.items
