use Rattle.std.proofs.Common.{◌≤◌, arith}
use Rattle.std.proofs.lemmas.List.Elements.{All-replicate}
use Rattle.parts.specs.Rings.{weights_of}
use Rattle.parts.proofs.Singles.{constant_key}
use Rattle.parts.proofs.homogeneous.Part.constant.Goals as goal

pub single-requires-clause-key : goal.single-requires-clause-key
single-requires-clause-key c = constant_key (weights_of c.args.ring)

pub single-requires-clause-low : goal.single-requires-clause-low
single-requires-clause-low c = All-replicate (λ p. p ≤ 4095) 8 0 (omega arith)
