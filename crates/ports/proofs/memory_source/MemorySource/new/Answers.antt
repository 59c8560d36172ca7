use Rattle.std.proofs.Common.{◌<◌, length, get_or, arith}
use Rattle.std.proofs.lemmas.List.Elements.{All-map}
use Rattle.ports.proofs.SupplyLemmas.{IsPlace-start}
use Rattle.ports.proofs.memory_source.MemorySource.new.Goals as goal

pub invariant_of-result : goal.invariant_of-result
invariant_of-result c =
    IsPlace-start _ (All-map (λ p. 0 < length p) _ _ (λ k d h.
    omega (arith, c.requires k d h, (get_or c.args.pieces.items k d).ok.0)))
