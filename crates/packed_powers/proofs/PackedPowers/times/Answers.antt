use Rattle.packed_powers.proofs.Sums.{sum_fits, sum_at}
use Rattle.packed_powers.proofs.PackedPowers.times.Goals as goal

pub invariant_of-result : goal.invariant_of-result
invariant_of-result c = sum_fits c.self.inside.packed c.other.inside.packed c.args.self.now.powers
    c.args.other.now.powers (λ i. (c.self.view_is i).powers) (λ i. (c.other.view_is i).powers) c.self.invariant
    c.other.invariant c.requires

pub returns : goal.returns
returns c = λ i lt. sum_at c.self.inside.packed c.other.inside.packed c.args.self.now.powers
    c.args.other.now.powers (λ j. (c.self.view_is j).powers) (λ j. (c.other.view_is j).powers) c.self.invariant
    c.other.invariant c.requires i
