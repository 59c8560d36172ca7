use Rattle.std.proofs.Common.{◌∙◌, ◌-◌, ◌*◌, ◌/◌, ◌^◌, sym, ap, get_or, arith}
use Rattle.std.proofs.lemmas.Nat.{and_mask}
use Rattle.packed_powers.specs.Packed.{PowersValue}
use Rattle.packed_powers.proofs.Digits.{power_at}
use Rattle.packed_powers.proofs.PackedPowers.power.Goals as goal

pub returns : goal.returns
returns c = record {
  power =
      and_mask (c.self.inside.packed / 2 ^ (12 * (7 - c.args.i))) 12
      ∙ sym (power_at c.self.inside.packed c.args.i c.requires)
      ∙ ap (λ (v : PowersValue). get_or v.powers c.args.i 0) c.self.view_is;
  low = omega (arith, and_mask (c.self.inside.packed / 2 ^ (12 * (7 - c.args.i))) 12);
}
