use Rattle.std.proofs.Common.{◌≡◌, ◌+◌, ◌*◌, ◌%◌, ◌^◌, ◌∙◌}
use Rattle.residue.proofs.Sums.{split_residue}
use Rattle.residue.proofs.exact.Exact.residue.Goals as goal

pub returns : goal.returns
returns c =
    (λ i. (c.args.self.high % m_is i * 2 ^ 64 + c.from.ensures i) % m_is i) ∙
    split_residue c.args.modulus.value c.args.self.low c.args.self.high
  where
    m_is : c.from-m.result ≡ c.args.modulus.value
    m_is = c.from-m.ensures ∙ c.value.ensures.number
