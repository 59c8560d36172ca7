use Rattle.std.proofs.Common.{◌*◌, ◌%◌, ◌<◌, ◌∙◌, ap, subst, sym, arith, rules}
use Rattle.std.proofs.Math.Nat.{mod-lt}
use Rattle.std.specs.Int.{IsGcd}
use Rattle.std.proofs.lemmas.Nat.Gcd.{IsGcd-from_zero, IsGcd-from_mod, same_from_IsGcd}
use Rattle.residue.proofs.Arithmetic.{next_multiplier}
use Rattle.residue.proofs.Modulus.inverse.Goals as goal

pub loop-next-preserved : goal.loop-next-preserved
loop-next-preserved c = record {
  s_below = c.loop-next.invariant.t_below;
  t_below = subst (λ n. n < c.args.self.now.value) (sym c.sub-difference.ensures)
      (mod-lt _ (let two = c.args.self.now.low in omega arith));
  some = omega arith;
  at_s = c.loop-next.invariant.at_t;
  at_t = ap (λ n. (c.args.a * n) % c.args.self.now.value) c.sub-difference.ensures
      ∙ next_multiplier c.args.self.now.value c.args.a c.loop-next.r c.loop-next.next c.loop-next.s c.loop-next.t
      c.mul-multiple.result (let two = c.args.self.now.low in omega arith)
      (subst (λ n. n < c.args.self.now.value) (sym c.mul-multiple.ensures)
      (mod-lt _ (let two = c.args.self.now.low in omega arith)))
      (c.mul-multiple.ensures ∙ ap (λ n. (n * c.loop-next.t) % c.args.self.now.value) c.reduce.ensures)
      c.loop-next.invariant.at_s c.loop-next.invariant.at_t;
  same_gcd = λ g h. c.loop-next.invariant.same_gcd g (IsGcd-from_mod _ _ g h);
}

pub returns-then-r-eq1-clause-coprime : goal.returns-then-r-eq1-clause-coprime
returns-then-r-eq1-clause-coprime c = (
  λ _. subst (λ g. IsGcd c.args.a c.args.self.now.value g) c.if-r-eq1.true
      (c.loop-next.invariant.same_gcd _ (IsGcd-from_zero _ _ (omega arith))),
  λ _. search rules,
)

pub returns-else-r-eq1-clause-coprime : goal.returns-else-r-eq1-clause-coprime
returns-else-r-eq1-clause-coprime c = (
  λ ok. absurd (cc),
  λ one. absurd
      (c.if-r-eq1.false (same_from_IsGcd _ _ _ _
      (c.loop-next.invariant.same_gcd _ (IsGcd-from_zero _ _ (omega arith))) one)),
)

pub returns-else-r-eq1-clause-divisor : goal.returns-else-r-eq1-clause-divisor
returns-else-r-eq1-clause-divisor c = c.loop-next.invariant.same_gcd _ (IsGcd-from_zero _ _ (omega arith))
