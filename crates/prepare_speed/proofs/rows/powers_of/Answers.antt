use Rattle.std.proofs.Common.{◌≡◌, ◌+◌, ◌<◌, ◌++◌, ◌∷◌, [], length, sym, ◌∙◌, ap, subst, arith}
use Rattle.std.proofs.lemmas.Grind.{common_steps}
use Rattle.std.proofs.lemmas.List.{length_push}
use Rattle.prepare_speed.specs.Prepared.{ArePowers}
use Rattle.prepare_speed.proofs.Powers.{powers_more, power_read}
use Rattle.prepare_speed.proofs.rows.powers_of.Goals as goal

pub loop-k-preserved : goal.loop-k-preserved
loop-k-preserved c =
    let items : c.push-in-loop-k.new.self.items ≡ c.loop-k.powers.items ++ c.in_ok-next.next ∷ [] =
    grind (arith, common_steps) in
    let count = c.loop-k.invariant.count in
    let within : c.loop-k.k < length c.loop-k.powers.items = omega arith in
    let before = power_read c.args.ring c.loop-k.powers.items c.loop-k.k c.index.result.now c.loop-k.invariant.powers
    within c.index.ensures in
    let low = before.0 in
    let one = c.in_ok-variable.ensures.degree ∙ c.requires.weight in
    let degree = c.in_ok-next.ensures.degree in
    let high : c.in_ok-next.next.degree ≡ length c.loop-k.powers.items = omega (arith, low, one, degree) in
    record {
      count = ap length items ∙ length_push c.loop-k.powers.items c.in_ok-next.next ∙ ap (λ n. n + 1) count;
      powers = subst (ArePowers c.args.ring) (sym items) (powers_more c.args.ring c.loop-k.powers.items
          c.in_ok-next.next c.loop-k.invariant.powers high c.in_ok-next.ensures.part);
    }
