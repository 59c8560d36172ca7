use Rattle.std.proofs.Common.{◌≡◌, ◌∙◌, ◌+◌, ◌-◌, min, sym, ap, arith}
use Rattle.ps_model.specs.Tree.{power_nodes}
use Rattle.ps_model.proofs.Caps.{nodes_of_power-positive}
use Rattle.ps_model.proofs.shape.power_nodes.Goals as goal

pub returns : goal.returns
returns c =
    let last : c.loop-i.i - 1 ≡ c.args.exponent = omega arith in
    c.loop-i.invariant.same ∙ ap (λ e. min (c.args.nodes + power_nodes c.from-degree.result e) 4294967295) last
    ∙ ap (λ d. min (c.args.nodes + power_nodes d c.args.exponent) 4294967295) c.from-degree.ensures
    ∙ ap (λ n. min n 4294967295) (sym (nodes_of_power-positive c.args.nodes c.args.degree c.args.exponent
    (omega arith)))
