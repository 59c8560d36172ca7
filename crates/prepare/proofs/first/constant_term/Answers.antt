use Rattle.std.proofs.Common.{◌%◌, sym, ◌∙◌, ap}
use Rattle.ps_model.specs.FiniteMaps.{value_at}
use Rattle.ps_model.specs.Keys.{key_compare}
use Rattle.parts.specs.Keys.{key_from}
use Rattle.parts.specs.Rings.{modulus_of}
use Rattle.parts.proofs.Polynomials.{constant_is}
use Rattle.prepare.proofs.first.constant_term.Goals as goal

pub returns-clause-constant : goal.returns-clause-constant
returns-clause-constant c = c.reduce.ensures ∙ ap (λ n. c.coefficient.result % n) c.modulus.ensures
    ∙ ap (λ n. n % modulus_of c.args.ring) (c.coefficient.ensures
    ∙ ap (λ xs. value_at (key_compare 8) c.args.part.now.map (key_from xs)) c.of-origin.ensures)
    ∙ sym (constant_is c.args.ring c.args.part.now)
