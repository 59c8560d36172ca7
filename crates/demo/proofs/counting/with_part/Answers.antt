use Rattle.std.proofs.Common.{◌+◌, ◌%◌, length, map, refl, sym, ◌∙◌, ap}
use Rattle.std.specs.Prelude.{sum}
use Rattle.std.proofs.lemmas.List.{length-map}
use Rattle.parts.specs.Terms.{entry_of}
use Rattle.printer.proofs.TermTexts.{terms_are_in}
use Rattle.residue.specs.Residues.{number_of}
use Rattle.demo.proofs.counting.with_part.Goals as goal

pub returns-clause-terms : goal.returns-clause-terms
returns-clause-terms c =
    let ts = c.terms-terms.result.now in
    let part = c.args.part.now in
    ap (λ n. c.args.summary.terms + n) (sym (length-map ts entry_of)
    ∙ ap length (terms_are_in ts part part c.terms-terms.ensures.entries c.terms-terms.ensures.order refl))

pub returns-clause-sum : goal.returns-clause-sum
returns-clause-sum c =
    let ts = c.terms-terms.result.now in
    let part = c.args.part.now in
    c.with_coefficients.ensures.sum
    ∙ ap (λ es. (c.args.summary.sum + sum (map (λ t. t.1) es)) % number_of c.args.modulus)
    (terms_are_in ts part part c.terms-terms.ensures.entries c.terms-terms.ensures.order refl)
