use Rattle.std.proofs.Common.{◌%◌, ◌∷◌, [], ◌∙◌, ap, sym, subst}
use Rattle.parts.specs.Keys.{key_from}
use Rattle.parts.specs.Rings.{weights_of}
use Rattle.parts.specs.Terms.{IsKeyOf}
use Rattle.parts.specs.TermLists.{IsTotal}
use Rattle.parts.proofs.Built.{total_is}
use Rattle.parts.proofs.Singles.{single_pushed}
use Rattle.parts.proofs.homogeneous.single.Goals as goal

pub of_terms-requires : goal.of_terms-requires
of_terms-requires c =
    (single_pushed c.args.ring c.args.degree _ c.args.c c.new-terms.result.items c.push_nonzero.new.terms.items
    c.new-terms.ensures.items c.in_ok-push_nonzero.ensures (subst (λ l. IsKeyOf (weights_of c.args.ring) c.args.degree
    (key_from l)) (sym c.of_powers.ensures) c.requires.key)
    (c.reduce.ensures ∙ ap (λ m. c.args.c % m) c.modulus.ensures)).terms

pub returns-clause-map : goal.returns-clause-map
returns-clause-map c = c.of_terms.ensures.map ∙
    total_is c.args.ring c.args.degree ((key_from c.args.powers, c.args.c) ∷ []) c.push_nonzero.new.terms.items
    (subst (λ l. IsTotal c.args.ring c.args.degree ((key_from l, c.args.c) ∷ []) c.push_nonzero.new.terms.items)
    c.of_powers.ensures
    (single_pushed c.args.ring c.args.degree _ c.args.c c.new-terms.result.items c.push_nonzero.new.terms.items
    c.new-terms.ensures.items c.in_ok-push_nonzero.ensures (subst (λ l. IsKeyOf (weights_of c.args.ring) c.args.degree
    (key_from l)) (sym c.of_powers.ensures) c.requires.key)
    (c.reduce.ensures ∙ ap (λ m. c.args.c % m) c.modulus.ensures)))
