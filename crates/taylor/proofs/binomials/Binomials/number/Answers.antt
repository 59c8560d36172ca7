use Rattle.std.proofs.Common.{◌≡◌, ◌+◌, ◌%◌, ◌∙◌, ap, arith}
use Rattle.std.proofs.lemmas.Grind.{get_or_default_zero}
use Rattle.residue.specs.Residues.{number_of}
use Rattle.ps_model.specs.Shift.{binomial}
use Rattle.taylor.specs.Binomials.{IsBinomialRow}
use Rattle.taylor.proofs.Triangles.{row_of}
use Rattle.taylor.proofs.binomials.Binomials.number.Goals as goal

pub index-requires-2 : goal.index-requires-2
index-requires-2 c =
    let size : c.self.inside.size ≡ c.args.self.now.size = ap (λ t. t.size) c.self.view_is in
    let row : IsBinomialRow (number_of c.self.inside.modulus) c.args.j c.index.result.now.items =
    row_of _ (c.self.inside.size + 1) c.args.j (λ r. r.items) c.self.inside.rows.items c.index.result.now
    c.self.invariant (omega arith) c.index.ensures in
    omega (arith, row.places)

pub returns : goal.returns
returns c =
    let size : c.self.inside.size ≡ c.args.self.now.size = ap (λ t. t.size) c.self.view_is in
    let row : IsBinomialRow (number_of c.self.inside.modulus) c.args.j c.index.result.now.items =
    row_of _ (c.self.inside.size + 1) c.args.j (λ r. r.items) c.self.inside.rows.items c.index.result.now
    c.self.invariant (omega arith) c.index.ensures in
    c.index-2.ensures
    ∙ get_or_default_zero c.index.result.now.items c.args.i c.index-2.result.now (omega (arith, row.places))
    ∙ row.number c.args.i ∙ ap (λ t. binomial c.args.j c.args.i % t.modulus) c.self.view_is
