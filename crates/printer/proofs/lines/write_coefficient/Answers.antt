use Rattle.std.proofs.Common.{ℕ, List, take, sym, ◌∙◌, ap}
use Rattle.printer.specs.Lines.{texts_of, has_texts}
use Rattle.printer.specs.Rows.{terms_up_to}
use Rattle.ps_model.specs.BlockText.{terms_text}
use Rattle.printer.proofs.Pieces.{start, regroup, step, fault, done, last}
use Rattle.printer.proofs.TermTexts.{zero_unless, terms_are}
use Rattle.printer.proofs.lines.write_coefficient.Goals as goal

pub returns-in_err-write_degrees : goal.returns-in_err-write_degrees
returns-in_err-write_degrees g c =
    let names : List (List ℕ) = take c.args.variables.now.count (g.N.NameView.names c.args.variables.now.names.now) in
    let ts = terms_up_to (g.C.Coefficients.part_of c.args.coefficients.now c.args.power) c.args.d in
    fault (zero_unless (has_texts (texts_of names ts))) _ c.in_err-write_degrees.ensures.wrote
    (regroup (start _ _ (terms_text names ts)) (terms_are names ts)) c.from_residual.ensures.0

pub returns : goal.returns
returns g c =
    let names : List (List ℕ) = take c.args.variables.now.count (g.N.NameView.names c.args.variables.now.names.now) in
    let ts = terms_up_to (g.C.Coefficients.part_of c.args.coefficients.now c.args.power) c.args.d in
    done _ (regroup (step (zero_unless (has_texts (texts_of names ts))) c.in_ok-write_degrees.ensures.wrote
    (regroup (start _ _ (terms_text names ts)) (terms_are names ts)))
    (ap zero_unless (sym c.in_ok-write_degrees.ensures.some ∙ c.if-not-branch.false)))

pub returns-then-not-branch : goal.returns-then-not-branch
returns-then-not-branch g c =
    let names : List (List ℕ) = take c.args.variables.now.count (g.N.NameView.names c.args.variables.now.names.now) in
    let ts = terms_up_to (g.C.Coefficients.part_of c.args.coefficients.now c.args.power) c.args.d in
    last _ c.put.ensures (regroup (step (zero_unless (has_texts (texts_of names ts)))
    c.in_ok-write_degrees.ensures.wrote (regroup (start _ _ (terms_text names ts)) (terms_are names ts)))
    (ap zero_unless (sym c.in_ok-write_degrees.ensures.some ∙ c.if-not-branch.true)))
