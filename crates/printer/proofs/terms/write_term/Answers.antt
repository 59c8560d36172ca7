use Rattle.std.proofs.Common.{ℕ, List, [], ◌++◌, take, sym}
use Rattle.std.proofs.lemmas.List.{append-nil}
use Rattle.ps_model.specs.BlockText.{term_text}
use Rattle.parts.specs.Terms.{entry_of}
use Rattle.printer.specs.Lines.{sign}
use Rattle.printer.proofs.Pieces.{start, regroup, lay, step, fault, done}
use Rattle.printer.proofs.terms.write_term.Goals as goal

pub returns-in_err-make_room : goal.returns-in_err-make_room
returns-in_err-make_room g c =
    let names : List (List ℕ) = take c.args.variables.now.count (g.N.NameView.names c.args.variables.now.names.now) in
    let text = sign c.args.behind ++ term_text names (entry_of c.args.term.now) in
    fault text _ c.in_err-make_room.ensures.sent (start _ _ text) c.from_residual.ensures.0

pub returns : goal.returns
returns g c =
    let names : List (List ℕ) = take c.args.variables.now.count (g.N.NameView.names c.args.variables.now.names.now) in
    let term = term_text names (entry_of c.args.term.now) in
    let text = sign c.args.behind ++ term in
    done _ (lay term [] c.lay_term.ensures (regroup (lay (sign c.args.behind) term c.lay_sign.ensures.text
    (step text c.in_ok-make_room.ensures.sent (start _ _ text))) (sym (append-nil term))))
