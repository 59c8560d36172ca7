use Rattle.std.proofs.Common.{◌≡◌, ℕ, List, ◌++◌, Some, take, sym, ◌∙◌, ap}
use Rattle.std.specs.Prelude.{codes}
use Rattle.ps_model.specs.BlockText.{newline, terms_text, lead_text}
use Rattle.parts.specs.RowsOfParts.{part_in}
use Rattle.parts.specs.Series.{series}
use Rattle.printer.specs.Rows.{terms_up_to}
use Rattle.printer.specs.Texts.{lead_to}
use Rattle.printer.proofs.Pieces.{start, regroup, step, fault, last}
use Rattle.printer.proofs.ViewTexts.{lead_pieces}
use Rattle.printer.proofs.block.write_lead.Goals as goal

pub returns-in_err-put : goal.returns-in_err-put
returns-in_err-put g c =
    let value = g.V.BlockView.value c.args.view.now in
    let names : List (List ℕ) = g.V.NameView.names c.args.view.now in
    let is = g.met.V.BlockView.lawful c.args.view.now in
    let text = terms_text (take value.ring.n names) (terms_up_to (part_in value.lead) c.args.d) in
    fault (text ++ newline) _ c.in_err-put.ensures
    (regroup (start _ _ (lead_text (series value.ring) names c.args.d (Some (lead_to value c.args.d))))
    (lead_pieces value names is c.args.d c.requires)) c.from_residual.ensures.0

pub returns-in_err-write_coefficient : goal.returns-in_err-write_coefficient
returns-in_err-write_coefficient g c =
    let value = g.V.BlockView.value c.args.view.now in
    let names : List (List ℕ) = g.V.NameView.names c.args.view.now in
    let is = g.met.V.BlockView.lawful c.args.view.now in
    let variables = c.variables_of.result in
    let first : List (List ℕ) = take variables.count (g.V.NameView.names variables.names.now) in
    let same : take value.ring.n names ≡ first =
    λ i. take (sym c.variables_of.ensures.count i) (g.V.NameView.names (sym c.variables_of.ensures.names i)) in
    let text = terms_text first (terms_up_to (part_in value.lead) c.args.d) in
    fault newline _ c.in_err-write_coefficient.ensures (step (text ++ newline) c.in_ok-put.ensures
    (regroup (start _ _ (lead_text (series value.ring) names c.args.d (Some (lead_to value c.args.d))))
    (lead_pieces value names is c.args.d c.requires ∙ ap (λ (l : List (List ℕ)). codes "lead: "
    ++ (terms_text l (terms_up_to (part_in value.lead) c.args.d) ++ newline)) same)))
    c.from_residual-in_err-write_coefficient.ensures.0

pub returns : goal.returns
returns g c =
    let value = g.V.BlockView.value c.args.view.now in
    let names : List (List ℕ) = g.V.NameView.names c.args.view.now in
    let is = g.met.V.BlockView.lawful c.args.view.now in
    let variables = c.variables_of.result in
    let first : List (List ℕ) = take variables.count (g.V.NameView.names variables.names.now) in
    let same : take value.ring.n names ≡ first =
    λ i. take (sym c.variables_of.ensures.count i) (g.V.NameView.names (sym c.variables_of.ensures.names i)) in
    let text = terms_text first (terms_up_to (part_in value.lead) c.args.d) in
    last _ c.put-2.ensures (step newline c.in_ok-write_coefficient.ensures (step (text ++ newline) c.in_ok-put.ensures
    (regroup (start _ _ (lead_text (series value.ring) names c.args.d (Some (lead_to value c.args.d))))
    (lead_pieces value names is c.args.d c.requires ∙ ap (λ (l : List (List ℕ)). codes "lead: "
    ++ (terms_text l (terms_up_to (part_in value.lead) c.args.d) ++ newline)) same))))
