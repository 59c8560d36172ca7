use Rattle.std.proofs.Common.{◌≡◌, ℕ, true, false, List, ◌++◌, Some, take, map, sym, ◌∙◌, ap}
use Rattle.std.specs.Prelude.{codes}
use Rattle.ps_model.specs.BlockText.{newline}
use Rattle.ps_model.specs.StreamText.{lead_line}
use Rattle.parts.specs.Series.{series}
use Rattle.parts.specs.Terms.{entry_of}
use Rattle.printer.specs.Lines.{texts_of, listed}
use Rattle.printer.specs.Texts.{lead_to}
use Rattle.printer.proofs.Pieces.{start, regroup, step, fault, last, done}
use Rattle.printer.proofs.StreamTexts.{lined_none, lined_some, lead_line_is}
use Rattle.printer.proofs.TermTexts.{terms_there}
use Rattle.printer.proofs.degree.write_lead_line.Goals as goal

pub returns-then-is_empty : goal.returns-then-is_empty
returns-then-is_empty g c =
    let value = g.V.BlockView.value c.args.view.now in
    let names : List (List ℕ) = g.V.NameView.names c.args.view.now in
    let is = g.met.V.BlockView.lawful c.args.view.now in
    let ts = c.terms-terms.result.now in
    let first : List (List ℕ) = take value.ring.n names in
    let us = texts_of first (map entry_of ts) in
    done _ (regroup (start _ _ (lead_line (series value.ring) names (Some (lead_to value c.args.r)) c.args.r))
    (lead_line_is value names is c.args.r c.requires ts c.lead_part.result.now c.terms-terms.ensures.entries
    c.terms-terms.ensures.order c.lead_part.ensures
    ∙ lined_none (codes "lead: ") us (terms_there first ts true (sym c.if-is_empty.true ∙ c.is_empty.ensures))))

pub returns-in_err-put : goal.returns-in_err-put
returns-in_err-put g c =
    let value = g.V.BlockView.value c.args.view.now in
    let names : List (List ℕ) = g.V.NameView.names c.args.view.now in
    let is = g.met.V.BlockView.lawful c.args.view.now in
    let ts = c.terms-terms.result.now in
    let first : List (List ℕ) = take value.ring.n names in
    let us = texts_of first (map entry_of ts) in
    fault (listed false us ++ newline) _ c.in_err-put.ensures
    (regroup (start _ _ (lead_line (series value.ring) names (Some (lead_to value c.args.r)) c.args.r))
    (lead_line_is value names is c.args.r c.requires ts c.lead_part.result.now c.terms-terms.ensures.entries
    c.terms-terms.ensures.order c.lead_part.ensures
    ∙ lined_some (codes "lead: ") us (terms_there first ts false (sym c.if-is_empty.false ∙ c.is_empty.ensures))))
    c.from_residual.ensures.0

pub returns-in_err-write_terms : goal.returns-in_err-write_terms
returns-in_err-write_terms g c =
    let value = g.V.BlockView.value c.args.view.now in
    let names : List (List ℕ) = g.V.NameView.names c.args.view.now in
    let is = g.met.V.BlockView.lawful c.args.view.now in
    let ts = c.terms-terms.result.now in
    let first : List (List ℕ) = take value.ring.n names in
    let us = texts_of first (map entry_of ts) in
    let variables = c.variables_of.result in
    let given : List (List ℕ) = take variables.count (g.V.NameView.names variables.names.now) in
    let first_is : first ≡ given =
    λ i. take (sym c.variables_of.ensures.count i) (g.V.NameView.names (sym c.variables_of.ensures.names i)) in
    let terms = listed false (texts_of given (map entry_of ts)) in
    fault newline _ c.in_err-write_terms.ensures (step (terms ++ newline) c.in_ok-put.ensures
    (regroup (start _ _ (lead_line (series value.ring) names (Some (lead_to value c.args.r)) c.args.r))
    (lead_line_is value names is c.args.r c.requires ts c.lead_part.result.now c.terms-terms.ensures.entries
    c.terms-terms.ensures.order c.lead_part.ensures
    ∙ lined_some (codes "lead: ") us (terms_there first ts false (sym c.if-is_empty.false ∙ c.is_empty.ensures))
    ∙ ap (λ (l : List (List ℕ)). codes "lead: " ++ (listed false (texts_of l (map entry_of ts)) ++ newline)) first_is)))
    c.from_residual-in_err-write_terms.ensures.0

pub returns : goal.returns
returns g c =
    let value = g.V.BlockView.value c.args.view.now in
    let names : List (List ℕ) = g.V.NameView.names c.args.view.now in
    let is = g.met.V.BlockView.lawful c.args.view.now in
    let ts = c.terms-terms.result.now in
    let first : List (List ℕ) = take value.ring.n names in
    let us = texts_of first (map entry_of ts) in
    let variables = c.variables_of.result in
    let given : List (List ℕ) = take variables.count (g.V.NameView.names variables.names.now) in
    let first_is : first ≡ given =
    λ i. take (sym c.variables_of.ensures.count i) (g.V.NameView.names (sym c.variables_of.ensures.names i)) in
    let terms = listed false (texts_of given (map entry_of ts)) in
    last _ c.put-2.ensures (step newline c.in_ok-write_terms.ensures (step (terms ++ newline) c.in_ok-put.ensures
    (regroup (start _ _ (lead_line (series value.ring) names (Some (lead_to value c.args.r)) c.args.r))
    (lead_line_is value names is c.args.r c.requires ts c.lead_part.result.now c.terms-terms.ensures.entries
    c.terms-terms.ensures.order c.lead_part.ensures
    ∙ lined_some (codes "lead: ") us (terms_there first ts false (sym c.if-is_empty.false ∙ c.is_empty.ensures))
    ∙ ap (λ (l : List (List ℕ)). codes "lead: " ++ (listed false (texts_of l (map entry_of ts)) ++ newline))
    first_is))))
