use Rattle.std.proofs.Common.{◌≡◌, ℕ, ◌+◌, true, false, List, ◌++◌, take, map, refl, sym, ◌∙◌, ap}
use Rattle.std.specs.Prelude.{codes, decimal}
use Rattle.ps_model.specs.BlockText.{newline, terms_of_degree}
use Rattle.ps_model.specs.StreamText.{unless_none}
use Rattle.parts.specs.Series.{series}
use Rattle.parts.specs.Terms.{entry_of}
use Rattle.printer.specs.Lines.{texts_of, listed}
use Rattle.printer.specs.Texts.{factor_to}
use Rattle.printer.proofs.Pieces.{start, regroup, step, fault, last, done}
use Rattle.printer.proofs.StreamTexts.{lined_none, power_pieces, part_line_is}
use Rattle.printer.proofs.TermTexts.{terms_there}
use Rattle.printer.proofs.ViewTexts.{no_root}
use Rattle.printer.proofs.degree.write_power_line.Goals as goal

abbrev head : ℕ → ℕ → List ℕ
head i power = decimal (i + 1) ++ codes " Y^" ++ decimal power ++ codes ": "

pub returns-then-none : goal.returns-then-none
returns-then-none g c =
    let value = g.V.BlockView.value c.args.view.now in
    let names : List (List ℕ) = g.V.NameView.names c.args.view.now in
    let is = g.met.V.BlockView.lawful c.args.view.now in
    let i = c.args.i in
    let power = c.args.power in
    let r = c.args.r in
    let ts = c.terms-terms.result.now in
    let first : List (List ℕ) = take value.ring.n names in
    let us = texts_of first (map entry_of ts) in
    let text =
    unless_none names (head i power) (terms_of_degree (series value.ring) (factor_to value r i) power r) in
    let line = part_line_is value names is r c.requires.known ts c.part.result.now c.terms-terms.ensures.entries
    c.terms-terms.ensures.order i power (head i power) c.requires.factor (c.requires.power no_root) c.part.ensures in
    done _ (regroup (start _ _ text) (line ∙ lined_none (head i power) us
    (terms_there first ts true (sym c.if-none.true ∙ c.is_empty-none.ensures))))

pub returns-in_err-write_number : goal.returns-in_err-write_number
returns-in_err-write_number g c =
    let value = g.V.BlockView.value c.args.view.now in
    let names : List (List ℕ) = g.V.NameView.names c.args.view.now in
    let is = g.met.V.BlockView.lawful c.args.view.now in
    let i = c.args.i in
    let power = c.args.power in
    let r = c.args.r in
    let ts = c.terms-terms.result.now in
    let first : List (List ℕ) = take value.ring.n names in
    let us = texts_of first (map entry_of ts) in
    let text =
    unless_none names (head i power) (terms_of_degree (series value.ring) (factor_to value r i) power r) in
    let line = part_line_is value names is r c.requires.known ts c.part.result.now c.terms-terms.ensures.entries
    c.terms-terms.ensures.order i power (head i power) c.requires.factor (c.requires.power no_root) c.part.ensures in
    let some = terms_there first ts false (sym c.if-none.false ∙ c.is_empty-none.ensures) in
    fault ((codes " Y^" ++ decimal power) ++ (codes ": " ++ (listed false us ++ newline))) _
    c.in_err-write_number.ensures
    (regroup (start _ _ text) (line ∙ power_pieces i c.from.result power power us us c.from.ensures refl refl some))
    c.from_residual.ensures.0

pub returns-in_err-write_numbered : goal.returns-in_err-write_numbered
returns-in_err-write_numbered g c =
    let value = g.V.BlockView.value c.args.view.now in
    let names : List (List ℕ) = g.V.NameView.names c.args.view.now in
    let is = g.met.V.BlockView.lawful c.args.view.now in
    let i = c.args.i in
    let power = c.args.power in
    let r = c.args.r in
    let ts = c.terms-terms.result.now in
    let first : List (List ℕ) = take value.ring.n names in
    let us = texts_of first (map entry_of ts) in
    let text =
    unless_none names (head i power) (terms_of_degree (series value.ring) (factor_to value r i) power r) in
    let line = part_line_is value names is r c.requires.known ts c.part.result.now c.terms-terms.ensures.entries
    c.terms-terms.ensures.order i power (head i power) c.requires.factor (c.requires.power no_root) c.part.ensures in
    let some = terms_there first ts false (sym c.if-none.false ∙ c.is_empty-none.ensures) in
    let other = c.from-2.result in
    fault (codes ": " ++ (listed false us ++ newline)) _ c.in_err-write_numbered.ensures
    (step ((codes " Y^" ++ decimal other) ++ (codes ": " ++ (listed false us ++ newline))) c.in_ok-write_number.ensures
    (regroup (start _ _ text)
    (line ∙ power_pieces i c.from.result power other us us c.from.ensures c.from-2.ensures refl some)))
    c.from_residual-in_err-write_numbered.ensures.0

pub returns-in_err-put : goal.returns-in_err-put
returns-in_err-put g c =
    let value = g.V.BlockView.value c.args.view.now in
    let names : List (List ℕ) = g.V.NameView.names c.args.view.now in
    let is = g.met.V.BlockView.lawful c.args.view.now in
    let i = c.args.i in
    let power = c.args.power in
    let r = c.args.r in
    let ts = c.terms-terms.result.now in
    let first : List (List ℕ) = take value.ring.n names in
    let us = texts_of first (map entry_of ts) in
    let text =
    unless_none names (head i power) (terms_of_degree (series value.ring) (factor_to value r i) power r) in
    let line = part_line_is value names is r c.requires.known ts c.part.result.now c.terms-terms.ensures.entries
    c.terms-terms.ensures.order i power (head i power) c.requires.factor (c.requires.power no_root) c.part.ensures in
    let some = terms_there first ts false (sym c.if-none.false ∙ c.is_empty-none.ensures) in
    let other = c.from-2.result in
    fault (listed false us ++ newline) _ c.in_err-put.ensures
    (step (codes ": " ++ (listed false us ++ newline)) c.in_ok-write_numbered.ensures
    (step ((codes " Y^" ++ decimal other) ++ (codes ": " ++ (listed false us ++ newline))) c.in_ok-write_number.ensures
    (regroup (start _ _ text)
    (line ∙ power_pieces i c.from.result power other us us c.from.ensures c.from-2.ensures refl some))))
    c.from_residual-in_err-put.ensures.0

pub returns-in_err-write_terms : goal.returns-in_err-write_terms
returns-in_err-write_terms g c =
    let value = g.V.BlockView.value c.args.view.now in
    let names : List (List ℕ) = g.V.NameView.names c.args.view.now in
    let is = g.met.V.BlockView.lawful c.args.view.now in
    let i = c.args.i in
    let power = c.args.power in
    let r = c.args.r in
    let ts = c.terms-terms.result.now in
    let first : List (List ℕ) = take value.ring.n names in
    let us = texts_of first (map entry_of ts) in
    let text =
    unless_none names (head i power) (terms_of_degree (series value.ring) (factor_to value r i) power r) in
    let line = part_line_is value names is r c.requires.known ts c.part.result.now c.terms-terms.ensures.entries
    c.terms-terms.ensures.order i power (head i power) c.requires.factor (c.requires.power no_root) c.part.ensures in
    let some = terms_there first ts false (sym c.if-none.false ∙ c.is_empty-none.ensures) in
    let variables = c.variables_of.result in
    let given : List (List ℕ) = take variables.count (g.V.NameView.names variables.names.now) in
    let first_is : first ≡ given =
    λ l. take (sym c.variables_of.ensures.count l) (g.V.NameView.names (sym c.variables_of.ensures.names l)) in
    let terms = listed false (texts_of given (map entry_of ts)) in
    let same = ap (λ (l : List (List ℕ)). texts_of l (map entry_of ts)) first_is in
    let other = c.from-2.result in
    fault newline _ c.in_err-write_terms.ensures
    (step (terms ++ newline) c.in_ok-put.ensures
    (step (codes ": " ++ (terms ++ newline)) c.in_ok-write_numbered.ensures
    (step ((codes " Y^" ++ decimal other) ++ (codes ": " ++ (terms ++ newline))) c.in_ok-write_number.ensures
    (regroup (start _ _ text) (line ∙ power_pieces i c.from.result power other us (texts_of given (map entry_of ts))
    c.from.ensures c.from-2.ensures same some)))))
    c.from_residual-in_err-write_terms.ensures.0

pub returns : goal.returns
returns g c =
    let value = g.V.BlockView.value c.args.view.now in
    let names : List (List ℕ) = g.V.NameView.names c.args.view.now in
    let is = g.met.V.BlockView.lawful c.args.view.now in
    let i = c.args.i in
    let power = c.args.power in
    let r = c.args.r in
    let ts = c.terms-terms.result.now in
    let first : List (List ℕ) = take value.ring.n names in
    let us = texts_of first (map entry_of ts) in
    let text =
    unless_none names (head i power) (terms_of_degree (series value.ring) (factor_to value r i) power r) in
    let line = part_line_is value names is r c.requires.known ts c.part.result.now c.terms-terms.ensures.entries
    c.terms-terms.ensures.order i power (head i power) c.requires.factor (c.requires.power no_root) c.part.ensures in
    let some = terms_there first ts false (sym c.if-none.false ∙ c.is_empty-none.ensures) in
    let variables = c.variables_of.result in
    let given : List (List ℕ) = take variables.count (g.V.NameView.names variables.names.now) in
    let first_is : first ≡ given =
    λ l. take (sym c.variables_of.ensures.count l) (g.V.NameView.names (sym c.variables_of.ensures.names l)) in
    let terms = listed false (texts_of given (map entry_of ts)) in
    let same = ap (λ (l : List (List ℕ)). texts_of l (map entry_of ts)) first_is in
    let other = c.from-2.result in
    last _ c.put-2.ensures (step newline c.in_ok-write_terms.ensures
    (step (terms ++ newline) c.in_ok-put.ensures
    (step (codes ": " ++ (terms ++ newline)) c.in_ok-write_numbered.ensures
    (step ((codes " Y^" ++ decimal other) ++ (codes ": " ++ (terms ++ newline))) c.in_ok-write_number.ensures
    (regroup (start _ _ text) (line ∙ power_pieces i c.from.result power other us (texts_of given (map entry_of ts))
    c.from.ensures c.from-2.ensures same some))))))
