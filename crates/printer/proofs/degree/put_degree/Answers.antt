use Rattle.std.proofs.Common.{◌≡◌, ℕ, ◌+◌, ◌<◌, ◌≤◌, Bool, true, false, cond, List, ◌++◌, Option, Some, None, length}
use Rattle.std.proofs.Common.{drop}
use Rattle.std.proofs.Common.{get_or, append_assoc, sym, ◌∙◌, ap, arith}
use Rattle.std.specs.Prelude.{codes, decimal}
use Rattle.std.proofs.lemmas.Option.{slice_get-get_or}
use Rattle.ps_model.specs.BlockText.{newline}
use Rattle.ps_model.specs.SeriesRing.{Poly}
use Rattle.ps_model.specs.StreamText.{lead_line, lines_of_all}
use Rattle.parts.specs.Series.{series}
use Rattle.printer.specs.Texts.{factors_to, lead_to, shown_lead, view_degree_text}
use Rattle.printer.proofs.Pieces.{IsLeft, start, regroup, step, fault, done, moved}
use Rattle.printer.proofs.ViewTexts.{no_root, stream_left, stream_end}
use Rattle.printer.proofs.degree.put_degree.Goals as goal
use Rattle.printer.proofs.degree.put_degree.Goals.{then-shown+in_ok-write_lead_line, else-shown}

grouped : (a b c d e : List ℕ) → a ++ b ++ c ++ d ++ e ≡ (a ++ b) ++ (c ++ (d ++ e))
grouped a b c d e = append_assoc (a ++ b ++ c) d e ∙ append_assoc (a ++ b) c (d ++ e)

-- the text, where another number is the degree
pieces : (r number : ℕ) (lead lines : List ℕ) → number ≡ r → codes "degree " ++ decimal r ++ newline ++ lead ++ lines
    ≡ (codes "degree " ++ decimal number) ++ (newline ++ (lead ++ lines))
pieces r number lead lines same = ap (λ k. codes "degree " ++ decimal k ++ newline ++ lead ++ lines) (sym same)
    ∙ grouped (codes "degree ") (decimal number) newline lead lines

pub returns-in_err-write_numbered : goal.returns-in_err-write_numbered
returns-in_err-write_numbered g c =
    let value = g.V.BlockView.value c.args.view.now in
    let names : List (List ℕ) = g.V.NameView.names c.args.view.now in
    let r = c.args.r in
    let S = series value.ring in
    let lead = lead_line S names (shown_lead value r) r in
    let lines = lines_of_all S names r 1 value.roots (factors_to value r) in
    fault (newline ++ (lead ++ lines)) _ c.in_err-write_numbered.ensures
    (regroup (start _ _ (view_degree_text names value r)) (pieces r _ lead lines c.from.ensures))
    c.from_residual.ensures.0

pub returns-in_err-put : goal.returns-in_err-put
returns-in_err-put g c =
    let value = g.V.BlockView.value c.args.view.now in
    let names : List (List ℕ) = g.V.NameView.names c.args.view.now in
    let r = c.args.r in
    let S = series value.ring in
    let lead = lead_line S names (shown_lead value r) r in
    let lines = lines_of_all S names r 1 value.roots (factors_to value r) in
    fault (lead ++ lines) _ c.in_err-put.ensures
    (step (newline ++ (lead ++ lines)) c.in_ok-write_numbered.ensures
    (regroup (start _ _ (view_degree_text names value r)) (pieces r _ lead lines c.from.ensures)))
    c.from_residual-in_err-put.ensures.0

pub returns-in_err-write_lead_line : goal.returns-in_err-write_lead_line
returns-in_err-write_lead_line g c =
    let value = g.V.BlockView.value c.args.view.now in
    let names : List (List ℕ) = g.V.NameView.names c.args.view.now in
    let r = c.args.r in
    let S = series value.ring in
    let lead = lead_line S names (shown_lead value r) r in
    let lines = lines_of_all S names r 1 value.roots (factors_to value r) in
    let shown : shown_lead value r ≡ Some (lead_to value r) =
    ap (λ b. cond b (Some (lead_to value r)) None) (sym c.has_lead-shown.ensures ∙ c.if-shown.true) in
    fault lines _ c.in_err-write_lead_line.ensures
    (regroup (step (lead ++ lines) c.in_ok-put.ensures
    (step (newline ++ (lead ++ lines)) c.in_ok-write_numbered.ensures
    (regroup (start _ _ (view_degree_text names value r)) (pieces r _ lead lines c.from.ensures))))
    (ap (λ (l : Option (Poly S)). lead_line S names l r ++ lines) shown))
    c.from_residual-in_err-write_lead_line.ensures.0

pub loop-i-init : goal.loop-i-init
loop-i-init g c =
    let written = g.K.Sink.written in
    let faults = g.K.Sink.faults in
    let sink = c.args.sink.now in
    let value = g.V.BlockView.value c.args.view.now in
    let names : List (List ℕ) = g.V.NameView.names c.args.view.now in
    let r = c.args.r in
    let S = series value.ring in
    let whole = view_degree_text names value r in
    let lead = lead_line S names (shown_lead value r) r in
    let lines = lines_of_all S names r 1 value.roots (factors_to value r) in
    let shown : (b : Bool) → value.shows_lead ≡ b
    → shown_lead value r ≡ cond b (Some (lead_to value r)) None =
    λ b same. ap (λ b. cond b (Some (lead_to value r)) None) same in
    let behind = λ (l : Option (Poly S)) (same : shown_lead value r ≡ l).
    regroup (step (lead ++ lines) c.in_ok-put.ensures
    (step (newline ++ (lead ++ lines)) c.in_ok-write_numbered.ensures
    (regroup (start _ _ whole) (pieces r _ lead lines c.from.ensures))))
    (ap (λ (l : Option (Poly S)). lead_line S names l r ++ lines) same) in
    elim c.if-shown.branch [
      | then-shown+in_ok-write_lead_line w ↦ moved (λ s b. IsLeft (written sink) (written s) (faults sink)
          (faults s) c.args.buffer.now b whole lines) (sym w.sink-is) (sym w.buffer-is)
          (step lines w.in_ok-write_lead_line.ensures
          (behind (Some (lead_to value r)) (shown true (sym c.has_lead-shown.ensures ∙ w.if-shown.true))))
      | else-shown w ↦ moved (λ s b. IsLeft (written sink) (written s) (faults sink) (faults s)
          c.args.buffer.now b whole lines) (sym w.sink-is) (sym w.buffer-is)
          (behind None (shown false (sym c.has_lead-shown.ensures ∙ w.if-shown.false)))
    ]

pub returns-in_err-write_factor_lines : goal.returns-in_err-write_factor_lines
returns-in_err-write_factor_lines g c =
    let value = g.V.BlockView.value c.args.view.now in
    let names : List (List ℕ) = g.V.NameView.names c.args.view.now in
    let is = g.met.V.BlockView.lawful c.args.view.now in
    let r = c.args.r in
    let i = c.loop-i.i in
    let within : i < length value.roots = omega (arith, c.loop-i-test.true, c.factors-i-end.ensures) in
    let later = lines_of_all (series value.ring) names r (i + 1 + 1) (drop (i + 1) value.roots)
    (drop (i + 1) (factors_to value r)) in
    fault later _
    (c.in_err-write_factor_lines.ensures (get_or value.roots i no_root) (slice_get-get_or value.roots i no_root within))
    (regroup c.loop-i.invariant (stream_left value names is r i within))
    c.from_residual-in_err-write_factor_lines.ensures.0

pub loop-i-preserved : goal.loop-i-preserved
loop-i-preserved g c =
    let value = g.V.BlockView.value c.args.view.now in
    let names : List (List ℕ) = g.V.NameView.names c.args.view.now in
    let is = g.met.V.BlockView.lawful c.args.view.now in
    let r = c.args.r in
    let i = c.loop-i.i in
    let within : i < length value.roots = omega (arith, c.loop-i-test.true, c.factors-i-end.ensures) in
    let later = lines_of_all (series value.ring) names r (i + 1 + 1) (drop (i + 1) value.roots)
    (drop (i + 1) (factors_to value r)) in
    step later
    (c.in_ok-write_factor_lines.ensures (get_or value.roots i no_root) (slice_get-get_or value.roots i no_root within))
    (regroup c.loop-i.invariant (stream_left value names is r i within))

pub returns : goal.returns
returns g c =
    let value = g.V.BlockView.value c.args.view.now in
    let names : List (List ℕ) = g.V.NameView.names c.args.view.now in
    let is = g.met.V.BlockView.lawful c.args.view.now in
    let i = c.loop-i.i in
    let past : length value.roots ≤ i = omega (arith, c.loop-i-test.false, c.factors-i-end.ensures) in
    done _ (regroup c.loop-i.invariant (stream_end value names is c.args.r i past))
