use Rattle.std.proofs.Common.{◌≡◌, ℕ, ◌+◌, ◌<◌, ◌≤◌, Bool, true, false, cond, List, ◌++◌, Option, Some, None, length}
use Rattle.std.proofs.Common.{drop}
use Rattle.std.proofs.Common.{get_or, append_assoc, sym, ◌∙◌, ap, arith}
use Rattle.std.specs.Prelude.{codes, decimal}
use Rattle.std.proofs.lemmas.Option.{slice_get-get_or}
use Rattle.ps_model.specs.BlockText.{newline, factor_texts, lead_text}
use Rattle.ps_model.specs.SeriesRing.{Poly}
use Rattle.parts.specs.Series.{series}
use Rattle.printer.specs.Texts.{factors_to, lead_to, shown_lead, view_text}
use Rattle.printer.proofs.Pieces.{IsLeft, start, regroup, step, fault, done, moved}
use Rattle.printer.proofs.ViewTexts.{no_root, block_left, block_end}
use Rattle.printer.proofs.block.put_block.Goals as goal
use Rattle.printer.proofs.block.put_block.Goals.{then-shown+in_ok-write_lead, else-shown}

abbrev precision : ℕ → List ℕ
precision d = codes "precision " ++ decimal d ++ newline

pub returns-in_err-write_precision : goal.returns-in_err-write_precision
returns-in_err-write_precision g c =
    let value = g.V.BlockView.value c.args.view.now in
    let names : List (List ℕ) = g.V.NameView.names c.args.view.now in
    let d = c.args.d in
    let S = series value.ring in
    let lead = lead_text S names d (shown_lead value d) in
    let factors = factor_texts S names d 1 value.roots (factors_to value d) in
    fault (lead ++ factors) _ c.in_err-write_precision.ensures
    (regroup (start _ _ (view_text names value d)) (append_assoc (precision d) lead factors))
    c.from_residual.ensures.0

pub returns-in_err-write_lead : goal.returns-in_err-write_lead
returns-in_err-write_lead g c =
    let value = g.V.BlockView.value c.args.view.now in
    let names : List (List ℕ) = g.V.NameView.names c.args.view.now in
    let d = c.args.d in
    let S = series value.ring in
    let lead = lead_text S names d (shown_lead value d) in
    let factors = factor_texts S names d 1 value.roots (factors_to value d) in
    let shown : shown_lead value d ≡ Some (lead_to value d) =
    ap (λ b. cond b (Some (lead_to value d)) None) (sym c.has_lead-shown.ensures ∙ c.if-shown.true) in
    fault factors _ c.in_err-write_lead.ensures
    (step (lead_text S names d (Some (lead_to value d)) ++ factors) c.in_ok-write_precision.ensures
    (regroup (start _ _ (view_text names value d)) (append_assoc (precision d) lead factors
    ∙ ap (λ (l : List ℕ). precision d ++ (l ++ factors)) (ap (lead_text S names d) shown))))
    c.from_residual-in_err-write_lead.ensures.0

pub loop-i-init : goal.loop-i-init
loop-i-init g c =
    let written = g.K.Sink.written in
    let faults = g.K.Sink.faults in
    let sink = c.args.sink.now in
    let value = g.V.BlockView.value c.args.view.now in
    let names : List (List ℕ) = g.V.NameView.names c.args.view.now in
    let d = c.args.d in
    let S = series value.ring in
    let whole = view_text names value d in
    let factors = factor_texts S names d 1 value.roots (factors_to value d) in
    let shown : (b : Bool) → value.shows_lead ≡ b
    → shown_lead value d ≡ cond b (Some (lead_to value d)) None =
    λ b same. ap (λ b. cond b (Some (lead_to value d)) None) same in
    let behind = λ (lead : Option (Poly S)) (same : shown_lead value d ≡ lead).
    step (lead_text S names d lead ++ factors) c.in_ok-write_precision.ensures
    (regroup (start _ _ whole) (append_assoc (precision d) (lead_text S names d (shown_lead value d)) factors
    ∙ ap (λ (l : List ℕ). precision d ++ (l ++ factors)) (ap (lead_text S names d) same))) in
    elim c.if-shown.branch [
      | then-shown+in_ok-write_lead w ↦ moved (λ s b. IsLeft (written sink) (written s) (faults sink)
          (faults s) c.args.buffer.now b whole factors) (sym w.sink-is) (sym w.buffer-is)
          (step factors w.in_ok-write_lead.ensures
          (behind (Some (lead_to value d)) (shown true (sym c.has_lead-shown.ensures ∙ w.if-shown.true))))
      | else-shown w ↦ moved (λ s b. IsLeft (written sink) (written s) (faults sink) (faults s)
          c.args.buffer.now b whole factors) (sym w.sink-is) (sym w.buffer-is)
          (behind None (shown false (sym c.has_lead-shown.ensures ∙ w.if-shown.false)))
    ]

pub returns-in_err-write_factor : goal.returns-in_err-write_factor
returns-in_err-write_factor g c =
    let value = g.V.BlockView.value c.args.view.now in
    let names : List (List ℕ) = g.V.NameView.names c.args.view.now in
    let is = g.met.V.BlockView.lawful c.args.view.now in
    let d = c.args.d in
    let i = c.loop-i.i in
    let within : i < length value.roots = omega (arith, c.loop-i-test.true, c.factors-i-end.ensures) in
    fault (factor_texts (series value.ring) names d (i + 1 + 1) (drop (i + 1) value.roots)
    (drop (i + 1) (factors_to value d)))
    _ (c.in_err-write_factor.ensures (get_or value.roots i no_root) (slice_get-get_or value.roots i no_root within))
    (regroup c.loop-i.invariant (block_left value names is d i within))
    c.from_residual-in_err-write_factor.ensures.0

pub loop-i-preserved : goal.loop-i-preserved
loop-i-preserved g c =
    let value = g.V.BlockView.value c.args.view.now in
    let names : List (List ℕ) = g.V.NameView.names c.args.view.now in
    let is = g.met.V.BlockView.lawful c.args.view.now in
    let d = c.args.d in
    let i = c.loop-i.i in
    let within : i < length value.roots = omega (arith, c.loop-i-test.true, c.factors-i-end.ensures) in
    step (factor_texts (series value.ring) names d (i + 1 + 1) (drop (i + 1) value.roots)
    (drop (i + 1) (factors_to value d)))
    (c.in_ok-write_factor.ensures (get_or value.roots i no_root) (slice_get-get_or value.roots i no_root within))
    (regroup c.loop-i.invariant (block_left value names is d i within))

pub returns : goal.returns
returns g c =
    let value = g.V.BlockView.value c.args.view.now in
    let names : List (List ℕ) = g.V.NameView.names c.args.view.now in
    let is = g.met.V.BlockView.lawful c.args.view.now in
    let i = c.loop-i.i in
    let past : length value.roots ≤ i = omega (arith, c.loop-i-test.false, c.factors-i-end.ensures) in
    done _ (regroup c.loop-i.invariant (block_end value names is c.args.d i past))
