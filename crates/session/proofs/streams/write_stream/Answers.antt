use Rattle.std.proofs.Common.{◌≡◌, ℕ, ◌+◌, ◌≤◌, List, ◌++◌, append_assoc, ◌∙◌, ap, arith}
use Rattle.std.specs.Prelude.{codes, decimal}
use Rattle.ps_model.specs.BlockText.{newline}
use Rattle.printer.specs.Texts.{view_degree_text}
use Rattle.printer.proofs.Pieces.{start, regroup, step, fault, last}
use Rattle.session.specs.ViewTexts.{texts_up_to, view_stream_text}
use Rattle.session.proofs.Pieces.{held_none, wrote_all}
use Rattle.session.proofs.StreamSteps.{lower_known, left_from, all_left, next_left, none_left, in_pieces}
use Rattle.session.proofs.streams.write_stream.Goals as goal

abbrev first_line : ℕ → List ℕ
first_line d = codes "stream " ++ decimal d ++ newline

abbrev end_line : List ℕ
end_line = codes "end" ++ newline

-- the rest behind the degrees from r on
next_piece : (text : ℕ → List ℕ) (d r : ℕ) → r ≤ d
    → left_from text d r ++ end_line ≡ text r ++ (left_from text d (r + 1) ++ end_line)
next_piece text d r le = ap (λ (l : List ℕ). l ++ end_line) (next_left text d r le)
    ∙ append_assoc (text r) (left_from text d (r + 1)) end_line

pub returns-in_err-write_first_line : goal.returns-in_err-write_first_line
returns-in_err-write_first_line g c =
    let value = g.V.BlockView.value c.args.view.now in
    let names : List (List ℕ) = g.V.NameView.names c.args.view.now in
    let d = c.args.d in
    let texts = texts_up_to (view_degree_text names value) d in
    wrote_all _ (fault (texts ++ end_line) _ (held_none c.in_err-write_first_line.ensures)
    (regroup (start _ _ (view_stream_text names value d)) (in_pieces (first_line d) texts (codes "end") newline))
    c.from_residual.ensures.0)

pub loop-r-init : goal.loop-r-init
loop-r-init g c =
    let value = g.V.BlockView.value c.args.view.now in
    let names : List (List ℕ) = g.V.NameView.names c.args.view.now in
    let d = c.args.d in
    let text : ℕ → List ℕ = view_degree_text names value in
    step (left_from text d 0 ++ end_line) (held_none c.in_ok-write_first_line.ensures)
    (regroup (start _ _ (view_stream_text names value d))
    (in_pieces (first_line d) (texts_up_to text d) (codes "end") newline
    ∙ ap (λ (l : List ℕ). first_line d ++ (l ++ end_line)) (all_left text d)))

pub write_degree-requires : goal.write_degree-requires
write_degree-requires g c = lower_known (g.V.BlockView.value c.args.view.now) c.loop-r.r c.args.d
    (let low = c.loop-r-test.true in omega arith) c.requires.known

pub returns-in_err-write_degree : goal.returns-in_err-write_degree
returns-in_err-write_degree g c =
    let value = g.V.BlockView.value c.args.view.now in
    let names : List (List ℕ) = g.V.NameView.names c.args.view.now in
    let d = c.args.d in
    let r = c.loop-r.r in
    let text : ℕ → List ℕ = view_degree_text names value in
    wrote_all _ (fault (left_from text d (r + 1) ++ end_line) _ (held_none c.in_err-write_degree.ensures)
    (regroup c.loop-r.invariant (next_piece text d r (let low = c.loop-r-test.true in omega arith)))
    c.from_residual-in_err-write_degree.ensures.0)

pub loop-r-preserved : goal.loop-r-preserved
loop-r-preserved g c =
    let value = g.V.BlockView.value c.args.view.now in
    let names : List (List ℕ) = g.V.NameView.names c.args.view.now in
    let d = c.args.d in
    let r = c.loop-r.r in
    let text : ℕ → List ℕ = view_degree_text names value in
    step (left_from text d (r + 1) ++ end_line) (held_none c.in_ok-write_degree.ensures)
    (regroup c.loop-r.invariant (next_piece text d r (let low = c.loop-r-test.true in omega arith)))

pub returns : goal.returns
returns g c =
    let value = g.V.BlockView.value c.args.view.now in
    let names : List (List ℕ) = g.V.NameView.names c.args.view.now in
    let d = c.args.d in
    let text : ℕ → List ℕ = view_degree_text names value in
    wrote_all _ (last _ (held_none c.put.ensures) (regroup c.loop-r.invariant (ap (λ (l : List ℕ). l ++ end_line)
    (none_left text d c.loop-r.r (let past = c.loop-r-test.false in omega arith)))))
