use Rattle.std.proofs.Common.{◌≡◌, ◌≤◌, ◌+◌, ◌*◌, ◌++◌, ℕ, List, length, take, drop}
use Rattle.ps_model.specs.BlockText.{powers_text, term_text}
use Rattle.ps_model.specs.Keys.{numbers}
use Rattle.parts.specs.Terms.{entry_of, key_of}
use Rattle.printer.proofs.terms.lay_term.Given as goal

abbrev pub invariant-loop-i : goal.invariant-loop-i
invariant-loop-i g l =
    let names : List (List ℕ) = take l.variables.count (g.N.NameView.names l.variables.names.now) in
    (l.buffer ++ powers_text (drop l.i names) (drop l.i (numbers 8 (key_of l.term.monomial).powers))
    ≡ l.fn.buffer ++ term_text names (entry_of l.term)) × (length l.buffer ≤ 720 + 38 * l.i)
