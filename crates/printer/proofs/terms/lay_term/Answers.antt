use Rattle.std.proofs.Common.{◌≡◌, ◌<◌, ◌≤◌, ℕ, ◌+◌, List, ◌++◌, take, drop, sym, ◌∙◌, ap, append_assoc, arith}
use Rattle.std.proofs.lemmas.List.{append-nil}
use Rattle.std.specs.Prelude.{decimal}
use Rattle.ps_model.specs.BlockText.{power_text, powers_text}
use Rattle.ps_model.specs.Keys.{numbers}
use Rattle.parts.specs.Terms.{key_of, powers_in}
use Rattle.printer.proofs.TermTexts.{power_left, none_left, name_short}
use Rattle.printer.proofs.terms.lay_term.Goals as goal

pub loop-i-init : goal.loop-i-init
loop-i-init g c =
    let names : List (List ℕ) = take c.args.variables.now.count (g.N.NameView.names c.args.variables.now.names.now) in
    let powers = powers_text names (numbers 8 (key_of c.args.term.now.monomial).powers) in (
      ap (λ (l : List ℕ). l ++ powers) c.append_number.ensures.text
          ∙ append_assoc c.args.buffer.now (decimal c.args.term.now.coefficient) powers,
      omega arith,
    )

pub lay_power-requires-clause-short : goal.lay_power-requires-clause-short
lay_power-requires-clause-short g c =
    let names = c.args.variables.now.names.now in
    name_short (g.N.NameView.names names) c.loop-i.i c.name.result.now (g.N.NameView.are_names names) c.name.ensures

pub loop-i-preserved : goal.loop-i-preserved
loop-i-preserved g c =
    let all : List (List ℕ) = g.N.NameView.names c.args.variables.now.names.now in
    let count = c.args.variables.now.count in
    let few : count ≤ 8 = c.args.variables.now.few in
    let i = c.loop-i.i in
    let test : i < count = c.loop-i-test.true in
    let monomial = c.args.term.now.monomial in
    let later = powers_text (drop (i + 1) (take count all)) (drop (i + 1) (numbers 8 (key_of monomial).powers)) in (
      ap (λ (l : List ℕ). l ++ later) c.lay_power.ensures.text
          ∙ append_assoc c.loop-i.buffer (power_text c.name.result.now c.power.result) later
          ∙ ap (λ (l : List ℕ). c.loop-i.buffer ++ l) (sym (power_left 8 all count i c.power.result c.name.result.now
          (powers_in monomial) test (omega arith) c.name.ensures c.power.ensures))
          ∙ c.loop-i.invariant.0,
      omega arith,
    )

pub returns : goal.returns
returns g c =
    let all : List (List ℕ) = g.N.NameView.names c.args.variables.now.names.now in
    let count = c.args.variables.now.count in
    let i = c.loop-i.i in
    let monomial = c.args.term.now.monomial in
    let end : i ≡ count = omega arith in
    sym (append-nil c.loop-i.buffer) ∙ ap (λ (l : List ℕ). c.loop-i.buffer ++ l)
    (sym (ap (λ k. powers_text (drop k (take count all)) (drop i (numbers 8 (key_of monomial).powers))) end
    ∙ none_left all count (drop i (numbers 8 (key_of monomial).powers)))) ∙ c.loop-i.invariant.0
