use Rattle.std.proofs.Common.{◌≡◌, ℕ, ◌+◌, Bool, true, false, ◌||◌, List, take, map, refl, sym, ◌∙◌, ap}
use Rattle.std.proofs.Common.{arith}
use Rattle.parts.specs.Terms.{entry_of}
use Rattle.printer.specs.Lines.{texts_of, listed, has_texts}
use Rattle.printer.proofs.Pieces.{start, regroup, step, fault, done}
use Rattle.printer.proofs.DegreeTexts.{IsRowFrom, whole, texts_from, all_from, none_from, degree_left, behind_more}
use Rattle.printer.proofs.TermTexts.{terms_there, terms_are_in}
use Rattle.printer.proofs.lines.write_degrees.Goals as goal
use Rattle.printer.proofs.lines.write_degrees.Goals.{then-not-is_empty, else-not-is_empty, Joined-not-is_empty}
use Rattle.printer.proofs.lines.write_degrees.Given.{Over}

pub loop-r-init : goal.loop-r-init
loop-r-init g c =
    let names : List (List ℕ) = take c.args.variables.now.count (g.N.NameView.names c.args.variables.now.names.now) in
    let part = g.C.Coefficients.part_of c.args.coefficients.now c.args.power in
    record {
      left = regroup (start _ _ (listed false (whole names part c.args.d)))
          (ap (listed false) (sym (all_from names part c.args.d)));
      behind = ap has_texts (sym (all_from names part c.args.d));
    }

pub returns-in_err-write_terms-clause-wrote : goal.returns-in_err-write_terms-clause-wrote
returns-in_err-write_terms-clause-wrote g c =
    let names : List (List ℕ) = take c.args.variables.now.count (g.N.NameView.names c.args.variables.now.names.now) in
    let part = g.C.Coefficients.part_of c.args.coefficients.now c.args.power in
    let r = c.loop-r.r in
    let us = texts_of names (map entry_of c.terms-terms.result.now) in
    fault (listed (c.loop-r.some || has_texts us) (texts_from names part c.args.d (r + 1))) _
    c.in_err-write_terms.ensures
    (regroup c.loop-r.invariant.left (degree_left names part c.args.d r c.loop-r.some us c.loop-r.auto.r-end
    (ap (texts_of names) (terms_are_in c.terms-terms.result.now c.part.result.now _ c.terms-terms.ensures.entries
    c.terms-terms.ensures.order c.part.ensures))))
    c.from_residual.ensures.0

-- the terms of one more degree
one_more : (g : Over) (c : Joined-not-is_empty g)
    → let names : List (List ℕ) = take c.args.variables.now.count (g.N.NameView.names c.args.variables.now.names.now) in
    IsRowFrom names (g.C.Coefficients.part_of c.args.coefficients.now c.args.power) c.args.d
    (g.K.Sink.written c.args.sink.now) (g.K.Sink.written c.write_terms.new.sink) (g.K.Sink.faults c.args.sink.now)
    (g.K.Sink.faults c.write_terms.new.sink) c.args.buffer.now
    c.write_terms.new.buffer (c.loop-r.r + 1) c.if-not-is_empty.some
one_more g c =
    let names : List (List ℕ) = take c.args.variables.now.count (g.N.NameView.names c.args.variables.now.names.now) in
    let part = g.C.Coefficients.part_of c.args.coefficients.now c.args.power in
    let r = c.loop-r.r in
    let ts = c.terms-terms.result.now in
    let us = texts_of names (map entry_of ts) in
    let later = texts_from names part c.args.d (r + 1) in
    let same = ap (texts_of names) (terms_are_in ts c.part.result.now _ c.terms-terms.ensures.entries
    c.terms-terms.ensures.order c.part.ensures) in
    let told : c.if-not-is_empty.some ≡ c.loop-r.some || has_texts us = elim c.if-not-is_empty.branch [
      | then-not-is_empty w ↦ w.some-is ∙ sym (ap (λ b. c.loop-r.some || b)
          (terms_there names ts false (sym w.if-not-is_empty.true ∙ c.is_empty.ensures)) ∙ or_true c.loop-r.some)
      | else-not-is_empty w ↦ w.some-is ∙ sym (ap (λ b. c.loop-r.some || b)
          (terms_there names ts true (sym w.if-not-is_empty.false ∙ c.is_empty.ensures)) ∙ or_false c.loop-r.some)
    ] in
    record {
      left = regroup (step (listed (c.loop-r.some || has_texts us) later) c.in_ok-write_terms.ensures
          (regroup c.loop-r.invariant.left (degree_left names part c.args.d r c.loop-r.some us c.loop-r.auto.r-end
          same)))
          (ap (λ b. listed b later) (sym told));
      behind = behind_more names part c.args.d r c.loop-r.some c.if-not-is_empty.some us c.loop-r.auto.r-end same told
          c.loop-r.invariant.behind;
    }
  where
    or_true : (b : Bool) → b || true ≡ true
    or_true true = refl
    or_true false = refl

    or_false : (b : Bool) → b || false ≡ b
    or_false true = refl
    or_false false = refl

pub loop-r-preserved : goal.loop-r-preserved
loop-r-preserved g c = one_more g (goal.at.loop-r-preserved g c).Joined-not-is_empty

pub returns-after-not-is_empty : goal.returns-after-not-is_empty
returns-after-not-is_empty g c =
    let names : List (List ℕ) = take c.args.variables.now.count (g.N.NameView.names c.args.variables.now.names.now) in
    let part = g.C.Coefficients.part_of c.args.coefficients.now c.args.power in
    let row = one_more g (goal.at.returns-after-not-is_empty g c).Joined-not-is_empty in
    let none = none_from names part c.args.d (c.loop-r.r + 1) (omega arith) in
    record {
      wrote = done _ (regroup row.left (ap (listed c.if-not-is_empty.some) none));
      some = sym (row.behind ∙ ap (λ ts. c.if-not-is_empty.some || has_texts ts) none ∙ last_or c.if-not-is_empty.some);
    }
  where
    last_or : (b : Bool) → b || false ≡ b
    last_or true = refl
    last_or false = refl
