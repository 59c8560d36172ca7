use Rattle.std.proofs.Common.{◌≡◌, ℕ, ◌<◌, ◌≤◌, List, [], ◌∷◌, take, drop, length, arith, refl, sym, ◌∙◌, ap, Option}
use Rattle.std.proofs.Common.{Some, None, get_or, subst, slice_get, rules}
use Rattle.std.proofs.lemmas.List.{length-take-le}
use Rattle.printer.specs.ReadForms.{power_in, IsNamed}
use Rattle.printer.proofs.ReadLoops.{powers_start, powers_more, powers_none, powers_end, first_name, power_fits}
use Rattle.printer.proofs.ReadLoops.{past_names, past_more, gives_none}
use Rattle.printer.proofs.read_pieces.powers.Goals as goal

pub loop-i-init : goal.loop-i-init
loop-i-init g c = record {
  going = powers_start c.args.limit (take c.args.count (g.N.NameView.names c.args.names.now)) c.args.bytes.now
      (0 ∷ 0 ∷ 0 ∷ 0 ∷ 0 ∷ 0 ∷ 0 ∷ 0 ∷ []);
  past = (refl, (refl, (refl, (refl, (refl, (refl, (refl, (refl, tt))))))));
  size = refl;
}

-- the power that is read, by the name among the first
name_read : (limit count i : ℕ) (all : List (List ℕ)) (name bytes rest : List ℕ) (x : Option (ℕ × List ℕ))
    → slice_get all i ≡ Some name → i < count → bytes ≡ name
    → power_in limit bytes rest ≡ x → power_in limit (get_or (take count all) i []) rest ≡ x
name_read limit count i all name bytes rest x is lt same read =
    ap (λ (l : List ℕ). power_in limit l rest) (first_name all count i name is lt ∙ sym same) ∙ read

inside : (count i : ℕ) (all : List (List ℕ)) → count ≤ length all → i < count → i < length (take count all)
inside count i all le lt = omega (arith, length-take-le count all le)

pub returns-in_err-power-clause-read : goal.returns-in_err-power-clause-read
returns-in_err-power-clause-read g c =
    let all = g.N.NameView.names c.args.names.now in
    gives_none _ _ _ c.from_residual.ensures
    (powers_none c.args.limit (take c.args.count all) c.args.bytes.now c.loop-i.i c.loop-i.powers c.loop-i.rest.now
    (inside c.args.count c.loop-i.i all c.requires.named c.loop-i-test.true)
    (name_read c.args.limit c.args.count c.loop-i.i all c.name.result.now c.as_bytes.result.now c.loop-i.rest.now None
    c.name.ensures c.loop-i-test.true c.as_bytes.ensures.value c.in_err-power.ensures) c.loop-i.invariant.going)

pub overflow_cast-powers : goal.overflow_cast-powers
overflow_cast-powers g c =
    omega (
      arith,
      power_fits c.args.limit c.as_bytes.result.now c.loop-i.rest.now c.in_ok-power.power
          c.in_ok-power.behind.now c.requires.small c.in_ok-power.ensures,
    )

pub loop-i-preserved : goal.loop-i-preserved
loop-i-preserved g c =
    let all = g.N.NameView.names c.args.names.now in
    record {
      going = powers_more c.args.limit (take c.args.count all) c.args.bytes.now c.loop-i.i c.loop-i.powers
          c.loop-i.rest.now c.in_ok-power.power c.in_ok-power.behind.now
          (inside c.args.count c.loop-i.i all c.requires.named c.loop-i-test.true)
          (omega (arith, c.loop-i.invariant.size, c.loop-i-test.true, c.requires.few))
          (name_read c.args.limit c.args.count c.loop-i.i all c.name.result.now c.as_bytes.result.now
          c.loop-i.rest.now _ c.name.ensures c.loop-i-test.true c.as_bytes.ensures.value c.in_ok-power.ensures)
          c.loop-i.invariant.going;
      past = past_more c.loop-i.powers c.loop-i.i c.in_ok-power.power
          (omega (arith, c.loop-i.invariant.size, c.loop-i-test.true, c.requires.few)) c.loop-i.invariant.past;
      size = search rules;
    }

at_end : (count i : ℕ) (all : List (List ℕ)) → count ≤ length all → count ≤ i → i ≤ count
    → (length (take count all) ≡ count) × (count ≡ i)
at_end count i all le low high = (length-take-le count all le, omega arith)

pub returns-clause-read : goal.returns-clause-read
returns-clause-read g c =
    let all = g.N.NameView.names c.args.names.now in
    let e = at_end c.args.count c.loop-i.i all c.requires.named c.loop-i-test.false c.loop-i.auto.i-end in
    powers_end c.args.limit (take c.args.count all) c.args.bytes.now c.loop-i.i c.loop-i.powers c.loop-i.rest.now
    (omega (arith, e.0, e.1)) c.loop-i.invariant.going
    ∙ ap (λ (n : ℕ). Some (let q : List ℕ × List ℕ = (take n c.loop-i.powers, c.loop-i.rest.now) in q)) (sym e.1)

pub returns-clause-past : goal.returns-clause-past
returns-clause-past g c =
    let all = g.N.NameView.names c.args.names.now in
    let e = at_end c.args.count c.loop-i.i all c.requires.named c.loop-i-test.false c.loop-i.auto.i-end in
    past_names (take c.args.count all) c.loop-i.powers
    (subst (λ n. IsNamed [] (drop n c.loop-i.powers)) (sym (e.0 ∙ e.1)) c.loop-i.invariant.past)

pub returns-clause-all : goal.returns-clause-all
returns-clause-all g c = c.loop-i.invariant.size
