use Rattle.std.proofs.Common.{◌≡◌, ℕ, ◌-◌, ◌+◌, ◌%◌, ◌∙◌, ◌++◌, ◌∷◌, [], ap, sym, arith, length, drop, get_or, map}
use Rattle.std.proofs.Common.{cond, is_ok, not}
use Rattle.std.specs.Prelude.{Some, None}
use Rattle.std.specs.Option.{option_map}
use Rattle.parts.specs.Places.{powers_at}
use Rattle.parts.specs.Keys.{key_from}
use Rattle.parts.specs.Terms.{entry_of, finished, key_at, kept_entry}
use Rattle.parts.proofs.LowPowers.{filled_low}
use Rattle.parts.proofs.Finished.{none_kept, kept-zero, kept_push}
use Rattle.parts.proofs.places.collect_terms.Goals as goal
use Rattle.parts.proofs.places.collect_terms.Goals.{then-coefficient-ne0+then-fill_powers+else-is_err}
use Rattle.parts.proofs.places.collect_terms.Goals.{then-coefficient-ne0+else-fill_powers, else-coefficient-ne0}

pub of_powers-requires : goal.of_powers-requires
of_powers-requires c = filled_low c.args.degree c.args.weights.now c.fill_powers.new.powers
    (length c.args.cells.now - 1 - c.loop-k.k) (length c.args.weights.now) c.requires.positive (omega arith)
    (c.fill_powers.ensures ∙ ap (λ b. cond b (Some c.fill_powers.new.powers) None) c.if-fill_powers.true)

pub loop-k-preserved : goal.loop-k-preserved
loop-k-preserved c = elim c.if-coefficient-ne0.branch [
  | then-coefficient-ne0+then-fill_powers+else-is_err w ↦ ap (λ v. map entry_of v.items) w.terms-is ∙
      kept_push c.args.modulus.value (key_at c.args.degree c.args.weights.now) c.args.cells.now at
      c.loop-k.terms.items w.push.new.self.items w.fill_powers.new.powers (length c.args.weights.now)
      c.reduce_wide-coefficient.result (is_ok w.push.result)
      (omega arith) (omega arith) (w.push.ensures.items ∙ ap (λ l. cond (is_ok w.push.result) (c.loop-k.terms.items ++
      record {
        monomial = record { powers = l };
        coefficient = c.reduce_wide-coefficient.result;
      } ∷ []) c.loop-k.terms.items) w.of_powers.ensures) (w.is_err.ensures.negation ∙ ap not w.if-is_err.false)
      (ap (option_map key_from) (ap (powers_at c.args.degree c.args.weights.now c.args.degree) (sym here) ∙
      w.fill_powers.ensures ∙ ap (λ b. cond b (Some w.fill_powers.new.powers) None) w.if-fill_powers.true))
      taken w.if-coefficient-ne0.true so_far
  | then-coefficient-ne0+else-fill_powers w ↦ ap (λ v. map entry_of v.items) w.terms-is ∙ so_far ∙
      none_kept c.args.modulus.value (key_at c.args.degree c.args.weights.now) c.args.cells.now at (omega arith)
      (ap (λ o. kept_entry (option_map key_from o) (get_or c.args.cells.now at 0 % c.args.modulus.value))
      (ap (powers_at c.args.degree c.args.weights.now c.args.degree) (sym here) ∙ w.fill_powers.ensures ∙
      ap (λ b. cond b (Some w.fill_powers.new.powers) None) w.if-fill_powers.false))
  | else-coefficient-ne0 w ↦ ap (λ v. map entry_of v.items) w.terms-is ∙ so_far ∙
      none_kept c.args.modulus.value (key_at c.args.degree c.args.weights.now) c.args.cells.now at (omega arith)
      (kept-zero (key_at c.args.degree c.args.weights.now at) _
      (sym taken ∙ w.if-coefficient-ne0.false))
]
  where
    at : ℕ
    at = length c.args.cells.now - (c.loop-k.k + 1)

    here : length c.args.cells.now - 1 - c.loop-k.k ≡ at
    here = omega arith

    taken : c.reduce_wide-coefficient.result ≡ get_or c.args.cells.now at 0 % c.args.modulus.value
    taken = c.reduce_wide-coefficient.ensures ∙ (λ i. get_or c.args.cells.now (here i) 0 % c.args.modulus.value)

    so_far : map entry_of c.loop-k.terms.items ≡
        finished c.args.modulus.value (key_at c.args.degree c.args.weights.now) (at + 1)
        (drop (at + 1) c.args.cells.now)
    so_far = c.loop-k.invariant ∙
        ap (λ j. finished c.args.modulus.value (key_at c.args.degree c.args.weights.now) j
        (drop j c.args.cells.now)) (let e : length c.args.cells.now - c.loop-k.k ≡ at + 1 = omega arith in e)
