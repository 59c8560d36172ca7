use Rattle.std.proofs.Common.{◌≡◌, ℕ, zero, suc, ◌+◌, ◌-◌, ◌*◌, ◌%◌, ◌<◌, ◌≤◌, ◌⊎◌, inl, inr, true, false, [], ◌∷◌}
use Rattle.std.proofs.Common.{refl}
use Rattle.std.proofs.Common.{sym, ◌∙◌, ap, subst, arith, lit<, lit≤}
use Rattle.ps_model.specs.declared.expr.Expr.TheBlock.{hidden-the_row-Summand-0, shape-the_row-Summand-0}
use Rattle.ps_model.specs.declared.expr.Expr.TheBlock.{hidden-the_row-Factor-1, shape-the_row-Factor-1}
use Rattle.ps_model.specs.declared.expr.Expr.TheBlock.{hidden-the_row-Expr-2}
use denote.Hole.Carrier.{hidden}
use Rattle.std.specs.Prelude.{Some}
use Rattle.std.specs.Int.{IsGcd}
use Rattle.std.proofs.lemmas.Nat.Gcd.{IsGcd-from_zero, IsGcd-from_mod, IsGcd-swap}
use Rattle.ps_model.specs.declared.expr.Expr.{Expr}
use Rattle.ps_model.specs.declared.job.JobData.{JobData}
use Rattle.ps_model.specs.declared.job.Root.{Root}
use Rattle.ps_model.specs.Bounds.{IsUnit}
use Rattle.ps_model.specs.Tree.{has_y}
use Rattle.ps_model.specs.Divisions.{IsByY, Fails}
use Rattle.ps_model.specs.Input.{DividesByY}
use Rattle.ps_model.specs.Job.{job_ring, series_ring, OfInput, IsPairTooNear, IsFault}
use Rattle.ps_model.specs.Examples.{job, root, x, y, over_x_and_y, power_zero_of_quotient, fourth_power_plus_x}
use Rattle.ps_model.proofs.FaultOrder.{one_member, no_division_by_y, first_by_y, first_not_unit, first_not_apart}
use Rattle.ps_model.proofs.AtOrigin.{fails, no_zero, gcd_zero, unit, unit_lead}
use Rattle.ps_model.proofs.examples.first_of_several.Goals as goal

without_y : (d e : Expr) → has_y e ≡ false → d ≡ e → has_y d ≡ true → ⊥
without_y d e none is has = let p : true ≡ false = sym has ∙ ap has_y is ∙ none in absurd (cc)

same : {A : Type 0} (a b : A) → Some a ≡ Some b → b ≡ a
same a b e = cc

second : (k : ℕ) → IsByY over_x_and_y k → 2 ≤ k
unfolding series_ring hidden-the_row-Summand-0 shape-the_row-Summand-0 hidden-the_row-Factor-1 shape-the_row-Factor-1
    hidden-the_row-Expr-2 hidden
second zero (d, (some, at), has) = absurd (omega arith)
second (suc zero) (d, (some, at), has) = absurd (without_y d x refl (same x d at) has)
second (suc (suc k)) h = omega arith

abbrev powered : JobData
powered = job 7 power_zero_of_quotient (root 0 1 ∷ [])

powered_by_y : (k : ℕ) → IsFault powered (OfInput (DividesByY k)) → ⊥
unfolding series_ring hidden-the_row-Summand-0 shape-the_row-Summand-0 hidden-the_row-Factor-1 shape-the_row-Factor-1
    hidden-the_row-Expr-2 hidden
powered_by_y k ((d, (some, at), has), least) = without_y d x refl ((one_member x d (k - 1) at).1) has

-- divisions are counted from 1
positive : (j : JobData) (k : ℕ) → ((c : ℕ) × Fails (job_ring j) j.expr k c) → 1 ≤ k
positive j k (c, (d, (some, at), v, is, at', not_unit)) = omega arith

abbrev four : JobData
four = job 6 fourth_power_plus_x (root 0 1 ∷ root 1 1 ∷ root 5 1 ∷ root 2 1 ∷ [])

no_four : IsUnit 6 4 → ⊥
no_four u = contradiction (u.inverse) (u.inverts)
  where
    contradiction : (e : ℕ) → (4 * e) % 6 ≡ 1 → ⊥
    contradiction e is = omega arith

gcd_four : IsGcd 4 6 2
gcd_four = IsGcd-swap 6 4 2 (IsGcd-from_mod 6 4 2 (IsGcd-from_mod 4 2 2 (IsGcd-from_zero 2 0 refl)))

-- two roots that differ by a unit are no such pair
far : (r s a b : Root) (d : ℕ) → Some r ≡ Some a → Some s ≡ Some b → d ≡ (a.value + (6 - b.value)) % 6
    → (IsUnit 6 d → ⊥) → IsUnit 6 ((r.value + (6 - s.value)) % 6) → ⊥
far r s a b d at at' is not_unit is_unit =
    not_unit (subst (IsUnit 6) (sym (is ∙ λ i. ((same r a at i).value + (6 - (same s b at' i).value)) % 6)) is_unit)

first_pair : (i j d : ℕ) → IsPairTooNear four i j d → (1 < i) ⊎ ((1 ≡ i) × (4 ≤ j))
first_pair zero j d (a, b, some, lt, at, at', is, not_unit) = absurd (omega arith)
first_pair (suc zero) zero d (a, b, some, lt, at, at', is, not_unit) = absurd (omega arith)
first_pair (suc zero) (suc zero) d (a, b, some, lt, at, at', is, not_unit) = absurd (omega arith)
first_pair (suc zero) (suc (suc zero)) d (a, b, some, lt, at, at', is, not_unit) =
    absurd (far (root 0 1) (root 1 1) a b d at at' is not_unit (unit 6 5 5 (lit< tt) refl))
first_pair (suc zero) (suc (suc (suc zero))) d (a, b, some, lt, at, at', is, not_unit) =
    absurd (far (root 0 1) (root 5 1) a b d at at' is not_unit (unit 6 1 1 (lit< tt) refl))
first_pair (suc zero) (suc (suc (suc (suc j)))) d h = inr (refl, omega arith)
first_pair (suc (suc i)) j d h = inl (omega arith)

pub returns : goal.returns
unfolding series_ring hidden-the_row-Summand-0 shape-the_row-Summand-0 hidden-the_row-Factor-1 shape-the_row-Factor-1
    hidden-the_row-Expr-2 hidden
returns c = record {
  by_y = first_by_y (job 7 over_x_and_y (root 0 1 ∷ [])) 2 ((y, (lit< tt, refl), refl), second);
  power_zero = first_not_unit powered powered_by_y (lit≤ tt) (lit≤ tt) 1 0 7
      (let f = fails powered 1 x tt (lit< tt, refl) no_zero in (f, ((0, f), positive powered), gcd_zero));
  pair = first_not_apart four (no_division_by_y four refl) (lit≤ tt) (lit≤ tt) refl
      (unit_lead four tt (unit 6 1 1 (lit< tt) refl)) refl 1 4 4 2 (
        (root 0 1, root 2 1, lit< tt, lit< tt, refl, refl, refl, no_four),
        gcd_four,
        first_pair,
      );
}
