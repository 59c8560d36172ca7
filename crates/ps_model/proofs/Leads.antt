-- Leading numbers of the examples, modulo 7.
use Rattle.std.proofs.Common.{◌≡◌, ℕ, ◌+◌, ◌-◌, ◌*◌, ◌%◌, ◌^◌, ◌<◌, ◌⊎◌, inl, inr, true, false, lit<, refl}
use Rattle.std.proofs.Common.{◌∙◌, ap}
use Rattle.ps_model.specs.declared.expr.Expr.TheBlock.{hidden-the_row-Summand-0, shape-the_row-Summand-0}
use Rattle.ps_model.specs.declared.expr.Expr.TheBlock.{hidden-the_row-Factor-1, shape-the_row-Factor-1}
use Rattle.ps_model.specs.declared.expr.Expr.TheBlock.{hidden-the_row-Expr-2}
use denote.Hole.Carrier.{hidden}
use Rattle.ps_model.specs.Keys.{y_key}
use Rattle.ps_model.specs.Polynomial.{polynomial}
use Rattle.ps_model.specs.SeriesRing.{ring}
use Rattle.ps_model.specs.Value.{HasLead}
use Rattle.ps_model.specs.Job.{series_ring}
use Rattle.ps_model.specs.Examples.{ring_modulo}
use Rattle.ps_model.specs.Examples.{number, quadratic, two_y_squared, vanishing_cube, y_over_series, halved}
use Rattle.ps_model.proofs.Coefficients.{coefficient-polynomial}
use Rattle.ps_model.proofs.Evaluated.{evaluated, is_value}

pub quadratic_lead : HasLead (ring_modulo 7) quadratic 1
unfolding series_ring hidden-the_row-Summand-0 shape-the_row-Summand-0 hidden-the_row-Factor-1 shape-the_row-Factor-1
    hidden-the_row-Expr-2 hidden
quadratic_lead = (1, 0, inr (lit< tt, 1, refl, refl), refl, refl)

pub two_lead : HasLead (ring_modulo 7) two_y_squared 2
unfolding series_ring hidden-the_row-Factor-1 shape-the_row-Factor-1 hidden-the_row-Expr-2 hidden
two_lead = (2, 1, refl, (1, 1, inr (lit< tt, 1, refl, refl), refl, refl), refl)

-- the leading number of a power of Y is 1
of_power : (e a : ℕ) → ((e ≡ 0) × (a ≡ 1)) ⊎ ((0 < e) × (b : ℕ) × (b ≡ 1) × (a ≡ b ^ e % 7)) → 1 ^ e % 7 ≡ 1 → a ≡ 1
of_power e a h is = elim h [ inl p ↦ p.1 | inr p ↦ p.3 ∙ ap (λ b. b ^ e % 7) p.2 ∙ is ]

pub not_one : HasLead (ring_modulo 7) two_y_squared 1 → ⊥
unfolding series_ring hidden-the_row-Factor-1 shape-the_row-Factor-1 hidden-the_row-Expr-2 hidden
not_one (a, others, two, (b, others', square, end, at'), at) = contradiction at
    (at' ∙ λ i. (of_power 2 b square refl i * end i) % 7)
  where
    contradiction : 1 ≡ (a * others) % 7 → others ≡ 1 → ⊥
    contradiction p q = let e : ◌≡◌ {A = ℕ} 1 2 = p ∙ λ i. (two i * q i) % 7 in absurd (cc)

pub vanishing : HasLead (ring_modulo 7) vanishing_cube 0
unfolding series_ring hidden-the_row-Summand-0 shape-the_row-Summand-0 hidden-the_row-Expr-2 hidden
vanishing = (1, 6, inr (lit< tt, 1, refl, refl), (1, 0, inr (lit< tt, 1, refl, refl), refl, refl), refl)

pub vanishes : HasLead (ring_modulo 7) vanishing_cube 1 → ⊥
unfolding series_ring hidden-the_row-Summand-0 shape-the_row-Summand-0 hidden-the_row-Expr-2 hidden
vanishes (a, others, cube, (b, others', cube', end, at'), at) =
    let e : ◌≡◌ {A = ℕ} 1 0 = at ∙ (λ i. (of_power 3 a cube refl i + rest i) % 7) in absurd (cc)
  where
    rest : others ≡ 6
    rest = at' ∙ λ i. ((7 - of_power 3 b cube' refl i) + end i) % 7

pub unknown : (l : ℕ) → HasLead (ring_modulo 7) y_over_series l → ⊥
unfolding hidden-the_row-Summand-0 shape-the_row-Summand-0 hidden-the_row-Factor-1 shape-the_row-Factor-1 hidden
unknown l (a, others, first, (b, others', (plain, v, is, small, inverts), end, at'), at) = no plain
  where
    no : false ≡ true → ⊥
    no e = cc

pub halved_lead : HasLead (ring_modulo 7) halved 1
unfolding series_ring hidden-the_row-Summand-0 shape-the_row-Summand-0 hidden-the_row-Factor-1 shape-the_row-Factor-1
    hidden-the_row-Expr-2 hidden
halved_lead = (
  2,
  4,
  (2, 0, two_lead, refl, refl),
  (
    4,
    1,
    (
      refl,
      polynomial (ring (ring_modulo 7)) (evaluated (ring_modulo 7) 0 (number 2)),
      is_value (ring_modulo 7) 0 (number 2) tt,
      lit< tt,
      ap (λ c. (c * 4) % 7) (coefficient-polynomial (ring (ring_modulo 7)) (evaluated (ring_modulo 7) 0 (number 2))
          (y_key (ring_modulo 7).variables 0)),
    ),
    refl,
    refl,
  ),
  refl,
)
