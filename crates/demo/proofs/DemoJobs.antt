-- The job of each number has no fault, so that there is one text of it.
use Rattle.std.proofs.Common.{◌≡◌, ℕ, zero, suc, ◌+◌, ◌*◌, ◌/◌, ◌^◌, ◌<◌, ◌≤◌, List, [], ◌∷◌, refl, sym, ◌∙◌}
use Rattle.std.proofs.Common.{ap, subst, lit<, lit≤, arith}
use Rattle.std.specs.List.{All}
use Rattle.std.proofs.Math.Nat.{mod-lt, mod-eq_of_lt}
use Rattle.ps_model.specs.declared.job.JobData.{JobData}
use Rattle.ps_model.specs.AcceptedJob.{AreWeights, IsAccepted, IsAcceptedRoot}
use Rattle.ps_model.specs.Bounds.{ExactlyOne, IsUnit}
use Rattle.ps_model.specs.Examples.{one_each}
use Rattle.ps_model.specs.Factors.{root_powers, total_times}
use Rattle.ps_model.specs.Job.{DifferAt, IsFactors, IsFault, IsValidJob, LeadNotAUnit, NotApart, job_ring, series_ring}
use Rattle.ps_model.specs.Keys.{y_key}
use Rattle.ps_model.specs.Lead.{lead_in}
use Rattle.ps_model.specs.Polynomial.{coefficient, scaled}
use Rattle.ps_model.specs.SeriesRing.{Poly, SeriesRing, degree, ring}
use Rattle.ps_model.specs.Slices.{y_coefficient}
use Rattle.ps_model.specs.Tree.{formal_degree}
use Rattle.ps_model.specs.Value.{IsValue, variable_key}
use Rattle.ps_model.proofs.FaultOrder.{no_division_by_y, valid}
use Rattle.ps_model.proofs.Images.{scaled_one}
use Rattle.ps_model.proofs.JobFactors.{same_factors}
use Rattle.ps_model.proofs.JobRoots.{accepted_lawful}
use Rattle.ps_model.proofs.JobValues.{lawful_factors}
use Rattle.ps_model.proofs.YCoefficients.{constant-y_coefficient}
use Rattle.demo.specs.DemoText.{IsDemoText, demo_text}
use Rattle.demo.specs.Generator.{degree_of, demo_job, draw, first_of, job_by, prime, roots_by, second_of}
use Rattle.demo.specs.Generator.{state_behind, times_of}
use Rattle.demo.proofs.NearRoots.{no_pair}
use Rattle.demo.proofs.OriginFactors.{top_one, tree_value}
use Rattle.demo.proofs.TermTrees.{degree_is, few, no_division, valid_tree}

-- the ring
abbrev S : SeriesRing
S = series_ring prime one_each

large : 3 ≤ S.modulus
unfolding series_ring
large = lit≤ tt

x_some : 0 < degree S (variable_key S.variables 0)
unfolding series_ring
x_some = lit< tt

y_some : 0 < degree S (variable_key S.variables 1)
unfolding series_ring
y_some = lit< tt

added_up : (k1 k2 k3 k4 : ℕ) → k1 + k2 + k3 + k4 ≡ k1 + (k2 + (k3 + (k4 + 0)))
added_up k1 k2 k3 k4 = omega arith

unit_one : (m : ℕ) → 2 ≤ m → IsUnit m 1
unit_one m h = let low : 1 < m = omega arith in record {
  inverse = 1;
  is_residue = low;
  inverts = mod-eq_of_lt low;
}

module _ (k1 k2 k3 k4 : ℕ) (a b : ℕ → ℕ) where
  abbrev job : JobData
  job = job_by k1 k2 k3 k4 a b

  abbrev powers : Poly S
  powers = root_powers {R = ring S} (roots_by k1 k2 k3 k4)

  same_degree : formal_degree job.expr ≡ total_times job.roots
  same_degree = degree_is k1 k2 k3 k4 a b ∙ added_up k1 k2 k3 k4

  value_is : (v : Poly S) → IsValue S 0 job.expr v → v ≡ powers
  value_is v is = tree_value S x_some y_some k1 k2 k3 k4 large a b v is

  -- the lead's constant term
  lead_one : (v : Poly S) → IsValue S 0 job.expr v
      → coefficient (ring S) (lead_in S job.expr v) (ring S).origin ≡ 1
  lead_one v is = ap (λ d. coefficient (ring S) (y_coefficient (ring S) d v) (ring S).origin) same_degree
      ∙ ap (λ p. coefficient (ring S) (y_coefficient (ring S) (total_times job.roots) p) (ring S).origin)
      (value_is v is)
      ∙ constant-y_coefficient (ring S) (total_times job.roots) powers
      ∙ top_one (ring S) (roots_by k1 k2 k3 k4)

  unit_lead : (v g : ℕ) → IsFault job (LeadNotAUnit v g) → ⊥
  unit_lead v g ((l, (w, is, at), at'), not_unit, gcd) = not_unit (subst (IsUnit S.modulus)
      (sym (at' ∙ ap (λ q. coefficient (ring S) q (ring S).origin) at ∙ lead_one w is))
      (unit_one S.modulus S.at_least_two))

  agrees : (p : ℕ) → DifferAt job p → ⊥
  agrees p (input, roots, (v, is, at, at'), differ) = differ (at
      ∙ ap (λ q. coefficient (ring S) q (y_key S.variables p)) (value_is v is)
      ∙ sym (at' ∙ ap (λ c. coefficient (ring S) (scaled (ring S) c powers) (y_key S.variables p)) (lead_one v is)
      ∙ ap (λ q. coefficient (ring S) q (y_key S.variables p)) (scaled_one (ring S) powers)))

  apart : (i j d g : ℕ) → IsFault job (NotApart i j d g) → ⊥
  apart i j d g (near, gcd, first) = no_pair k1 k2 k3 k4 a b i j d near

  module _ (le1 : k1 ≤ 2) (le2 : k2 ≤ 2) (le3 : k3 ≤ 2) (le4 : k4 ≤ 2) where
    no_fault : IsValidJob job
    no_fault = valid job (no_division_by_y job (no_division k1 k2 k3 k4 a b)) (few k1 k2 k3 k4 a b le1 le2 le3 le4)
        (let same = degree_is k1 k2 k3 k4 a b in omega arith) (no_division k1 k2 k3 k4 a b) unit_lead same_degree apart
        agrees

    module _ (low : (j : ℕ) → a j < 2 ^ 64) (low' : (j : ℕ) → b j < 2 ^ 64) (some1 : 1 ≤ k1) (some2 : 1 ≤ k2)
        (some3 : 1 ≤ k3) (some4 : 1 ≤ k4) where
      accepted_roots : All (IsAcceptedRoot prime) (roots_by k1 k2 k3 k4)
      accepted_roots zero d lt = record { residue = lit< tt; some = some1; few = omega arith }
      accepted_roots (suc zero) d lt = record { residue = lit< tt; some = some2; few = omega arith }
      accepted_roots (suc (suc zero)) d lt = record { residue = lit< tt; some = some3; few = omega arith }
      accepted_roots (suc (suc (suc zero))) d lt = record { residue = lit< tt; some = some4; few = omega arith }
      accepted_roots (suc (suc (suc (suc i)))) d lt = absurd (omega arith)

      accepted_by : IsAccepted job
      accepted_by = record {
        modulus = (lit≤ tt, lit< tt);
        variables = (lit≤ tt, lit≤ tt);
        weights = one_weights;
        tree = valid_tree k1 k2 k3 k4 a b le1 le2 le3 le4 low low' some1;
        some = omega arith;
        roots = accepted_roots;
        valid = no_fault;
      }
        where
          of_two : All {X = ℕ} (λ w. (1 ≤ w) × (w ≤ 64)) (1 ∷ 1 ∷ [])
          of_two zero d lt = (lit≤ tt, lit≤ tt)
          of_two (suc zero) d lt = (lit≤ tt, lit≤ tt)
          of_two (suc (suc i)) d lt = absurd (omega arith)

          of_six : All {X = ℕ} (λ w. w ≡ 1) (1 ∷ 1 ∷ 1 ∷ 1 ∷ 1 ∷ 1 ∷ [])
          of_six zero d lt = refl
          of_six (suc zero) d lt = refl
          of_six (suc (suc zero)) d lt = refl
          of_six (suc (suc (suc zero))) d lt = refl
          of_six (suc (suc (suc (suc zero)))) d lt = refl
          of_six (suc (suc (suc (suc (suc zero))))) d lt = refl
          of_six (suc (suc (suc (suc (suc (suc i)))))) d lt = absurd (omega arith)

          one_weights : AreWeights 2 one_each
          one_weights = record { eight = refl; of_variables = of_two; others = of_six }

-- of a number
module _ (seed : ℕ) where
  times_few : (i : ℕ) → times_of seed i ≤ 2
  times_few i = one_more _ (mod-lt (state_behind seed (suc i) / 2 ^ 33) (lit< tt))
    where
      one_more : (n : ℕ) → n < 2 → 1 + n ≤ 2
      one_more n lt = omega arith

  times_some : (i : ℕ) → 1 ≤ times_of seed i
  times_some i = omega arith

  draw_low : (n : ℕ) → draw seed n prime < 2 ^ 64
  draw_low n = lower _ (mod-lt (state_behind seed (suc n) / 2 ^ 33) (lit< tt))
    where
      lower : (k : ℕ) → k < 1000003 → k < 2 ^ 64
      lower k lt = omega arith

  pub accepted : IsAccepted (demo_job seed)
  accepted = accepted_by (times_of seed 0) (times_of seed 1) (times_of seed 2) (times_of seed 3) (first_of seed)
      (second_of seed) (times_few 0) (times_few 1) (times_few 2) (times_few 3) (λ j. draw_low (4 + 2 * j))
      (λ j. draw_low (5 + 2 * j)) (times_some 0) (times_some 1) (times_some 2) (times_some 3)

  pub job_degree : formal_degree (demo_job seed).expr ≡ degree_of seed
  job_degree = degree_is (times_of seed 0) (times_of seed 1) (times_of seed 2) (times_of seed 3) (first_of seed)
      (second_of seed)

  abbrev text_of : List (Poly (job_ring (demo_job seed))) → List ℕ
  text_of fs = demo_text (job_ring (demo_job seed)) seed (degree_of seed) fs

  -- there is one text
  pub same_text : (fs : List (Poly (job_ring (demo_job seed)))) → IsFactors (demo_job seed) 40 fs → (text : List ℕ)
      → IsDemoText seed text → text ≡ text_of fs
  same_text fs are text is = is.text_is
      ∙ ap text_of (same_factors (demo_job seed) (accepted_lawful (demo_job seed) accepted) 40 is.factors fs
      is.are_factors are)

  pub one_text : ExactlyOne (IsDemoText seed)
  one_text = let one = lawful_factors (demo_job seed) (accepted_lawful (demo_job seed) accepted) 40 in record {
    one_value = text_of one.one_value;
    meets = record { factors = one.one_value; are_factors = one.meets; text_is = refl };
    only = λ text is. same_text one.one_value one.meets text is;
  }
