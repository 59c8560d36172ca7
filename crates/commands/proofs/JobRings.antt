-- A job has one ring.
use Rattle.std.proofs.Common.{◌≡◌, ℕ, ◌^◌, ◌<◌, ◌≤◌, ◌↔◌, Bool, true, false, IsTrue, List, length, take, drop, sym}
use Rattle.std.proofs.Common.{◌∙◌, subst, arith}
use Rattle.std.proofs.Common.{refl, get_or}
use Rattle.std.proofs.lemmas.List.{take-append-drop}
use Rattle.std.proofs.lemmas.List.Elements.{All-append}
use Rattle.std.specs.List.{All}
use Rattle.std.specs.Coded.{le_prop}
use Rattle.std.proofs.Math.Nat.{ℕ_set}
use mathlib.Core.HLevel.{Σ_prop_path}
use Rattle.residue.specs.declared.Modulus.{Modulus}
use Rattle.ps_model.specs.AcceptedJob.{IsAccepted}
use Rattle.ps_model.specs.declared.job.JobData.{JobData}
use Rattle.parts.specs.JobRows.{IsRingOf}
use Rattle.parts.specs.declared.rings.Ring.{Ring}
use Rattle.commands.specs.Judging.{IsSeen}

one_modulus : (m n : Modulus) → m.value ≡ n.value → m ≡ n
one_modulus m n e =
    let pairs : ◌≡◌ {A = (v : ℕ) × ((2 ≤ v) × (v < 2 ^ 63))} (m.value, (m.low, m.high)) (n.value, (n.low, n.high)) =
    Σ_prop_path (λ v. hlevel le_prop) e in
    λ i. record { value = (pairs i).0; low = (pairs i).1.0; high = (pairs i).1.1 }

-- what is known of the numbers of a ring
record IsRing (d : Modulus × ℕ × List ℕ) : Type 0 where
  some : 1 ≤ d.1
  few : d.1 ≤ 8
  positive : All (λ w. 0 < w) d.2
  light : All (λ w. w ≤ 64) d.2
  past : All (λ w. w ≡ 1) (drop d.1 d.2)
  many : length d.2 ≡ 8

IsRing-IsProp : (d : Modulus × ℕ × List ℕ) → IsProp (IsRing d)
IsRing-IsProp d = hlevel (le_prop, ℕ_set)

abbrev facts : (r : Ring) → IsRing (r.modulus, r.n, r.weights)
facts r = record {
  some = r.some;
  few = r.few;
  positive = r.positive;
  light = r.light;
  past = r.past;
  many = r.many;
}

pub one_ring : (job : JobData) (ring other : Ring) → IsRingOf ring job → IsRingOf other job → ring ≡ other
one_ring job ring other is is' =
    let modulus = one_modulus ring.modulus other.modulus (is.0 ∙ sym is'.0) in
    let n = is.1 ∙ sym is'.1 in
    let weights = is.2 ∙ sym is'.2 in
    let pairs : ◌≡◌ {A = (d : Modulus × ℕ × List ℕ) × IsRing d} ((ring.modulus, ring.n, ring.weights), facts ring)
    ((other.modulus, other.n, other.weights), facts other) =
    Σ_prop_path IsRing-IsProp (λ i. (modulus i, n i, weights i)) in
    λ i. record {
      modulus = (pairs i).0.0;
      n = (pairs i).0.1;
      weights = (pairs i).0.2;
      some = (pairs i).1.some;
      few = (pairs i).1.few;
      positive = (pairs i).1.positive;
      light = (pairs i).1.light;
      past = (pairs i).1.past;
      many = (pairs i).1.many;
    }

pub no_truth : false ≡ true → ⊥
no_truth e = cc

-- whether the lead is shown is one truth
one_truth : (a b : Bool) {P : Type 0} → IsTrue a ↔ P → IsTrue b ↔ P → a ≡ b
one_truth true true p q = refl
one_truth false false p q = refl
one_truth true false p q = absurd (no_truth (q.1 (p.0 refl)))
one_truth false true p q = absurd (no_truth (p.1 (q.0 refl)))

pub one_seen : (job : JobData) (ring other : Ring) (shown also : Bool) → IsSeen job ring shown → IsSeen job other also
    → (ring ≡ other) × (shown ≡ also)
one_seen job ring other shown also is is' =
    (one_ring job ring other is.ring_is is'.ring_is, one_truth shown also is.shown_is is'.shown_is)

-- weights from 1 to 64, and others that are 1
all_weights : (P : ℕ → Type 0) (n : ℕ) (ws : List ℕ) → ((w : ℕ) → (1 ≤ w) × (w ≤ 64) → P w)
    → All (λ w. (1 ≤ w) × (w ≤ 64)) (take n ws) → All (λ w. w ≡ 1) (drop n ws) → All P ws
all_weights P n ws holds first others =
    subst (All P) (take-append-drop n ws)
    (All-append P (take n ws) (drop n ws) (λ i d lt. holds (get_or (take n ws) i d) (first i d lt))
    (λ i d lt. holds (get_or (drop n ws) i d) (one (get_or (drop n ws) i d) (others i d lt))))
  where
    one : (w : ℕ) → w ≡ 1 → (1 ≤ w) × (w ≤ 64)
    one w is = (omega arith, omega arith)

-- an accepted job has one
pub ring_of : (job : JobData) → IsAccepted job → (ring : Ring) × IsRingOf ring job
ring_of job ok = (
  record {
    modulus = record { value = job.modulus; low = ok.modulus.0; high = ok.modulus.1 };
    n = job.n;
    weights = job.weights;
    some = ok.variables.0;
    few = ok.variables.1;
    positive = all_weights (λ w. 0 < w) job.n job.weights (λ w is. let low = is.0 in omega arith)
        ok.weights.of_variables ok.weights.others;
    light = all_weights (λ w. w ≤ 64) job.n job.weights (λ w is. is.1) ok.weights.of_variables ok.weights.others;
    past = ok.weights.others;
    many = ok.weights.eight;
  },
  (refl, refl, refl),
)
