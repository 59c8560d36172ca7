-- Each job with a well-formed tree has a first fault or is valid.
use Rattle.std.proofs.Common.{◌≡◌, ◌≢◌, ℕ, suc, ◌+◌, ◌-◌, ◌*◌, ◌%◌, ◌<◌, ◌≤◌, ◌⊎◌, inl, inr, List, [], ◌∷◌, length}
use Rattle.std.proofs.Common.{refl, sym, ◌∙◌, ap, subst, arith}
use Rattle.std.specs.Prelude.{slice_get, Some}
use Rattle.std.proofs.lemmas.Bool.{cases_lt}
use Rattle.std.proofs.lemmas.Bool.Decides.{eqb_tells}
use Rattle.std.proofs.lemmas.Option.{slice_get_within}
use Rattle.ps_model.specs.declared.job.JobData.{JobData}
use Rattle.ps_model.specs.declared.job.Root.{Root}
use Rattle.ps_model.specs.Bounds.{HasNoPowerAbove, IsUnit, ExactlyOne}
use Rattle.ps_model.specs.Factors.{root_powers, total_times}
use Rattle.ps_model.specs.Input.{InputFault, IsFirstInputFault, IsValidInput, IsLeast, input_order, told_count}
use Rattle.ps_model.specs.Job.{Fault, OfInput, LeadNotAUnit, DegreeMismatch, NotApart, RootsMismatch, order, job_ring}
use Rattle.ps_model.specs.Job.{IsFault, IsFirstFault, IsPairTooNear, AreAtOrigin, DifferAt, IsValidJob}
use Rattle.ps_model.specs.Keys.{y_key}
use Rattle.ps_model.specs.Lead.{lead_in}
use Rattle.ps_model.specs.Polynomial.{coefficient, one, scaled}
use Rattle.ps_model.specs.Ring.{Ring}
use Rattle.ps_model.specs.SeriesRing.{SeriesRing, ring, Poly}
use Rattle.ps_model.specs.Shift.{linear}
use Rattle.ps_model.specs.Tree.{formal_degree, IsValidTree}
use Rattle.ps_model.specs.Value.{variable, IsValue}
use Rattle.ps_model.proofs.InputValues.{small_degree, valid_value}
use Rattle.ps_model.proofs.Origin.{coefficient-above}
use Rattle.ps_model.proofs.PowerBounds.{truncated-monomial, power_bound-more, power_bound-sum, power_bound-product}
use Rattle.ps_model.proofs.PowerBounds.{power_bound-power}
use Rattle.ps_model.proofs.SlicesShifted.{coefficient-scaled}
use Rattle.ps_model.proofs.TreeLeads.{value_powers}
use Rattle.ps_model.proofs.TreeValues.{variable_flat}
use Rattle.ps_model.proofs.UnitsDecided.{unit_decided, gcd_exists}
use Rattle.intake.proofs.JobFaults.{lead_fault, mismatch_fault, apart_fault, roots_fault, no_fault}
use Rattle.script.proofs.Searches.{least_decided, item_decided, one_item}
use Rattle.script.proofs.InputsDecided.{input_decided}
use Rattle.script.proofs.JobsOnce.{input_early, same_at}

-- the first fault of a job's input is the job's
module _ (job : JobData) (f : InputFault) (is : IsFirstInputFault (job_ring job) job.expr f) where
  early : (n : ℕ) → 5 ≤ n → input_order f ≤ n
  early n late = let small = input_early f in omega arith

  before : (g : Fault) → IsFault job g → order (OfInput f) ≤ order g
  before (OfInput g) h = is.first g h
  before (LeadNotAUnit v g) h = early 5 (omega arith)
  before (DegreeMismatch d t) h = early 6 (omega arith)
  before (NotApart i j d g) h = early 7 (omega arith)
  before (RootsMismatch p a b) h = early 8 (omega arith)

  pub first_of_input : IsFirstFault job (OfInput f)
  first_of_input = record { holds = is.holds; first = before }

-- pairs of roots
module _ (job : JobData) where
  near_at : (i j : ℕ) → ((d : ℕ) × IsPairTooNear job i j d) ⊎ (((d : ℕ) × IsPairTooNear job i j d) → ⊥)
  near_at i j = elim (cases_lt 0 i) [
    | inr none ↦ inr (λ (d, (r, s, some, lt, at, at', d_is, other)). absurd (omega arith))
    | inl some ↦ elim (cases_lt i j) [
      | inr low ↦ inr (λ (d, (r, s, some', lt, at, at', d_is, other)). absurd (omega arith))
      | inl lt ↦ elim (item_decided job.roots (i - 1)) [
        | inr past ↦ inr (λ (d, (r, s, some', lt', at, at', d_is, other)). past r at)
        | inl first ↦ elim (item_decided job.roots (j - 1)) [
          | inr past ↦ inr (λ (d, (r, s, some', lt', at, at', d_is, other)). past s at')
          | inl second ↦ by_unit some lt first second
        ]
      ]
    ]
  ]
    where
      by_unit : 0 < i → i < j → (r : Root) × (slice_get job.roots (i - 1) ≡ Some r)
          → (s : Root) × (slice_get job.roots (j - 1) ≡ Some s)
          → ((d : ℕ) × IsPairTooNear job i j d) ⊎ (((d : ℕ) × IsPairTooNear job i j d) → ⊥)
      by_unit some lt (r, at) (s, at') =
          elim (unit_decided job.modulus ((r.value + (job.modulus - s.value)) % job.modulus)) [
            | inr other ↦ inl (
              (r.value + (job.modulus - s.value)) % job.modulus,
              (r, s, some, lt, at, at', refl, other),
            )
            | inl unit ↦ inr (λ (d, (t, u, some', lt', here, here', d_is, other)). other (subst (IsUnit job.modulus)
                (sym (d_is ∙ (λ k. ((one_item job.roots (i - 1) t r here at k).value
                + (job.modulus - (one_item job.roots (j - 1) u s here' at' k).value)) % job.modulus))) unit))
          ]

  abbrev NearBehind : ℕ → Type 0
  NearBehind i = (j : ℕ) × (d : ℕ) × IsPairTooNear job i j d

  second_inside : (i j d : ℕ) → IsPairTooNear job i j d → j < suc (length job.roots)
  second_inside i j d (r, s, some, lt, at, at', d_is, other) =
      let h = slice_get_within job.roots (j - 1) s at' in omega arith

  first_inside : (i j d : ℕ) → IsPairTooNear job i j d → i < suc (length job.roots)
  first_inside i j d (r, s, some, lt, at, at', d_is, other) =
      let h = slice_get_within job.roots (i - 1) r at in omega arith

  nearest : (i : ℕ) → ((j : ℕ) × IsLeast (λ j. (d : ℕ) × IsPairTooNear job i j d) j)
      ⊎ ((j : ℕ) → ((d : ℕ) × IsPairTooNear job i j d) → ⊥)
  nearest i = least_decided (λ j. (d : ℕ) × IsPairTooNear job i j d) (near_at i) (suc (length job.roots))
      (λ j (d, near). second_inside i j d near)

  near_behind : (i : ℕ) → NearBehind i ⊎ (NearBehind i → ⊥)
  near_behind i = elim (nearest i) [
    | inl found ↦ inl (found.0, found.1.0.0, found.1.0.1)
    | inr none ↦ inr (λ (j, d, near). none j (d, near))
  ]

  abbrev IsFirstPair : ℕ → ℕ → ℕ → Type 0
  IsFirstPair i j d = IsPairTooNear job i j d
      × ((k l e : ℕ) → IsPairTooNear job k l e → (i < k) ⊎ ((i ≡ k) × (j ≤ l)))

  -- the first pair that is too near, or none
  pairs_decided : ((i : ℕ) × (j : ℕ) × (d : ℕ) × IsFirstPair i j d) ⊎ ((i j d : ℕ) → IsPairTooNear job i j d → ⊥)
  pairs_decided = elim (least_decided NearBehind near_behind (suc (length job.roots))
      (λ i (j, d, near). first_inside i j d near)) [
        | inr none ↦ inr (λ i j d near. none i (j, d, near))
        | inl first ↦ elim (nearest first.0) [
          | inr none ↦ absurd (none first.1.0.0 (first.1.0.1, first.1.0.2))
          | inl second ↦ inl (
            first.0,
            second.0,
            second.1.0.0,
            (
              second.1.0.1,
              λ k l e near. ordered first.0 second.0 k l e (first.1.1 k (l, e, near)) second.1.1 near,
            ),
          )
        ]
      ]
    where
      ordered : (i j k l e : ℕ) → i ≤ k → ((l : ℕ) → ((d : ℕ) × IsPairTooNear job i l d) → j ≤ l)
          → IsPairTooNear job k l e → (i < k) ⊎ ((i ≡ k) × (j ≤ l))
      ordered i j k l e le least near = elim (cases_lt i k) [
        | inl less ↦ inl less
        | inr more ↦
            let same : i ≡ k = omega arith in
            inr (same, least l (e, subst (λ a. IsPairTooNear job a l e) (sym same) near))
      ]

-- the powers of Y of a product of root powers
module _ (R : Ring) where
  linear_bound : (c : ℕ) → HasNoPowerAbove 1 (linear R c)
  unfolding linear
  linear_bound c = power_bound-sum R 1 _ _
      (truncated-monomial R R.y_degree 1 1 (R.y 1) (let e = R.y_degree-y 1 in omega arith))
      (truncated-monomial R R.y_degree 1 c R.origin (let e = R.y_degree_adds.1 in omega arith))

  roots_bound : (roots : List Root) → HasNoPowerAbove (total_times roots) (root_powers {R = R} roots)
  unfolding one
  roots_bound [] = truncated-monomial R R.y_degree 0 1 R.origin (let e = R.y_degree_adds.1 in omega arith)
  roots_bound (r ∷ rs) = power_bound-product R r.times (total_times rs) _ _
      (power_bound-more R (r.times * 1) r.times _ (omega arith)
      (power_bound-power R 1 r.times _ (linear_bound (R.modulus - r.value)))) (roots_bound rs)

-- a total that isn't the degree isn't told as it either
not_told : (d t : ℕ) → d ≤ 32 → d ≢ t → d ≢ told_count t
not_told d t small other is = other (omega arith)

at_bound : (p n : ℕ) → (n < p → ⊥) → p < suc n
at_bound p n h = omega arith

module _ (job : JobData) (tree : IsValidTree job.n job.expr) (input : IsValidInput (job_ring job) job.expr) where
  abbrev S : SeriesRing
  S = job_ring job

  value : ExactlyOne (IsValue S 0 job.expr)
  value = valid_value S job.expr input job.n tree 0

  abbrev v : Poly S
  v = value.one_value

  abbrev lead_number : ℕ
  lead_number = coefficient (ring S) (lead_in S job.expr v) (ring S).origin

  unit_lead : IsUnit S.modulus lead_number → (c g : ℕ) → IsFault job (LeadNotAUnit c g) → ⊥
  unit_lead unit c g ((l, (w, is, l_is), c_is), not_unit, gcd) = not_unit (subst (IsUnit S.modulus)
      (sym (c_is ∙ ap (λ q. coefficient (ring S) q (ring S).origin) (l_is ∙ ap (lead_in S job.expr)
      (value.only w is)))) unit)

  abbrev input_at : ℕ → ℕ
  input_at p = coefficient (ring S) v (y_key S.variables p)

  abbrev roots_at : ℕ → ℕ
  roots_at p = coefficient (ring S) (scaled (ring S) lead_number (root_powers {R = ring S} job.roots))
      (y_key S.variables p)

  at_origin : (p : ℕ) → AreAtOrigin job p (input_at p) (roots_at p)
  at_origin p = (v, value.meets, refl, refl)

  differ_decided : (p : ℕ) → DifferAt job p ⊎ (DifferAt job p → ⊥)
  differ_decided p = elim (eqb_tells (input_at p) (roots_at p)) [
    | inr other ↦ inl (input_at p, roots_at p, at_origin p, other.1)
    | inl same ↦ inr (λ (a, b, at, other). let values = same_at job p p a b (input_at p) (roots_at p) refl at
        (at_origin p) in other (values.0 ∙ same.1 ∙ sym values.1))
  ]

  -- above the degree both are 0
  high_input : (p : ℕ) → formal_degree job.expr < p → input_at p ≡ 0
  high_input p lt = coefficient-above (ring S) (λ x. x.y) (formal_degree job.expr) v
      (value_powers S (variable S) (variable_flat S) 0 job.n job.expr v tree value.meets) (y_key S.variables p) lt

  high_roots : (p : ℕ) → total_times job.roots < p → roots_at p ≡ 0
  high_roots p lt = coefficient-scaled (ring S) lead_number _ (y_key S.variables p)
      ∙ ap (λ n. (lead_number * n) % S.modulus) (coefficient-above (ring S) (λ x. x.y) (total_times job.roots)
      (root_powers {R = ring S} job.roots) (roots_bound (ring S) job.roots) (y_key S.variables p) lt)
      ∙ nothing lead_number S.modulus
    where
      nothing : (c m : ℕ) → (c * 0) % m ≡ 0
      nothing c m = omega arith

  module _ (same : formal_degree job.expr ≡ total_times job.roots) where
    high_agree : (p : ℕ) → formal_degree job.expr < p → DifferAt job p → ⊥
    high_agree p lt (a, b, at, other) =
        let values = same_at job p p a b (input_at p) (roots_at p) refl at (at_origin p) in
        other (values.0 ∙ high_input p lt ∙ sym (high_roots p (subst (λ n. n < p) same lt)) ∙ sym values.1)

    differences_decided : ((p : ℕ) × IsLeast (DifferAt job) p) ⊎ ((p : ℕ) → DifferAt job p → ⊥)
    differences_decided = least_decided (DifferAt job) differ_decided (suc (formal_degree job.expr))
        (λ p differ. at_bound p (formal_degree job.expr) (λ lt. high_agree p lt differ))

  -- the tests of the roots, in the order of the faults
  by_powers : ((c g : ℕ) → IsFault job (LeadNotAUnit c g) → ⊥) → formal_degree job.expr ≡ total_times job.roots
      → ((i j d g : ℕ) → IsFault job (NotApart i j d g) → ⊥) → ((f : Fault) × IsFirstFault job f) ⊎ IsValidJob job
  by_powers unit same apart = elim (differences_decided same) [
    | inl found ↦ of_found found
    | inr agree ↦ inr (no_fault job input unit same apart agree)
  ]
    where
      of_found : (p : ℕ) × IsLeast (DifferAt job) p → ((f : Fault) × IsFirstFault job f) ⊎ IsValidJob job
      of_found (p, ((a, b, at, other), least)) =
          inl (RootsMismatch p a b, roots_fault job input unit same apart p a b at other least)

  by_pairs : ((c g : ℕ) → IsFault job (LeadNotAUnit c g) → ⊥) → formal_degree job.expr ≡ total_times job.roots
      → ((f : Fault) × IsFirstFault job f) ⊎ IsValidJob job
  by_pairs unit same = elim (pairs_decided job) [
    | inl found ↦ of_found found
    | inr apart ↦ by_powers unit same (λ i j d g fault. apart i j d fault.0)
  ]
    where
      of_found : (i : ℕ) × (j : ℕ) × (d : ℕ) × IsFirstPair job i j d
          → ((f : Fault) × IsFirstFault job f) ⊎ IsValidJob job
      of_found (i, j, d, (near, first)) =
          let gcd = gcd_exists d job.modulus in
          inl (NotApart i j d gcd.0, apart_fault job input unit same i j d gcd.0 (near, gcd.1, first))

  by_degree : ((c g : ℕ) → IsFault job (LeadNotAUnit c g) → ⊥) → ((f : Fault) × IsFirstFault job f) ⊎ IsValidJob job
  by_degree unit = elim (eqb_tells (formal_degree job.expr) (total_times job.roots)) [
    | inl same ↦ by_pairs unit same.1
    | inr other ↦ inl (
      DegreeMismatch (formal_degree job.expr) (told_count (total_times job.roots)),
      mismatch_fault job input unit (formal_degree job.expr) (told_count (total_times job.roots)) refl refl
          (not_told (formal_degree job.expr) (total_times job.roots) (small_degree S job.expr input) other.1),
    )
  ]

  by_lead : ((f : Fault) × IsFirstFault job f) ⊎ IsValidJob job
  by_lead = elim (unit_decided S.modulus lead_number) [
    | inl unit ↦ by_degree (unit_lead unit)
    | inr other ↦
        let gcd = gcd_exists lead_number S.modulus in
        inl (
          LeadNotAUnit lead_number gcd.0,
          lead_fault job input lead_number gcd.0
              ((lead_in S job.expr v, (v, value.meets, refl), refl), other, gcd.1),
        )
  ]

-- a first fault, or none
pub job_decided : (job : JobData) → IsValidTree job.n job.expr → ((f : Fault) × IsFirstFault job f) ⊎ IsValidJob job
job_decided job tree = elim (input_decided (job_ring job) job.expr) [
  | inl found ↦ inl (OfInput found.0, first_of_input job found.0 found.1)
  | inr input ↦ by_lead job tree input
]
