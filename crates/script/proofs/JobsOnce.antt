-- A job has one first fault.
use Rattle.std.proofs.Common.{◌≡◌, ℕ, ◌+◌, ◌-◌, ◌%◌, ◌<◌, ◌≤◌, ◌⊎◌, inl, inr, Some, sym, ◌∙◌, ap, subst, arith, lit<}
use Rattle.std.specs.Int.{IsGcd}
use Rattle.std.proofs.lemmas.Nat.Gcd.{same_from_IsGcd}
use Rattle.ps_model.specs.declared.job.JobData.{JobData}
use Rattle.ps_model.specs.declared.job.Root.{Root}
use Rattle.ps_model.specs.Factors.{root_powers}
use Rattle.ps_model.specs.Input.{InputFault, DividesByY, TooManyNodes, DegreeTooLarge, NotAUnit, input_order}
use Rattle.ps_model.specs.Job.{Fault, OfInput, LeadNotAUnit, DegreeMismatch, NotApart, RootsMismatch, order, job_ring}
use Rattle.ps_model.specs.Job.{IsFault, IsFirstFault, IsPairTooNear, AreAtOrigin}
use Rattle.ps_model.specs.Keys.{y_key}
use Rattle.ps_model.specs.Lead.{lead_in}
use Rattle.ps_model.specs.Polynomial.{coefficient, scaled}
use Rattle.ps_model.specs.SeriesRing.{SeriesRing, ring, Poly}
use Rattle.ps_model.specs.Value.{variable, IsValue}
use Rattle.ps_model.proofs.TreeValues.{variable_flat, same_value}
use Rattle.intake.proofs.InputFaults.{one_fault}

both_ways : (a b : ℕ) → a ≤ b → b ≤ a → a ≡ b
both_ways a b x y = omega arith

-- two pairs of places, neither of which comes behind the other
same_places : (i j k l : ℕ) → (i < k) ⊎ ((i ≡ k) × (j ≤ l)) → (k < i) ⊎ ((k ≡ i) × (l ≤ j)) → (i ≡ k) × (j ≡ l)
same_places i j k l (inl a) (inl b) = absurd (omega arith)
same_places i j k l (inl a) (inr b) = absurd (let e = b.0 in omega arith)
same_places i j k l (inr a) (inl b) = absurd (let e = a.0 in omega arith)
same_places i j k l (inr a) (inr b) = (a.0, both_ways j l a.1 b.1)

same_root : (r s : Root) → Some r ≡ Some s → r ≡ s
same_root r s e = cc

-- the faults of an input come before the others
pub input_early : (f : InputFault) → input_order f ≤ 4
input_early (DividesByY k) = omega arith
input_early (TooManyNodes c) = omega arith
input_early (DegreeTooLarge d) = omega arith
input_early (NotAUnit k v g) = omega arith

never_late : (f : InputFault) (n : ℕ) → 4 < n → input_order f ≡ n → ⊥
never_late f n late same = contradiction (input_order f) n (input_early f) late same
  where
    contradiction : (a b : ℕ) → a ≤ 4 → 4 < b → a ≡ b → ⊥
    contradiction a b early late same = omega arith

module _ (job : JobData) where
  abbrev S : SeriesRing
  S = job_ring job

  same_values : (v w : Poly S) → IsValue S 0 job.expr v → IsValue S 0 job.expr w → v ≡ w
  same_values v w is is' = same_value S (variable S) (variable_flat S) 0 job.expr v w is is'

  same_lead : (v g w h : ℕ) → IsFault job (LeadNotAUnit v g) → IsFault job (LeadNotAUnit w h)
      → LeadNotAUnit v g ≡ LeadNotAUnit w h
  same_lead v g w h ((l, (p, is, l_is), v_is), not_unit, gcd) ((k, (q, is', k_is), w_is), not_unit', gcd') =
      let value : v ≡ w = v_is ∙ ap (λ x. coefficient (ring S) x (ring S).origin)
      (l_is ∙ ap (lead_in S job.expr) (same_values p q is is') ∙ sym k_is) ∙ sym w_is in
      let divisor : g ≡ h = same_from_IsGcd v S.modulus g h gcd
      (subst (λ n. IsGcd n S.modulus h) (sym value) gcd') in
      λ i. LeadNotAUnit (value i) (divisor i)

  -- the difference of two roots, from their places
  pub same_difference : (i j d e : ℕ) → IsPairTooNear job i j d → IsPairTooNear job i j e → d ≡ e
  same_difference i j d e (r, s, some, lt, r_at, s_at, d_is, other) (t, u, some', lt', t_at, u_at, e_is, other') =
      d_is ∙ (λ k. ((first k).value + (job.modulus - (second k).value)) % job.modulus) ∙ sym e_is
    where
      first : r ≡ t
      first = same_root r t (sym r_at ∙ t_at)

      second : s ≡ u
      second = same_root s u (sym s_at ∙ u_at)

  same_pair : (i j d g k l e h : ℕ) → IsFault job (NotApart i j d g) → IsFault job (NotApart k l e h)
      → NotApart i j d g ≡ NotApart k l e h
  same_pair i j d g k l e h (near, gcd, first) (near', gcd', first') =
      let places = same_places i j k l (first k l e near') (first' i j d near) in
      let difference : d ≡ e = same_difference i j d e near (subst (λ a. IsPairTooNear job a j e) (sym places.0)
      (subst (λ b. IsPairTooNear job k b e) (sym places.1) near')) in
      let divisor : g ≡ h = same_from_IsGcd d job.modulus g h gcd
      (subst (λ n. IsGcd n job.modulus h) (sym difference) gcd') in
      λ a. NotApart (places.0 a) (places.1 a) (difference a) (divisor a)

  -- the two coefficients of a power of Y
  pub same_at : (p q a b c d : ℕ) → p ≡ q → AreAtOrigin job p a b → AreAtOrigin job q c d → (a ≡ c) × (b ≡ d)
  same_at p q a b c d place (v, is, a_is, b_is) (w, is', c_is, d_is) = (
    a_is ∙ (λ i. coefficient (ring S) (same_values v w is is' i) (y_key S.variables (place i))) ∙ sym c_is,
    b_is ∙ (λ i. coefficient (ring S) (scaled (ring S)
        (coefficient (ring S) (lead_in S job.expr (same_values v w is is' i)) (ring S).origin)
        (root_powers {R = ring S} job.roots)) (y_key S.variables (place i))) ∙ sym d_is,
  )

  same_power : (p a b q c d : ℕ) → IsFault job (RootsMismatch p a b) → IsFault job (RootsMismatch q c d)
      → RootsMismatch p a b ≡ RootsMismatch q c d
  same_power p a b q c d (at, (differ, least)) (at', (differ', least')) =
      let place : p ≡ q = both_ways p q (least q differ') (least' p differ) in
      let values = same_at p q a b c d place at at' in
      λ i. RootsMismatch (place i) (values.0 i) (values.1 i)

  same_fault : (f g : Fault) → order f ≡ order g → IsFirstFault job f → IsFirstFault job g → f ≡ g
  same_fault (OfInput f) (OfInput g) e h j = ap OfInput (one_fault S job.expr f g
      (record { holds = h.holds; first = λ k is. h.first (OfInput k) is })
      (record { holds = j.holds; first = λ k is. j.first (OfInput k) is }))
  same_fault (OfInput f) (LeadNotAUnit w x) e h j = absurd (never_late f 5 (lit< tt) e)
  same_fault (OfInput f) (DegreeMismatch c t) e h j = absurd (never_late f 6 (lit< tt) e)
  same_fault (OfInput f) (NotApart k l c x) e h j = absurd (never_late f 7 (lit< tt) e)
  same_fault (OfInput f) (RootsMismatch q c d) e h j = absurd (never_late f 8 (lit< tt) e)
  same_fault (LeadNotAUnit v g) (OfInput f) e h j = absurd (never_late f 5 (lit< tt) (sym e))
  same_fault (LeadNotAUnit v g) (LeadNotAUnit w x) e h j = same_lead v g w x h.holds j.holds
  same_fault (LeadNotAUnit v g) (DegreeMismatch c t) e h j = absurd (omega arith)
  same_fault (LeadNotAUnit v g) (NotApart k l c x) e h j = absurd (omega arith)
  same_fault (LeadNotAUnit v g) (RootsMismatch q c d) e h j = absurd (omega arith)
  same_fault (DegreeMismatch b s) (OfInput f) e h j = absurd (never_late f 6 (lit< tt) (sym e))
  same_fault (DegreeMismatch b s) (LeadNotAUnit w x) e h j = absurd (omega arith)
  same_fault (DegreeMismatch b s) (DegreeMismatch c t) e h j =
      λ i. DegreeMismatch ((h.holds.1 ∙ sym j.holds.1) i) ((h.holds.2 ∙ sym j.holds.2) i)
  same_fault (DegreeMismatch b s) (NotApart k l c x) e h j = absurd (omega arith)
  same_fault (DegreeMismatch b s) (RootsMismatch q c d) e h j = absurd (omega arith)
  same_fault (NotApart a b c g) (OfInput f) e h j = absurd (never_late f 7 (lit< tt) (sym e))
  same_fault (NotApart a b c g) (LeadNotAUnit w x) e h j = absurd (omega arith)
  same_fault (NotApart a b c g) (DegreeMismatch d t) e h j = absurd (omega arith)
  same_fault (NotApart a b c g) (NotApart k l d x) e h j = same_pair a b c g k l d x h.holds j.holds
  same_fault (NotApart a b c g) (RootsMismatch q d t) e h j = absurd (omega arith)
  same_fault (RootsMismatch p a b) (OfInput f) e h j = absurd (never_late f 8 (lit< tt) (sym e))
  same_fault (RootsMismatch p a b) (LeadNotAUnit w x) e h j = absurd (omega arith)
  same_fault (RootsMismatch p a b) (DegreeMismatch c t) e h j = absurd (omega arith)
  same_fault (RootsMismatch p a b) (NotApart k l c x) e h j = absurd (omega arith)
  same_fault (RootsMismatch p a b) (RootsMismatch q c d) e h j = same_power p a b q c d h.holds j.holds

-- a job's first fault is the only one
pub one_job_fault : (job : JobData) (f g : Fault) → IsFirstFault job f → IsFirstFault job g → f ≡ g
one_job_fault job f g h j =
    same_fault job f g (both_ways (order f) (order g) (h.first g j.holds) (j.first f h.holds)) h j
