-- What a job's first fault is: the earlier ones are ruled out one by one.
use Rattle.std.proofs.Common.{◌≡◌, ℕ, zero, suc, ◌+◌, ◌-◌, ◌%◌, ◌<◌, ◌≤◌, ◌⊎◌, inl, inr, [], ◌∷◌}
use Rattle.std.proofs.Common.{refl, sym, ◌∙◌, ap, subst, arith, lit≤}
use Rattle.std.specs.Prelude.{Some, slice_get}
use Rattle.std.specs.Int.{IsGcd}
use Rattle.ps_model.specs.declared.expr.Expr.{Expr}
use Rattle.ps_model.specs.declared.job.JobData.{JobData}
use Rattle.ps_model.specs.declared.job.Root.{Root}
use Rattle.ps_model.specs.Bounds.{IsUnit}
use Rattle.ps_model.specs.Factors.{total_times}
use Rattle.ps_model.specs.Tree.{formal_degree, node_count, divisors}
use Rattle.ps_model.specs.Input.{DividesByY, TooManyNodes, DegreeTooLarge, NotAUnit}
use Rattle.ps_model.specs.Job.{Fault, OfInput, LeadNotAUnit, DegreeMismatch, NotApart, RootsMismatch}
use Rattle.ps_model.specs.Job.{order, IsFault, IsPairTooNear, IsValidJob}
use Rattle.ps_model.specs.Job.{IsFirstFault, DifferAt}
use Rattle.ps_model.specs.Examples.{job}

at_least : (n k : ℕ) → (k < n → ⊥) → n ≤ k
at_least n k h = omega arith

-- nothing has to be ruled out from a fault's own place on
pub own : {A : Type 0} (n k : ℕ) → n ≤ k → k < n → A
own n k le lt = absurd (omega arith)

pub after : (job : JobData) (n : ℕ) → (1 < n → (k : ℕ) → IsFault job (OfInput (DividesByY k)) → ⊥)
    → (2 < n → (c : ℕ) → IsFault job (OfInput (TooManyNodes c)) → ⊥)
    → (3 < n → (d : ℕ) → IsFault job (OfInput (DegreeTooLarge d)) → ⊥)
    → (4 < n → (k v g : ℕ) → IsFault job (OfInput (NotAUnit k v g)) → ⊥)
    → (5 < n → (v g : ℕ) → IsFault job (LeadNotAUnit v g) → ⊥)
    → (6 < n → (d t : ℕ) → IsFault job (DegreeMismatch d t) → ⊥)
    → (7 < n → (i j d g : ℕ) → IsFault job (NotApart i j d g) → ⊥)
    → (8 < n → (p i r : ℕ) → IsFault job (RootsMismatch p i r) → ⊥) → (f : Fault) → IsFault job f → n ≤ order f
after job n a b c d e f g h (OfInput (DividesByY k)) is = at_least n 1 (λ lt. a lt k is)
after job n a b c d e f g h (OfInput (TooManyNodes k)) is = at_least n 2 (λ lt. b lt k is)
after job n a b c d e f g h (OfInput (DegreeTooLarge k)) is = at_least n 3 (λ lt. c lt k is)
after job n a b c d e f g h (OfInput (NotAUnit k v w)) is = at_least n 4 (λ lt. d lt k v w is)
after job n a b c d e f g h (LeadNotAUnit v w) is = at_least n 5 (λ lt. e lt v w is)
after job n a b c d e f g h (DegreeMismatch k t) is = at_least n 6 (λ lt. f lt k t is)
after job n a b c d e f g h (NotApart i j k w) is = at_least n 7 (λ lt. g lt i j k w is)
after job n a b c d e f g h (RootsMismatch p i r) is = at_least n 8 (λ lt. h lt p i r is)

order_small : (f : Fault) → order f ≤ 8
order_small (OfInput (DividesByY k)) = omega arith
order_small (OfInput (TooManyNodes k)) = omega arith
order_small (OfInput (DegreeTooLarge k)) = omega arith
order_small (OfInput (NotAUnit k v w)) = omega arith
order_small (LeadNotAUnit v w) = omega arith
order_small (DegreeMismatch k t) = omega arith
order_small (NotApart i j k w) = omega arith
order_small (RootsMismatch p i r) = omega arith

-- a job is valid where all are ruled out
pub all_ruled_out : (job : JobData) → ((f : Fault) → IsFault job f → 9 ≤ order f) → IsValidJob job
all_ruled_out job h f is = contradiction (order f) (h f is) (order_small f)
  where
    contradiction : (n : ℕ) → 9 ≤ n → n ≤ 8 → ⊥
    contradiction n a b = omega arith

pub few_nodes : (job : JobData) → node_count job.expr ≤ 4096 → (c : ℕ) → IsFault job (OfInput (TooManyNodes c)) → ⊥
few_nodes job le c (lt, is) = contradiction (node_count job.expr) le lt
  where
    contradiction : (n : ℕ) → n ≤ 4096 → 4096 < n → ⊥
    contradiction n a b = omega arith

pub small_degree : (job : JobData) → formal_degree job.expr ≤ 32 → (d : ℕ) → IsFault job (OfInput (DegreeTooLarge d))
    → ⊥
small_degree job le d (lt, is) = contradiction (formal_degree job.expr) le lt
  where
    contradiction : (n : ℕ) → n ≤ 32 → 32 < n → ⊥
    contradiction n a b = omega arith

pub same_degree : (job : JobData) → formal_degree job.expr ≡ total_times job.roots → (d t : ℕ)
    → IsFault job (DegreeMismatch d t) → ⊥
same_degree job e d t (ne, is, is') = ne e

-- members of lists of none, one and two
no_member : {A : Type 0} (i : ℕ) (d : A) → slice_get [] i ≡ Some d → ⊥
no_member i d e = absurd (cc)

pub one_member : {A : Type 0} (a d : A) (i : ℕ) → slice_get (a ∷ []) i ≡ Some d → (i ≡ 0) × (d ≡ a)
one_member a d zero e = (refl, cc)
one_member a d (suc i) e = absurd (cc)

pub two_members : {A : Type 0} (a b d : A) (i : ℕ) → slice_get (a ∷ b ∷ []) i ≡ Some d
    → ((i ≡ 0) × (d ≡ a)) ⊎ ((i ≡ 1) × (d ≡ b))
two_members a b d zero e = inl (refl, cc)
two_members a b d (suc i) e = let p = one_member b d i e in inr (ap suc p.0, p.1)

-- without a division
pub no_division_by_y : (job : JobData) → divisors job.expr ≡ [] → (k : ℕ) → IsFault job (OfInput (DividesByY k)) → ⊥
no_division_by_y job none k ((d, (some, at), has), least) =
    no_member (k - 1) d (ap (λ l. slice_get l (k - 1)) (sym none) ∙ at)

pub no_failure : (job : JobData) → divisors job.expr ≡ [] → (k v g : ℕ) → IsFault job (OfInput (NotAUnit k v g)) → ⊥
no_failure job none k v g ((d, (some, at), w, is, at', not_unit), least, gcd) =
    no_member (k - 1) d (ap (λ l. slice_get l (k - 1)) (sym none) ∙ at)

-- pairs of roots
pub no_pair : (m : ℕ) (e : Expr) (r : Root) (i j d g : ℕ) → IsFault (job m e (r ∷ [])) (NotApart i j d g) → ⊥
no_pair m e r i j d g ((a, b, pos, lt, at, at', is, not_unit), gcd, first) =
    let p = one_member r a (i - 1) at in let q = one_member r b (j - 1) at' in contradiction (p.0) (q.0)
  where
    contradiction : i - 1 ≡ 0 → j - 1 ≡ 0 → ⊥
    contradiction p q = omega arith

the_pair : (m : ℕ) (e : Expr) (r s : Root) (i j d : ℕ) → IsPairTooNear (job m e (r ∷ s ∷ [])) i j d
    → (i ≡ 1) × (j ≡ 2) × (d ≡ (r.value + (m - s.value)) % m) × (IsUnit m d → ⊥)
the_pair m e r s i j d (a, b, pos, lt, at, at', is, not_unit) =
    cases (two_members r s a (i - 1) at) (two_members r s b (j - 1) at')
  where
    cases : ((i - 1 ≡ 0) × (a ≡ r)) ⊎ ((i - 1 ≡ 1) × (a ≡ s)) → ((j - 1 ≡ 0) × (b ≡ r)) ⊎ ((j - 1 ≡ 1) × (b ≡ s))
        → (i ≡ 1) × (j ≡ 2) × (d ≡ (r.value + (m - s.value)) % m) × (IsUnit m d → ⊥)
    cases (inl p) (inl q) = absurd (let x = p.0 in let y = q.0 in omega arith)
    cases (inr p) (inl q) = absurd (let x = p.0 in let y = q.0 in omega arith)
    cases (inr p) (inr q) = absurd (let x = p.0 in let y = q.0 in omega arith)
    cases (inl p) (inr q) = (
      (let x = p.0 in omega arith),
      (let y = q.0 in omega arith),
      is ∙ (λ i. ((p.1 i).value + (m - (q.1 i).value)) % m),
      not_unit,
    )

pub apart : (m : ℕ) (e : Expr) (r s : Root) → IsUnit m ((r.value + (m - s.value)) % m) → (i j d g : ℕ)
    → IsFault (job m e (r ∷ s ∷ [])) (NotApart i j d g) → ⊥
apart m e r s unit i j d g (near, gcd, first) = let p = the_pair m e r s i j d near in
    p.3 (subst (IsUnit m) (sym (p.2)) unit)

pub near : (m : ℕ) (e : Expr) (r s : Root) (g : ℕ) → (IsUnit m ((r.value + (m - s.value)) % m) → ⊥)
    → IsGcd ((r.value + (m - s.value)) % m) m g
    → IsFault (job m e (r ∷ s ∷ [])) (NotApart 1 2 ((r.value + (m - s.value)) % m) g)
near m e r s g not_unit gcd = (
  (r, s, omega arith, omega arith, refl, refl, refl, not_unit),
  gcd,
  λ i j d is. (let p = the_pair m e r s i j d is in let x = p.0 in let y = p.1 in
      inr (sym x, omega arith)),
)

-- first faults, from what is ruled out before them
pub first_by_y : (job : JobData) (k : ℕ) → IsFault job (OfInput (DividesByY k))
    → IsFirstFault job (OfInput (DividesByY k))
first_by_y job k is = record {
  holds = is;
  first = after job 1 (own 1 1 (lit≤ tt)) (own 1 2 (lit≤ tt)) (own 1 3 (lit≤ tt)) (own 1 4 (lit≤ tt))
      (own 1 5 (lit≤ tt)) (own 1 6 (lit≤ tt)) (own 1 7 (lit≤ tt)) (own 1 8 (lit≤ tt));
}

module _ (job : JobData) (not_by_y : (k : ℕ) → IsFault job (OfInput (DividesByY k)) → ⊥) where
  pub first_nodes : (c : ℕ) → IsFault job (OfInput (TooManyNodes c)) → IsFirstFault job (OfInput (TooManyNodes c))
  first_nodes c is = record {
    holds = is;
    first = after job 2 (λ lt. not_by_y) (own 2 2 (lit≤ tt)) (own 2 3 (lit≤ tt)) (own 2 4 (lit≤ tt))
        (own 2 5 (lit≤ tt)) (own 2 6 (lit≤ tt)) (own 2 7 (lit≤ tt)) (own 2 8 (lit≤ tt));
  }

  module _ (few : node_count job.expr ≤ 4096) where
    pub first_degree : (d : ℕ) → IsFault job (OfInput (DegreeTooLarge d))
        → IsFirstFault job (OfInput (DegreeTooLarge d))
    first_degree d is = record {
      holds = is;
      first = after job 3 (λ lt. not_by_y) (λ lt. few_nodes job few) (own 3 3 (lit≤ tt)) (own 3 4 (lit≤ tt))
          (own 3 5 (lit≤ tt)) (own 3 6 (lit≤ tt)) (own 3 7 (lit≤ tt)) (own 3 8 (lit≤ tt));
    }

    module _ (small : formal_degree job.expr ≤ 32) where
      pub first_not_unit : (k v g : ℕ) → IsFault job (OfInput (NotAUnit k v g))
          → IsFirstFault job (OfInput (NotAUnit k v g))
      first_not_unit k v g is = record {
        holds = is;
        first = after job 4 (λ lt. not_by_y) (λ lt. few_nodes job few) (λ lt. small_degree job small)
            (own 4 4 (lit≤ tt)) (own 4 5 (lit≤ tt)) (own 4 6 (lit≤ tt)) (own 4 7 (lit≤ tt)) (own 4 8 (lit≤ tt));
      }

      module _ (no_division : divisors job.expr ≡ []) where
        pub first_lead : (v g : ℕ) → IsFault job (LeadNotAUnit v g) → IsFirstFault job (LeadNotAUnit v g)
        first_lead v g is = record {
          holds = is;
          first = after job 5 (λ lt. not_by_y) (λ lt. few_nodes job few) (λ lt. small_degree job small)
              (λ lt. no_failure job no_division) (own 5 5 (lit≤ tt)) (own 5 6 (lit≤ tt)) (own 5 7 (lit≤ tt))
              (own 5 8 (lit≤ tt));
        }

        module _ (unit_lead : (v g : ℕ) → IsFault job (LeadNotAUnit v g) → ⊥) where
          pub first_mismatch : (d t : ℕ) → IsFault job (DegreeMismatch d t) → IsFirstFault job (DegreeMismatch d t)
          first_mismatch d t is = record {
            holds = is;
            first = after job 6 (λ lt. not_by_y) (λ lt. few_nodes job few) (λ lt. small_degree job small)
                (λ lt. no_failure job no_division) (λ lt. unit_lead) (own 6 6 (lit≤ tt)) (own 6 7 (lit≤ tt))
                (own 6 8 (lit≤ tt));
          }

          module _ (same : formal_degree job.expr ≡ total_times job.roots) where
            pub first_not_apart : (i j d g : ℕ) → IsFault job (NotApart i j d g)
                → IsFirstFault job (NotApart i j d g)
            first_not_apart i j d g is = record {
              holds = is;
              first = after job 7 (λ lt. not_by_y) (λ lt. few_nodes job few) (λ lt. small_degree job small)
                  (λ lt. no_failure job no_division) (λ lt. unit_lead) (λ lt. same_degree job same)
                  (own 7 7 (lit≤ tt)) (own 7 8 (lit≤ tt));
            }

            module _ (apart : (i j d g : ℕ) → IsFault job (NotApart i j d g) → ⊥) where
              pub first_roots : (p i r : ℕ) → IsFault job (RootsMismatch p i r)
                  → IsFirstFault job (RootsMismatch p i r)
              first_roots p i r is = record {
                holds = is;
                first = after job 8 (λ lt. not_by_y) (λ lt. few_nodes job few) (λ lt. small_degree job small)
                    (λ lt. no_failure job no_division) (λ lt. unit_lead) (λ lt. same_degree job same)
                    (λ lt. apart) (own 8 8 (lit≤ tt));
              }

              pub valid : ((p : ℕ) → DifferAt job p → ⊥) → IsValidJob job
              valid agree = all_ruled_out job (after job 9 (λ lt. not_by_y) (λ lt. few_nodes job few)
                  (λ lt. small_degree job small) (λ lt. no_failure job no_division) (λ lt. unit_lead)
                  (λ lt. same_degree job same) (λ lt. apart) (λ lt p i r (at, (differ, least)). agree p differ))
