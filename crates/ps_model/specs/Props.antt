-- Facts of which there is one proof at most, for ghost fields and traits.
--     coded_key n      a code of keys
--     PartMap-IsSet, Poly-IsSet      maps and polynomials are sets
--     IsSlice-IsProp, IsRow-IsProp, AreRows-IsProp, IsRowOf-IsProp      the facts on rows
--     IsUnit-IsProp, IsPreparable-IsProp, IsPrepared-IsProp      the facts on pairs
--     IsFactor-IsProp, EachIsFactor-IsProp, IsFactorList-IsProp, AreFactorsOf-IsProp      the facts
--         on factors
--     IsValidTree-IsProp, AreWeights-IsProp, IsAcceptedRoot-IsProp, IsAccepted-IsProp      the facts
--         on trees and jobs
use Rattle.std.specs.Prelude.{◌≡◌, ℕ, ◌*◌, ◌%◌, ◌<◌, List, [], ◌∷◌}
use Rattle.std.proofs.Common.{sym, ◌∙◌, ap, arith}
use Rattle.std.proofs.Math.Nat.{one-mul, mod-eq_of_lt}
use Rattle.std.proofs.lemmas.Nat.{mul-mod_first}
use mathlib.Core.HLevel.{Σ_prop_path}
use Rattle.std.specs.FinMap.{code}
use Rattle.std.specs.Coded.{Coded, Coded-set, coded_ℕ, coded_list, le_prop}
use Rattle.std.proofs.Math.Nat.{ℕ_set}
use Rattle.std.proofs.Math.Bool.{Bool-set}
use base.Stored.{coded_via}
use Rattle.ps_model.specs.Keys.{Key, key_numbers}
use Rattle.ps_model.specs.KeyLaws.{same_key_numbers}
use Rattle.ps_model.specs.Residues.{HasResidues}
use Rattle.ps_model.specs.SeriesRing.{SeriesRing, ring, Poly, PartMap, Row}
use Rattle.ps_model.specs.Bounds.{IsUnit}
use Rattle.ps_model.specs.Prepared.{IsPreparable, IsPrepared}
use Rattle.ps_model.specs.declared.job.Root.{Root}
use Rattle.ps_model.specs.Factors.{IsFactor, EachIsFactor, IsFactorList}
use Rattle.ps_model.specs.Bounds.{IsSlice}
use Rattle.ps_model.specs.Rows.{IsRow, AreRows, IsRowOf}
use Rattle.ps_model.specs.declared.expr.Expr.{Expr, Number, Name, MainVariable, Sum', Product', Power'}
use Rattle.ps_model.specs.declared.expr.Expr.{end_of-Expr, more_of-Expr}
use Rattle.ps_model.specs.declared.expr.Expr.{Row_of-Summand, end_of-Summand, more_of-Summand}
use Rattle.ps_model.specs.declared.expr.Expr.{Row_of-Factor, end_of-Factor, more_of-Factor}
use Rattle.ps_model.specs.declared.job.JobData.{JobData}
use Rattle.ps_model.specs.Tree.{IsValidTree, AreSummands, AreValidSummands, AreFactors, AreValidFactors}
use Rattle.ps_model.specs.Job.{job_ring, AreFactorsOf}
use Rattle.ps_model.specs.AcceptedJob.{AreWeights, IsAcceptedRoot, IsAccepted}

abbrev pub coded_key : (n : ℕ) → Coded (Key n)
coded_key n = coded_via (coded_list coded_ℕ) (key_numbers n) (same_key_numbers n)

pub PartMap-IsSet : (S : SeriesRing) → IsSet (PartMap S)
PartMap-IsSet S = Coded-set (code (coded_key S.variables) coded_ℕ)

HasResidues-IsProp : (S : SeriesRing) (p : PartMap S) → IsProp (HasResidues (ring S) p)
HasResidues-IsProp S p = hlevel le_prop

pub Poly-IsSet : (S : SeriesRing) → IsSet (Poly S)
Poly-IsSet S = hlevel (PartMap-IsSet S, HasResidues-IsProp S)

pub IsSlice-IsProp : (S : SeriesRing) (r : ℕ) (p : Poly S) → IsProp (IsSlice r p)
IsSlice-IsProp S r p = hlevel (Poly-IsSet S)

pub IsRow-IsProp : (S : SeriesRing) (K r : ℕ) (row : Row S) → IsProp (IsRow (ring S) K r row)
IsRow-IsProp S K r row = hlevel (ℕ_set, Poly-IsSet S)

pub AreRows-IsProp : (S : SeriesRing) (K : ℕ) (rows : List (Row S)) → IsProp (AreRows (ring S) K rows)
AreRows-IsProp S K rows = hlevel (IsRow-IsProp S)

pub IsRowOf-IsProp : (S : SeriesRing) (K r : ℕ) (p : Poly S) (row : Row S) → IsProp (IsRowOf K r p row)
IsRowOf-IsProp S K r p row = hlevel (ℕ_set, Poly-IsSet S)

-- a residue has one inverse at most
inverse_once : (m x e f : ℕ) → e < m → f < m → (x * e) % m ≡ 1 → (x * f) % m ≡ 1 → e ≡ f
inverse_once m x e f he hf p q = sym (back e f q he) ∙ ap (λ n. n % m) (swap x e f) ∙ back f e p hf
  where
    swap : (x e f : ℕ) → (x * f) * e ≡ (x * e) * f
    swap x e f = omega arith

    back : (e f : ℕ) → (x * f) % m ≡ 1 → e < m → ((x * f) * e) % m ≡ e
    back e f q he = sym (mul-mod_first (x * f) e m) ∙ ap (λ n. (n * e) % m) q ∙ ap (λ n. n % m) (one-mul e)
        ∙ mod-eq_of_lt he

pub IsUnit-IsProp : (m x : ℕ) → IsProp (IsUnit m x)
IsUnit-IsProp m x u v =
    let pairs : ◌≡◌ {A = (e : ℕ) × ((e < m) × ((x * e) % m ≡ 1))} (u.inverse, (u.is_residue, u.inverts))
    (v.inverse, (v.is_residue, v.inverts)) =
    Σ_prop_path (λ e. hlevel (le_prop, ℕ_set))
    (inverse_once m x u.inverse v.inverse u.is_residue v.is_residue u.inverts v.inverts) in
    λ i. record { inverse = (pairs i).0; is_residue = (pairs i).1.0; inverts = (pairs i).1.1 }

pub IsPreparable-IsProp : (S : SeriesRing) (G : Poly S) (k q : ℕ) → IsProp (IsPreparable G k q)
IsPreparable-IsProp S G k q = hlevel (ℕ_set, Poly-IsSet S, IsUnit-IsProp S.modulus)

pub IsPrepared-IsProp : (S : SeriesRing) (G : Poly S) (k q D : ℕ) (p u : Poly S)
    → IsProp (IsPrepared G k q D p u)
IsPrepared-IsProp S G k q D p u = hlevel (Poly-IsSet S, IsUnit-IsProp S.modulus)

pub IsFactor-IsProp : (S : SeriesRing) (D : ℕ) (r : Root) (f : Poly S) → IsProp (IsFactor D r f)
IsFactor-IsProp S D r f = hlevel (Poly-IsSet S)

pub EachIsFactor-IsProp : (S : SeriesRing) (D : ℕ) (roots : List Root) (fs : List (Poly S))
    → IsProp (EachIsFactor D roots fs)
EachIsFactor-IsProp S D [] [] = hlevel
EachIsFactor-IsProp S D [] (f ∷ fs) = hlevel
EachIsFactor-IsProp S D (r ∷ rs) [] = hlevel
EachIsFactor-IsProp S D (r ∷ rs) (f ∷ fs) = hlevel (IsFactor-IsProp S, EachIsFactor-IsProp S D rs fs)

pub IsFactorList-IsProp : (S : SeriesRing) (D : ℕ) (F : Poly S) (roots : List Root) (fs : List (Poly S))
    → IsProp (IsFactorList D F roots fs)
IsFactorList-IsProp S D F roots fs = hlevel (Poly-IsSet S, EachIsFactor-IsProp S)

pub AreFactorsOf-IsProp : (job : JobData) (D : ℕ) (value : Poly (job_ring job)) (fs : List (Poly (job_ring job)))
    → IsProp (AreFactorsOf job D value fs)
AreFactorsOf-IsProp job D value fs = hlevel (Poly-IsSet (job_ring job), EachIsFactor-IsProp (job_ring job))

AreSummands-IsProp : {m : _} (row : Row_of-Summand m) → IsProp (AreSummands row)
AreSummands-IsProp end_of-Summand = hlevel
AreSummands-IsProp (more_of-Summand minus of end_of-Summand) = hlevel Bool-set
AreSummands-IsProp (more_of-Summand minus of (more_of-Summand m o rest)) = hlevel

AreFactors-IsProp : {m : _} (row : Row_of-Factor m) → IsProp (AreFactors row)
AreFactors-IsProp end_of-Factor = hlevel
AreFactors-IsProp (more_of-Factor divide of end_of-Factor) = hlevel
AreFactors-IsProp (more_of-Factor divide of (more_of-Factor d o rest)) = hlevel Bool-set

mutual
  pub IsValidTree-IsProp : (names : ℕ) (e : Expr) → IsProp (IsValidTree names e)
  IsValidTree-IsProp names (Number c) = hlevel le_prop
  IsValidTree-IsProp names (Name i) = hlevel le_prop
  IsValidTree-IsProp names MainVariable = hlevel
  IsValidTree-IsProp names (Sum' shape summands) =
      hlevel (AreSummands-IsProp summands, AreValidSummands-IsProp names summands)
  IsValidTree-IsProp names (Product' shape factors) =
      hlevel (AreFactors-IsProp factors, AreValidFactors-IsProp names factors)
  IsValidTree-IsProp names (Power' shape (more_of-Expr base end_of-Expr) exponent) =
      hlevel (IsValidTree-IsProp names base, le_prop)

  AreValidSummands-IsProp : {m : _} (names : ℕ) (row : Row_of-Summand m) → IsProp (AreValidSummands names row)
  AreValidSummands-IsProp names end_of-Summand = hlevel
  AreValidSummands-IsProp names (more_of-Summand minus of rest) =
      hlevel (IsValidTree-IsProp names of, AreValidSummands-IsProp names rest)

  AreValidFactors-IsProp : {m : _} (names : ℕ) (row : Row_of-Factor m) → IsProp (AreValidFactors names row)
  AreValidFactors-IsProp names end_of-Factor = hlevel
  AreValidFactors-IsProp names (more_of-Factor divide of rest) =
      hlevel (IsValidTree-IsProp names of, AreValidFactors-IsProp names rest)

pub AreWeights-IsProp : (n : ℕ) (ws : List ℕ) → IsProp (AreWeights n ws)
AreWeights-IsProp n ws = hlevel (ℕ_set, le_prop)

pub IsAcceptedRoot-IsProp : (m : ℕ) (r : Root) → IsProp (IsAcceptedRoot m r)
IsAcceptedRoot-IsProp m r = hlevel le_prop

pub IsAccepted-IsProp : (job : JobData) → IsProp (IsAccepted job)
IsAccepted-IsProp job = hlevel (le_prop, AreWeights-IsProp, IsValidTree-IsProp, IsAcceptedRoot-IsProp)
