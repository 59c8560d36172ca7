-- The lines of a degree r of a stream don't change where lead and factors are truncated at r.
use Rattle.std.proofs.Common.{◌≡◌, ℕ, zero, suc, Bool, true, false, cond, ◌&&◌, List, [], ◌∷◌, ◌++◌}
use Rattle.std.proofs.Common.{Option, Some, None, refl, sym, ◌∙◌, ap, arith}
use Rattle.std.specs.Prelude.{◌==◌, nat_le, codes, decimal}
use Rattle.std.specs.List.{filter}
use Rattle.std.specs.FinMap.{FinMap, entries, get, entries_sorted, retain_keys, get-entries, get-retain_keys}
use Rattle.std.specs.FinMap.Entries.{where_key, is_sorted-where_key, find-where_key, same_entries}
use Rattle.std.specs.declared.cmp.Ordering.TheVariants.{Equal}
use Rattle.std.proofs.lemmas.Bool.{and_parts, eqb-true}
use Rattle.std.proofs.lemmas.Bool.Decides.{nat_tests}
use Rattle.ps_model.specs.BlockText.{newline, terms_of_degree}
use Rattle.ps_model.specs.Factors.{each_truncated}
use Rattle.ps_model.specs.Polynomial.{Polynomial, terms, kept_terms}
use Rattle.ps_model.specs.Ring.{Ring}
use Rattle.ps_model.specs.SeriesRing.{SeriesRing, ring, degree, Poly}
use Rattle.ps_model.specs.StreamText.{unless_none, lead_line, lines_of, lines_of_all, degree_text}
use Rattle.ps_model.specs.Truncation.{truncated}
use Rattle.ps_model.specs.declared.job.Root.{Root}
use Rattle.ps_model.proofs.Retained.{map-kept_terms}

module _ (R : Ring) (t u : R.Key → Bool) (p : Polynomial R) (within : (k : R.Key) → t k ≡ true → u k ≡ true) where
  alike : (f : R.Key → Bool) (q x : R.Key) → R.compare q x ≡ Equal → f x ≡ f q
  alike f q x e = ap f (sym (R.antisymmetric q x e))

  chosen : {A : Type 0} (a b : Bool) (x y : A) → (a ≡ true → b ≡ true) → cond a (cond b x y) y ≡ cond a x y
  chosen true true x y h = refl
  chosen true false x y h = absurd (no (h refl))
    where
      no : false ≡ true → ⊥
      no same = cc
  chosen false b x y h = refl

  -- the terms that pass a test, where all of these are kept
  pub filtered_kept : filter (λ e. t e.0) (terms R (kept_terms R u p)) ≡ filter (λ e. t e.0) (terms R p)
  filtered_kept = ap (λ (m : FinMap R.compare ℕ). filter (λ e. t e.0) (entries m)) (map-kept_terms R u p)
      ∙ same_entries R.compare R.total_order R.antisymmetric
      (where_key R.compare t (entries (retain_keys p.map u))) (where_key R.compare t (entries p.map))
      (is_sorted-where_key R.compare t (entries (retain_keys p.map u)) (entries_sorted (retain_keys p.map u)))
      (is_sorted-where_key R.compare t (entries p.map) (entries_sorted p.map))
      (λ q. find-where_key R.compare t q (alike t q) (entries (retain_keys p.map u))
      ∙ ap (λ o. cond (t q) o None) (sym (get-entries (retain_keys p.map u) q) ∙ get-retain_keys p.map u q (alike u q))
      ∙ chosen (t q) (u q) (get p.map q) None (within q)
      ∙ ap (λ o. cond (t q) o None) (get-entries p.map q)
      ∙ sym (find-where_key R.compare t q (alike t q) (entries p.map)))

of_degree : (j r y d : ℕ) → ((y == j) && (d == r)) ≡ true → nat_le d r ≡ true
of_degree j r y d h = let same : d ≡ r = eqb-true d r (and_parts (y == j) (d == r) h).1 in grind (arith, nat_tests)

module _ (S : SeriesRing) (r : ℕ) where
  abbrev cut : Poly S → Poly S
  cut p = truncated (ring S) (degree S) r p

  abbrev pub cut_lead : Option (Poly S) → Option (Poly S)
  cut_lead None = None
  cut_lead (Some l) = Some (truncated (ring S) (degree S) r l)

  -- the terms of degree r
  terms_cut : (p : Poly S) (j : ℕ) → terms_of_degree S (cut p) j r ≡ terms_of_degree S p j r
  unfolding truncated
  terms_cut p j = filtered_kept (ring S) (λ k. (k.y == j) && (degree S k == r)) (λ k. nat_le (degree S k) r) p
      (λ k h. of_degree j r k.y (degree S k) h)

  module _ (names : List (List ℕ)) where
    lead_cut : (lead : Option (Poly S)) → lead_line S names (cut_lead lead) r ≡ lead_line S names lead r
    lead_cut None = refl
    lead_cut (Some l) = ap (unless_none names (codes "lead: ")) (terms_cut l 0)

    lines_cut : (i : ℕ) (f : Poly S) (j : ℕ) → lines_of S names r i (cut f) j ≡ lines_of S names r i f j
    lines_cut i f zero = ap (unless_none names (decimal i ++ codes " Y^0: ")) (terms_cut f 0)
    lines_cut i f (suc j) = λ k. unless_none names (decimal i ++ codes " Y^" ++ decimal (suc j) ++ codes ": ")
        (terms_cut f (suc j) k) ++ lines_cut i f j k

    all_cut : (i : ℕ) (roots : List Root) (fs : List (Poly S))
        → lines_of_all S names r i roots (each_truncated r fs) ≡ lines_of_all S names r i roots fs
    all_cut i [] fs = refl
    all_cut i (root ∷ roots) [] = refl
    all_cut i (root ∷ roots) (f ∷ fs) = λ k. lines_cut i f root.times k ++ all_cut (suc i) roots fs k

    -- the lines of degree r
    pub degree_cut : (lead : Option (Poly S)) (roots : List Root) (fs : List (Poly S))
        → degree_text S names (cut_lead lead) roots (each_truncated r fs) r ≡ degree_text S names lead roots fs r
    degree_cut lead roots fs = λ k. codes "degree " ++ decimal r ++ newline ++ lead_cut lead k ++ all_cut 1 roots fs k
