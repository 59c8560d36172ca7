-- The first factors that differ, place by place.
use Rattle.std.proofs.Common.{◌≡◌, ℕ, ◌+◌, ◌<◌, ◌≤◌, List, [], ◌∷◌, ◌++◌, length, take, drop, get_or, sym, ◌∙◌, ap}
use Rattle.std.proofs.Common.{arith}
use Rattle.std.proofs.lemmas.List.{take-append-drop, drop_more, take_more, take_all, length-take-le}
use Rattle.ps_model.specs.SeriesRing.{SeriesRing, Poly}
use Rattle.comparison.specs.Differences.{IsFirstIn, FactorsDiffer}

module _ (S : SeriesRing) (fs gs : List (Poly S)) (i : ℕ) (so_far : take i fs ≡ take i gs) where
  module _ (d : Poly S) (lf : i < length fs) (lg : i < length gs) where
    pub factor_differs : (j r : ℕ) → IsFirstIn S (get_or fs i d) (get_or gs i d) j r → FactorsDiffer S fs gs (i + 1) j r
    factor_differs j r first = record {
      before = take i fs;
      f = get_or fs i d;
      g = get_or gs i d;
      fs' = drop (i + 1) fs;
      gs' = drop (i + 1) gs;
      fs_are = sym (take-append-drop i fs) ∙ ap (λ l. take i fs ++ l) (drop_more fs i d lf);
      gs_are = sym (take-append-drop i gs) ∙ (λ k. sym so_far k ++ drop_more gs i d lg k);
      number_is = omega (arith, length-take-le i fs (omega arith));
      first = first;
    }

    pub factor_same : get_or fs i d ≡ get_or gs i d → take (i + 1) fs ≡ take (i + 1) gs
    factor_same same = take_more fs i d lf ∙ (λ k. so_far k ++ same k ∷ []) ∙ sym (take_more gs i d lg)

  pub factors_same : length fs ≤ i → length gs ≤ i → fs ≡ gs
  factors_same lf lg = sym (take_all i fs lf) ∙ so_far ∙ take_all i gs lg
