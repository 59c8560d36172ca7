-- The form of a demonstration's tree: no division, its degree, its nodes, and that it is valid.
use Rattle.std.proofs.Common.{◌≡◌, ℕ, zero, suc, ◌+◌, ◌*◌, ◌^◌, ◌<◌, ◌≤◌, max, List, [], ◌∷◌, map, refl}
use Rattle.std.proofs.Common.{◌∙◌, arith}
use Rattle.std.specs.List.{range_with_len}
use Rattle.ps_model.specs.declared.expr.Expr.{Sum}
use Rattle.ps_model.specs.declared.expr.Expr.TheBlock.{hidden-the_row-Summand-0, shape-the_row-Summand-0}
use Rattle.ps_model.specs.declared.expr.Expr.TheBlock.{hidden-the_row-Factor-1, shape-the_row-Factor-1}
use Rattle.ps_model.specs.declared.expr.Expr.TheBlock.{hidden-the_row-Expr-2}
use denote.Hole.Carrier.{hidden}
use Rattle.ps_model.specs.declared.expr.Summand.{Summand}
use Rattle.ps_model.specs.Tree.{divisors, formal_degree, node_count, nodes_of_power, power_nodes, IsValidTree}
use Rattle.ps_model.specs.Tree.{AreValidSummands}
use Rattle.ps_model.proofs.TreeLists.{formal_degree-Sum, greatest_of, node_count-Sum, nodes_of_all}
use Rattle.demo.specs.Generator.{degree_by, powers_by, summand, term_by, terms_by, tree_by}

-- a term
term_degree : (x y j : ℕ) → formal_degree (term_by x y j) ≡ j
unfolding hidden-the_row-Summand-0 shape-the_row-Summand-0 hidden-the_row-Factor-1 shape-the_row-Factor-1
    hidden-the_row-Expr-2 hidden
term_degree x y j = once j
  where
    once : (j : ℕ) → 0 + (j * 1 + 0) ≡ j
    once j = omega arith

-- the nodes of a power of Y
few_nodes : (e : ℕ) → e ≤ 8 → power_nodes 1 e ≤ 9 * e
few_nodes zero le = omega arith
few_nodes (suc zero) le = omega arith
few_nodes (suc (suc e)) le = more (power_nodes 1 (suc e)) e le (few_nodes (suc e) (omega arith))
  where
    more : (n e : ℕ) → suc (suc e) ≤ 8 → n ≤ 9 * suc e → n + (suc (suc e) * 1 + 1) ≤ 9 * suc (suc e)
    more n e le low = omega arith

power_few : (e : ℕ) → e ≤ 8 → nodes_of_power 2 1 e ≤ 80
power_few zero le = omega arith
power_few (suc e) le = more (power_nodes 1 (suc e)) e le (few_nodes (suc e) le)
  where
    more : (n e : ℕ) → suc e ≤ 8 → n ≤ 9 * suc e → 2 + n ≤ 80
    more n e le low = omega arith

term_nodes : (x y j : ℕ) → j ≤ 8 → node_count (term_by x y j) ≤ 100
unfolding hidden-the_row-Summand-0 shape-the_row-Summand-0 hidden-the_row-Factor-1 shape-the_row-Factor-1
    hidden-the_row-Expr-2 hidden
term_nodes x y j le = few (nodes_of_power 2 1 j) j le (power_few j le)
  where
    few : (n j : ℕ) → j ≤ 8 → n ≤ 80 → 7 + (n + (0 + j * 1 + 1) + 0) ≤ 100
    few n j le low = omega arith

term_valid : (x y j : ℕ) → x < 2 ^ 64 → y < 2 ^ 64 → j ≤ 255 → IsValidTree 2 (term_by x y j)
unfolding hidden-the_row-Summand-0 shape-the_row-Summand-0 hidden-the_row-Factor-1 shape-the_row-Factor-1
    hidden-the_row-Expr-2 hidden
term_valid x y j low low' le = (
  refl,
  ((tt, ((refl, (low, (omega arith, tt))), ((refl, (low', (omega arith, tt))), tt))), ((tt, le), tt)),
)

-- the terms from one on
module _ (a b : ℕ → ℕ) where
  abbrev from : ℕ → ℕ → List Summand
  from i n = map (λ j. summand (term_by (a j) (b j) j)) (range_with_len i n)

  from_divisors : (i n : ℕ) → divisors (Sum (from i n)) ≡ []
  unfolding hidden-the_row-Summand-0 shape-the_row-Summand-0 hidden-the_row-Factor-1 shape-the_row-Factor-1
      hidden-the_row-Expr-2 hidden
  from_divisors i zero = refl
  from_divisors i (suc n) = from_divisors (i + 1) n

  from_degree : (i n : ℕ) → greatest_of (from i n) ≤ i + n
  from_degree i zero = omega arith
  from_degree i (suc n) = greater _ _ i n (term_degree (a i) (b i) i) (from_degree (i + 1) n)
    where
      greater : (f g i n : ℕ) → f ≡ i → g ≤ i + 1 + n → max f g ≤ i + suc n
      greater f g i n is le = omega arith

  from_nodes : (i n : ℕ) → i + n ≤ 8 → nodes_of_all (from i n) ≤ 100 * n
  from_nodes i zero le = omega arith
  from_nodes i (suc n) le = more _ _ n (term_nodes (a i) (b i) i (omega arith)) (from_nodes (i + 1) n (omega arith))
    where
      more : (f g n : ℕ) → f ≤ 100 → g ≤ 100 * n → f + g ≤ 100 * suc n
      more f g n le le' = omega arith

  module _ (low : (j : ℕ) → a j < 2 ^ 64) (low' : (j : ℕ) → b j < 2 ^ 64) where
    from_valid : (i n : ℕ) → i + n ≤ 8 → AreValidSummands 2 (hidden-the_row-Summand-0 (from i n))
    unfolding hidden-the_row-Summand-0 shape-the_row-Summand-0 hidden
    from_valid i zero le = tt
    from_valid i (suc n) le =
        (term_valid (a i) (b i) i (low i) (low' i) (omega arith), from_valid (i + 1) n (omega arith))

-- the powers of the roots
module _ (k1 k2 k3 k4 : ℕ) where
  powers_degree : formal_degree (powers_by k1 k2 k3 k4) ≡ degree_by k1 k2 k3 k4
  unfolding hidden-the_row-Summand-0 shape-the_row-Summand-0 hidden-the_row-Factor-1 shape-the_row-Factor-1
      hidden-the_row-Expr-2 hidden
  powers_degree = added_up k1 k2 k3 k4
    where
      added_up : (k1 k2 k3 k4 : ℕ) → k1 * 1 + (k2 * 1 + (k3 * 1 + (k4 * 1 + 0))) ≡ k1 + k2 + k3 + k4
      added_up k1 k2 k3 k4 = omega arith

  module _ (a b : ℕ → ℕ) where
    pub no_division : divisors (tree_by k1 k2 k3 k4 a b) ≡ []
    unfolding hidden-the_row-Summand-0 shape-the_row-Summand-0 hidden-the_row-Factor-1 shape-the_row-Factor-1
        hidden-the_row-Expr-2 hidden
    no_division = from_divisors a b 0 (degree_by k1 k2 k3 k4)

    pub degree_is : formal_degree (tree_by k1 k2 k3 k4 a b) ≡ degree_by k1 k2 k3 k4
    degree_is = formal_degree-Sum (summand (powers_by k1 k2 k3 k4) ∷ terms_by a b (degree_by k1 k2 k3 k4))
        ∙ first_greater _ _ _ powers_degree (from_degree a b 0 (degree_by k1 k2 k3 k4))
      where
        first_greater : (f g d : ℕ) → f ≡ d → g ≤ 0 + d → max f g ≡ d
        first_greater f g d is le = omega arith

    module _ (le1 : k1 ≤ 2) (le2 : k2 ≤ 2) (le3 : k3 ≤ 2) (le4 : k4 ≤ 2) where
      power_of_root : (n k : ℕ) → k ≤ 2 → nodes_of_power n 1 k ≤ n + 3
      power_of_root n zero le = omega arith
      power_of_root n (suc zero) le = omega arith
      power_of_root n (suc (suc zero)) le = omega arith
      power_of_root n (suc (suc (suc k))) le = absurd (omega arith)

      powers_nodes : node_count (powers_by k1 k2 k3 k4) ≤ 100
      unfolding hidden-the_row-Summand-0 shape-the_row-Summand-0 hidden-the_row-Factor-1 shape-the_row-Factor-1
          hidden-the_row-Expr-2 hidden
      powers_nodes = few _ _ _ _ k1 k2 k3 k4 (power_of_root 2 k1 le1) (power_of_root 5 k2 le2) (power_of_root 5 k3 le3)
          (power_of_root 5 k4 le4) le1 le2 le3 le4
        where
          few : (n1 n2 n3 n4 k1 k2 k3 k4 : ℕ) → n1 ≤ 2 + 3 → n2 ≤ 5 + 3 → n3 ≤ 5 + 3 → n4 ≤ 5 + 3
              → k1 ≤ 2 → k2 ≤ 2 → k3 ≤ 2 → k4 ≤ 2
              → n1 + (n2 + (k1 * 1 + k2 * 1 + 1) + (n3 + (k1 * 1 + k2 * 1 + k3 * 1 + 1)
              + (n4 + (k1 * 1 + k2 * 1 + k3 * 1 + k4 * 1 + 1) + 0))) ≤ 100
          few n1 n2 n3 n4 k1 k2 k3 k4 a b c d e f g h = omega arith

      pub few : node_count (tree_by k1 k2 k3 k4 a b) ≤ 4096
      few = within _ _ _ _ (degree_by k1 k2 k3 k4)
          (node_count-Sum (summand (powers_by k1 k2 k3 k4) ∷ terms_by a b (degree_by k1 k2 k3 k4)))
          powers_nodes (from_nodes a b 0 (degree_by k1 k2 k3 k4) (omega arith)) degree_is (omega arith)
        where
          within : (n p t d k : ℕ) → n ≡ p + t + d + 1 → p ≤ 100 → t ≤ 100 * k → d ≡ k → k ≤ 8 → n ≤ 4096
          within n p t d k is le le' same low = omega arith

      powers_valid : IsValidTree 2 (powers_by k1 k2 k3 k4)
      unfolding hidden-the_row-Summand-0 shape-the_row-Summand-0 hidden-the_row-Factor-1 shape-the_row-Factor-1
          hidden-the_row-Expr-2 hidden
      powers_valid = (
        refl,
        (
          (tt, omega arith),
          (
            ((tt, (tt, (omega arith, tt))), omega arith),
            (((tt, (tt, (omega arith, tt))), omega arith), (((tt, (tt, (omega arith, tt))), omega arith), tt)),
          ),
        ),
      )

      module _ (low : (j : ℕ) → a j < 2 ^ 64) (low' : (j : ℕ) → b j < 2 ^ 64) (some : 0 < k1) where
        two_summands : (n : ℕ) → 0 < n → n ≤ 8
            → IsValidTree 2 (Sum (summand (powers_by k1 k2 k3 k4) ∷ terms_by a b n))
        unfolding hidden-the_row-Summand-0 shape-the_row-Summand-0 hidden
        two_summands zero lt le = absurd (omega arith)
        two_summands (suc n) lt le = (tt, (powers_valid, from_valid a b low low' 0 (suc n) (omega arith)))

        pub valid_tree : IsValidTree 2 (tree_by k1 k2 k3 k4 a b)
        valid_tree = two_summands (degree_by k1 k2 k3 k4) (omega arith) (omega arith)
