-- What a tree's names, nodes and degree say of its parts: each has no more nodes, and no degree is above the nodes.
use Rattle.std.proofs.Common.{◌≡◌, ℕ, zero, suc, ◌+◌, ◌*◌, ◌<◌, ◌≤◌, Bool, true, false, List, [], ◌∷◌}
use Rattle.std.proofs.Common.{length, get_or, drop, sym, ap, subst, arith}
use Rattle.std.specs.Prelude.{if◌then◌else◌}
use Rattle.ps_model.specs.declared.expr.Expr.{Expr, Number, Name, MainVariable, Sum', Product', Power'}
use Rattle.ps_model.specs.declared.expr.Expr.{Sum, Product, Power}
use Rattle.ps_model.specs.declared.expr.Expr.{end_of-Expr, more_of-Expr}
use Rattle.ps_model.specs.declared.expr.Expr.{Row_of-Factor, end_of-Factor, more_of-Factor}
use Rattle.ps_model.specs.declared.expr.Summand.{Summand}
use Rattle.ps_model.specs.declared.expr.Factor.{Factor}
use Rattle.ps_model.specs.declared.expr.Expr.TheBlock.{hidden-the_row-Summand-0, shape-the_row-Summand-0}
use Rattle.ps_model.specs.declared.expr.Expr.TheBlock.{hidden-the_row-Factor-1, shape-the_row-Factor-1}
use Rattle.ps_model.specs.declared.expr.Expr.TheBlock.{hidden-the_row-Expr-2}
use Rattle.ps_model.specs.Tree.{formal_degree, product_degree, node_count, nodes_of_power, power_nodes}
use Rattle.ps_model.specs.Tree.{product_nodes, later_nodes, IsValidTree, AreValidSummands, AreValidFactors}
use Rattle.ps_model.proofs.TreeLists.{nodes_of_all, nodes_after, node_count-Sum, node_count-Product, node_count-Power}
use Rattle.intake.specs.Origin.{HasEightNames}
use Rattle.intake.proofs.LeadRows.{degree-Product_more}
use denote.Hole.Carrier.{hidden}

-- the degree of a power isn't above its nodes
power_degree : (n d e : ℕ) → d ≤ n → e * d ≤ nodes_of_power n d e
power_degree n d zero le = omega arith
power_degree n d (suc zero) le = omega arith
power_degree n d (suc (suc e)) le = behind (power_nodes d (suc e)) (suc (suc e) * d)
  where
    behind : (a b : ℕ) → b ≤ n + (a + (b + 1))
    behind a b = omega arith

kept : (b : Bool) (d : ℕ) → (if b then 0 else d) ≤ d
kept true d = omega arith
kept false d = omega arith

mutual
  pub degree_of_nodes : (e : Expr) → formal_degree e ≤ node_count e
  degree_of_nodes (Number c) = omega arith
  degree_of_nodes (Name i) = omega arith
  degree_of_nodes MainVariable = omega arith
  degree_of_nodes (Sum' shape summands) = omega arith
  degree_of_nodes (Product' shape factors) = product_degree_of_nodes factors
  degree_of_nodes (Power' shape (more_of-Expr base end_of-Expr) exponent) =
      power_degree (node_count base) (formal_degree base) exponent (degree_of_nodes base)

  product_degree_of_nodes : {m : _} (row : Row_of-Factor m) → product_degree row ≤ product_nodes row
  product_degree_of_nodes end_of-Factor = omega arith
  product_degree_of_nodes (more_of-Factor divide of rest) =
      let a : (if divide then 0 else formal_degree of) ≤ formal_degree of = kept divide (formal_degree of) in
      let b = degree_of_nodes of in
      let c = later_degree_of_nodes (formal_degree of) (node_count of) rest b in
      omega arith

  later_degree_of_nodes : {m : _} (running k : ℕ) (row : Row_of-Factor m) → running ≤ k
      → running + product_degree row ≤ k + later_nodes running row
  later_degree_of_nodes running k end_of-Factor le = omega arith
  later_degree_of_nodes running k (more_of-Factor divide of rest) le =
      let now = running + (if divide then 0 else formal_degree of) in
      let h = later_degree_of_nodes now now rest (omega arith) in
      omega arith

-- the nodes of a summand, of a factor and of a power's base
nodes_within : (ss : List Summand) (i : ℕ) (s : Summand) → i < length ss → s ≡ get_or ss i s
    → node_count s.of ≤ nodes_of_all ss
nodes_within [] i s lt is = absurd (omega arith)
nodes_within (x ∷ ss) zero s lt is =
    let e : node_count s.of ≡ node_count x.of = ap (λ y. node_count y.of) is in omega arith
nodes_within (x ∷ ss) (suc i) s lt is = let h = nodes_within ss i s (omega arith) is in omega arith

pub nodes-Sum : (ss : List Summand) (i : ℕ) (s : Summand) → i < length ss → s ≡ get_or ss i s
    → node_count s.of ≤ node_count (Sum ss)
nodes-Sum ss i s lt is = let h = nodes_within ss i s lt is in let e = node_count-Sum ss in omega arith

later_within : (running : ℕ) (fs : List Factor) (i : ℕ) (f : Factor) → i < length fs → f ≡ get_or fs i f
    → node_count f.of ≤ nodes_after running fs
later_within running [] i f lt is = absurd (omega arith)
later_within running (x ∷ fs) zero f lt is =
    let e : node_count f.of ≡ node_count x.of = ap (λ y. node_count y.of) is in omega arith
later_within running (x ∷ fs) (suc i) f lt is =
    let h = later_within (running + (if x.divide then 0 else formal_degree x.of)) fs i f (omega arith) is in omega arith

pub nodes-Product : (fs : List Factor) (i : ℕ) (f : Factor) → i < length fs → f ≡ get_or fs i f
    → node_count f.of ≤ node_count (Product fs)
nodes-Product [] i f lt is = absurd (omega arith)
nodes-Product (x ∷ fs) zero f lt is =
    let e : node_count f.of ≡ node_count x.of = ap (λ y. node_count y.of) is in
    let n = node_count-Product (x ∷ fs) in omega arith
nodes-Product (x ∷ fs) (suc i) f lt is =
    let h = later_within (formal_degree x.of) fs i f (omega arith) is in
    let n = node_count-Product (x ∷ fs) in omega arith

pub nodes-Power : (b : Expr) (e : ℕ) → node_count b ≤ node_count (Power b e)
nodes-Power b e = subst (λ n. node_count b ≤ n) (sym (node_count-Power b e)) (more (node_count b) (formal_degree b) e)
  where
    more : (n d e : ℕ) → n ≤ nodes_of_power n d e
    more n d zero = omega arith
    more n d (suc e) = omega arith

-- the degree of the later factors
pub degree_left : (fs : List Factor) (i : ℕ) → formal_degree (Product (drop i fs)) ≤ formal_degree (Product fs)
degree_left [] zero = omega arith
degree_left [] (suc i) = omega arith
degree_left (f ∷ fs) zero = omega arith
degree_left (f ∷ fs) (suc i) = let h = degree_left fs i in let e = degree-Product_more f fs in omega arith

-- the names of a summand, of a factor and of a power's base
summand_names : (names : ℕ) (ss : List Summand) (i : ℕ) (s : Summand) → i < length ss → s ≡ get_or ss i s
    → AreValidSummands names (hidden-the_row-Summand-0 ss) → IsValidTree names s.of
unfolding hidden-the_row-Summand-0 shape-the_row-Summand-0 hidden
summand_names names [] i s lt is h = absurd (omega arith)
summand_names names (x ∷ ss) zero s lt is h = subst (λ y. IsValidTree names y.of) (sym is) h.0
summand_names names (x ∷ ss) (suc i) s lt is h = summand_names names ss i s (omega arith) is h.1

pub names-Sum : (ss : List Summand) (i : ℕ) (s : Summand) → i < length ss → s ≡ get_or ss i s
    → HasEightNames (Sum ss) → HasEightNames s.of
names-Sum ss i s lt is h = (h.0, h.1, summand_names h.0 ss i s lt is h.2.1)

factor_names : (names : ℕ) (fs : List Factor) (i : ℕ) (f : Factor) → i < length fs → f ≡ get_or fs i f
    → AreValidFactors names (hidden-the_row-Factor-1 fs) → IsValidTree names f.of
unfolding hidden-the_row-Factor-1 shape-the_row-Factor-1 hidden
factor_names names [] i f lt is h = absurd (omega arith)
factor_names names (x ∷ fs) zero f lt is h = subst (λ y. IsValidTree names y.of) (sym is) h.0
factor_names names (x ∷ fs) (suc i) f lt is h = factor_names names fs i f (omega arith) is h.1

pub names-Product : (fs : List Factor) (i : ℕ) (f : Factor) → i < length fs → f ≡ get_or fs i f
    → HasEightNames (Product fs) → HasEightNames f.of
names-Product fs i f lt is h = (h.0, h.1, factor_names h.0 fs i f lt is h.2.1)

pub names-Power : (b : Expr) (e : ℕ) → HasEightNames (Power b e) → HasEightNames b
unfolding hidden-the_row-Expr-2 hidden
names-Power b e h = (h.0, h.1, h.2.0)
