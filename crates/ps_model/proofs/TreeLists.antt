-- The definitions over trees, read at lists of summands and factors.
use Rattle.std.proofs.Common.{◌≡◌, ◌∙◌, ℕ, ◌+◌, ◌*◌, max, min, zero, suc, ◌≤◌, ◌⊎◌, inl, inr, arith, Bool, true, false}
use Rattle.std.proofs.Common.{List, [], ◌∷◌, if◌then◌else◌, refl, ap}
use Rattle.ps_model.specs.Tree.{formal_degree, node_count, nodes_of_power, summand_nodes, later_nodes}
use Rattle.ps_model.specs.declared.expr.Expr.{Expr, Sum, Product, Power}
use Rattle.ps_model.specs.declared.expr.Summand.{Summand}
use Rattle.ps_model.specs.declared.expr.Factor.{Factor}
use Rattle.ps_model.specs.declared.expr.Expr.TheBlock.{hidden-the_row-Summand-0, shape-the_row-Summand-0}
use Rattle.ps_model.specs.declared.expr.Expr.TheBlock.{hidden-the_row-Factor-1, shape-the_row-Factor-1}
use Rattle.ps_model.specs.declared.expr.Expr.TheBlock.{hidden-the_row-Expr-2}
use denote.Hole.Carrier.{hidden}

abbrev pub greatest_of : List Summand → ℕ
greatest_of [] = 0
greatest_of (s ∷ ss) = max (formal_degree s.of) (greatest_of ss)

pub formal_degree-Sum : (ss : List Summand) → formal_degree (Sum ss) ≡ greatest_of ss
unfolding hidden-the_row-Summand-0 shape-the_row-Summand-0 hidden
formal_degree-Sum [] = refl
formal_degree-Sum (s ∷ ss) = ap (λ n. max (formal_degree s.of) n) (formal_degree-Sum ss)

abbrev pub degree_of_all : List Factor → ℕ
degree_of_all [] = 0
degree_of_all (f ∷ fs) = (if f.divide then 0 else formal_degree f.of) + degree_of_all fs

pub formal_degree-Product : (fs : List Factor) → formal_degree (Product fs) ≡ degree_of_all fs
unfolding hidden-the_row-Factor-1 shape-the_row-Factor-1 hidden
formal_degree-Product [] = refl
formal_degree-Product (f ∷ fs) = ap (λ n. (if f.divide then 0 else formal_degree f.of) + n) (formal_degree-Product fs)

pub formal_degree-Power : (b : Expr) (e : ℕ) → formal_degree (Power b e) ≡ e * formal_degree b
unfolding hidden-the_row-Expr-2 hidden
formal_degree-Power b e = refl

abbrev pub nodes_of_all : List Summand → ℕ
nodes_of_all [] = 0
nodes_of_all (s ∷ ss) = node_count s.of + nodes_of_all ss

nodes_are : (ss : List Summand) → summand_nodes (hidden-the_row-Summand-0 ss) ≡ nodes_of_all ss
unfolding hidden-the_row-Summand-0 shape-the_row-Summand-0 hidden
nodes_are [] = refl
nodes_are (s ∷ ss) = ap (λ n. node_count s.of + n) (nodes_are ss)

pub node_count-Sum : (ss : List Summand) → node_count (Sum ss) ≡ nodes_of_all ss + formal_degree (Sum ss) + 1
node_count-Sum ss = ap (λ n. n + formal_degree (Sum ss) + 1) (nodes_are ss)

-- the nodes of the factors from one on, where some stand before or none
abbrev pub nodes_after : ℕ → List Factor → ℕ
nodes_after running [] = 0
nodes_after running (f ∷ fs) = let now = running + (if f.divide then 0 else formal_degree f.of) in
    node_count f.of + (now + 1) + nodes_after now fs

abbrev pub nodes_from : Bool → ℕ → List Factor → ℕ
nodes_from true running [] = 0
nodes_from true running (f ∷ fs) = node_count f.of + nodes_after (formal_degree f.of) fs
nodes_from false running fs = nodes_after running fs

later_are : (running : ℕ) (fs : List Factor) → later_nodes running (hidden-the_row-Factor-1 fs) ≡ nodes_after running fs
unfolding hidden-the_row-Factor-1 shape-the_row-Factor-1 hidden
later_are running [] = refl
later_are running (f ∷ fs) = let now = running + (if f.divide then 0 else formal_degree f.of) in
    ap (λ n. node_count f.of + (now + 1) + n) (later_are now fs)

pub node_count-Product : (fs : List Factor) → node_count (Product fs) ≡ nodes_from true 0 fs
unfolding hidden-the_row-Factor-1 shape-the_row-Factor-1 hidden
node_count-Product [] = refl
node_count-Product (f ∷ fs) = ap (λ n. node_count f.of + n) (later_are (formal_degree f.of) fs)

pub node_count-Power : (b : Expr) (e : ℕ) → node_count (Power b e) ≡ nodes_of_power (node_count b) (formal_degree b) e
unfolding hidden-the_row-Expr-2 hidden
node_count-Power b e = refl

split : (r m : ℕ) → (r ≤ m) ⊎ (m ≤ r)
split zero m = inl (omega arith)
split (suc r) zero = inr (omega arith)
split (suc r) (suc m) = elim (split r m) [ inl h ↦ inl (omega arith) | inr h ↦ inr (omega arith) ]

-- A running degree that is cut gives the same cut count.
pub later_capped : (n r m : ℕ) (fs : List Factor) → min (n + nodes_after (min r m) fs) m ≡ min (n + nodes_after r fs) m
later_capped n r m [] = refl
later_capped n r m (f ∷ fs) = elim (split r m) [
  | inl low ↦ (let e : min r m ≡ r = omega arith in ap (λ x. min (n + nodes_after x (f ∷ fs)) m) e)
  | inr high ↦ (let a = if f.divide then 0 else formal_degree f.of in
      let big : (k l : ℕ) → min (n + (node_count f.of + (min r m + a + 1) + k)) m ≡ min (n + (node_count f.of +
      (r + a + 1) + l)) m = λ k l. omega arith in
      big (nodes_after (min r m + a) fs) (nodes_after (r + a) fs))
]

pub preserved_first : (n d n0 r0 m total : ℕ) (b0 : Bool) (f : Factor) (dropped rest : List Factor)
    → dropped ≡ f ∷ rest → b0 ≡ true → n0 ≡ 0 → n ≡ min (node_count f.of) m → d ≡ min (formal_degree f.of) m →
    min (n0 + nodes_from b0 r0 dropped) m ≡ total → min (n + nodes_after d rest) m ≡ total
preserved_first n d n0 r0 m total b0 f dropped rest cut is zero_nodes nodes degree same =
    let a : min (n + nodes_after d rest) m ≡ min (n + nodes_after (formal_degree f.of) rest) m =
    ap (λ x. min (n + nodes_after x rest) m) degree ∙ later_capped n (formal_degree f.of) m rest in
    let b : nodes_from b0 r0 dropped ≡ node_count f.of + nodes_after (formal_degree f.of) rest =
    ap (nodes_from b0 r0) cut ∙ ap (λ x. nodes_from x r0 (f ∷ rest)) is in
    omega (arith, a, b)

pub preserved_later : (n r n0 r0 m total : ℕ) (b0 : Bool) (f : Factor) (dropped rest : List Factor)
    → dropped ≡ f ∷ rest → b0 ≡ false → r ≡ min (r0 + (if f.divide then 0 else formal_degree f.of)) m →
    n ≡ min (min (min (n0 + min (node_count f.of) m) m + r) m + 1) m → min (n0 + nodes_from b0 r0 dropped) m ≡ total
    → min (n + nodes_after r rest) m ≡ total
preserved_later n r n0 r0 m total b0 f dropped rest cut is running nodes same =
    let now = r0 + (if f.divide then 0 else formal_degree f.of) in
    let a : min (n + nodes_after r rest) m ≡ min (n + nodes_after now rest) m =
    ap (λ x. min (n + nodes_after x rest) m) running ∙ later_capped n now m rest in
    let b : nodes_from b0 r0 dropped ≡ node_count f.of + (now + 1) + nodes_after now rest = ap (nodes_from b0 r0) cut
    ∙ ap (λ x. nodes_from x r0 (f ∷ rest)) is in
    omega (arith, a, b)

pub nodes_from-nil : (b : Bool) (r : ℕ) → nodes_from b r [] ≡ 0
nodes_from-nil true r = refl
nodes_from-nil false r = refl
