-- The definitions over trees, read at lists of summands and factors.
use Rattle.std.proofs.Common.{◌≡◌, ℕ, zero, suc, ◌<◌, max, Bool, true, false, List, [], ◌∷◌, ◌++◌, length, get_or}
use Rattle.std.proofs.Common.{refl, ap, arith, codes, subst, sym, ◌∙◌}
use Rattle.std.specs.Fmt.{decimal}
use Rattle.ps_model.specs.Tree.{IsValidTree, AreValidSummands, AreValidFactors}
use Rattle.ps_model.specs.declared.expr.Expr.{Expr, Sum, Product, Power}
use Rattle.ps_model.specs.declared.expr.Summand.{Summand}
use Rattle.ps_model.specs.declared.expr.Factor.{Factor}
use Rattle.ps_model.specs.declared.expr.Expr.TheBlock.{hidden-the_row-Summand-0, shape-the_row-Summand-0}
use Rattle.ps_model.specs.declared.expr.Expr.TheBlock.{hidden-the_row-Factor-1, shape-the_row-Factor-1}
use Rattle.ps_model.specs.declared.expr.Expr.TheBlock.{hidden-the_row-Expr-2}
use Rattle.ps_model.specs.Spelling.{nesting, nest_inside, spelling, inside, sign, operator, summands_text}
use Rattle.ps_model.specs.Spelling.{factors_text}
use denote.Hole.Carrier.{hidden}

abbrev pub summand_texts : List (List ℕ) → Bool → List Summand → List ℕ
summand_texts names first [] = []
summand_texts names first (s ∷ ss) = sign first s.minus ++ inside 1 s.of
    (spelling names s.of) ++ summand_texts names false ss

abbrev pub factor_texts : List (List ℕ) → Bool → List Factor → List ℕ
factor_texts names first [] = []
factor_texts names first (f ∷ fs) = operator first f.divide ++ inside 2 f.of
    (spelling names f.of) ++ factor_texts names false fs

summands_text_is : (names : List (List ℕ)) (first : Bool) (ss : List Summand) → summands_text names first
    (hidden-the_row-Summand-0 ss) ≡ summand_texts names first ss
unfolding hidden-the_row-Summand-0 shape-the_row-Summand-0 hidden
summands_text_is names first [] = refl
summands_text_is names first (s ∷ ss) = ap (λ t. sign first s.minus ++ inside 1 s.of (spelling names s.of) ++ t)
    (summands_text_is names false ss)

factors_text_is : (names : List (List ℕ)) (first : Bool) (fs : List Factor) → factors_text names first
    (hidden-the_row-Factor-1 fs) ≡ factor_texts names first fs
unfolding hidden-the_row-Factor-1 shape-the_row-Factor-1 hidden
factors_text_is names first [] = refl
factors_text_is names first (f ∷ fs) = ap (λ t. operator first f.divide ++ inside 2 f.of (spelling names f.of) ++ t)
    (factors_text_is names false fs)

pub spelling-Sum : (names : List (List ℕ)) (ss : List Summand) → spelling names (Sum ss) ≡ summand_texts names true ss
spelling-Sum names ss = summands_text_is names true ss

pub spelling-Product : (names : List (List ℕ)) (fs : List Factor) → spelling names
    (Product fs) ≡ factor_texts names true fs
spelling-Product names fs = factors_text_is names true fs

pub spelling-Power : (names : List (List ℕ)) (b : Expr) (e : ℕ) → spelling names (Power b e) ≡ inside 3 b
    (spelling names b) ++ codes "^" ++ decimal e
unfolding hidden-the_row-Expr-2 hidden
spelling-Power names b e = refl

summand_valid : (n : ℕ) (ss : List Summand) (i : ℕ) (d : Summand) → i < length ss → AreValidSummands n
    (hidden-the_row-Summand-0 ss) → IsValidTree n (get_or ss i d).of
unfolding hidden-the_row-Summand-0 shape-the_row-Summand-0 hidden
summand_valid n [] i d within h = absurd (omega arith)
summand_valid n (s ∷ ss) zero d within h = h.0
summand_valid n (s ∷ ss) (suc i) d within h = summand_valid n ss i d (omega arith) h.1

factor_valid : (n : ℕ) (fs : List Factor) (i : ℕ) (d : Factor) → i < length fs → AreValidFactors n
    (hidden-the_row-Factor-1 fs) → IsValidTree n (get_or fs i d).of
unfolding hidden-the_row-Factor-1 shape-the_row-Factor-1 hidden
factor_valid n [] i d within h = absurd (omega arith)
factor_valid n (f ∷ fs) zero d within h = h.0
factor_valid n (f ∷ fs) (suc i) d within h = factor_valid n fs i d (omega arith) h.1

pub IsValidTree-Sum : (n : ℕ) (ss : List Summand) (i : ℕ) (d : Summand) → i < length ss → IsValidTree n (Sum ss) →
    IsValidTree n (get_or ss i d).of
IsValidTree-Sum n ss i d within h = summand_valid n ss i d within h.1

pub IsValidTree-Product : (n : ℕ) (fs : List Factor) (i : ℕ) (d : Factor) → i < length fs → IsValidTree n
    (Product fs) → IsValidTree n (get_or fs i d).of
IsValidTree-Product n fs i d within h = factor_valid n fs i d within h.1

pub IsValidTree-Power : (n : ℕ) (b : Expr) (e : ℕ) → IsValidTree n (Power b e) → IsValidTree n b
unfolding hidden-the_row-Expr-2 hidden
IsValidTree-Power n b e h = h.0

-- the same for what a loop over a tree's list knows
pub valid_summand : (n : ℕ) (e : Expr) (ss items : List Summand) (i : ℕ) (s : Summand) → e ≡ Sum ss → items ≡ ss →
    i < length items → s ≡ get_or items i s → IsValidTree n e → IsValidTree n s.of
valid_summand n e ss items i s is same within item h =
    let at_items : IsValidTree n (Sum items) = subst (λ (x : Expr). IsValidTree n x) (is ∙ ap Sum (sym same)) h in
    subst (λ (x : Summand). IsValidTree n x.of) (sym item) (IsValidTree-Sum n items i s within at_items)

pub valid_factor : (n : ℕ) (e : Expr) (fs items : List Factor) (i : ℕ) (f : Factor) → e ≡ Product fs → items ≡ fs →
    i < length items → f ≡ get_or items i f → IsValidTree n e → IsValidTree n f.of
valid_factor n e fs items i f is same within item h =
    let at_items : IsValidTree n (Product items) = subst (λ (x : Expr). IsValidTree n x)
    (is ∙ ap Product (sym same)) h in
    subst (λ (x : Factor). IsValidTree n x.of) (sym item) (IsValidTree-Product n items i f within at_items)

abbrev pub summands_nest : List Summand → ℕ
summands_nest [] = 0
summands_nest (s ∷ ss) = max (nest_inside 1 s.of (nesting s.of)) (summands_nest ss)

abbrev pub factors_nest : List Factor → ℕ
factors_nest [] = 0
factors_nest (f ∷ fs) = max (nest_inside 2 f.of (nesting f.of)) (factors_nest fs)

pub nesting-Sum : (ss : List Summand) → nesting (Sum ss) ≡ summands_nest ss
unfolding hidden-the_row-Summand-0 shape-the_row-Summand-0 hidden
nesting-Sum [] = refl
nesting-Sum (s ∷ ss) = ap (λ n. max (nest_inside 1 s.of (nesting s.of)) n) (nesting-Sum ss)

pub nesting-Product : (fs : List Factor) → nesting (Product fs) ≡ factors_nest fs
unfolding hidden-the_row-Factor-1 shape-the_row-Factor-1 hidden
nesting-Product [] = refl
nesting-Product (f ∷ fs) = ap (λ n. max (nest_inside 2 f.of (nesting f.of)) n) (nesting-Product fs)

pub nesting-Power : (b : Expr) (e : ℕ) → nesting (Power b e) ≡ nest_inside 3 b (nesting b)
unfolding hidden-the_row-Expr-2 hidden
nesting-Power b e = refl
