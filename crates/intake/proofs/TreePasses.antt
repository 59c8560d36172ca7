-- A loop over the summands or factors of a tree that passes their divisors, and the Y that was met.
use Rattle.std.proofs.Common.{◌≡◌, ℕ, ◌+◌, ◌<◌, ◌≤◌, Bool, true, false, List, ◌∷◌, ◌++◌, ◌||◌, length, get_or, drop}
use Rattle.std.proofs.Common.{sym, ◌∙◌, ap, subst}
use Rattle.std.specs.Prelude.{if◌then◌else◌}
use Rattle.std.proofs.Math.ListN.{drop_of_length-le}
use Rattle.std.proofs.lemmas.List.{drop_more}
use Rattle.ps_model.specs.declared.expr.Expr.{Expr, Sum, Product, Power}
use Rattle.ps_model.specs.declared.expr.Summand.{Summand}
use Rattle.ps_model.specs.declared.expr.Factor.{Factor}
use Rattle.ps_model.specs.Input.{told_count}
use Rattle.ps_model.specs.Tree.{has_y, divisors}
use Rattle.intake.specs.Passes.{ArePassed, IsStopped, divisors_of}
use Rattle.intake.proofs.Passing.{stopped-first, Going, going-start, going-more, going-end, going-stop}
use Rattle.intake.proofs.TreeRows.{divisors-Sum_none, divisors-Sum_more, divisors-Product_none, divisors-Product_more}
use Rattle.intake.proofs.TreeRows.{divisors-Power, has_y-Power}
use Rattle.intake.proofs.TreeRows.{has_y-Sum_none, has_y-Sum_more, has_y-Product_none, has_y-Product_more}

-- what is left of a list at a place: the item there, and the later ones
pub left_here : {A : Type 0} (items : List A) (i : ℕ) (x : A) → i < length items → x ≡ get_or items i x
    → drop i items ≡ x ∷ drop (i + 1) items
left_here items i x lt is = drop_more items i x lt ∙ ap (λ y. y ∷ drop (i + 1) items) (sym is)

-- a factor's divisors
pub divisors_of-divides : (f : Factor) → f.divide ≡ true → divisors_of f ≡ f.of ∷ divisors f.of
divisors_of-divides f e = ap (λ b. if b then f.of ∷ divisors f.of else divisors f.of) e

pub divisors_of-multiplies : (f : Factor) → f.divide ≡ false → divisors_of f ≡ divisors f.of
divisors_of-multiplies f e = ap (λ b. if b then f.of ∷ divisors f.of else divisors f.of) e

-- those of a power, and its Y, are those of its base
pub divisors-of_power : (whole base seen_base : Expr) (exponent : ℕ) → whole ≡ Power base exponent
    → seen_base ≡ base → divisors seen_base ≡ divisors whole
divisors-of_power whole base seen_base exponent is same =
    ap divisors same ∙ sym (divisors-Power base exponent) ∙ ap divisors (sym is)

pub has_y-of_power : (whole base seen_base : Expr) (exponent : ℕ) → whole ≡ Power base exponent
    → seen_base ≡ base → has_y seen_base ≡ has_y whole
has_y-of_power whole base seen_base exponent is same =
    ap has_y same ∙ sym (has_y-Power base exponent) ∙ ap has_y (sym is)

-- a factor that divides and is bad itself
pub stopped_itself : (Good Bad : Expr → Type 0) (f : Factor) (seen place : ℕ) → f.divide ≡ true → Bad f.of
    → place ≡ told_count (seen + 1) → IsStopped Good Bad (divisors_of f) seen place
stopped_itself Good Bad f seen place e bad told = subst (λ ds. IsStopped Good Bad ds seen place)
    (sym (divisors_of-divides f e)) (stopped-first Good Bad f.of (divisors f.of) seen place bad told)

module _ (Good : Expr → Type 0) (whole : Expr) (seen : ℕ) where
  abbrev pub SumGoing : List Summand → ℕ → ℕ → Type 0
  SumGoing items i now = Going Good (divisors whole) (divisors (Sum (drop i items))) seen now

  sum_left : (items : List Summand) (i : ℕ) (s : Summand) → i < length items → s ≡ get_or items i s
      → divisors (Sum (drop i items)) ≡ divisors s.of ++ divisors (Sum (drop (i + 1) items))
  sum_left items i s lt is = ap (λ ss. divisors (Sum ss)) (left_here items i s lt is) ∙ divisors-Sum_more s _

  pub sum_going-start : (items ss : List Summand) → whole ≡ Sum ss → items ≡ ss → seen ≤ 4294967295
      → SumGoing items 0 seen
  sum_going-start items ss is same le =
      going-start Good (divisors whole) seen _ (ap divisors (is ∙ ap Sum (sym same))) le

  pub sum_going-more : (items : List Summand) (i now next : ℕ) (s : Summand) → i < length items
      → s ≡ get_or items i s → SumGoing items i now → ArePassed Good (divisors s.of) now next
      → SumGoing items (i + 1) next
  sum_going-more items i now next s lt is h k =
      going-more Good (divisors whole) seen _ (divisors s.of) _ now next (sum_left items i s lt is) h k

  pub sum_going-end : (items : List Summand) (i now : ℕ) → length items ≤ i → SumGoing items i now
      → ArePassed Good (divisors whole) seen now
  sum_going-end items i now le h = going-end Good (divisors whole) seen _ now
      (ap (λ ss. divisors (Sum ss)) (drop_of_length-le items le) ∙ divisors-Sum_none) h

  pub sum_going-stop : (Bad : Expr → Type 0) (items : List Summand) (i now place : ℕ) (s : Summand) → i < length items
      → s ≡ get_or items i s → SumGoing items i now → IsStopped Good Bad (divisors s.of) now place
      → IsStopped Good Bad (divisors whole) seen place
  sum_going-stop Bad items i now place s lt is h k =
      going-stop Good (divisors whole) seen Bad _ (divisors s.of) _ now place (sum_left items i s lt is) h k

  abbrev pub ProductGoing : List Factor → ℕ → ℕ → Type 0
  ProductGoing items i now = Going Good (divisors whole) (divisors (Product (drop i items))) seen now

  product_left : (items : List Factor) (i : ℕ) (f : Factor) → i < length items → f ≡ get_or items i f
      → divisors (Product (drop i items)) ≡ divisors_of f ++ divisors (Product (drop (i + 1) items))
  product_left items i f lt is =
      ap (λ fs. divisors (Product fs)) (left_here items i f lt is) ∙ divisors-Product_more f _

  pub product_going-start : (items fs : List Factor) → whole ≡ Product fs → items ≡ fs → seen ≤ 4294967295
      → ProductGoing items 0 seen
  product_going-start items fs is same le =
      going-start Good (divisors whole) seen _ (ap divisors (is ∙ ap Product (sym same))) le

  pub product_going-more : (items : List Factor) (i now next : ℕ) (f : Factor) → i < length items
      → f ≡ get_or items i f → ProductGoing items i now → ArePassed Good (divisors_of f) now next
      → ProductGoing items (i + 1) next
  product_going-more items i now next f lt is h k =
      going-more Good (divisors whole) seen _ (divisors_of f) _ now next (product_left items i f lt is) h k

  pub product_going-end : (items : List Factor) (i now : ℕ) → length items ≤ i → ProductGoing items i now
      → ArePassed Good (divisors whole) seen now
  product_going-end items i now le h = going-end Good (divisors whole) seen _ now
      (ap (λ fs. divisors (Product fs)) (drop_of_length-le items le) ∙ divisors-Product_none) h

  pub product_going-stop : (Bad : Expr → Type 0) (items : List Factor) (i now place : ℕ) (f : Factor)
      → i < length items → f ≡ get_or items i f → ProductGoing items i now
      → IsStopped Good Bad (divisors_of f) now place → IsStopped Good Bad (divisors whole) seen place
  product_going-stop Bad items i now place f lt is h k =
      going-stop Good (divisors whole) seen Bad _ (divisors_of f) _ now place (product_left items i f lt is) h k

pub or_true : (a b : Bool) → a ≡ true → a ≡ (a || b)
or_true a b e = e ∙ sym (ap (λ x. x || b) e)

or_more : (a b c d e : Bool) → b ≡ (c || d) → (a || b) ≡ e → ((a || c) || d) ≡ e
or_more true b c d e is h = h
or_more false b c d e is h = sym is ∙ h

or_end : (a b c : Bool) → b ≡ false → (a || b) ≡ c → a ≡ c
or_end true b c is h = h
or_end false b c is h = sym is ∙ h

or_stop : (a b c d e : Bool) → b ≡ (c || d) → c ≡ true → (a || b) ≡ e → e ≡ true
or_stop true b c d e is here h = sym h
or_stop false b c d e is here h = sym h ∙ is ∙ ap (λ x. x || d) here

module _ (whole : Expr) where
  abbrev pub SumHasY : List Summand → ℕ → Bool → Type 0
  SumHasY items i so_far = (so_far || has_y (Sum (drop i items))) ≡ has_y whole

  sum_y : (items : List Summand) (i : ℕ) (s : Summand) → i < length items → s ≡ get_or items i s
      → has_y (Sum (drop i items)) ≡ (has_y s.of || has_y (Sum (drop (i + 1) items)))
  sum_y items i s lt is = ap (λ ss. has_y (Sum ss)) (left_here items i s lt is) ∙ has_y-Sum_more s _

  pub sum_y-start : (items ss : List Summand) → whole ≡ Sum ss → items ≡ ss → SumHasY items 0 false
  sum_y-start items ss is same = sym (ap has_y (is ∙ ap Sum (sym same)))

  pub sum_y-more : (items : List Summand) (i : ℕ) (s : Summand) (so_far here now : Bool) → i < length items
      → s ≡ get_or items i s → here ≡ has_y s.of → now ≡ (so_far || here) → SumHasY items i so_far
      → SumHasY items (i + 1) now
  sum_y-more items i s so_far here now lt is y_is now_is h =
      ap (λ b. b || has_y (Sum (drop (i + 1) items))) (now_is ∙ ap (λ b. so_far || b) y_is)
      ∙ or_more so_far _ (has_y s.of) _ _ (sum_y items i s lt is) h

  pub sum_y-end : (items : List Summand) (i : ℕ) (so_far : Bool) → length items ≤ i → SumHasY items i so_far
      → so_far ≡ has_y whole
  sum_y-end items i so_far le h =
      or_end so_far _ _ (ap (λ ss. has_y (Sum ss)) (drop_of_length-le items le) ∙ has_y-Sum_none) h

  pub sum_y-stop : (items : List Summand) (i : ℕ) (s : Summand) (so_far : Bool) → i < length items
      → s ≡ get_or items i s → has_y s.of ≡ true → SumHasY items i so_far → has_y whole ≡ true
  sum_y-stop items i s so_far lt is here h = or_stop so_far _ (has_y s.of) _ _ (sum_y items i s lt is) here h

  abbrev pub ProductHasY : List Factor → ℕ → Bool → Type 0
  ProductHasY items i so_far = (so_far || has_y (Product (drop i items))) ≡ has_y whole

  product_y : (items : List Factor) (i : ℕ) (f : Factor) → i < length items → f ≡ get_or items i f
      → has_y (Product (drop i items)) ≡ (has_y f.of || has_y (Product (drop (i + 1) items)))
  product_y items i f lt is = ap (λ fs. has_y (Product fs)) (left_here items i f lt is) ∙ has_y-Product_more f _

  pub product_y-start : (items fs : List Factor) → whole ≡ Product fs → items ≡ fs → ProductHasY items 0 false
  product_y-start items fs is same = sym (ap has_y (is ∙ ap Product (sym same)))

  pub product_y-more : (items : List Factor) (i : ℕ) (f : Factor) (so_far here now : Bool) → i < length items
      → f ≡ get_or items i f → here ≡ has_y f.of → now ≡ (so_far || here) → ProductHasY items i so_far
      → ProductHasY items (i + 1) now
  product_y-more items i f so_far here now lt is y_is now_is h =
      ap (λ b. b || has_y (Product (drop (i + 1) items))) (now_is ∙ ap (λ b. so_far || b) y_is)
      ∙ or_more so_far _ (has_y f.of) _ _ (product_y items i f lt is) h

  pub product_y-end : (items : List Factor) (i : ℕ) (so_far : Bool) → length items ≤ i → ProductHasY items i so_far
      → so_far ≡ has_y whole
  product_y-end items i so_far le h =
      or_end so_far _ _ (ap (λ fs. has_y (Product fs)) (drop_of_length-le items le) ∙ has_y-Product_none) h

  pub product_y-stop : (items : List Factor) (i : ℕ) (f : Factor) (so_far : Bool) → i < length items
      → f ≡ get_or items i f → has_y f.of ≡ true → ProductHasY items i so_far → has_y whole ≡ true
  product_y-stop items i f so_far lt is here h = or_stop so_far _ (has_y f.of) _ _ (product_y items i f lt is) here h
