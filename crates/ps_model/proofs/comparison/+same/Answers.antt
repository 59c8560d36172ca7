use Rattle.std.proofs.Common.{◌≡◌, ◌∙◌, ◌<◌, ◌≤◌, ℕ, List, length, get_or, arith, sym, ap, refl}
use Rattle.std.proofs.lemmas.List.{same_lists}
use Rattle.ps_model.specs.declared.expr.Expr.{Sum, Product}
use Rattle.ps_model.proofs.comparison.+same.Goals as goal

all_same : {A : Type 0} (xs ys : List A) (i : ℕ) → length xs ≡ length ys → length xs ≤ i → ((k : ℕ) (d : A) → k < i
    → get_or xs k d ≡ get_or ys k d) → xs ≡ ys
all_same xs ys i long far each = same_lists xs ys long (λ k d h. each k d (omega arith))

pub returns-after-summands : goal.returns-after-summands
returns-after-summands t c =
    let s = all_same c.as_slice-x.result.now c.as_slice-y.result.now c.summands.i (omega arith)
    (omega arith) c.summands.invariant in (
      λ _. c.in-Sum-Sum.is-0 ∙ ap Sum (sym c.as_slice-x.ensures ∙ s ∙ c.as_slice-y.ensures)
          ∙ sym c.in-Sum-Sum.is-1,
      λ _. refl,
    )

pub returns-after-factors : goal.returns-after-factors
returns-after-factors t c =
    let s = all_same c.as_slice-x-in-Product-Product.result.now c.as_slice-y-in-Product-Product.result.now c.factors.i
    (omega arith) (omega arith) c.factors.invariant in (
      λ _. c.in-Product-Product.is-0 ∙ ap Product (sym c.as_slice-x-in-Product-Product.ensures ∙ s
          ∙ c.as_slice-y-in-Product-Product.ensures) ∙ sym c.in-Product-Product.is-1,
      λ _. refl,
    )
