-- The greatest degree that may be asked for, by bisection.
use Rattle.std.proofs.Common.{◌≡◌, ℕ, suc, ◌≤◌, List, [], ◌∷◌, ◌∙◌, arith, inl, inr}
use Rattle.std.proofs.lemmas.Bool.{cases_lt}
use Rattle.parts.specs.Counting.{monomials_up_to}
use Rattle.parts.specs.JobRows.{IsPermitted}
use Rattle.parts.proofs.Counted.{count-none, count-below}
use Rattle.parts.proofs.Ordered.{ArePositive}
use Rattle.stages.proofs.Permits.{permitted_lower}
use Rattle.session.specs.Precisions.{IsGreatestPermitted}

-- of degree 0 there is 1 alone
count-zero : (ws : List ℕ) → ArePositive ws → monomials_up_to ws 0 ≡ 1
count-zero [] positive = count-none 0
count-zero (w ∷ ws) positive = count-below w ws 0 positive.0 ∙ count-zero ws positive.1

-- so it may always be asked for
pub zero_permitted : (ws : List ℕ) → ArePositive ws → IsPermitted ws 0
zero_permitted ws positive = let one = count-zero ws positive in (omega arith, omega arith)

pub past_not : (ws : List ℕ) → IsPermitted ws 4096 → ⊥
past_not ws is = let few = is.0 in absurd (omega arith)

-- what is permitted is below what isn't
pub greatest_found : (ws : List ℕ) (least past : ℕ) → past ≤ suc least → IsPermitted ws least
    → (IsPermitted ws past → ⊥)
    → IsGreatestPermitted ws least
greatest_found ws least past next is not = record {
  permitted = is;
  greatest = λ e also. elim (cases_lt e past) [
    | inl low ↦ omega arith
    | inr high ↦ absurd (not (permitted_lower ws past e high also))
  ];
}
