-- How many steps requests take.
use Rattle.std.proofs.Common.{◌≡◌, ◌∙◌, sym, ap, refl, ℕ, suc, ◌*◌, ◌≤◌, max, [], ◌∷◌, ◌++◌, length, arith}
use Rattle.std.proofs.lemmas.List.Elements.{All-head}
use Rattle.std.proofs.lemmas.Nat.{mul-le}
use Rattle.script.specs.Requests.{precision_of}
use Rattle.script.specs.Script.{Has}
use Rattle.commands.specs.declared.command.ScriptCommand.{ScriptCommand}
use Rattle.commands.specs.declared.command.ScriptCommand.TheVariants.{Factor, Expand}
use Rattle.commands.specs.Readings.{Reading, Begun, Factors, Inputs, spent_of}
use Rattle.commands.specs.Lines.{Accounts}
use Rattle.commands.specs.Output.{Asked, degrees_of, roots_in, steps_of}

max_assoc : (a b c : ℕ) → max (max a b) c ≡ max a (max b c)
max_assoc a b c = omega arith

zero_max : (a : ℕ) → a ≡ max 0 a
zero_max a = omega arith

pub degrees_append : (xs ys : Asked) → degrees_of (xs ++ ys) ≡ max (degrees_of xs) (degrees_of ys)
degrees_append [] ys = zero_max (degrees_of ys)
degrees_append ((s, r) ∷ xs) ys = ap (max (suc (precision_of r))) (degrees_append xs ys)
    ∙ sym (max_assoc (suc (precision_of r)) (degrees_of xs) (degrees_of ys))

-- more requests take no fewer steps
pub steps_grow : (c : ScriptCommand) (xs ys : Asked) → steps_of c xs ≤ steps_of c (xs ++ ys)
steps_grow Factor [] ys = omega arith
steps_grow Factor ((s, r) ∷ xs) ys =
    mul-le (roots_in s) (degrees_of ((s, r) ∷ xs)) (roots_in s) (degrees_of ((s, r) ∷ xs ++ ys)) (omega arith)
    (grows (degrees_of ((s, r) ∷ xs)) (degrees_of ys) _ (degrees_append ((s, r) ∷ xs) ys))
  where
    grows : (a b m : ℕ) → m ≡ max a b → a ≤ m
    grows a b m is = omega arith
steps_grow Expand xs ys = omega arith

-- the steps of what answers requests are those of the requests
pub spent_is : (c : ScriptCommand) (r : Reading) (asked : Asked) → Accounts c r asked → spent_of r ≡ steps_of c asked
spent_is Factor (Begun h) asked none = sym (ap (steps_of Factor) none)
spent_is Expand (Begun h) asked none = refl
spent_is Factor (Factors f) [] (of, degrees, all) = ap (λ d. length f.job.roots * d) degrees ∙ nothing (length f.job.roots)
  where
    nothing : (n : ℕ) → n * 0 ≡ 0
    nothing n = omega arith
spent_is Factor (Factors f) ((s, r) ∷ asked) (of, degrees, all) =
    (λ i. roots_in (sym (All-head (λ p. p.0 ≡ Has f.names f.job) (s, r) asked all) i) * degrees i)
spent_is Expand (Factors f) asked (of, degrees, all) = absurd (other of)
  where
    other : Expand ≡ Factor → ⊥
    other e = cc
spent_is Factor (Inputs e) asked of = absurd (other of)
  where
    other : Factor ≡ Expand → ⊥
    other e = cc
spent_is Expand (Inputs e) asked of = refl
