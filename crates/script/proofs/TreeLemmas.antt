-- Why an expression isn't read.
use Rattle.std.proofs.Common.{◌≡◌, ap, refl, ℕ, List, Result, Ok, Err}
use Rattle.std.specs.Prelude.{◌↔◌}
use Rattle.ps_model.specs.FirstFault.{Fault, IsFirstFault}
use Rattle.ps_model.specs.FirstFault as fault
use Rattle.ps_model.specs.declared.expr.Expr.{Expr}
use Rattle.expr_reader.specs.ReadErrors.{error_of}
use Rattle.expr_reader.specs.declared.read_error.ReadError.{ReadError}
use Rattle.expr_reader.specs.declared.read_error.ReadError.TheVariants as err
use Rattle.script.specs.declared.refusal.Refusal.TheVariants as refusal

abbrev pub failed : Result Expr ReadError → ReadError
failed (Ok e) = err.OutOfMemory
failed (Err e) = e

abbrev pub failure : ReadError → Result Expr ReadError
failure e = Err e

abbrev pub Answers : List (List ℕ) → List ℕ → ReadError → Type 0
Answers names text e = ((failure e ≡ Err err.OutOfMemory) → ⊥) → (f : Fault)
    → (failure e ≡ Err (error_of f)) ↔ IsFirstFault names text f

abbrev pub Told : List (List ℕ) → List ℕ → ReadError → Type 0
Told names text e =
    (f : Fault) × IsFirstFault names text f × (refusal.BadPolynomial e ≡ refusal.BadPolynomial (error_of f))

pub told : (names : List (List ℕ)) (text : List ℕ) (e : ReadError) → ((e ≡ err.OutOfMemory) → ⊥)
    → Answers names text e → Told names text e
told names text (err.BadCharacter p) other h =
    (fault.BadCharacter p, (h (λ x. other (ap failed x)) (fault.BadCharacter p)).0 refl, refl)
told names text (err.Expected p) other h =
    (fault.Expected p, (h (λ x. other (ap failed x)) (fault.Expected p)).0 refl, refl)
told names text (err.UnknownName p) other h =
    (fault.UnknownName p, (h (λ x. other (ap failed x)) (fault.UnknownName p)).0 refl, refl)
told names text (err.NumberTooLarge p) other h =
    (fault.NumberTooLarge p, (h (λ x. other (ap failed x)) (fault.NumberTooLarge p)).0 refl, refl)
told names text (err.ExponentTooLarge p) other h =
    (fault.ExponentTooLarge p, (h (λ x. other (ap failed x)) (fault.ExponentTooLarge p)).0 refl, refl)
told names text (err.TooDeep p) other h =
    (fault.TooDeep p, (h (λ x. other (ap failed x)) (fault.TooDeep p)).0 refl, refl)
told names text err.OutOfMemory other h = absurd (other refl)
