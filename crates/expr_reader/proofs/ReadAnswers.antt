-- From what the machine answers to what is read.
use Rattle.std.proofs.Common.{◌≡◌, ◌≢◌, ◌∙◌, sym, ap, subst, refl, ℕ, List, length, Result, Ok, Err, IfOk}
use Rattle.std.specs.Prelude.{◌↔◌}
use Rattle.expr_reader.specs.declared.read_error.ReadError.{ReadError}
use Rattle.expr_reader.specs.declared.read_error.ReadError.TheVariants as err
use Rattle.ps_model.specs.declared.expr.Expr.{Expr}
use Rattle.ps_model.specs.Tree.{IsValidTree}
use Rattle.ps_model.specs.FirstFault.{Fault, IsFirstFault, Reads}
use Rattle.ps_model.specs.FirstFault as fault
use Rattle.expr_reader.specs.ReadErrors.{error_of}
use Rattle.expr_reader.specs.Reading.{Runs}
use Rattle.grammar.proofs.Whole.{answered, tree_answered, fault_answered}
use Rattle.grammar.proofs.ReadTrees.{valid_answer}

-- the answer in the code's errors
abbrev told : Result Expr Fault → Result Expr ReadError
told (Ok e) = Ok e
told (Err f) = Err (error_of f)

by_run : (answer : Result Expr ReadError) (ran : Result Expr Fault) → answer ≢ Err err.OutOfMemory → Runs answer ran →
    answer ≡ told ran
by_run (Ok e) ran n h = sym (ap told h)
by_run (Err err.OutOfMemory) ran n h = absurd (n refl)
by_run (Err (err.BadCharacter p)) ran n h = sym (ap told h)
by_run (Err (err.Expected p)) ran n h = sym (ap told h)
by_run (Err (err.UnknownName p)) ran n h = sym (ap told h)
by_run (Err (err.NumberTooLarge p)) ran n h = sym (ap told h)
by_run (Err (err.ExponentTooLarge p)) ran n h = sym (ap told h)
by_run (Err (err.TooDeep p)) ran n h = sym (ap told h)

told_tree : (ran : Result Expr Fault) (e : Expr) → told ran ≡ Ok e → ran ≡ Ok e
told_tree (Ok x) e h = cc h
told_tree (Err f) e h = absurd (cc h)

-- the fault that an error tells, or one fault for the rest
abbrev fault_of : ReadError → Fault
fault_of (err.BadCharacter p) = fault.BadCharacter p
fault_of (err.Expected p) = fault.Expected p
fault_of (err.UnknownName p) = fault.UnknownName p
fault_of (err.NumberTooLarge p) = fault.NumberTooLarge p
fault_of (err.ExponentTooLarge p) = fault.ExponentTooLarge p
fault_of (err.TooDeep p) = fault.TooDeep p
fault_of err.OutOfMemory = fault.Expected 0

fault_of_told : (f : Fault) → fault_of (error_of f) ≡ f
fault_of_told (fault.BadCharacter p) = refl
fault_of_told (fault.Expected p) = refl
fault_of_told (fault.UnknownName p) = refl
fault_of_told (fault.NumberTooLarge p) = refl
fault_of_told (fault.ExponentTooLarge p) = refl
fault_of_told (fault.TooDeep p) = refl

abbrev error_in : Result Expr ReadError → ReadError
error_in (Ok e) = err.OutOfMemory
error_in (Err x) = x

told_fault : (ran : Result Expr Fault) (f : Fault) → told ran ≡ Err (error_of f) → ran ≡ Err f
told_fault (Ok x) f h = absurd (cc h)
told_fault (Err g) f h =
    ap Err (sym (fault_of_told g) ∙ ap (λ (r : Result Expr ReadError). fault_of (error_in r)) h ∙ fault_of_told f)

module _ (names : List (List ℕ)) (text : List ℕ) (answer : Result Expr ReadError)
    (h : Runs answer (answered names text)) where
  pub tree_read : answer ≢ Err err.OutOfMemory → (e : Expr) → (answer ≡ Ok e) ↔ Reads names text e
  tree_read n e =
      let is = by_run answer (answered names text) n h in
      let k = tree_answered names text e in (
        λ x. k.0 (told_tree (answered names text) e (sym is ∙ x)),
        λ r. is ∙ ap told (k.1 r),
      )

  pub fault_read : answer ≢ Err err.OutOfMemory → (f : Fault) →
      (answer ≡ Err (error_of f)) ↔ IsFirstFault names text f
  fault_read n f =
      let is = by_run answer (answered names text) n h in
      let k = fault_answered names text f in (
        λ x. k.0 (told_fault (answered names text) f (sym is ∙ x)),
        λ r. is ∙ ap told (k.1 r),
      )

pub valid_read : (names : List (List ℕ)) (text : List ℕ) (answer : Result Expr ReadError) →
    Runs answer (answered names text) → IfOk answer (λ e. IsValidTree (length names) e)
valid_read names text (Ok e) h = valid_answer names text e h
valid_read names text (Err f) h = tt
