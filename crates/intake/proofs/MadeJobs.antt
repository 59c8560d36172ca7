-- The job of an input and roots: what is asked of it, and why it is refused.
use Rattle.std.proofs.Common.{◌≡◌, ◌≢◌, ℕ, suc, ◌<◌, ◌≤◌, List, length, refl, sym, ◌∙◌, ap, subst, arith}
use Rattle.std.specs.List.{All}
use Rattle.std.specs.Prelude.{Result, Err, IfErr}
use Rattle.ps_model.specs.declared.expr.Expr.{Expr}
use Rattle.ps_model.specs.declared.job.JobData.{JobData}
use Rattle.ps_model.specs.declared.job.Root.{Root}
use Rattle.ps_model.specs.AcceptedJob.{AreWeights, IsAcceptedRoot, IsAccepted, IsLawfulJob}
use Rattle.ps_model.specs.Input.{InputFault, DividesByY, TooManyNodes, DegreeTooLarge, NotAUnit, IsInputFault}
use Rattle.ps_model.specs.Input.{input_order, IsFirstInputFault}
use Rattle.ps_model.specs.Job.{Fault, OfInput, LeadNotAUnit, DegreeMismatch, NotApart, RootsMismatch, order, IsFault}
use Rattle.ps_model.specs.Job.{job_ring, IsFirstFault, IsValidJob}
use Rattle.ps_model.specs.Tree.{IsValidTree}
use Rattle.ps_model.proofs.InputValues.{small_degree}
use Rattle.parts.specs.Rings.{modulus_of}
use Rattle.parts.specs.Series.{series}
use Rattle.residue.specs.Residues.{number_of, IsResidue}
use Rattle.residue.specs.declared.Modulus.{Modulus}
use Rattle.intake.specs.declared.free_error.FreeError.{FreeError}
use Rattle.intake.specs.declared.free_error.FreeError.TheVariants.{OutOfMemory as NoRoom}
use Rattle.intake.specs.declared.job_error.JobError.{JobError}
use Rattle.intake.specs.declared.job_error.JobError.TheVariants.{OutOfMemory}
use Rattle.intake.specs.InputErrors.{error_of}
use Rattle.intake.specs.InputValue.{InputValue, IsInputOf}
use Rattle.intake.specs.JobErrors.{of_input, IsJobRefusal}
use Rattle.intake.specs.Jobs.{IsOriginRow, data_of, data_with}
use Rattle.intake.specs.RootFaults.{IsJobOf}
use Rattle.intake.proofs.RootTests.{residues as root_residues}

-- memory may always be refused
pub no_memory : (job : JobData) (e : JobError) → e ≡ OutOfMemory → IsJobRefusal job e
no_memory job e is other = absurd (other is)

-- an error that is handed on
pub refused : {T : Type 0} (r : Result T JobError) (job : JobData) (e : JobError) → r ≡ Err e → IsJobRefusal job e
    → IfErr r (IsJobRefusal job)
refused r job e is refusal = subst (λ t. IfErr t (IsJobRefusal job)) (sym is) refusal

-- the faults of an input come before all others
module _ (job : JobData) (f : InputFault) (first : IsFirstInputFault (job_ring job) job.expr f) where
  below : (f : InputFault) → input_order f ≤ 4
  below (DividesByY division) = omega arith
  below (TooManyNodes count) = omega arith
  below (DegreeTooLarge degree) = omega arith
  below (NotAUnit division value gcd) = omega arith

  before : (g : Fault) → IsFault job g → input_order f ≤ order g
  before (OfInput g) is = first.first g is
  before (LeadNotAUnit value gcd) is = let low = below f in omega arith
  before (DegreeMismatch degree total) is = let low = below f in omega arith
  before (NotApart first second difference gcd) is = let low = below f in omega arith
  before (RootsMismatch power input roots) is = let low = below f in omega arith

  input_first : IsFirstFault job (OfInput f)
  input_first = record { holds = first.holds; first = before }

pub input_refusal : (job : JobData) (e : FreeError) (told : JobError) → told ≡ of_input e
    → (e ≢ NoRoom → (f : InputFault) × IsFirstInputFault (job_ring job) job.expr f × (e ≡ error_of f))
    → IsJobRefusal job told
input_refusal job e told is fault other =
    let found = fault (λ none. other (is ∙ ap of_input none)) in
    (OfInput found.0, input_first job found.0 found.1, is ∙ ap of_input found.2)

module _ (modulus : Modulus) (names : List (List ℕ)) (ws : List ℕ) (e : Expr) (roots : List Root) (input : InputValue)
    (of : IsInputOf modulus names ws e input) where
  abbrev made : JobData
  made = data_of (number_of modulus) names ws e roots

  pub same_data : data_with input roots ≡ made
  same_data i = data_of (of.modulus_is i) (of.names_are i) (of.weights_are i) (of.expr_is i) roots

  module _ (row : List ℕ) (origin : IsOriginRow input row) where
    pub row_some : 0 < length row
    row_some = let count = origin.count in omega arith

    pub row_few : length row ≤ 33
    row_few =
        let count = origin.count in
        let small = small_degree (series input.ring) input.expr origin.valid in
        omega arith

    pub row_residues : All (IsResidue modulus) row
    row_residues = subst (λ m. All (λ c. c < m) row) of.modulus_is origin.residues

    pub to_test : IsJobOf (number_of modulus) row roots (data_with input roots)
    to_test = record {
      modulus = of.modulus_is;
      roots_are = refl;
      tree = origin.tree;
      input = origin.valid;
      length_is = origin.count;
      at_origin = origin.coefficients;
    }

    pub test_refusal : (told : JobError) → ((job : JobData) → IsJobOf (number_of modulus) row roots job
        → IsJobRefusal job told) → IsJobRefusal made told
    test_refusal told err = subst (λ (job : JobData). IsJobRefusal job told) same_data
        (err (data_with input roots) to_test)

    module _ (all : All (IsAcceptedRoot (number_of modulus)) roots)
        (tested : (job : JobData) → IsJobOf (number_of modulus) row roots job → IsValidJob job) where
      pub lawful : IsLawfulJob (data_with input roots)
      lawful = record {
        modulus = input.ring.modulus.low;
        tree = origin.tree;
        residues = subst (λ m. All (λ (r : Root). r.value < m) roots) (sym of.modulus_is)
            (root_residues (number_of modulus) roots all);
        valid = tested (data_with input roots) to_test;
      }

      pub accepted : 0 < length names → AreWeights (length names) ws → IsValidTree (length names) e → 0 < length roots
          → IsAccepted made
      accepted some weights tree some_root = record {
        modulus = (modulus.low, modulus.high);
        variables = (some, subst (λ n. n ≤ 8) of.variables_are input.ring.few);
        weights = weights;
        tree = tree;
        some = some_root;
        roots = all;
        valid = subst IsValidJob same_data (tested (data_with input roots) to_test);
      }
