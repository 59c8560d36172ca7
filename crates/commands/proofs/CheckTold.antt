-- What is told where a script of `check` is refused, and where there is no memory.
use Rattle.std.proofs.Common.{◌≡◌, sym, refl, subst, ℕ, suc, ◌+◌, ◌≤◌, ◌⊎◌, inl, inr}
use Rattle.std.proofs.Common.{arith}
use Rattle.std.proofs.Common.{Bool, List, ◌∷◌, Option, Err}
use Rattle.script.specs.Answers.{Item, Line}
use Rattle.script.specs.Checking.{State, Does}
use Rattle.script.specs.Refusals.{line_refused}
use Rattle.script.specs.declared.refusal.Refusal.{Refusal}
use Rattle.commands.specs.Calls.{WritesBeginning}
use Rattle.commands.specs.CheckLines.{IsGood}
use Rattle.commands.specs.Checks.{Behind, IsTold, IsFollowed, IsCheckedFrom}
use Rattle.commands.specs.Lines.{Refuses}
use Rattle.commands.specs.Statuses.{status_of}
use Rattle.commands.specs.Telling.{IsAnswer, Tells}
use Rattle.commands.specs.declared.stop.Stop.{Stop}
use Rattle.commands.specs.declared.stop.Stop.TheVariants as stop
use Rattle.commands.proofs.LinesDone.{nothing_written}
use Rattle.commands.proofs.ToldOnce.{does_once, told_once}

abbrev Telling : Type 1
Telling = List ℕ → ℕ → ℕ → Type 0

pub never : {A : Type 0} (n : ℕ) → (n ≡ 4 → ⊥) → (n ≡ 5 → ⊥) → (n ≡ 4) ⊎ (n ≡ 5) → A
never n four five (inl e) = absurd (four e)
never n four five (inr e) = absurd (five e)

pub no_answer : {A : Type 0} (n : ℕ) → 3 ≤ n → n ≤ 5 → IsAnswer n → A
no_answer n low high (inl e) = absurd (omega arith)
no_answer n low high (inr e) = absurd (omega arith)

module _ (Told : Telling) where
  -- one refusal is told: the line was written, or a beginning of it
  pub refusal_told : (text : List ℕ) → Told text 1 0
      → ((t : List ℕ) (s n : ℕ) → Told t s n → (t ≡ text) × (s ≡ 1) × (n ≡ 0))
      → (e : Stop) (old new : Option (List ℕ)) (before now tally : ℕ) → Refuses e old new before now text
      → Tells Told (status_of e) old new before now tally tally
  refusal_told text is only stop.Refused old new before now tally told = record {
    all = λ answer. record {
      text = text;
      steps = 0;
      is = is;
      only = only;
      writes = told.refused refl;
      spends = omega arith;
    };
    part = never 1 (λ e. omega arith) (λ e. omega arith);
    cause = λ e. absurd (omega arith);
    no_read = λ e. omega arith;
    low = omega arith;
    faults = told.faults;
  }
  refusal_told text is only stop.ReadFault old new before now tally told = absurd told.cause
  refusal_told text is only stop.WriteFault old new before now tally told = record {
    all = no_answer 4 (omega arith) (omega arith);
    part = λ four. record {
      writes = λ t s n h. subst (WritesBeginning old new) (sym (only t s n h).0) told.part;
      more = omega arith;
      at_most = λ t s n h. omega arith;
    };
    cause = λ e. told.cause;
    no_read = λ e. omega arith;
    low = omega arith;
    faults = told.faults;
  }
  refusal_told text is only stop.OutOfMemory old new before now tally told = record {
    all = no_answer 5 (omega arith) (omega arith);
    part = λ five. record {
      writes = λ t s n h. subst (WritesBeginning old new) (sym (only t s n h).0) told.part;
      more = omega arith;
      at_most = λ t s n h. omega arith;
    };
    cause = λ e. absurd (omega arith);
    no_read = λ e. omega arith;
    low = omega arith;
    faults = told.faults;
  }

  -- there was no memory, and nothing was written
  pub memory_told : (old : Option (List ℕ)) (before tally tally' : ℕ) → tally ≤ tally'
      → ((t : List ℕ) (s n : ℕ) → Told t s n → tally' ≤ tally + n)
      → Tells Told 5 old old before before tally tally'
  memory_told old before tally tally' more at_most = record {
    all = no_answer 5 (omega arith) (omega arith);
    part = λ five. record {
      writes = λ t s n h. nothing_written old t;
      more = more;
      at_most = at_most;
    };
    cause = λ e. absurd (omega arith);
    no_read = λ e. omega arith;
    low = omega arith;
    faults = omega arith;
  }

  pub no_memory_told : (old : Option (List ℕ)) (before tally : ℕ) → Tells Told 5 old old before before tally tally
  no_memory_told old before tally = memory_told old before tally tally (omega arith) (λ t s n h. omega arith)

-- a line that is refused
module _ (s : State) (m : ℕ) (line : List ℕ) (f : Refusal) (does : Does s m line (Err f)) (ended : Bool)
    (rest : List Item) where
  refused_only : (t : List ℕ) (u n : ℕ) → IsCheckedFrom ended s m (Line line ∷ rest) t u n
      → (t ≡ line_refused m f) × (u ≡ 1) × (n ≡ 0)
  refused_only t u n (r, is, h) =
      subst (λ r. IsFollowed (λ v. IsCheckedFrom ended v (suc m) rest) m r t u n)
      (does_once s m line (Err f) r does is) h

  pub line_told : (e : Stop) (old new : Option (List ℕ)) (before now tally : ℕ)
      → Refuses e old new before now (line_refused m f)
      → Tells (IsCheckedFrom ended s m (Line line ∷ rest)) (status_of e) old new before now tally tally
  line_told e old new before now tally told = refusal_told (IsCheckedFrom ended s m (Line line ∷ rest))
      (line_refused m f) (Err f, does, (refl, refl, refl)) refused_only e old new before now tally told

-- what is told of a state, where it is a refusal
module _ (s : State) (good : IsGood s) (m : ℕ) (behind : Behind) (text : List ℕ) (is : IsTold s m behind text 1 0) where
  pub state_told : (e : Stop) (old new : Option (List ℕ)) (before now tally : ℕ) → Refuses e old new before now text
      → Tells (IsTold s m behind) (status_of e) old new before now tally tally
  state_told e old new before now tally told = refusal_told (IsTold s m behind) text is
      (λ t u n h. told_once s good m behind text 1 0 t u n is h) e old new before now tally told
