-- Answers to requests, from what was written of the one text that is right.
use Rattle.std.proofs.Common.{◌≡◌, ℕ, ◌≤◌, List, Option, Some, None, refl, sym, ap, subst, arith}
use Rattle.std.specs.Prelude.{Result, Ok, Err}
use Rattle.std.proofs.lemmas.List.{append-nil}
use Rattle.ports.specs.Bytes.{WritesPart}
use Rattle.printer.specs.Wrote.{Wrote}
use Rattle.script.specs.Script.{State}
use Rattle.script.specs.declared.request.Request.{Request}
use Rattle.commands.specs.Answering.{AnswersOnly, Answered}
use Rattle.commands.specs.Calls.{WritesBeginning}
use Rattle.commands.specs.declared.stop.Stop.{Stop}
use Rattle.commands.specs.declared.stop.Stop.TheVariants as stop
use Rattle.commands.specs.declared.command.ScriptCommand.{ScriptCommand}

beginning : (old now : Option (List ℕ)) (text : List ℕ) → WritesPart old now text → WritesBeginning old now text
beginning None now text is = is
beginning (Some bytes) now text (n, lt, is) = (n, is)

-- nothing is a beginning of each text
nothing : (old : Option (List ℕ)) (text : List ℕ) → WritesBeginning old old text
nothing None text = refl
nothing (Some bytes) text = (0, ap (λ (l : List ℕ). Some l) (sym (append-nil bytes)))

-- there was no memory, before anything was written
pub not_begun : (c : ScriptCommand) (s : State) (r : Request) {A : Type 0} (old : Option (List ℕ)) (before : ℕ)
    (result : Result A Stop) → result ≡ Err stop.OutOfMemory → Answered c s r result old old before before
not_begun c s r {A = A} old before result is =
    subst (λ (r' : Result A Stop). Answered c s r r' old old before before) (sym is) (record {
      ok = tt;
      err = λ other answers. nothing old other;
      stop = tt;
      faults = same before;
    })
  where
    same : (n : ℕ) → n ≤ n
    same n = omega arith

module _ (c : ScriptCommand) (s : State) (r : Request) {A B E : Type 0} {old now : Option (List ℕ)} {before count :
    ℕ} where
  pub answered : (text : List ℕ) (x : A) {y : B} → AnswersOnly c s r text
      → Wrote {A = B} {E = E} (Ok y) old now before count text → Answered c s r {A = A} (Ok x) old now before count
  answered text x only wrote =
      record { ok = (text, only, wrote.ok); err = tt; stop = tt; faults = wrote.faults }

  -- the sink failed
  pub not_written : (text : List ℕ) (result : Result A Stop) {e : E} → result ≡ Err stop.WriteFault
      → AnswersOnly c s r text → Wrote {A = B} {E = E} (Err e) old now before count text
      → Answered c s r result old now before count
  not_written text result is only wrote =
      subst (λ (r' : Result A Stop). Answered c s r r' old now before count) (sym is) (record {
        ok = tt;
        err = λ other answers. subst (WritesBeginning old now) (sym (only.1 other answers))
            (beginning old now text wrote.err);
        stop = wrote.fault;
        faults = wrote.faults;
      })
