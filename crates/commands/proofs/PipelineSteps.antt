-- Requests that free workers answer.
use Rattle.std.proofs.Common.{◌≡◌, ℕ, List, Option, Some, None, Ok, Err, length, refl, sym, subst}
use Rattle.std.proofs.Common.{arith, inl, inr}
use Rattle.std.specs.Prelude.{◌≢◌, Result}
use Rattle.std.proofs.lemmas.Bool.{cases_lt}
use Rattle.std.proofs.lemmas.List.{get_or_past}
use Rattle.ports.specs.Bytes.{WritesAll}
use Rattle.ps_model.specs.Job.{job_ring, IsFactors}
use Rattle.ps_model.specs.Lead.{IsShownLead}
use Rattle.ps_model.specs.SeriesRing.{Poly}
use Rattle.ps_model.specs.StreamText.{stream_text}
use Rattle.expr_reader.specs.NameLists.{as_names}
use Rattle.script.specs.Script.{Has}
use Rattle.script.specs.declared.request.Request.TheVariants.{Stream}
use Rattle.pipe.specs.Looks.{ReaderState}
use Rattle.pipe.specs.Pairs.{Pairwise}
use Rattle.session.specs.Extended.{CountsFaults}
use Rattle.session.specs.Sessions.{SessionState, IsSession}
use Rattle.session.specs.Shared.{reader_at, HasReaders, KeepsPlace}
use Rattle.session.specs.Streams.{IsBegun, OnlyRose, Streamed, StreamsJob}
use Rattle.session.specs.declared.stream_fault.StreamFault.{StreamFault}
use Rattle.session.specs.declared.stream_fault.StreamFault.TheVariants as stream
use Rattle.commands.specs.declared.stop.Stop.{Stop}
use Rattle.commands.specs.declared.command.ScriptCommand.TheVariants.{Factor}
use Rattle.commands.specs.Answering.{Answered, AnswersOnly, HasStopped}
use Rattle.commands.specs.Calls.{WritesBeginning}
use Rattle.commands.specs.Replies.{IsStream}
use Rattle.commands.specs.Statuses.{stop_of}
use Rattle.commands.proofs.FactorTexts.{names_named}

-- a reader that is there stays
pub readers_kept : (n : ℕ) (old new : List (Option ReaderState)) → Pairwise KeepsPlace old new → HasReaders n old
    → HasReaders n new
readers_kept n old new keeps have i lt = elim (cases_lt i (length old)) [
  | inl low ↦ stays (reader_at old i) (reader_at new i) (keeps.each i None None low) (have i lt)
  | inr past ↦ absurd (have i lt (get_or_past old i None (omega arith)))
]
  where
    stays : (a b : Option ReaderState) → KeepsPlace a b → a ≢ None → b ≢ None
    stays None b keeps some = absurd (some refl)
    stays (Some a) None keeps some = absurd keeps
    stays (Some a) (Some b) keeps some = λ none. let no : ⊥ = cc in no

-- a beginning
begins : (old new : Option (List ℕ)) (text : List ℕ) → IsBegun old new text → WritesBeginning old new text
begins None new text is = is
begins (Some bytes) new text (n, low, is) = (n, is)

module _ (s : SessionState) (holds : IsSession s) (D : ℕ) (old new : Option (List ℕ)) (before now : ℕ)
  where
    -- the stream, by the names that the session has
    streamed : {X : Type 0} (result : Result X StreamFault) → StreamsJob (as_names s.job.names) s.job.job D result old new
        → (fs : List (Poly (job_ring s.job.job))) (lead : Option (Poly (job_ring s.job.job)))
        → IsFactors s.job.job D fs → IsShownLead (job_ring s.job.job) D s.job.job.expr lead
        → Streamed result old new (stream_text (job_ring s.job.job) s.job.names lead s.job.job.roots fs D)
    streamed {X = X} result streams fs lead are shown = subst (λ (names : List (List ℕ)).
        Streamed result old new (stream_text (job_ring s.job.job) names lead s.job.job.roots fs D)) (names_named s holds)
        (streams fs lead are shown)

    stopped : (e : StreamFault) → OnlyRose before now e → HasStopped (stop_of e) before now
    stopped stream.Write rose = rose
    stopped stream.OutOfMemory rose = tt

    -- it wasn't written to its end
    pub stream_stopped : {X A : Type 0} (e : StreamFault) (x : Result A Stop) → x ≡ Err (stop_of e)
        → StreamsJob {A = X} {E = StreamFault} (as_names s.job.names) s.job.job D (Err e) old new
        → CountsFaults {A = X} (Err e) before now
        → Answered Factor (Has s.job.names s.job.job) (Stream D) x old new before now
    stream_stopped {X = X} {A = A} e x is streams counts =
        subst (λ (x : Result A Stop). Answered Factor (Has s.job.names s.job.job) (Stream D) x old new before now) (sym is)
        (record {
          ok = tt;
          err = λ text (fs, lead, are, shown, is_text). subst (WritesBeginning old new) (sym is_text)
              (begins old new _ (streamed (Err e) streams fs lead are shown).begun);
          stop = stopped e counts.rose;
          faults = counts.never_less;
        })

    -- it was
    pub stream_written : {X A : Type 0} (x : X) (y : A) (text : List ℕ)
        → AnswersOnly Factor (Has s.job.names s.job.job) (Stream D) text
        → StreamsJob {A = X} {E = StreamFault} (as_names s.job.names) s.job.job D (Ok x) old new
        → CountsFaults {A = X} (Ok x) before now
        → Answered Factor (Has s.job.names s.job.job) (Stream D) {A = A} (Ok y) old new before now
    stream_written {X = X} {A = A} x y text only streams counts = record {
      ok = (text, only, all only.0);
      err = tt;
      stop = tt;
      faults = counts.never_less;
    }
      where
        all : IsStream s.job.names s.job.job D text → WritesAll old new text
        all (fs, lead, are, shown, is_text) = subst (WritesAll old new) (sym is_text)
            (streamed (Ok x) streams fs lead are shown).ok
