-- Texts that are written piece by piece, of which nothing is held back between the pieces.
use Rattle.std.proofs.Common.{ℕ, List, [], Option, Result, Ok, Err, append-nil, ◌∙◌, sym, subst}
use Rattle.ports.specs.Bytes.{WritesAll}
use Rattle.printer.specs.Buffered.{Buffered}
use Rattle.printer.specs.Wrote.{Wrote}

-- a call that writes its text holds nothing back
pub held_none : {A E : Type 0} {r : Result A E} {old new : Option (List ℕ)} {before now : ℕ} {text : List ℕ}
    → Wrote r old new before now text → Buffered r old new [] [] before now text
held_none {r = Ok x} {text = text} wrote = record {
  ok = record { sent = text; written = wrote.ok; is = append-nil text };
  no_fault = wrote.no_fault;
  err = tt;
  fault = tt;
  faults = wrote.faults;
}
held_none {r = Err e} wrote =
    record { ok = tt; no_fault = tt; err = wrote.err; fault = wrote.fault; faults = wrote.faults }

pub wrote_all : {A E : Type 0} {old new : Option (List ℕ)} {before now : ℕ} {text : List ℕ} (r : Result A E)
    → Buffered r old new [] [] before now text → Wrote r old new before now text
wrote_all {old = old} {new = new} (Ok x) call = record {
  ok = subst (WritesAll old new) (sym (append-nil call.ok.sent) ∙ call.ok.is) call.ok.written;
  no_fault = call.no_fault;
  err = tt;
  fault = tt;
  faults = call.faults;
}
wrote_all (Err e) call = record { ok = tt; no_fault = tt; err = call.err; fault = call.fault; faults = call.faults }
