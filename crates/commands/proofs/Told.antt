-- Refusals that are told, or not.
use Rattle.std.proofs.Common.{◌≡◌, ◌∙◌, sym, ap, ℕ, ◌≤◌, List, ◌++◌, length, Option, Some, None, append_assoc}
use Rattle.std.proofs.Common.{arith}
use Rattle.std.proofs.lemmas.List.{take_all}
use Rattle.std.specs.Prelude.{codes, decimal}
use Rattle.ports.specs.Bytes.{WritesAll}
use Rattle.script.specs.Refusals.{line_refused, end_refused, refusal_text}
use Rattle.script.specs.declared.refusal.Refusal.{Refusal}
use Rattle.commands.specs.declared.stop.Stop.TheVariants as stop
use Rattle.commands.specs.Calls.{WritesBeginning}
use Rattle.commands.specs.Lines.{Refuses}
use Rattle.commands.proofs.LinesDone.{nothing_written}

-- a whole text is a beginning of it
pub all_begins : (old new : Option (List ℕ)) (text : List ℕ) → WritesAll old new text → WritesBeginning old new text
all_begins None new text h = h
all_begins (Some bytes) new text h =
    (length text, h ∙ ap (λ l. Some (bytes ++ l)) (sym (take_all (length text) text (omega arith))))

-- the line was written
pub told_whole : (old new : Option (List ℕ)) (before now : ℕ) (text : List ℕ) → WritesAll old new text → before ≤ now
    → Refuses stop.Refused old new before now text
told_whole old new before now text writes faults = record {
  refused = λ is. writes;
  part = all_begins old new text writes;
  cause = tt;
  faults = faults;
}

-- there was no memory for it
pub not_told : (old : Option (List ℕ)) (before : ℕ) (text : List ℕ) → Refuses stop.OutOfMemory old old before before text
not_told old before text = record {
  refused = λ is. absurd (let no : ⊥ = cc in no);
  part = nothing_written old text;
  cause = tt;
  faults = omega arith;
}

-- the text in the groups of its definition
pub line_text : (n : ℕ) (f : Refusal)
    → codes "refused line " ++ (decimal n ++ (codes ": " ++ (refusal_text f ++ codes "\n"))) ≡ line_refused n f
line_text n f = four (codes "refused line ") (decimal n) (codes ": ") (refusal_text f) (codes "\n")
  where
    four : (a b c d e : List ℕ) → a ++ (b ++ (c ++ (d ++ e))) ≡ a ++ b ++ c ++ d ++ e
    four a b c d e = simp append_assoc

pub end_text : (f : Refusal) → codes "refused end: " ++ (refusal_text f ++ codes "\n") ≡ end_refused f
end_text f = two (codes "refused end: ") (refusal_text f) (codes "\n")
  where
    two : (a b c : List ℕ) → a ++ (b ++ c) ≡ a ++ b ++ c
    two a b c = simp append_assoc
