-- What is known of a run of the program.
use Rattle.std.proofs.Common.{◌≡◌, ◌≢◌, ◌∙◌, ap, sym, refl, subst, ℕ, ◌+◌, ◌≤◌, ◌⊎◌, inl, inr, List, [], Option}
use Rattle.std.proofs.Common.{Some, None, arith, true, false}
use Rattle.std.proofs.lemmas.Bool.Decides.{eqb_tells, leb_tells}
use Rattle.std.specs.Prelude.{option_and_then}
use Rattle.words.specs.Rules.{command_in}
use Rattle.words.specs.declared.command.Command.{Command}
use Rattle.demo.specs.DemoText.{IsDemoText}
use Rattle.demo.proofs.DemoJobs.{one_text}
use Rattle.ports.specs.Bytes.{WritesAll, WritesPart}
use Rattle.ports.specs.Faults.{Rose}
use Rattle.commands.specs.Calls.{WritesBeginning, IsLeft, IsKnown, Outputs}
use Rattle.commands.specs.Output.{IsOutput}
use Rattle.commands.specs.Runs.{Finishes, Ran}
use Rattle.commands.specs.Words.{Work, work_in, work_of, usage_line}
use Rattle.commands.specs.Words as work
use Rattle.commands.proofs.RunsDone.{mark, mark_is, takes_none}

-- what is done for words, by the command that was found
found_work : (words : List (List ℕ)) (found command : Option Command) → found ≡ command_in words → found ≡ command
    → work_in words ≡ option_and_then work_of command
found_work words found command parsed is = ap (option_and_then work_of) (sym parsed ∙ is)

-- what is known of the run for the command is known of the run for the words
pub ran_found : (words : List (List ℕ)) (found command : Option Command) → found ≡ command_in words → found ≡ command
    → {n : ℕ} {left left' : Option (List ℕ)} {read read' : ℕ} {written written' : Option (List ℕ)}
    {wrote wrote' tally tally' : ℕ}
    → Ran (option_and_then work_of command) n left left' read read' written written' wrote wrote' tally tally'
    → Ran (work_in words) n left left' read read' written written' wrote wrote' tally tally'
ran_found words found command parsed is {n = n} {left = left} {left' = left'} {read = read} {read' = read'}
    {written = written} {written' = written'} {wrote = wrote} {wrote' = wrote'} {tally = tally} {tally' = tally'} ran =
    subst (λ o. Ran o n left left' read read' written written' wrote wrote' tally tally')
    (sym (found_work words found command parsed is)) ran

false_true : false ≡ true → ⊥
false_true is = cc

some_input : (left : Option (List ℕ)) → (input : List ℕ) × IsLeft left input
some_input None = ([], tt)
some_input (Some bytes) = (bytes, refl)

-- the words are refused, and the usage line was written, or a beginning of it
pub ran_usage : (left : Option (List ℕ)) (read : ℕ) (written written' : Option (List ℕ)) (wrote wrote' tally r : ℕ)
    → (r ≢ 4 → (r ≡ 2) × WritesAll written written' usage_line) → WritesBeginning written written' usage_line
    → (r ≡ 4 → Rose wrote wrote') → wrote ≤ wrote'
    → Ran None r left left read read written written' wrote wrote' tally tally
ran_usage left read written written' wrote wrote' tally r done begins rose faults = record {
  whole = λ low.
      let all = done (λ four. elim low [ inl two ↦ omega arith | inr six ↦ omega arith ]) in
      let input = some_input left in
      record {
        input = input.0;
        is_left = input.1;
        text = usage_line;
        steps = 0;
        output = (refl, all.0, refl);
        only = λ t s n is. (is.0, is.1 ∙ sym all.0, is.2);
        writes = all.1;
        spends = omega arith;
      };
  end = λ is reads. absurd (elim is [
    | inl none ↦ never 0 none (omega arith) (omega arith)
    | inr six ↦ never 6 six (omega arith) (omega arith)
  ]);
  read_fault = λ three. absurd (never 3 three (omega arith) (omega arith));
  write_fault = rose;
  answers = λ three. absurd (never 3 three (omega arith) (omega arith));
  part = λ stopped. record {
    bytes = [];
    taken = takes_none left;
    ended = mark left false;
    mark = mark_is left false;
    writes = λ text steps part. subst (WritesBeginning written written') (sym part.0) begins;
    more = omega arith;
    at_most = λ text steps part. omega arith;
  };
  low = elim (eqb_tells r 4) [
    | inl four ↦ (let is = four.1 in omega arith)
    | inr not_four ↦ (let two = (done not_four.1).0 in omega arith)
  ];
  source_faults = omega arith;
  sink_faults = faults;
}
  where
    never : (n : ℕ) → r ≡ n → n ≢ 4 → n ≢ 2 → ⊥
    never n is not_four not_two = not_two (sym is ∙ (done (λ four. not_four (sym is ∙ four))).0)

module _ {o : Option Work} {n : ℕ} {left left' : Option (List ℕ)} {read read' : ℕ}
    {written written' : Option (List ℕ)} {wrote wrote' tally tally' : ℕ}
    (ran : Ran o n left left' read read' written written' wrote wrote' tally tally') where
  -- what was written is the output
  pub ran_outputs : (n ≤ 2) ⊎ (n ≡ 6) → Outputs o left written written' tally tally' n
  ran_outputs low =
      let done = ran.whole low in
      record {
        input = done.input;
        is_left = done.is_left;
        text = done.text;
        steps = done.steps;
        output = done.output;
        writes = done.writes;
        spends = done.spends;
      }

  -- without a fault the status is the output's, or that of memory
  pub ran_complete : (input text : List ℕ) (status steps : ℕ) → IsKnown o left input → IsOutput o input text status steps
      → (Rose read read' → ⊥) → (Rose wrote wrote' → ⊥) → (n ≡ status) ⊎ (n ≡ 5)
  ran_complete input text status steps known output no_read no_write = elim (leb_tells 3 n) [
    | inr low ↦ inl (by o left known output (ran.whole (inl (let below = low.1 in omega arith))))
    | inl high ↦ elim (eqb_tells n 3) [
      | inl three ↦ absurd (no_read (ran.read_fault three.1))
      | inr not_three ↦ elim (eqb_tells n 4) [
        | inl four ↦ absurd (no_write (ran.write_fault four.1))
        | inr not_four ↦ elim (eqb_tells n 6) [
          | inl six ↦ inl (by o left known output (ran.whole (inr six.1)))
          | inr not_six ↦
              inr (let above = high.1 in let low = ran.low in let a = not_three.1 in let b = not_four.1 in
              let d = not_six.1 in omega arith)
        ]
      ]
    ]
  ]
    where
      by : (w : Option Work) (left : Option (List ℕ)) → IsKnown w left input → IsOutput w input text status steps
          → Finishes w left written written' tally tally' n → n ≡ status
      by None left known output done = sym (done.only text status steps output).1
      by (Some (work.Demo k)) left known output done = sym (done.only text status steps output).1
      by (Some (work.Script c)) None known output done = absurd known
      by (Some (work.Script c)) (Some bytes) known output done = sym (done.only text status steps
          (subst (λ i. IsOutput (Some (work.Script c)) i text status steps) (sym known ∙ done.is_left) output)).1
      by (Some work.Check) None known output done = absurd known
      by (Some work.Check) (Some bytes) known output done = sym (done.only text status steps
          (subst (λ i. IsOutput (Some work.Check) i text status steps) (sym known ∙ done.is_left) output)).1

-- the job of a number is summed up
pub ran_demo : (n : ℕ) (left : Option (List ℕ)) (read : ℕ) (written written' : Option (List ℕ))
    (wrote wrote' tally tally' : ℕ) → ((text : List ℕ) → IsDemoText n text → WritesAll written written' text)
    → wrote ≤ wrote' → tally' ≡ tally + 164
    → Ran (Some (work.Demo n)) 0 left left read read written written' wrote wrote' tally tally'
ran_demo n left read written written' wrote wrote' tally tally' writes faults spends = record {
  whole = λ low.
      let input = some_input left in
      let one = one_text n in
      record {
        input = input.0;
        is_left = input.1;
        text = one.one_value;
        steps = 164;
        output = (one.meets, refl, refl);
        only = λ t s k is. (one.only t is.0, is.1, is.2);
        writes = writes one.one_value one.meets;
        spends = spends;
      };
  end = λ is reads. absurd (false_true reads);
  read_fault = λ is. absurd (omega arith);
  write_fault = λ is. absurd (omega arith);
  answers = λ is. absurd (omega arith);
  part = λ is. absurd (elim is [ inl four ↦ omega arith | inr five ↦ omega arith ]);
  low = omega arith;
  source_faults = omega arith;
  sink_faults = faults;
}

-- or a beginning of that
pub ran_demo_stopped : (n status : ℕ) (left : Option (List ℕ)) (read : ℕ) (written written' : Option (List ℕ))
    (wrote wrote' tally tally' : ℕ) → (status ≡ 4) ⊎ (status ≡ 5) → (status ≡ 4 → Rose wrote wrote')
    → ((text : List ℕ) → IsDemoText n text → WritesPart written written' text) → wrote ≤ wrote' → tally ≤ tally'
    → tally' ≤ tally + 164
    → Ran (Some (work.Demo n)) status left left read read written written' wrote wrote' tally tally'
ran_demo_stopped n status left read written written' wrote wrote' tally tally' stopped rose writes faults more
    at_most = record {
      whole = λ low. absurd (elim stopped [
        | inl four ↦ elim low [ inl two ↦ omega arith | inr six ↦ omega arith ]
        | inr five ↦ elim low [ inl two ↦ omega arith | inr six ↦ omega arith ]
      ]);
      end = λ is reads. absurd (false_true reads);
      read_fault = λ three. absurd (elim stopped [ inl four ↦ omega arith | inr five ↦ omega arith ]);
      write_fault = rose;
      answers = λ three. elim stopped [ inl four ↦ omega arith | inr five ↦ omega arith ];
      part = λ is. record {
        bytes = [];
        taken = takes_none left;
        ended = mark left false;
        mark = mark_is left false;
        writes = λ text steps part. part_begins written written' text (writes text part.0);
        more = more;
        at_most = λ text steps part. (let is_steps = part.1 in omega (arith, at_most));
      };
      low = elim stopped [ inl four ↦ omega arith | inr five ↦ omega arith ];
      source_faults = omega arith;
      sink_faults = faults;
    }
  where
    part_begins : (old new : Option (List ℕ)) (text : List ℕ) → WritesPart old new text → WritesBeginning old new text
    part_begins None new text h = h
    part_begins (Some bytes) new text h = (h.0, h.2)
