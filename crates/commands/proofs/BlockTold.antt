-- What is told of a block.
use Rattle.std.proofs.Common.{◌≡◌, ◌≢◌, ◌∙◌, sym, ap, refl, subst, ℕ, suc, ◌+◌, ◌*◌, ◌≤◌, inl, inr}
use Rattle.std.proofs.Common.{min, arith}
use Rattle.std.proofs.Common.{Bool, true, false, List, length, Option, Some, None, Result, Ok, Err}
use Rattle.std.specs.Prelude.{nat_lt, if◌then◌else◌}
use Rattle.std.proofs.lemmas.Bool.Decides.{leb_tells}
use Rattle.ports.specs.Bytes.{WritesAll}
use Rattle.ps_model.specs.AcceptedJob.{IsAccepted}
use Rattle.ps_model.specs.declared.job.JobData.{JobData}
use Rattle.parts.specs.Counting.{monomials_up_to}
use Rattle.parts.specs.JobRows.{IsPermitted}
use Rattle.parts.specs.Rings.{weights_of}
use Rattle.parts.specs.declared.rings.Ring.{Ring}
use Rattle.comparison.specs.declared.place.Place.{Place}
use Rattle.expr_reader.specs.NameLists.{as_names}
use Rattle.printer.specs.ReadBlock.{variable_names}
use Rattle.printer.specs.ReadText.{Coefficients, IsBlock, IsRefused}
use Rattle.printer.specs.declared.block_error.BlockError.{BlockError}
use Rattle.printer.specs.declared.block_error.BlockError.TheVariants.{NotPermitted, NotABlock, OutOfMemory}
use Rattle.script.specs.Checking.{State, Reads}
use Rattle.script.specs.Refusals.{line_refused}
use Rattle.script.specs.Requests.{degree_in}
use Rattle.script.specs.declared.refusal.Refusal.{Refusal}
use Rattle.script.specs.declared.refusal.Refusal.TheVariants as refusal
use Rattle.commands.specs.Calls.{WritesBeginning}
use Rattle.commands.specs.Checks.{Ends, IsTooLong, IsToldAt, IsTold}
use Rattle.commands.specs.Judged.{RefusesBlock, behind_of, refused_text}
use Rattle.commands.specs.Judging.{IsSeen, Tells as TellsOf, IsCompared, verdict_text, verdict_status}
use Rattle.commands.specs.Lines.{Refuses}
use Rattle.commands.specs.Statuses.{status_of, status_by}
use Rattle.commands.specs.Telling.{Tells, TellsVerdict, check_status}
use Rattle.commands.specs.declared.judging.Behind as code
use Rattle.commands.specs.declared.judging.Behind.TheVariants as behind
use Rattle.commands.specs.declared.stop.Stop.{Stop}
use Rattle.commands.specs.declared.stop.Stop.TheVariants as stop
use Rattle.commands.specs.declared.verdict.Verdict.{Verdict}
use Rattle.commands.proofs.Compared.{compared}
use Rattle.commands.proofs.ToldOnce.{AreSame, told_once}
use Rattle.commands.proofs.CheckTold.{never, no_answer, memory_told, no_memory_told, state_told}

-- why a precision isn't permitted
pub not_permitted : (ws : List ℕ) (p : ℕ) → (IsPermitted ws p → ⊥) → (f : Refusal) × (degree_in ws p ≡ Err f)
not_permitted ws p none = elim (leb_tells 4096 p) [
  | inl high ↦ (refusal.PrecisionTooLarge, ap (λ b. if b then Err refusal.PrecisionTooLarge else rest) high.0)
  | inr low ↦ elim (leb_tells 32769 (monomials_up_to ws p)) [
    | inl many ↦ (
      refusal.TooManyMonomials p (monomials_up_to ws p),
      ap (λ b. if b then Err refusal.PrecisionTooLarge else rest) low.0
          ∙ ap (λ b. if b then Err (refusal.TooManyMonomials p (monomials_up_to ws p)) else Ok p) many.0,
    )
    | inr few ↦ absurd (none (let p_low = low.1 in omega arith, let m_low = few.1 in omega arith))
  ]
]
  where
    rest : Result ℕ Refusal
    rest = if nat_lt 32768 (monomials_up_to ws p) then Err (refusal.TooManyMonomials p (monomials_up_to ws p)) else Ok p

pub least_unpermitted : (ws : List ℕ) (D p : ℕ) → (IsPermitted ws D → ⊥) → p ≡ min D 4096 → IsPermitted ws p → ⊥
least_unpermitted ws D p none is h = none (subst (IsPermitted ws) (same D p is h.0) h)
  where
    same : (D p : ℕ) → p ≡ min D 4096 → p ≤ 4095 → p ≡ D
    same D p is low = omega arith

-- a block that isn't read
module _ (names : List (List ℕ)) (job : JobData) (ok : IsAccepted job) (many : length names ≡ job.n) (ring : Ring)
    (shown : Bool) (seen : IsSeen job ring shown) (first m : ℕ) (block : List ℕ) where
  abbrev vars : List (List ℕ)
  vars = variable_names ring (as_names names)

  abbrev s : State
  s = Reads names job first block

  told_at : (b : code.Behind) (known : Bool) (k : ℕ) (f : Refusal)
      → IsToldAt known k f m (behind_of b) (refused_text known k f m (behind_of b)) 1 0
  told_at b true k f = (refl, refl, refl)
  told_at behind.End false k f = (refl, refl, refl)
  told_at behind.TooLong false k f = (refl, refl, refl)

  refused_at : (b : code.Behind) (e : BlockError) (k : ℕ) (f : Refusal)
      → IsRefused ring vars job.roots shown block e → TellsOf (weights_of ring) e k f
      → IsTold s m (behind_of b) (refused_text (nat_lt (first + k) m) (first + k) f m (behind_of b)) 1 0
  refused_at b e k f why tells =
      (ring, shown, seen, inl (k, f, (e, why, tells), told_at b (nat_lt (first + k) m) (first + k) f))

  pub block_told : (b : code.Behind) (e : BlockError) → IsRefused ring vars job.roots shown block e → (x : Stop)
      (old new : Option (List ℕ)) (before now tally : ℕ)
      → RefusesBlock (weights_of ring) e first m (behind_of b) x old new before now
      → Tells (IsTold s m (behind_of b)) (status_of x) old new before now tally tally
  block_told b (NotPermitted p) why x old new before now tally refuses =
      let f = not_permitted (weights_of ring) p (least_unpermitted (weights_of ring) why.0 p why.3 why.4) in
      state_told s (ok, many) m (behind_of b) _ (refused_at b (NotPermitted p) 1 f.0 why (refl, f.1)) x old new before
      now tally (refuses.told 1 f.0 (refl, f.1))
  block_told b (NotABlock l) why x old new before now tally refuses =
      state_told s (ok, many) m (behind_of b) _
      (refused_at b (NotABlock l) l refusal.NotABlock why (refl, refl)) x old new before now tally
      (refuses.told l refusal.NotABlock (refl, refl))
  block_told b OutOfMemory why x old new before now tally refuses =
      let none = refuses.no_memory refl in
      subst (λ (y : Stop × Option (List ℕ) × ℕ).
      Tells (IsTold s m (behind_of b)) (status_of y.0) old y.1 before y.2 tally tally)
      (λ i. (sym none.0 i, sym none.1 i, sym none.2 i))
      (no_memory_told (IsTold s m (behind_of b)) old before tally)

  -- a block that is whole, in an input that is too long
  pub whole_told : (D : ℕ) (l : Option Coefficients) (gs : List Coefficients)
      → IsBlock ring vars job.roots shown block D l gs → (x : Stop) (old new : Option (List ℕ)) (before now tally : ℕ)
      → Refuses x old new before now (line_refused m refusal.InputTooLong)
      → Tells (IsTold s m IsTooLong) (status_of x) old new before now tally tally
  whole_told D l gs is x old new before now tally told =
      let c = compared job ok ring shown seen vars block D l gs is in
      state_told s (ok, many) m IsTooLong (line_refused m refusal.InputTooLong)
      (ring, shown, seen, inr (D, c.0, c.1, (refl, refl, refl))) x old new before now tally told

  -- at the end
  module _ (D : ℕ) (place : Option Place) (c : IsCompared vars job ring shown block D place)
      (tally tally' : ℕ) (spends : tally' ≡ tally + length job.roots * suc D) where
    verdict_is : IsTold s m Ends (verdict_text place) (verdict_status place) (length job.roots * suc D)
    verdict_is = (ring, shown, seen, inr (D, place, c, (refl, refl, refl)))

    verdict_only : (t : List ℕ) (u n : ℕ) → IsTold s m Ends t u n
        → AreSame (verdict_text place) (verdict_status place) (length job.roots * suc D) t u n
    verdict_only t u n h = told_once s (ok, many) m Ends (verdict_text place) (verdict_status place)
        (length job.roots * suc D) t u n verdict_is h

    pub right_told : (v : Verdict) (old new : Option (List ℕ)) (before now : ℕ) → status_by v ≡ verdict_status place
        → WritesAll old new (verdict_text place) → before ≤ now
        → Tells (IsTold s m Ends) (status_by v) old new before now tally tally'
    right_told v old new before now same writes faults =
        subst (λ k. Tells (IsTold s m Ends) k old new before now tally tally') (sym same) (record {
          all = λ answer. record {
            text = verdict_text place;
            steps = length job.roots * suc D;
            is = verdict_is;
            only = verdict_only;
            writes = writes;
            spends = spends;
          };
          part = never (verdict_status place) (λ e. four place e) (λ e. five place e);
          cause = λ e. absurd (four place e);
          no_read = λ e. three place e;
          low = low place;
          faults = faults;
        })
      where
        three : (p : Option Place) → verdict_status p ≡ 3 → ⊥
        three None e = omega arith
        three (Some p) e = omega arith

        four : (p : Option Place) → verdict_status p ≡ 4 → ⊥
        four None e = omega arith
        four (Some p) e = omega arith

        five : (p : Option Place) → verdict_status p ≡ 5 → ⊥
        five None e = omega arith
        five (Some p) e = omega arith

        low : (p : Option Place) → verdict_status p ≤ 6
        low None = omega arith
        low (Some p) = omega arith

    pub unwritten_told : (e : Stop) (old new : Option (List ℕ)) (before now : ℕ) → e ≢ stop.Refused
        → Refuses e old new before now (verdict_text place)
        → Tells (IsTold s m Ends) (status_of e) old new before now tally tally'
    unwritten_told stop.Refused old new before now other told = absurd (other refl)
    unwritten_told stop.ReadFault old new before now other told = absurd told.cause
    unwritten_told stop.WriteFault old new before now other told = record {
      all = no_answer 4 (omega arith) (omega arith);
      part = λ four. record {
        writes = λ t u n h. subst (WritesBeginning old new) (sym (verdict_only t u n h).0) told.part;
        more = omega (arith, spends);
        at_most = λ t u n h. let is = (verdict_only t u n h).2 in omega (arith, spends, is);
      };
      cause = λ e. told.cause;
      no_read = λ e. omega arith;
      low = omega arith;
      faults = told.faults;
    }
    unwritten_told stop.OutOfMemory old new before now other told = record {
      all = no_answer 5 (omega arith) (omega arith);
      part = λ five. record {
        writes = λ t u n h. subst (WritesBeginning old new) (sym (verdict_only t u n h).0) told.part;
        more = omega (arith, spends);
        at_most = λ t u n h. let is = (verdict_only t u n h).2 in omega (arith, spends, is);
      };
      cause = λ e. absurd (omega arith);
      no_read = λ e. omega arith;
      low = omega arith;
      faults = told.faults;
    }

    pub verdict_told : (result : Result Verdict Stop) (old new : Option (List ℕ)) (before now : ℕ)
        → TellsVerdict place result old new before now
        → Tells (IsTold s m Ends) (check_status result) old new before now tally tally'
    verdict_told (Ok v) old new before now told = right_told v old new before now told.ok.0 told.ok.1 told.faults
    verdict_told (Err e) old new before now told = unwritten_told e old new before now told.err.0 told.err.1

  -- no memory, before all degrees are raised
  pub stopped_told : (D : ℕ) (l : Option Coefficients) (gs : List Coefficients)
      → IsBlock ring vars job.roots shown block D l gs → (old : Option (List ℕ)) (before tally tally' : ℕ)
      → tally ≤ tally' → tally' ≤ tally + length job.roots * suc D
      → Tells (IsTold s m Ends) 5 old old before before tally tally'
  stopped_told D l gs is old before tally tally' more most =
      let c = compared job ok ring shown seen vars block D l gs is in
      memory_told (IsTold s m Ends) old before tally tally' more
      (λ t u n h. let steps = (verdict_only D c.0 c.1 tally (tally + length job.roots * suc D) refl t u n h).2 in
      omega (arith, most, steps))
