-- Lines of a script of `check`, as the code reads them.
use Rattle.std.proofs.Common.{◌≡◌, sym, refl, subst, ℕ, suc, ◌<◌, ◌≤◌, arith, inl, inr, Bool, true, false}
use Rattle.std.proofs.Common.{List, ◌∷◌, length, Option, Result, Ok, Err}
use Rattle.std.specs.Prelude.{nat_lt}
use Rattle.std.proofs.lemmas.Bool.{lt-ltb}
use Rattle.std.proofs.lemmas.Bool.Decides.{leb_tells}
use Rattle.script.specs.Answers.{Line}
use Rattle.script.specs.Checking.{State, Does, LineDoes, CaseDoes, ContentDoes}
use Rattle.script.specs.Refusals.{line_refused}
use Rattle.script.specs.Words.{is_skipped}
use Rattle.script.specs.declared.refusal.Refusal.{Refusal}
use Rattle.script.specs.declared.refusal.Refusal.TheVariants.{LineTooLong}
use Rattle.commands.specs.Checks.{IsCheckedFrom}
use Rattle.commands.specs.CheckLines.{state_in, IsGood, ChecksLine}
use Rattle.commands.specs.Lines.{Refuses}
use Rattle.commands.specs.declared.checking.Checking.{Checking}
use Rattle.commands.specs.declared.stop.Stop.{Stop}
use Rattle.commands.specs.declared.stop.Stop.TheVariants as stop
use Rattle.commands.proofs.CheckTold.{line_told, no_memory_told}

-- up to the line `block`
module _ (s : State) (n : ℕ) (line : List ℕ) where
  pub line_long : 65536 < length line → LineDoes s n line (Err LineTooLong)
  line_long long =
      subst (λ b. CaseDoes b (is_skipped line) s n line (Err LineTooLong)) (sym (lt-ltb 65536 (length line) long)) refl

  not_long : length line ≤ 65536 → nat_lt 65536 (length line) ≡ false
  not_long short = elim (leb_tells (suc 65536) (length line)) [
    | inl long ↦ absurd (let too = long.1 in omega arith)
    | inr is ↦ is.0
  ]

  pub line_skip : length line ≤ 65536 → is_skipped line ≡ true → LineDoes s n line (Ok s)
  line_skip short skipped =
      subst (λ (b : Bool × Bool). CaseDoes b.0 b.1 s n line (Ok s)) (λ i. (sym (not_long short) i, sym skipped i)) refl

  pub line_content : length line ≤ 65536 → is_skipped line ≡ false → (r : Result State Refusal)
      → ContentDoes s n line r → LineDoes s n line r
  line_content short read r does =
      subst (λ (b : Bool × Bool). CaseDoes b.0 b.1 s n line r) (λ i. (sym (not_long short) i, sym read i)) does

module _ (c : Checking) (line : List ℕ) (n : ℕ) where
  -- the line leads to another state
  pub line_read : (next : Checking) (old : Option (List ℕ)) (count : ℕ) → Does (state_in c) n line (Ok (state_in next))
      → IsGood (state_in next) → ChecksLine c line n (Ok next) old old count count
  line_read next old count does good = record { ok = (does, good); kept = (refl, refl); err = tt }

  -- it is refused
  pub line_refuses : (f : Refusal) (e : Stop) (old new : Option (List ℕ)) (before now : ℕ)
      → Does (state_in c) n line (Err f) → Refuses e old new before now (line_refused n f)
      → ChecksLine c line n (Err e) old new before now
  line_refuses f e old new before now does told = record {
    ok = tt;
    kept = tt;
    err = λ ended rest tally. line_told (state_in c) n line f does ended rest e old new before now tally told;
  }

  -- there is no memory for it
  pub line_lost : (old : Option (List ℕ)) (count : ℕ) → ChecksLine c line n (Err stop.OutOfMemory) old old count count
  line_lost old count = record {
    ok = tt;
    kept = tt;
    err = λ ended rest tally. no_memory_told (IsCheckedFrom ended (state_in c) n (Line line ∷ rest)) old count tally;
  }
