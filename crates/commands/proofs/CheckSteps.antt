-- What the steps of `check` tell.
use Rattle.std.proofs.Common.{◌≡◌, ◌∙◌, sym, ap, refl, subst, ℕ, suc, ◌+◌, ◌-◌, ◌<◌, ◌≤◌, inl, inr}
use Rattle.std.proofs.Common.{arith}
use Rattle.std.proofs.Common.{Bool, true, false, List, ◌++◌, length, Option, Some, Result, Ok, Err}
use Rattle.std.proofs.Common.{append_assoc}
use Rattle.std.specs.Prelude.{nat_lt, IfOk, IfErr, codes, decimal}
use Rattle.std.proofs.lemmas.Bool.{lt-ltb}
use Rattle.std.proofs.lemmas.Bool.Decides.{leb_tells}
use Rattle.ps_model.specs.AcceptedJob.{IsAccepted}
use Rattle.ps_model.specs.declared.job.JobData.{JobData}
use Rattle.parts.specs.JobRows.{IsPermitted, IsRingOf}
use Rattle.parts.specs.Rings.{weights_of, variables_of}
use Rattle.parts.specs.declared.rings.Ring.{Ring}
use Rattle.comparison.specs.declared.place.Place.TheVariants.{Factor}
use Rattle.ps_model.specs.Names.{AreNames}
use Rattle.ps_model.specs.declared.job.Root.{Root}
use Rattle.expr_reader.specs.NameLists.{AreVariables, as_names}
use Rattle.expr_reader.proofs.AsNames.{names_as_names}
use Rattle.printer.specs.ReadBlock.{variable_names}
use Rattle.printer.specs.ReadText.{IsBlock, IsRefused}
use Rattle.printer.specs.declared.block_error.BlockError.{BlockError}
use Rattle.printer.specs.declared.reading.Block.{Block}
use Rattle.printer.specs.declared.block_error.BlockError.TheVariants.{NotPermitted, NotABlock, OutOfMemory}
use Rattle.script.specs.Checking.{Reads}
use Rattle.script.specs.Refusals.{line_refused}
use Rattle.script.specs.declared.refusal.Refusal.{Refusal}
use Rattle.script.specs.declared.refusal.Refusal.TheVariants as refusal
use Rattle.commands.specs.Checks.{Behind, IsTooLong, IsTold}
use Rattle.commands.specs.Judged.{IsBlockBy, IsReadOf, RefusesBlock, behind_of, refused_text}
use Rattle.commands.specs.Judging.{IsSeen, Tells as TellsOf, verdict_text}
use Rattle.commands.specs.Lines.{Refuses}
use Rattle.commands.specs.Statuses.{status_of}
use Rattle.commands.specs.Telling.{Tells}
use Rattle.commands.specs.declared.judging.Behind as code
use Rattle.commands.specs.declared.stop.Stop.{Stop}
use Rattle.commands.specs.declared.stop.Stop.TheVariants as stop
use Rattle.session.proofs.Opened.{same_weights}
use Rattle.commands.proofs.BlocksOnce.{refusal_or}
use Rattle.commands.proofs.BlockTold.{least_unpermitted, block_told, whole_told}

-- a block as it was read
module _ (names : List (List ℕ)) (job : JobData) (ok : IsAccepted job) (many : length names ≡ job.n) (block : List ℕ)
    (result : Result Block BlockError) (read : IsReadOf names job block result) where
  module _ (e : BlockError) (is : result ≡ Err e) (ring : Ring) (of : IsRingOf ring job) where
    refused : IsRefused read.ring (variable_names read.ring (as_names names)) job.roots read.shown block e
    refused = subst (λ (r : Result Block BlockError).
        IfErr r (IsRefused read.ring (variable_names read.ring (as_names names)) job.roots read.shown block)) is
        read.refused

    weights : weights_of ring ≡ weights_of read.ring
    weights = same_weights ring job of ∙ sym (same_weights read.ring job read.seen.ring_is)

    pub unpermitted : (p : ℕ) → e ≡ NotPermitted p → IsPermitted (weights_of ring) p → ⊥
    unpermitted p e_is low =
        let why = subst (λ e. IsRefused read.ring (variable_names read.ring (as_names names)) job.roots read.shown block
        e) e_is refused in
        least_unpermitted (weights_of read.ring) why.0 p why.3 why.4 (subst (λ ws. IsPermitted ws p) weights low)

    pub read_refused : (first m : ℕ) (b : code.Behind) (x : Stop) (old new : Option (List ℕ)) (before now tally : ℕ)
        → RefusesBlock (weights_of ring) e first m (behind_of b) x old new before now
        → Tells (IsTold (Reads names job first block) m (behind_of b)) (status_of x) old new before now tally tally
    read_refused first m b x old new before now tally refuses =
        block_told names job ok many read.ring read.shown read.seen first m block b e refused x old new before now tally
        (subst (λ ws. RefusesBlock ws e first m (behind_of b) x old new before now) weights refuses)

  module _ (b : Block) (is : result ≡ Ok b) where
    is_block : IsBlock read.ring (variable_names read.ring (as_names names)) job.roots read.shown block b.precision
        b.lead b.factors.items
    is_block = subst (λ (r : Result Block BlockError). IfOk r (λ b. IsBlock read.ring
        (variable_names read.ring (as_names names)) job.roots read.shown block b.precision b.lead b.factors.items)) is
        read.block

    pub read_by : IsBlockBy names job block b.precision b.lead b.factors.items
    read_by = (read.ring, read.shown, read.seen, is_block)

    pub read_whole : (first m : ℕ) (x : Stop) (old new : Option (List ℕ)) (before now tally : ℕ)
        → Refuses x old new before now (line_refused m refusal.InputTooLong)
        → Tells (IsTold (Reads names job first block) m IsTooLong) (status_of x) old new before now tally tally
    read_whole first m x old new before now tally told =
        whole_told names job ok many read.ring read.shown read.seen first m block b.precision b.lead b.factors.items
        is_block x old new before now tally told

-- what was read, of equal arguments
pub read_is : (names : List (List ℕ)) (job : JobData) (text : List ℕ) (ring : Ring) (shown : Bool) → IsSeen job ring
    shown
    → (names' : List (List ℕ)) (roots : List Root) (text' : List ℕ) → names' ≡ names → roots ≡ job.roots
    → text' ≡ text → (result : Result Block BlockError)
    → IfOk result (λ b. IsBlock ring (variable_names ring (as_names names')) roots shown text' b.precision b.lead
    b.factors.items) → IfErr result (IsRefused ring (variable_names ring (as_names names')) roots shown text')
    → IsReadOf names job text result
read_is names job text ring shown seen names' roots text' n r t result block refused = record {
  ring = ring;
  shown = shown;
  seen = seen;
  block = subst (λ (x : List (List ℕ) × List Root × List ℕ). IfOk result (λ b.
      IsBlock ring (variable_names ring (as_names x.0)) x.1 shown x.2 b.precision b.lead b.factors.items))
      (λ i. (n i, r i, t i)) block;
  refused = subst (λ (x : List (List ℕ) × List Root × List ℕ).
      IfErr result (IsRefused ring (variable_names ring (as_names x.0)) x.1 shown x.2))
      (λ i. (n i, r i, t i)) refused;
}

-- there are names enough
pub names_enough : (ring : Ring) (names : List (List ℕ)) (job : JobData) (a b : List (List ℕ)) → a ≡ names → b ≡ names
    → AreVariables a → IsRingOf ring job → length names ≡ job.n → variables_of ring ≤ length (as_names b)
names_enough ring names job a b same same' are of many =
    let named : as_names b ≡ b = names_as_names b (subst AreNames (same ∙ sym same') are.valid) in
    let size : length (as_names b) ≡ length b = ap length named in
    let count : length b ≡ length names = ap length same' in
    let n = of.1 in
    omega (arith, size, count, many, n)

-- what is told for an error is one line and one text
tells_once : (ws : List ℕ) (e : BlockError) (k k' : ℕ) (f f' : Refusal) → TellsOf ws e k f → TellsOf ws e k' f'
    → (k ≡ k') × (f ≡ f')
tells_once ws (NotPermitted p) k k' f f' t t' = (t.0 ∙ sym t'.0, ap (refusal_or f) (sym t.1 ∙ t'.1))
tells_once ws (NotABlock l) k k' f f' t t' = (t.0 ∙ sym t'.0, t.1 ∙ sym t'.1)
tells_once ws OutOfMemory k k' f f' t t' = absurd t

module _ (ws : List ℕ) (e : BlockError) (first m : ℕ) (behind : Behind) (line : ℕ) (f : Refusal)
    (tells : TellsOf ws e line f) (x : Stop) (old new : Option (List ℕ)) (before now : ℕ) where
  some_line : e ≡ OutOfMemory → ⊥
  some_line is = subst (λ e. TellsOf ws e line f) is tells

  refuses_at : (known : Bool) → nat_lt (first + line) m ≡ known
      → Refuses x old new before now (refused_text known (first + line) f m behind)
      → RefusesBlock ws e first m behind x old new before now
  refuses_at known is told = record {
    told = λ k g t.
        let same = tells_once ws e line k f g tells t in
        subst (λ (p : ℕ × Refusal). Refuses x old new before now
        (refused_text (nat_lt (first + p.0) m) (first + p.0) p.1 m behind)) (λ i. (same.0 i, same.1 i))
        (subst (λ b. Refuses x old new before now (refused_text b (first + line) f m behind)) (sym is) told);
    no_memory = λ none. absurd (some_line none);
  }

  -- of one of the block's lines, or where the block ends
  pub refuses_before : line < m - first → Refuses x old new before now (line_refused (first + line) f)
      → RefusesBlock ws e first m behind x old new before now
  refuses_before low told = refuses_at true (lt-ltb (first + line) m (omega (arith, low))) told

  pub refuses_behind : m - first ≤ line → first < m → Refuses x old new before now (refused_text false (first + line)
      f m behind)
      → RefusesBlock ws e first m behind x old new before now
  refuses_behind high order told = refuses_at false (not_before (first + line) (λ low. omega (arith, high, low))) told
    where
      not_before : (a : ℕ) → (a < m → ⊥) → nat_lt a m ≡ false
      not_before a none = elim (leb_tells (suc a) m) [
        | inl low ↦ absurd (none low.1)
        | inr is ↦ is.0
      ]

-- there was no memory to read it
pub refuses_none : (ws : List ℕ) (e : BlockError) (first m : ℕ) (behind : Behind) (old : Option (List ℕ)) (before : ℕ)
    → e ≡ OutOfMemory → RefusesBlock ws e first m behind stop.OutOfMemory old old before before
refuses_none ws e first m behind old before is = record {
  told = λ k f t. absurd (subst (λ e. TellsOf ws e k f) is t);
  no_memory = λ e. (refl, refl, refl);
}

-- the line of a wrong factor, in the groups of its definition
pub factor_text : (i j r : ℕ) → codes "wrong factor " ++ (decimal i ++ (codes " power " ++ (decimal j
    ++ (codes " degree " ++ (decimal r ++ codes "\n"))))) ≡ verdict_text (Some (Factor i j r))
factor_text i j r =
    seven (codes "wrong factor ") (decimal i) (codes " power ") (decimal j) (codes " degree ") (decimal r) (codes "\n")
  where
    seven : (a b c d e f g : List ℕ) → a ++ (b ++ (c ++ (d ++ (e ++ (f ++ g))))) ≡ a ++ b ++ c ++ d ++ e ++ f ++ g
    seven a b c d e f g = simp append_assoc

pub same_text : {A E : Type 0} (see : A → List ℕ) (result : Result A E) (a b : List ℕ)
    → IfOk result (λ x. see x ≡ a) → a ≡ b → IfOk result (λ x. see x ≡ b)
same_text see (Ok x) a b h e = h ∙ e
same_text see (Err x) a b h e = tt
