-- What is told of a script of `check` is one text, status and number of steps.
use Rattle.std.proofs.Common.{◌≡◌, ◌∙◌, sym, ap, subst, ℕ, ◌+◌, inl, inr, Bool, true, false}
use Rattle.std.proofs.Common.{List, length, Option, Result}
use Rattle.std.specs.Prelude.{nat_lt}
use Rattle.ps_model.specs.AcceptedJob.{IsAccepted}
use Rattle.ps_model.specs.declared.job.JobData.{JobData}
use Rattle.parts.specs.Rings.{variables_of}
use Rattle.parts.specs.declared.rings.Ring.{Ring}
use Rattle.comparison.specs.declared.place.Place.{Place}
use Rattle.expr_reader.specs.NameLists.{as_names, AreNames-as_names}
use Rattle.printer.specs.ReadBlock.{variable_names}
use Rattle.printer.specs.ReadForms.{AreApart}
use Rattle.printer.proofs.ReadLawful.{apart_taken}
use Rattle.printer.proofs.ReadNames.{names_apart}
use Rattle.script.specs.Checking.{State, Begun, Has, Reads, ContentDoes, CaseDoes, Does, header_outcome}
use Rattle.script.specs.Header.{keyword_due}
use Rattle.script.specs.Words.{is_skipped}
use Rattle.script.specs.declared.refusal.Keyword.TheVariants.{Block}
use Rattle.script.specs.declared.refusal.Refusal.{Refusal}
use Rattle.script.specs.declared.refusal.Refusal.TheVariants.{Expected}
use Rattle.commands.specs.CheckLines.{IsGood}
use Rattle.commands.specs.Checks.{Behind, GoesOn, Ends, IsTooLong, IsLacking, IsToldAt, IsVerdict}
use Rattle.commands.specs.Checks.{IsJudged, IsTold}
use Rattle.commands.specs.Judging.{IsSeen}
use Rattle.commands.proofs.BlocksOnce.{one_refusal, not_both, one_place}
use Rattle.commands.proofs.HeaderOnce.{says_once}
use Rattle.commands.proofs.JobRings.{one_seen}

-- the names of a ring's variables can be told apart
pub apart : (ring : Ring) (names : List (List ℕ)) → AreApart (variable_names ring (as_names names))
apart ring names = apart_taken (variables_of ring) (as_names names)
    (names_apart (as_names names) (AreNames-as_names names))

-- three values, and three others
abbrev pub AreSame : List ℕ → ℕ → ℕ → List ℕ → ℕ → ℕ → Type 0
AreSame t s n t' s' n' = (t' ≡ t) × (s' ≡ s) × (n' ≡ n)

same_by : (t : List ℕ) (s n : ℕ) (t₁ t₂ : List ℕ) (s₁ n₁ s₂ n₂ : ℕ) → (t₁ ≡ t) × (s₁ ≡ s) × (n₁ ≡ n)
    → (t₂ ≡ t) × (s₂ ≡ s) × (n₂ ≡ n) → AreSame t₁ s₁ n₁ t₂ s₂ n₂
same_by t s n t₁ t₂ s₁ n₁ s₂ n₂ h k = (k.0 ∙ sym h.0, k.1 ∙ sym h.1, k.2 ∙ sym h.2)

lacking_once : (m : ℕ) (f : Refusal) (behind : Behind) (t : List ℕ) (s n : ℕ) (t' : List ℕ) (s' n' : ℕ)
    → IsLacking m f behind t s n → IsLacking m f behind t' s' n' → AreSame t s n t' s' n'
lacking_once m f GoesOn t s n t' s' n' h k = (k.0 ∙ sym h.0, k.1 ∙ sym h.1, k.2 ∙ sym h.2)
lacking_once m f Ends t s n t' s' n' h k = (k.0 ∙ sym h.0, k.1 ∙ sym h.1, k.2 ∙ sym h.2)
lacking_once m f IsTooLong t s n t' s' n' h k = (k.0 ∙ sym h.0, k.1 ∙ sym h.1, k.2 ∙ sym h.2)

told_at_once : (known : Bool) (k : ℕ) (f : Refusal) (m : ℕ) (behind : Behind) (t : List ℕ) (s n : ℕ) (t' : List ℕ)
    (s' n' : ℕ) → IsToldAt known k f m behind t s n → IsToldAt known k f m behind t' s' n' → AreSame t s n t' s' n'
told_at_once true k f m behind t s n t' s' n' h j = (j.0 ∙ sym h.0, j.1 ∙ sym h.1, j.2 ∙ sym h.2)
told_at_once false k f m behind t s n t' s' n' h j = lacking_once m f behind t s n t' s' n' h j

verdict_once : (job : JobData) (D : ℕ) (place : Option Place) (m : ℕ) (behind : Behind) (t : List ℕ) (s n : ℕ)
    (t' : List ℕ) (s' n' : ℕ) → IsVerdict job D place m behind t s n → IsVerdict job D place m behind t' s' n'
    → AreSame t s n t' s' n'
verdict_once job D place m GoesOn t s n t' s' n' h k = (k.0 ∙ sym h.0, k.1 ∙ sym h.1, k.2 ∙ sym h.2)
verdict_once job D place m Ends t s n t' s' n' h k = (k.0 ∙ sym h.0, k.1 ∙ sym h.1, k.2 ∙ sym h.2)
verdict_once job D place m IsTooLong t s n t' s' n' h k = (k.0 ∙ sym h.0, k.1 ∙ sym h.1, k.2 ∙ sym h.2)

module _ (names : List (List ℕ)) (job : JobData) (ok : IsAccepted job) (ring : Ring) (shown : Bool)
    (seen : IsSeen job ring shown) (first : ℕ) (block : List ℕ) (m : ℕ) (behind : Behind) where
  abbrev vars : List (List ℕ)
  vars = variable_names ring (as_names names)

  pub judged_once : (t : List ℕ) (s n : ℕ) (t' : List ℕ) (s' n' : ℕ)
      → IsJudged vars job ring shown first block m behind t s n
      → IsJudged vars job ring shown first block m behind t' s' n' → AreSame t s n t' s' n'
  judged_once t s n t' s' n' (inl (k, f, (e, why, tells), told)) (inl (k', f', (e', why', tells'), told')) =
      let same = one_refusal ring vars (apart ring names) job.roots shown block e' e k' k f' f why' why tells' tells in
      told_at_once (nat_lt (first + k) m) (first + k) f m behind t s n t' s' n' told
      (subst (λ (x : ℕ × Refusal). IsToldAt (nat_lt (first + x.0) m) (first + x.0) x.1 m behind t' s' n')
      (λ i. (same.0 i, same.1 i)) told')
  judged_once t s n t' s' n' (inl (k, f, (e, why, tells), told)) (inr (D, place, compared, verdict)) =
      absurd (not_both ring vars (apart ring names) job.roots shown block e k f why tells D compared.lead
      compared.factors compared.is_block)
  judged_once t s n t' s' n' (inr (D, place, compared, verdict)) (inl (k, f, (e, why, tells), told)) =
      absurd (not_both ring vars (apart ring names) job.roots shown block e k f why tells D compared.lead
      compared.factors compared.is_block)
  judged_once t s n t' s' n' (inr (D, place, compared, verdict)) (inr (D', place', compared', verdict')) =
      let same = one_place ring vars (apart ring names) job ok shown seen block D' D place' place compared' compared in
      verdict_once job D place m behind t s n t' s' n' verdict
      (subst (λ (x : ℕ × Option Place). IsVerdict job x.0 x.1 m behind t' s' n') (λ i. (same.0 i, same.1 i)) verdict')

pub told_once : (state : State) → IsGood state → (m : ℕ) (behind : Behind) (t : List ℕ) (s n : ℕ) (t' : List ℕ)
    (s' n' : ℕ) → IsTold state m behind t s n → IsTold state m behind t' s' n' → AreSame t s n t' s' n'
told_once (Begun h) good m behind t s n t' s' n' a b = lacking_once m (Expected (keyword_due h)) behind t s n t' s'
    n' a b
told_once (Has names job) good m behind t s n t' s' n' a b = lacking_once m (Expected Block) behind t s n t' s' n' a b
told_once (Reads names job first block) good m behind t s n t' s' n' (ring, shown, seen, a) (ring', shown', seen', b) =
    let same = one_seen job ring' ring shown' shown seen' seen in
    judged_once names job good.0 ring shown seen first block m behind t s n t' s' n' a
    (subst (λ (x : Ring × Bool).
    IsJudged (variable_names x.0 (as_names names)) job x.0 x.1 first block m behind t' s' n')
    (λ i. (same.0 i, same.1 i)) b)

-- a line does one thing
content_once : (s : State) (n : ℕ) (line : List ℕ) (r r' : Result State Refusal) → ContentDoes s n line r
    → ContentDoes s n line r' → r' ≡ r
content_once (Begun h) n line r r' (said, says, is) (said', says', is') =
    is' ∙ ap header_outcome (says_once h line said' said says' says) ∙ sym is
content_once (Has names job) n line r r' is is' = is' ∙ sym is
content_once (Reads names job first text) n line r r' is is' = is' ∙ sym is

case_once : (long skipped : Bool) (s : State) (n : ℕ) (line : List ℕ) (r r' : Result State Refusal)
    → CaseDoes long skipped s n line r → CaseDoes long skipped s n line r' → r' ≡ r
case_once true skipped s n line r r' is is' = is' ∙ sym is
case_once false true s n line r r' is is' = is' ∙ sym is
case_once false false s n line r r' is is' = content_once s n line r r' is is'

pub does_once : (s : State) (n : ℕ) (line : List ℕ) (r r' : Result State Refusal) → Does s n line r
    → Does s n line r' → r' ≡ r
does_once (Begun h) n line r r' is is' =
    case_once (nat_lt 65536 (length line)) (is_skipped line) (Begun h) n line r r' is is'
does_once (Has names job) n line r r' is is' =
    case_once (nat_lt 65536 (length line)) (is_skipped line) (Has names job) n line r r' is is'
does_once (Reads names job first text) n line r r' is is' = is' ∙ sym is
