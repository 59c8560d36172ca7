-- The text of a stream, degree by degree.
use Rattle.std.proofs.Common.{◌≡◌, ℕ, zero, suc, ◌+◌, ◌-◌, ◌<◌, ◌≤◌, List, [], ◌∷◌, ◌++◌, length, take, append_assoc}
use Rattle.std.proofs.Common.{Option, Some, None, Result, Ok, Err, refl, sym, ◌∙◌, ap, subst, arith}
use Rattle.std.specs.Prelude.{codes, decimal}
use Rattle.std.specs.Result.{IsErr}
use Rattle.std.proofs.lemmas.List.{append-nil, length-append, take-append-le}
use Rattle.std.proofs.lemmas.Option.{none-some, same_Some}
use Rattle.std.proofs.Math.Seq.{take-append-add, take-length}
use Rattle.ps_model.specs.BlockText.{newline}
use Rattle.ps_model.specs.Factors.{each_truncated}
use Rattle.ps_model.specs.Job.{job_ring, IsFactors}
use Rattle.ps_model.specs.Lead.{IsShownLead}
use Rattle.ps_model.specs.SeriesRing.{SeriesRing, Poly}
use Rattle.ps_model.specs.StreamText.{degree_text, degrees_text, stream_text}
use Rattle.ps_model.specs.declared.expr.Expr.{Expr}
use Rattle.ps_model.specs.declared.job.JobData.{JobData}
use Rattle.ps_model.proofs.JobFactors.{factors_truncated}
use Rattle.ps_model.proofs.MonicInputs.{lead-truncated}
use Rattle.ports.specs.Bytes.{WritesAll, WritesPart}
use Rattle.expr_reader.specs.NameLists.{as_names}
use Rattle.printer.specs.Texts.{view_degree_text}
use Rattle.printer.specs.View.{HasUpTo}
use Rattle.printer.specs.Wrote.{Wrote}
use Rattle.session.specs.Sessions.{SessionState, value_of, IsSession, HasItems}
use Rattle.session.specs.Streams.{IsBegun, Streamed, StreamsJob, WritesDegree, outcome_of}
use Rattle.session.specs.declared.stream_fault.StreamFault.{StreamFault}
use Rattle.session.proofs.CutTexts.{cut_lead, degree_cut}
use Rattle.session.proofs.Written.{written}

-- a lead that is shown, at a lower degree
cut_shown : (S : SeriesRing) (r D : ℕ) (e : Expr) → r ≤ D → (lead : Option (Poly S)) → IsShownLead S D e lead
    → IsShownLead S r e (cut_lead S r lead)
cut_shown S r D e le None is = is
cut_shown S r D e le (Some l) is = (is.0, lead-truncated S r D e l le is.1)

-- nothing is written
writes_nothing : (old : Option (List ℕ)) → WritesAll old old []
writes_nothing None = refl
writes_nothing (Some bytes) = ap (λ (l : List ℕ). Some l) (sym (append-nil bytes))

-- a piece behind others
writes_more : (old mid now : Option (List ℕ)) (first piece : List ℕ) → WritesAll old mid first
    → WritesAll mid now piece → WritesAll old now (first ++ piece)
writes_more None None now first piece one two = two
writes_more None (Some b) now first piece one two = absurd (none-some b (sym one))
writes_more (Some a) None now first piece one two = absurd (none-some (a ++ first) one)
writes_more (Some a) (Some b) now first piece one two = two
    ∙ ap (λ (l : List ℕ). Some (l ++ piece)) (same_Some b (a ++ first) one)
    ∙ ap (λ (l : List ℕ). Some l) (append_assoc a first piece)

-- a beginning of a piece behind others
begins_more : (old mid now : Option (List ℕ)) (first piece rest : List ℕ) → WritesAll old mid first
    → IsBegun mid now piece → IsBegun old now (first ++ (piece ++ rest))
begins_more None None now first piece rest one two = two
begins_more None (Some b) now first piece rest one two = absurd (none-some b (sym one))
begins_more (Some a) None now first piece rest one two = absurd (none-some (a ++ first) one)
begins_more (Some a) (Some b) now first piece rest one two = (
  length first + two.0,
  omega (arith, two.1, length-append first (piece ++ rest), length-append piece rest),
  two.2 ∙ ap (λ (l : List ℕ). Some (l ++ take two.0 piece)) (same_Some b (a ++ first) one)
      ∙ ap (λ (l : List ℕ). Some l) (append_assoc a first (take two.0 piece)
      ∙ ap (λ (l : List ℕ). a ++ l) (ap (λ (l : List ℕ). first ++ l)
      (sym (take-append-le two.0 piece rest two.1))
      ∙ sym (take-append-add first (piece ++ rest) two.0))),
)

pub begun_none : (old : Option (List ℕ)) (text : List ℕ) → IsBegun old old text
begun_none None text = refl
begun_none (Some bytes) text = (0, omega arith, ap (λ (l : List ℕ). Some l) (sym (append-nil bytes)))

begun_part : (old new : Option (List ℕ)) (text : List ℕ) → WritesPart old new text → IsBegun old new text
begun_part None new text part = part
begun_part (Some bytes) new text part = (part.0, let lt = part.1 in omega arith, part.2)

-- an error, and what was begun
pub begun_err : {A E : Type 0} (r : Result A E) {old new : Option (List ℕ)} {text : List ℕ} → IsErr r
    → IsBegun old new text → Streamed r old new text
begun_err (Ok x) is begun = absurd (no is)
  where
    no : Rattle.std.proofs.Common.false ≡ Rattle.std.proofs.Common.true → ⊥
    no same = cc
begun_err (Err e) is begun = record { ok = tt; begun = begun }

-- the whole text is a beginning of it too
whole_begun : (old new : Option (List ℕ)) (text : List ℕ) → WritesAll old new text → IsBegun old new text
whole_begun None new text all = all
whole_begun (Some bytes) new text all =
    (length text, omega arith, all ∙ ap (λ (l : List ℕ). Some (bytes ++ l)) (sym (take-length text)))

streamed_outcome : {A E : Type 0} (written : Result A StreamFault) (raised : Result A E) {old new : Option (List ℕ)}
    {text : List ℕ} → Streamed written old new text → Streamed (outcome_of written raised) old new text
streamed_outcome (Err fault) raised was = record { ok = tt; begun = was.begun }
streamed_outcome (Ok x) (Err e) {old = old} {new = new} {text = text} was =
    record { ok = tt; begun = whole_begun old new text was.ok }
streamed_outcome (Ok x) (Ok y) was = record { ok = was.ok; begun = tt }

-- nothing of a stream was written
pub stream_none : {B F : Type 0} (names : List (List ℕ)) (job : JobData) (D : ℕ) (q : Result B F)
    (old : Option (List ℕ)) → IsErr q → StreamsJob names job D q old old
stream_none names job D q old is fs lead are shown = begun_err q is (begun_none old _)

-- what was written stays so, whatever is answered of it
pub outcome_streams : {A E : Type 0} (names : List (List ℕ)) (job : JobData) (D : ℕ) (written : Result A StreamFault)
    (raised : Result A E) (answer : Result A StreamFault) (old new : Option (List ℕ))
    → answer ≡ outcome_of written raised → StreamsJob names job D written old new
    → StreamsJob names job D answer old new
outcome_streams names job D written raised answer old new is streams fs lead are shown =
    subst (λ (r : Result _ StreamFault). Streamed r old new (stream_text (job_ring job) names lead job.roots fs D))
    (sym is) (streamed_outcome written raised (streams fs lead are shown))

-- the same of a state and a sink that are as they were
pub same_stream : {A : Type 0} (D : ℕ) (result : Result A StreamFault) (s s' : SessionState)
    (old old' new : Option (List ℕ)) → s ≡ s' → old ≡ old'
    → StreamsJob (as_names s.job.names) s.job.job D result old new
    → StreamsJob (as_names s'.job.names) s'.job.job D result old' new
same_stream D result s s' old old' new is was =
    subst (λ (p : SessionState × Option (List ℕ)). StreamsJob (as_names p.0.job.names) p.0.job.job D result p.1 new)
    (λ i. (is i, was i))

-- the writer of a degree of what was seen
module _ (s : SessionState) (holds : IsSession s) (fits : HasItems s) (r : ℕ) (up_to : HasUpTo (value_of s) r)
    (names : List (List ℕ)) where
  module _ (fs : List (Poly (job_ring s.job.job))) (lead : Option (Poly (job_ring s.job.job)))
      (are : IsFactors s.job.job r fs) (shown : IsShownLead (job_ring s.job.job) r s.job.job.expr lead) where
    degree_is : view_degree_text names (value_of s) r ≡ degree_text (job_ring s.job.job) names lead s.job.job.roots fs r
    degree_is = (written s r holds fits up_to).degree names fs lead are shown

  pub degree_written : {A E B F : Type 0} {old new : Option (List ℕ)} {before now : ℕ} {x : A} (y : B)
      → Wrote {A = A} {E = E} (Ok x) old new before now (view_degree_text names (value_of s) r)
      → WritesDegree {A = B} {E = F} names s.job.job r (Ok y) old new
  degree_written {old = old} {new = new} y wrote fs lead are shown = record {
    ok = subst (WritesAll old new) (degree_is fs lead are shown) wrote.ok;
    begun = tt;
  }

  pub degree_begun : {A E B F : Type 0} {old new : Option (List ℕ)} {before now : ℕ} {e : E} (q : Result B F)
      → Wrote {A = A} {E = E} (Err e) old new before now (view_degree_text names (value_of s) r) → IsErr q
      → WritesDegree names s.job.job r q old new
  degree_begun {old = old} {new = new} q wrote is fs lead are shown =
      begun_err q is (begun_part old new (degree_text (job_ring s.job.job) names lead s.job.job.roots fs r)
      (subst (WritesPart old new) (degree_is fs lead are shown) wrote.err))

pub degree_none : {B F : Type 0} (names : List (List ℕ)) (job : JobData) (r : ℕ) (q : Result B F)
    (old : Option (List ℕ)) → IsErr q → WritesDegree names job r q old old
degree_none names job r q old is fs lead are shown = begun_err q is (begun_none old _)

module _ (names : List (List ℕ)) (job : JobData) (D : ℕ) where
  module _ (fs : List (Poly (job_ring job))) (lead : Option (Poly (job_ring job))) where
    abbrev text : ℕ → List ℕ
    text = degree_text (job_ring job) names lead job.roots fs

    -- the degrees from r on, n of them, and the last line
    abbrev pub texts_from : ℕ → ℕ → List ℕ
    texts_from r zero = codes "end" ++ newline
    texts_from r (suc n) = text r ++ texts_from (suc r) n

    degrees_from : (n r : ℕ) → degrees_text (job_ring job) names lead job.roots fs n
        ++ texts_from (suc n) r ≡ texts_from 0 (suc (n + r))
    degrees_from zero r = ap (λ k. texts_from 0 (suc k)) (from_zero r)
      where
        from_zero : (n : ℕ) → n ≡ 0 + n
        from_zero n = omega arith
    degrees_from (suc n) r =
        append_assoc (degrees_text (job_ring job) names lead job.roots fs n) (text (suc n)) (texts_from (suc (suc n)) r)
        ∙ degrees_from n (suc r) ∙ ap (λ k. texts_from 0 (suc k)) (let e : n + suc r ≡ suc n + r = omega arith in e)

    abbrev pub first_line : List ℕ
    first_line = codes "stream " ++ decimal D ++ newline

    pub in_lines : first_line ++ texts_from 0 (D + 1) ≡ stream_text (job_ring job) names lead job.roots fs D
    in_lines =
        ap (λ n. first_line ++ texts_from 0 n) (let e : D + 1 ≡ suc (D + 0) = omega arith in e)
        ∙ ap (λ (l : List ℕ). first_line ++ l) (sym (degrees_from D 0))
        ∙ sym (append_assoc first_line (degrees_text (job_ring job) names lead job.roots fs D) (codes "end" ++ newline))
        ∙ sym (append_assoc (first_line ++ degrees_text (job_ring job) names lead job.roots fs D) (codes "end") newline)

    -- what was written, and what is left
    pub record IsLeft (old now : Option (List ℕ)) (rest : List ℕ) : Type 0 where
      pub so_far : List ℕ
      pub wrote : WritesAll old now so_far
      pub is : so_far ++ rest ≡ stream_text (job_ring job) names lead job.roots fs D

  -- whatever the factors and the lead are that the text is of
  abbrev pub Leaves : Option (List ℕ) → Option (List ℕ) → ℕ → Type 0
  Leaves old now r = (fs : List (Poly (job_ring job))) (lead : Option (Poly (job_ring job)))
      → IsFactors job D fs → IsShownLead (job_ring job) D job.expr lead
      → IsLeft fs lead old now (texts_from fs lead r (D + 1 - r))

  -- the first line
  pub first_written : (old now : Option (List ℕ)) → WritesAll old now (codes "stream " ++ decimal D ++ newline)
      → Leaves old now 0
  first_written old now all fs lead are shown = record {
    so_far = first_line fs lead;
    wrote = all;
    is = ap (λ n. first_line fs lead ++ texts_from fs lead 0 n) (let e : D + 1 - 0 ≡ D + 1 = omega arith in e)
        ∙ in_lines fs lead;
  }

  pub first_begun : {A E : Type 0} (q : Result A E) (old now : Option (List ℕ)) → IsErr q
      → WritesPart old now (codes "stream " ++ decimal D ++ newline) → StreamsJob names job D q old now
  first_begun q old now is part fs lead are shown = begun_err q is
      (subst (IsBegun old now) (in_lines fs lead) (begins_more old old now [] (first_line fs lead)
      (texts_from fs lead 0 (D + 1)) (writes_nothing old) (begun_part old now (first_line fs lead) part)))

  pub none_begun : {A E : Type 0} (q : Result A E) (old : Option (List ℕ)) → IsErr q → StreamsJob names job D q old old
  none_begun q old is fs lead are shown = begun_err q is (begun_none old _)

  module _ (old mid now : Option (List ℕ)) (r : ℕ) (le : r ≤ D) (left : Leaves old mid r) where
    module _ (fs : List (Poly (job_ring job))) (lead : Option (Poly (job_ring job))) (are : IsFactors job D fs)
        (shown : IsShownLead (job_ring job) D job.expr lead) where
      abbrev here : IsLeft fs lead old mid (texts_from fs lead r (D + 1 - r))
      here = left fs lead are shown

      pieces : here.so_far ++ (text fs lead r ++ texts_from fs lead (suc r) (D - r))
          ≡ stream_text (job_ring job) names lead job.roots fs D
      pieces = ap (λ n. here.so_far ++ texts_from fs lead r n) (let e : suc (D - r) ≡ D + 1 - r = omega arith in e)
          ∙ here.is

      -- the same of the factors that are cut off
      degree_at : {A E : Type 0} {q : Result A E} → WritesDegree names job r q mid now
          → Streamed q mid now (text fs lead r)
      degree_at {q = q} degree = subst (Streamed q mid now) (degree_cut (job_ring job) r names lead job.roots fs)
          (degree (each_truncated r fs) (cut_lead (job_ring job) r lead) (factors_truncated job r D le fs are)
          (cut_shown (job_ring job) r D job.expr le lead shown))

    pub next_written : {A E : Type 0} {x : A} → WritesDegree {A = A} {E = E} names job r (Ok x) mid now
        → Leaves old now (r + 1)
    next_written degree fs lead are shown = record {
      so_far = (here fs lead are shown).so_far ++ text fs lead r;
      wrote = writes_more old mid now (here fs lead are shown).so_far (text fs lead r) (here fs lead are shown).wrote
          (degree_at fs lead are shown degree).ok;
      is = append_assoc (here fs lead are shown).so_far (text fs lead r) (texts_from fs lead (r + 1) (D + 1 - (r + 1)))
          ∙ (λ i. (here fs lead are shown).so_far ++ (text fs lead r ++ texts_from fs lead (next i) (less i)))
          ∙ pieces fs lead are shown;
    }
      where
        next : r + 1 ≡ suc r
        next = omega arith

        less : D + 1 - (r + 1) ≡ D - r
        less = omega arith

    pub next_begun : {A E B F : Type 0} {e : E} (q : Result B F) → IsErr q
        → WritesDegree {A = A} {E = E} names job r (Err e) mid now → StreamsJob names job D q old now
    next_begun q is degree fs lead are shown = begun_err q is
        (subst (IsBegun old now) (pieces fs lead are shown)
        (begins_more old mid now (here fs lead are shown).so_far (text fs lead r) (texts_from fs lead (suc r) (D - r))
        (here fs lead are shown).wrote (degree_at fs lead are shown degree).begun))

  module _ (old mid now : Option (List ℕ)) (r : ℕ) (past : D + 1 ≤ r) (left : Leaves old mid r) where
    module _ (fs : List (Poly (job_ring job))) (lead : Option (Poly (job_ring job))) (are : IsFactors job D fs)
        (shown : IsShownLead (job_ring job) D job.expr lead) where
      end_left : IsLeft fs lead old mid (codes "end" ++ newline)
      end_left = subst (λ n. IsLeft fs lead old mid (texts_from fs lead r n))
          (let e : D + 1 - r ≡ 0 = omega arith in e) (left fs lead are shown)

    pub end_written : {A E : Type 0} (x : A) → WritesAll mid now (codes "end" ++ newline)
        → StreamsJob {A = A} {E = E} names job D (Ok x) old now
    end_written x all fs lead are shown = record {
      ok = subst (WritesAll old now) (end_left fs lead are shown).is
          (writes_more old mid now (end_left fs lead are shown).so_far (codes "end" ++ newline)
          (end_left fs lead are shown).wrote all);
      begun = tt;
    }

    pub end_begun : {A E : Type 0} (q : Result A E) → IsErr q → WritesPart mid now (codes "end" ++ newline)
        → StreamsJob names job D q old now
    end_begun q is part fs lead are shown = begun_err q is
        (subst (IsBegun old now) (ap (λ (l : List ℕ). (end_left fs lead are shown).so_far ++ l)
        (append-nil (codes "end" ++ newline)) ∙ (end_left fs lead are shown).is)
        (begins_more old mid now (end_left fs lead are shown).so_far (codes "end" ++ newline) []
        (end_left fs lead are shown).wrote (begun_part mid now (codes "end" ++ newline) part)))
