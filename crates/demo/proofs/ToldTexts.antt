-- What is written of a session of a number's job is its one text.
use Rattle.std.proofs.Common.{◌≡◌, ℕ, ◌<◌, List, ◌++◌, length, Option, Some, None, refl, sym, ◌∙◌}
use Rattle.std.proofs.Common.{append-nil, ap, subst, arith}
use Rattle.std.specs.Prelude.{Result, Ok, Err, OnErr, codes, decimal}
use Rattle.std.proofs.lemmas.List.{length-append}
use Rattle.ps_model.specs.declared.job.JobData.{JobData}
use Rattle.ps_model.specs.Job.{IsFactors, job_ring}
use Rattle.ps_model.specs.SeriesRing.{Poly, SeriesRing}
use Rattle.ps_model.specs.Tree.{formal_degree}
use Rattle.parts.specs.Rings.{modulus_of}
use Rattle.parts.specs.Series.{series}
use Rattle.ports.specs.Bytes.{WritesAll, WritesPart}
use Rattle.printer.specs.Texts.{factors_to}
use Rattle.printer.specs.View.{HasUpTo}
use Rattle.intake.specs.Jobs.{JobValue}
use Rattle.session.specs.Sessions.{HasItems, IsSession, SessionState, value_of}
use Rattle.session.proofs.JobRings.{same_job}
use Rattle.session.proofs.Written.{written}
use Rattle.demo.specs.DemoText.{IsDemoText, demo_text, factor_lines}
use Rattle.demo.specs.Generator.{degree_of, demo_job, demo_names, prime}
use Rattle.demo.proofs.DemoJobs.{job_degree, same_text}

-- what holds anyhow holds of an error
on_error : {A E : Type 0} (P : Type 0) (r : Result A E) → P → OnErr r P
on_error P (Ok x) p = tt
on_error P (Err e) p = p

-- a text is longer than nothing
text_some : (S : SeriesRing) (seed degree : ℕ) (fs : List (Poly S)) → 0 < length (demo_text S seed degree fs)
text_some S seed degree fs = last (codes "demo " ++ decimal seed ++ codes " degree " ++ decimal degree
    ++ codes "\nprecision 40\n" ++ factor_lines S 1 fs)
  where
    last : (front : List ℕ) → 0 < length (front ++ codes "steps 164\n")
    last front = let long = length-append front (codes "steps 164\n") in omega arith

-- so nothing is a beginning of it
nothing_written : (seed : ℕ) (old : Option (List ℕ)) (text : List ℕ) → IsDemoText seed text
    → WritesPart old old text
nothing_written seed None text is = refl
nothing_written seed (Some bytes) text is = (
  0,
  subst (λ t. 0 < length t) (sym is.text_is) (text_some (job_ring (demo_job seed)) seed (degree_of seed) is.factors),
  ap (λ (l : List ℕ). Some l) (sym (append-nil bytes)),
)

abbrev Begins : ℕ → Option (List ℕ) → Option (List ℕ) → Type 0
Begins seed old new = (text : List ℕ) → IsDemoText seed text → WritesPart old new text

pub nothing_before : {A E : Type 0} (r : Result A E) (seed : ℕ) (old : Option (List ℕ)) → OnErr r (Begins seed old old)
nothing_before r seed old = on_error (Begins seed old old) r (nothing_written seed old)

module _ (seed : ℕ) (s : SessionState) (holds : IsSession s)
    (of_seed : s.job ≡ record { names = demo_names; job = demo_job seed }) where
  pub ring_modulus : modulus_of s.ring ≡ prime
  ring_modulus = holds.ring_is.0 ∙ ap (λ (j : JobValue). j.job.modulus) of_seed

  module _ (fits : HasItems s) (up_to : HasUpTo (value_of s) 40) where
    abbrev seen : List ℕ
    seen = demo_text (series s.ring) seed (degree_of seed) (factors_to (value_of s) 40)

    abbrev Shows : JobData → Type 0
    Shows j = (fs : List (Poly (job_ring j))) × IsFactors j 40 fs
        × (seen ≡ demo_text (job_ring j) seed (degree_of seed) fs)

    shows : Shows (demo_job seed)
    shows = subst Shows (same_job s.ring s.job.job holds.ring_is ∙ ap (λ (j : JobValue). j.job) of_seed)
        (factors_to (value_of s) 40, (written s 40 holds fits up_to).factors, refl)

    pub text_is : (text : List ℕ) → IsDemoText seed text → text ≡ seen
    text_is text is = same_text seed shows.0 shows.1 text is ∙ sym shows.2

    -- the bytes that are written
    module _ (degree : ℕ) (bytes : List ℕ) (degree_is : degree ≡ formal_degree s.job.job.expr)
        (bytes_are : bytes ≡ demo_text (series s.ring) seed degree (factors_to (value_of s) 40)) where
      bytes_only : (text : List ℕ) → IsDemoText seed text → bytes ≡ text
      bytes_only text is = bytes_are
          ∙ ap (λ d. demo_text (series s.ring) seed d (factors_to (value_of s) 40))
          (degree_is ∙ ap (λ (j : JobValue). formal_degree j.job.expr) of_seed ∙ job_degree seed)
          ∙ sym (text_is text is)

      pub all_written : (old new : Option (List ℕ)) → WritesAll old new bytes → (text : List ℕ) → IsDemoText seed text
          → WritesAll old new text
      all_written old new wrote text is = subst (WritesAll old new) (bytes_only text is) wrote

      pub part_written : {A E : Type 0} (r : Result A E) (old new : Option (List ℕ)) → WritesPart old new bytes
          → OnErr r (Begins seed old new)
      part_written r old new wrote = on_error (Begins seed old new) r
          (λ text is. subst (WritesPart old new) (bytes_only text is) wrote)
