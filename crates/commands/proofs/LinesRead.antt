-- Lines of the header, and requests, as the code reads them.
use Rattle.std.proofs.Common.{◌≡◌, ◌∙◌, sym, ap, refl, subst, ℕ, ◌≤◌, List, length, false, Option}
use Rattle.std.proofs.Common.{Ok, Err, Bool, true, [], ◌∷◌, inl, inr, arith}
use Rattle.std.specs.Prelude.{Result, if◌then◌else◌, codes, ◌&&◌}
use Rattle.std.proofs.lemmas.Bool.Decides.{leb_tells}
use Rattle.parts.specs.Counting.{monomials_up_to}
use Rattle.script.specs.Numbers.{is_number, number_of}
use Rattle.std.specs.Str.{bytes_eq}
use Rattle.ps_model.specs.declared.job.JobData.{JobData}
use Rattle.parts.specs.JobRows.{IsPermitted, IsRingOf}
use Rattle.parts.specs.Rings.{weights_of}
use Rattle.parts.specs.declared.rings.Ring.{Ring}
use Rattle.stages.proofs.LineTitles.{few_roots}
use Rattle.session.proofs.Opened.{same_weights}
use Rattle.session.specs.Precisions.{weights_in}
use Rattle.script.specs.Answers.{Asks, Refuses}
use Rattle.script.specs.Header.{Header, HeaderSays}
use Rattle.script.specs.Header as header
use Rattle.script.specs.Requests.{RequestSaid, Refused, precision_of, precision_in, degree_in, asked, words_said}
use Rattle.script.specs.Requests.{request_said}
use Rattle.script.specs.Requests as request
use Rattle.script.specs.Sayings.{said_of, CanBeFactored}
use Rattle.script.specs.Script.{Has, asked_by}
use Rattle.script.specs.Words.{is_skipped, words}
use Rattle.script.specs.declared.header.Said.{Said}
use Rattle.script.specs.declared.header.Said.TheVariants.{Longer, Makes}
use Rattle.script.specs.declared.refusal.Refusal.{Refusal}
use Rattle.script.specs.declared.refusal.Refusal.TheVariants as refusal
use Rattle.script.specs.declared.request.Request.{Request}
use Rattle.script.specs.declared.request.Request.TheVariants.{Show, Stream}
use Rattle.commands.specs.declared.command.ScriptCommand.{ScriptCommand}
use Rattle.commands.specs.Answering.{DoesOnly}
use Rattle.commands.specs.Lines.{AnswersLine}
use Rattle.commands.specs.Readings.{Reading, Begun, Factors, Inputs, reading_by, state_in, IsReading, HasRing, IsAllowed}
use Rattle.commands.specs.Words.{takes_streams}
use Rattle.commands.proofs.HeaderOnce.{does_header, does_request}
use Rattle.commands.proofs.LinesDone.{longer_line, opened_line}

-- a line of the header that says something
pub read_line : (c : ScriptCommand) (h : Header) (said : Said) (line : List ℕ) (n : ℕ) (old : Option (List ℕ))
    (count tally : ℕ) → length line ≤ 65536 → is_skipped line ≡ false → HeaderSays h line (said_of said)
    → CanBeFactored said → AnswersLine c (Begun h) line n (Ok (reading_by c said)) old old count count tally tally
read_line c h (Longer h') line n old count tally short read says accepted =
    longer_line c h h' line n old count tally (does_header c h line (header.Longer h') short read says)
read_line c h (Makes job) line n old count tally short read says accepted =
    opened_line c h job.names job.job line n old count tally (few_roots job.job accepted.0)
    (does_header c h line (header.Makes job.names job.job) short read says)

-- a request as the definition asks for it
pub does_asked : (c : ScriptCommand) (names : List (List ℕ)) (job : JobData) (ring : Ring) (line : List ℕ) (said :
    RequestSaid)
    → length line ≤ 65536 → is_skipped line ≡ false → IsRingOf ring job
    → said ≡ request_said (takes_streams c) (weights_of ring) line → DoesOnly c (Has names job) line (asked_by said)
does_asked c names job ring line said short read of is =
    subst (λ x. DoesOnly c (Has names job) line (asked_by x))
    (ap (λ ws. request_said (takes_streams c) ws line) (sym (same_weights ring job of)) ∙ sym is)
    (does_request c names job line short read)

-- without streams what is asked for is a block
pub shows_alone : (ws : List ℕ) (line : List ℕ) (q : Request) → request.Asks q ≡ request_said false ws line
    → q ≡ Show (precision_of q)
shows_alone ws line q is = by (words line) is
  where
    of_show : (d : Result ℕ Refusal) → request.Asks q ≡ asked Show d → q ≡ Show (precision_of q)
    of_show (Ok d) is = let same : q ≡ Show d = cc in same ∙ ap Show (sym (ap precision_of same))
    of_show (Err f) is = absurd (let no : ⊥ = cc in no)

    of_word : (b : Bool) (more : List (List ℕ))
        → request.Asks q ≡ (if b then asked Show (precision_in ws more) else Refused refusal.ExpectedRequest)
        → q ≡ Show (precision_of q)
    of_word true more is = of_show (precision_in ws more) is
    of_word false more is = absurd (let no : ⊥ = cc in no)

    by : (l : List (List ℕ)) → request.Asks q ≡ words_said false ws l → q ≡ Show (precision_of q)
    by [] is = absurd (let no : ⊥ = cc in no)
    by (w ∷ more) is = of_word (bytes_eq w (codes "show")) more is

-- a precision that is asked for is permitted
pub permitted_precision : (streams : Bool) (ws : List ℕ) (line : List ℕ) (q : Request)
    → request.Asks q ≡ request_said streams ws line → IsPermitted ws (precision_of q)
permitted_precision streams ws line q is = by (words line) is
  where
    of_degree : (d n : ℕ) → Ok d ≡ degree_in ws n → IsPermitted ws d
    of_degree d n is = elim (leb_tells 4096 n) [
      | inl high ↦ absurd (let no : ⊥ = cc in no)
      | inr low ↦ elim (leb_tells 32769 (monomials_up_to ws n)) [
        | inl many ↦ absurd (let no : ⊥ = cc in no)
        | inr few ↦ (let same : d ≡ n = cc in let below = low.1 in let at_most = few.1 in
            (omega arith, subst (λ k. monomials_up_to ws k ≤ 32768) (sym same) (omega arith)))
      ]
    ]

    of_words : (d : ℕ) (l : List (List ℕ)) → Ok d ≡ precision_in ws l → IsPermitted ws d
    of_words d [] is = absurd (let no : ⊥ = cc in no)
    of_words d (w ∷ []) is = by (is_number w) is
      where
        by : (b : Bool) → Ok d ≡ (if b then degree_in ws (number_of w) else Err refusal.BadRequest)
            → IsPermitted ws d
        by true is = of_degree d (number_of w) is
        by false is = absurd (let no : ⊥ = cc in no)
    of_words d (w ∷ v ∷ more) is = absurd (let no : ⊥ = cc in no)

    of_asked : (ask : ℕ → Request) → ((d : ℕ) → precision_of (ask d) ≡ d) → (more : List (List ℕ))
        → (d : Result ℕ Refusal) → d ≡ precision_in ws more → request.Asks q ≡ asked ask d
        → IsPermitted ws (precision_of q)
    of_asked ask back more (Ok d) from is =
        let same : q ≡ ask d = cc in
        subst (IsPermitted ws) (sym (ap precision_of same ∙ back d)) (of_words d more from)
    of_asked ask back more (Err f) from is = absurd (let no : ⊥ = cc in no)

    by_word : (show stream : Bool) (more : List (List ℕ))
        → request.Asks q ≡ (if show then asked Show (precision_in ws more)
        else (if stream then asked Stream (precision_in ws more) else Refused refusal.ExpectedRequest))
        → IsPermitted ws (precision_of q)
    by_word true stream more is = of_asked Show (λ d. refl) more (precision_in ws more) refl is
    by_word false true more is = of_asked Stream (λ d. refl) more (precision_in ws more) refl is
    by_word false false more is = absurd (let no : ⊥ = cc in no)

    by : (l : List (List ℕ)) → request.Asks q ≡ words_said streams ws l → IsPermitted ws (precision_of q)
    by [] is = absurd (let no : ⊥ = cc in no)
    by (w ∷ more) is = by_word (bytes_eq w (codes "show")) (streams && bytes_eq w (codes "stream")) more is

-- by the ring of the job
pub permitted_in : (streams : Bool) (ring : Ring) (job : JobData) (line : List ℕ) (q : Request) → IsRingOf ring job
    → request.Asks q ≡ request_said streams (weights_of ring) line → IsPermitted (weights_in job) (precision_of q)
permitted_in streams ring job line q of is = subst (λ ws. IsPermitted ws (precision_of q)) (same_weights ring job of)
    (permitted_precision streams (weights_of ring) line q is)

-- and so it is low
pub low_precision : (streams : Bool) (ws : List ℕ) (line : List ℕ) (q : Request)
    → request.Asks q ≡ request_said streams ws line → precision_of q ≤ 4095
low_precision streams ws line q is = (permitted_precision streams ws line q is).0

-- a request, behind a header
pub asks_line : (c : ScriptCommand) (ring : Ring) (r : Reading) (line : List ℕ) (q : Request) → length line ≤ 65536
    → is_skipped line ≡ false → HasRing ring r → IsReading c r
    → request.Asks q ≡ request_said (takes_streams c) (weights_of ring) line
    → DoesOnly c (state_in r) line (Asks q) × IsAllowed q r
asks_line c ring (Begun h) line q short read of reads is = absurd of
asks_line c ring (Factors f) line q short read of reads is = (
  does_asked c f.names f.job ring line (request.Asks q) short read of is,
  permitted_in (takes_streams c) ring f.job line q of is,
)
asks_line c ring (Inputs e) line q short read of reads is = (
  does_asked c e.names e.job ring line (request.Asks q) short read of is,
  (
    permitted_in (takes_streams c) ring e.job line q of is,
    shows_alone (weights_of ring) line q
        (subst (λ k. request.Asks q ≡ request_said (takes_streams k) (weights_of ring) line) reads is),
  ),
)

-- or a line that is refused
pub refuses_line : (c : ScriptCommand) (ring : Ring) (r : Reading) (line : List ℕ) (f : Refusal) → length line ≤ 65536
    → is_skipped line ≡ false → HasRing ring r
    → request.Refused f ≡ request_said (takes_streams c) (weights_of ring) line
    → DoesOnly c (state_in r) line (Refuses f)
refuses_line c ring (Begun h) line f short read of is = absurd of
refuses_line c ring (Factors v) line f short read of is =
    does_asked c v.names v.job ring line (request.Refused f) short read of is
refuses_line c ring (Inputs e) line f short read of is =
    does_asked c e.names e.job ring line (request.Refused f) short read of is
