-- Every line of a header says something, and what it says keeps what is true of the header.
--     IsModulus m, AreNamed names ws      a modulus within its bounds; one to eight names with their weights
--     IsGood s      what is true of each state of a script
use Rattle.std.proofs.Common.{◌≡◌, ◌≢◌, ◌∙◌, sym, ap, refl, subst, ℕ, suc, ◌+◌, ◌-◌, ◌%◌, ◌^◌, ◌<◌, ◌≤◌, arith}
use Rattle.std.proofs.Common.{Bool, true, false, ◌&&◌, List, [], ◌∷◌, ◌++◌, length, take, drop, replicate, inl, inr}
use Rattle.std.proofs.Common.{Option, Some, None, Result, Ok, Err, nat_le}
use Rattle.std.proofs.Math.Nat.{mod-lt}
use Rattle.std.proofs.Math.Seq.{take-append_seam, drop-append_seam}
use Rattle.std.proofs.lemmas.Bool.{leb-true, ltb-true, eqb-false}
use Rattle.std.proofs.lemmas.List.{length-append, length-replicate}
use Rattle.std.proofs.lemmas.List.Elements.{All-append, All-cons, All-nil, All-replicate}
use Rattle.std.specs.List.{All}
use Rattle.std.specs.Prelude.{◌==◌, nat_lt, if◌then◌else◌}
use Rattle.std.specs.Str.{bytes_eq}
use Rattle.ps_model.specs.AcceptedJob.{AreWeights, IsAccepted, IsAcceptedRoot}
use Rattle.ps_model.specs.FirstFault.{Fault}
use Rattle.ps_model.specs.Input.{DividesByY, TooManyNodes, DegreeTooLarge, NotAUnit}
use Rattle.ps_model.specs.Job.{OfInput, LeadNotAUnit, DegreeMismatch, NotApart, RootsMismatch, IsFirstFault, IsValidJob}
use Rattle.ps_model.specs.Job as of_job
use Rattle.ps_model.specs.Tree.{IsValidTree}
use Rattle.ps_model.specs.declared.expr.Expr.{Expr}
use Rattle.ps_model.specs.declared.job.JobData.{JobData}
use Rattle.ps_model.specs.declared.job.Root.{Root}
use Rattle.grammar.proofs.ReadTrees.{valid_answer}
use Rattle.grammar.proofs.Whole.{answered, answers, Answers}
use Rattle.expr_reader.specs.ReadErrors.{error_of}
use Rattle.intake.specs.JobErrors.{job_error_of}
use Rattle.intake.specs.Jobs.{data_of}
use Rattle.intake.specs.declared.job_error.JobError.TheVariants as job_error
use Rattle.script.specs.Header.{Header, Empty, WithModulus, WithNames, WithTree, Said, Longer, Makes, Refused}
use Rattle.script.specs.Header.{Named, keyword_due, modulus_in, modulus_said, name_in, behind_colon, weight_said}
use Rattle.script.specs.Header.{weight_in, weighed, unless_fault, names_from, names_in, names_said, residue}
use Rattle.script.specs.Header.{root_by, root_from, root_unsigned, root_in, root_before, roots_from, TreeSaid, JobSaid}
use Rattle.script.specs.Header.{RootsSaid, ContentSays, KeywordSays, LineSays, HeaderSays}
use Rattle.script.specs.Numbers.{number_of, is_number, number_in}
use Rattle.script.specs.Refusals.{keyword_text}
use Rattle.script.specs.Script.{State, Begun, Has}
use Rattle.script.specs.Words.{words, rest_of_line}
use Rattle.script.specs.declared.refusal.Refusal.{Refusal}
use Rattle.script.specs.declared.refusal.Refusal.TheVariants as refusal
use Rattle.script.proofs.JobsDecided.{job_decided}

pub record IsModulus (m : ℕ) : Type 0 where
  pub two : 2 ≤ m
  pub small : m < 2 ^ 63

pub record AreNamed (names : List (List ℕ)) (ws : List ℕ) : Type 0 where
  pub some : 0 < length names
  pub few : length names ≤ 8
  pub weights : AreWeights (length names) ws

abbrev pub IsGoodHeader : Header → Type 0
IsGoodHeader Empty = Unit {0}
IsGoodHeader (WithModulus m) = IsModulus m
IsGoodHeader (WithNames m names ws) = IsModulus m × AreNamed names ws
IsGoodHeader (WithTree m names ws e) = IsModulus m × AreNamed names ws × IsValidTree (length names) e

abbrev pub IsGood : State → Type 0
IsGood (Begun h) = IsGoodHeader h
IsGood (Has names job) = IsAccepted job × (length names ≡ job.n)

-- what a line says is good
abbrev pub IsGoodSaid : Said → Type 0
IsGoodSaid (Longer h) = IsGoodHeader h
IsGoodSaid (Makes names job) = IsGood (Has names job)
IsGoodSaid (Refused f) = Unit {0}

-- the modulus
modulus_tests : (number low high : Bool) (n : ℕ) → (low ≡ true → 2 ≤ n) → (high ≡ true → n < 2 ^ 63)
    → IsGoodSaid (modulus_said (if number then
    (if low && high then Ok n else Err refusal.ModulusOutOfRange) else Err refusal.BadModulus))
modulus_tests false low high n two small = tt
modulus_tests true false high n two small = tt
modulus_tests true true false n two small = tt
modulus_tests true true true n two small = record { two = two refl; small = small refl }

modulus_good : (more : List (List ℕ)) → IsGoodSaid (modulus_said (modulus_in more))
modulus_good [] = tt
modulus_good (w ∷ []) = modulus_tests (is_number w) (nat_le 2 (number_of w)) (nat_lt (number_of w) (2 ^ 63))
    (number_of w) (leb-true 2 (number_of w)) (ltb-true (number_of w) (2 ^ 63))
modulus_good (w ∷ v ∷ more) = tt

-- a number that is read lies within its bounds
abbrev IsWithin : ℕ → ℕ → Option ℕ → Type 0
IsWithin low high None = Unit {0}
IsWithin low high (Some v) = (low ≤ v) × (v ≤ high)

number_tests : (number above below : Bool) (low high n : ℕ) → (above ≡ true → low ≤ n) → (below ≡ true → n ≤ high)
    → IsWithin low high (if number && (above && below) then Some n else None)
number_tests false above below low high n l h = tt
number_tests true false below low high n l h = tt
number_tests true true false low high n l h = tt
number_tests true true true low high n l h = (l refl, h refl)

number_within : (low high : ℕ) (text : List ℕ) → IsWithin low high (number_in low high text)
number_within low high text = number_tests (is_number text) (nat_le low (number_of text)) (nat_le (number_of text) high)
    low high (number_of text) (leb-true low (number_of text)) (leb-true (number_of text) high)

weight_within : (o : Option (List ℕ)) → IsWithin 1 64 (weight_said o)
weight_within None = (omega arith, omega arith)
weight_within (Some text) = number_within 1 64 text

-- the names and weights
abbrev IsWeight : ℕ → Type 0
IsWeight w = (1 ≤ w) × (w ≤ 64)

abbrev AreGoodNamed : Result Named Refusal → Type 0
AreGoodNamed (Ok p) = AreNamed p.0 p.1
AreGoodNamed (Err f) = Unit {0}

eight_is : (n : ℕ) → n ≤ 8 → n + (8 - n) ≡ 8
eight_is n few = omega arith

weights_whole : (n : ℕ) (ws : List ℕ) → n ≤ 8 → length ws ≡ n → All IsWeight ws
    → AreWeights n (ws ++ replicate (8 - length ws) 1)
weights_whole n ws few same all = record {
  eight = length-append ws ones ∙ ap (λ k. length ws + k) (length-replicate (8 - length ws) 1)
      ∙ eight_is (length ws) (subst (λ k. k ≤ 8) (sym same) few);
  of_variables = subst (λ k. All IsWeight (take k (ws ++ ones))) same
      (subst (All IsWeight) (sym (take-append_seam ws ones)) all);
  others = subst (λ k. All (λ w. w ≡ 1) (drop k (ws ++ ones))) same
      (subst (All (λ w. w ≡ 1)) (sym (drop-append_seam ws ones))
      (All-replicate (λ w. w ≡ 1) (8 - length ws) 1 refl));
}
  where
    ones : List ℕ
    ones = replicate (8 - length ws) 1

full_tests : (full : Bool) (o : Option Refusal) (rest : Result Named Refusal) → (full ≡ false → AreGoodNamed rest)
    → AreGoodNamed (unless_fault (if full then Some refusal.TooManyNames else o) rest)
full_tests true o rest h = tt
full_tests false None rest h = h refl
full_tests false (Some f) rest h = tt

weighed_good : (k : ℕ) (more : ℕ → Result Named Refusal) (o : Option ℕ) → IsWithin 1 64 o
    → ((v : ℕ) → IsWeight v → AreGoodNamed (more v)) → AreGoodNamed (weighed k more o)
weighed_good k more None within good = tt
weighed_good k more (Some v) within good = good v within

one_longer : {A : Type 0} (xs : List A) (x : A) → length (xs ++ x ∷ []) ≡ suc (length xs)
one_longer xs x = length-append xs (x ∷ []) ∙ next (length xs)
  where
    next : (n : ℕ) → n + 1 ≡ suc n
    next n = omega arith

fewer : (n : ℕ) → n ≤ 8 → (n ≡ 8 → ⊥) → suc n ≤ 8
fewer n few other = omega arith

some_behind : (n k : ℕ) → 0 < suc n + k
some_behind n k = omega arith

some_here : (n : ℕ) → 0 < n + 0 → 0 < n
some_here n h = omega arith

none_before : (k : ℕ) → 0 < 0 + suc k
none_before k = omega arith

names_good : (names : List (List ℕ)) (ws : List ℕ) (k : ℕ) (more : List (List ℕ)) → length names ≤ 8
    → length ws ≡ length names → All IsWeight ws → 0 < length names + length more
    → AreGoodNamed (names_from names ws k more)
names_good names ws k [] few same all some = record {
  some = some_here (length names) some;
  few = few;
  weights = weights_whole (length names) ws few same all;
}
names_good names ws k (w ∷ more) few same all some =
    full_tests (length names == 8) _
    (weighed k (λ v. names_from (names ++ name_in w ∷ []) (ws ++ v ∷ []) (suc k) more) (weight_in w))
    (λ room. weighed_good k (λ v. names_from (names ++ name_in w ∷ []) (ws ++ v ∷ []) (suc k) more) (weight_in w)
    (weight_within (behind_colon w))
    (λ v weight. names_good (names ++ name_in w ∷ []) (ws ++ v ∷ []) (suc k) more
    (subst (λ n. n ≤ 8) (sym (one_longer names (name_in w)))
    (fewer (length names) few (eqb-false (length names) 8 room)))
    (one_longer ws v ∙ ap suc same ∙ sym (one_longer names (name_in w)))
    (All-append IsWeight ws (v ∷ []) all (All-cons IsWeight v [] weight (All-nil IsWeight)))
    (subst (λ n. 0 < n + length more) (sym (one_longer names (name_in w)))
    (some_behind (length names) (length more)))))

named_good : (more : List (List ℕ)) → AreGoodNamed (names_in more)
named_good [] = tt
named_good (w ∷ more) = names_good [] [] 1 (w ∷ more) (omega arith) refl (All-nil IsWeight)
    (none_before (length more))

names_said_good : (m : ℕ) → IsModulus m → (r : Result Named Refusal) → AreGoodNamed r → IsGoodSaid (names_said m r)
names_said_good m modulus (Ok p) good = (modulus, good)
names_said_good m modulus (Err f) good = tt

-- the tree
tree_says : (m : ℕ) (names : List (List ℕ)) (ws : List ℕ) (text : List ℕ) → IsModulus m → AreNamed names ws
    → (s : Said) × TreeSaid m names ws text s × IsGoodSaid s
tree_says m names ws text modulus named = by (answered names text) refl (answers names text)
  where
    by : (r : Result Expr Fault) → answered names text ≡ r → Answers names text r
        → (s : Said) × TreeSaid m names ws text s × IsGoodSaid s
    by (Ok e) is reads =
        (Longer (WithTree m names ws e), inl (e, reads, refl), (modulus, named, valid_answer names text e is))
    by (Err f) is fault = (Refused (refusal.BadPolynomial (error_of f)), inr (f, fault, refl), tt)

-- the roots
abbrev IsGoodRoot : ℕ → Option Root → Type 0
IsGoodRoot m None = Unit {0}
IsGoodRoot m (Some root) = IsAcceptedRoot m root

residue_below : (m : ℕ) (minus : Bool) (c : ℕ) → 2 ≤ m → residue m minus c < m
residue_below m true c two = mod-lt (m - c % m) (omega arith)
residue_below m false c two = mod-lt c (omega arith)

root_by_good : (m : ℕ) (minus : Bool) (value times : Option ℕ) → 2 ≤ m → IsWithin 1 32 times
    → IsGoodRoot m (root_by m minus value times)
root_by_good m minus None times two within = tt
root_by_good m minus (Some c) None two within = tt
root_by_good m minus (Some c) (Some k) two within =
    record { residue = residue_below m minus c two; some = within.0; few = within.1 }

root_from_good : (m : ℕ) (minus : Bool) (c : List ℕ) (o : Option (List ℕ)) → 2 ≤ m
    → IsGoodRoot m (root_from m minus c o)
root_from_good m minus c None two = tt
root_from_good m minus c (Some k) two =
    root_by_good m minus (number_in 0 (2 ^ 64 - 1) c) (number_in 1 32 k) two (number_within 1 32 k)

sign_good : (m : ℕ) (minus : Bool) (a b : Option Root) → IsGoodRoot m a → IsGoodRoot m b
    → IsGoodRoot m (if minus then a else b)
sign_good m true a b h k = h
sign_good m false a b h k = k

root_good : (m : ℕ) (w : List ℕ) → 2 ≤ m → IsGoodRoot m (root_in m w)
root_good m [] two = tt
root_good m (b ∷ w) two = sign_good m (b == 45) (root_unsigned m true w) (root_unsigned m false (b ∷ w))
    (root_from_good m true (name_in w) (behind_colon w) two)
    (root_from_good m false (name_in (b ∷ w)) (behind_colon (b ∷ w)) two)

abbrev AreGoodRoots : ℕ → Result (List Root) ℕ → Type 0
AreGoodRoots m (Ok roots) = All (IsAcceptedRoot m) roots
AreGoodRoots m (Err k) = Unit {0}

before_good : (m k : ℕ) (o : Option Root) (rest : Result (List Root) ℕ) → IsGoodRoot m o → AreGoodRoots m rest
    → AreGoodRoots m (root_before k o rest)
before_good m k None rest good all = tt
before_good m k (Some root) (Ok roots) good all = All-cons (IsAcceptedRoot m) root roots good all
before_good m k (Some root) (Err later) good all = tt

roots_good : (m k : ℕ) (ws : List (List ℕ)) → 2 ≤ m → AreGoodRoots m (roots_from m k ws)
roots_good m k [] two = All-nil (IsAcceptedRoot m)
roots_good m k (w ∷ ws) two = before_good m k (root_in m w) (roots_from m (suc k) ws) (root_good m w two)
    (roots_good m (suc k) ws two)

not_memory : (f : of_job.Fault) → job_error_of f ≢ job_error.OutOfMemory
not_memory (OfInput (DividesByY division)) = λ e. cc
not_memory (OfInput (TooManyNodes count)) = λ e. cc
not_memory (OfInput (DegreeTooLarge degree)) = λ e. cc
not_memory (OfInput (NotAUnit division value gcd)) = λ e. cc
not_memory (LeadNotAUnit value gcd) = λ e. cc
not_memory (DegreeMismatch degree total) = λ e. cc
not_memory (NotApart first second difference gcd) = λ e. cc
not_memory (RootsMismatch power input roots) = λ e. cc

job_says : (names : List (List ℕ)) (job : JobData) → IsValidTree job.n job.expr
    → (IsValidJob job → IsGood (Has names job)) → (s : Said) × JobSaid names job s × IsGoodSaid s
job_says names job tree good = elim (job_decided job tree) [
  | inl found ↦ of_fault found.0 found.1
  | inr valid ↦ (Makes names job, inl (valid, refl), good valid)
]
  where
    of_fault : (f : of_job.Fault) → IsFirstFault job f → (s : Said) × JobSaid names job s × IsGoodSaid s
    of_fault f first = (
      Refused (refusal.BadJob (job_error_of f)),
      inr (job_error_of f, not_memory f, (λ told. (f, first, refl)), refl),
      tt,
    )

some_root : (k : ℕ) → 0 < suc k
some_root k = omega arith

roots_say : (m : ℕ) (names : List (List ℕ)) (ws : List ℕ) (e : Expr) → IsModulus m → AreNamed names ws
    → IsValidTree (length names) e → (r : Result (List Root) ℕ) → AreGoodRoots m r
    → (s : Said) × RootsSaid m names ws e r s × IsGoodSaid s
roots_say m names ws e modulus named tree (Err k) good = (Refused (refusal.BadRoot k), refl, tt)
roots_say m names ws e modulus named tree (Ok []) good = (Refused refusal.NoRoots, refl, tt)
roots_say m names ws e modulus named tree (Ok (root ∷ roots)) good =
    job_says names (data_of m names ws e (root ∷ roots)) tree (λ valid. (
      record {
        modulus = (modulus.two, modulus.small);
        variables = (named.some, named.few);
        weights = named.weights;
        tree = tree;
        some = some_root (length roots);
        roots = good;
        valid = valid;
      },
      refl,
    ))

content_says : (h : Header) (more : List (List ℕ)) (text : List ℕ) → IsGoodHeader h
    → (s : Said) × ContentSays h more text s × IsGoodSaid s
content_says Empty more text good = (modulus_said (modulus_in more), refl, modulus_good more)
content_says (WithModulus m) more text good =
    (names_said m (names_in more), refl, names_said_good m good (names_in more) (named_good more))
content_says (WithNames m names ws) more text good = tree_says m names ws text good.0 good.1
content_says (WithTree m names ws e) more text good =
    roots_say m names ws e good.0 good.1 good.2 (roots_from m 1 more) (roots_good m 1 more good.0.two)

keyword_says : (due : Bool) (h : Header) (more : List (List ℕ)) (text : List ℕ) → IsGoodHeader h
    → (s : Said) × KeywordSays due h more text s × IsGoodSaid s
keyword_says true h more text good = content_says h more text good
keyword_says false h more text good = (Refused (refusal.Expected (keyword_due h)), refl, tt)

line_says : (h : Header) (ws : List (List ℕ)) (text : List ℕ) → IsGoodHeader h
    → (s : Said) × LineSays h ws text s × IsGoodSaid s
line_says h [] text good = (Refused (refusal.Expected (keyword_due h)), refl, tt)
line_says h (w ∷ more) text good = keyword_says (bytes_eq w (keyword_text (keyword_due h))) h more text good

-- each line says something
pub header_says : (h : Header) (line : List ℕ) → IsGoodHeader h → (s : Said) × HeaderSays h line s × IsGoodSaid s
header_says h line good = line_says h (words line) (rest_of_line line) good
