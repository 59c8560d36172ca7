-- The header of a script: four lines in their order, which make a job.
--     Header      what the lines that were read say, and so which line is due
--     keyword_due h      the word of the line that is due
--     Said      what a line says: a longer header, a job with its names, or why it is refused
--     name_in w      what stands in a word before its first colon, or the whole word
--     behind_colon w      what stands behind it; None of a word without a colon
--     weight_in w      the weight of a word NAME or NAME:WEIGHT; None of a bad one
--     modulus_in words, names_in words      the modulus of the words behind `mod`, the names and weights of those
--         behind `vars`, or why they are refused
--     names_from names ws k words      those of the words from word k on, behind these names and weights
--     root_in m w      the root and the multiplicity of a word C:K, a minus before C or not; None of another word
--     roots_from m k words      the roots of the words from word k on, or the number of the first that is none
--     JobSaid names job s      the job, or its first fault
--     HeaderSays h line s      this is what the line says
use Rattle.std.specs.Prelude.{ℕ, ◌-◌, ◌%◌, ◌^◌, ◌≡◌, ◌≢◌, ◌⊎◌, ◌==◌, ◌&&◌, not, nat_le, nat_lt, suc}
use Rattle.std.specs.Prelude.{if◌then◌else◌, Bool, true, false, List, [], ◌∷◌, ◌++◌, length, Option, Some, None}
use Rattle.std.specs.Prelude.{replicate, Result, Ok, Err}
use Rattle.std.specs.Str.{bytes_eq}
use Rattle.std.specs.List.{list_any}
use Rattle.ps_model.specs.FirstFault.{Fault, IsFirstFault, Reads}
use Rattle.ps_model.specs.Job.{IsValidJob}
use Rattle.ps_model.specs.Names.{is_name}
use Rattle.ps_model.specs.declared.expr.Expr.{Expr}
use Rattle.ps_model.specs.declared.job.JobData.{JobData}
use Rattle.ps_model.specs.declared.job.Root.{Root}
use Rattle.expr_reader.specs.ReadErrors.{error_of}
use Rattle.intake.specs.JobErrors.{IsJobRefusal}
use Rattle.intake.specs.Jobs.{data_of}
use Rattle.intake.specs.declared.job_error.JobError.{JobError}
use Rattle.intake.specs.declared.job_error.JobError.TheVariants as job
use Rattle.script.specs.Numbers.{number_of, is_number, number_in}
use Rattle.script.specs.Refusals.{keyword_text}
use Rattle.script.specs.Words.{words, rest_of_line}
use Rattle.script.specs.declared.refusal.Keyword.{Keyword}
use Rattle.script.specs.declared.refusal.Keyword.TheVariants.{Mod, Vars, Poly, Roots}
use Rattle.script.specs.declared.refusal.Refusal.{Refusal}
use Rattle.script.specs.declared.refusal.Refusal.TheVariants as refusal
use Rattle.script.specs.declared.refusal.Refused as refused
use Rattle.script.specs.declared.refusal.Refused.TheVariants as answer

pub data Header : Type 0 where
  Empty : Header
  WithModulus : ℕ → Header
  WithNames : ℕ → List (List ℕ) → List ℕ → Header
  WithTree : ℕ → List (List ℕ) → List ℕ → Expr → Header

abbrev pub keyword_due : Header → Keyword
keyword_due Empty = Mod
keyword_due (WithModulus m) = Vars
keyword_due (WithNames m names ws) = Poly
keyword_due (WithTree m names ws e) = Roots

pub data Said : Type 0 where
  Longer : Header → Said
  Makes : List (List ℕ) → JobData → Said
  Refused : Refusal → Said

-- names, and their weights as the eight of a job
abbrev pub Named : Type 0
Named = List (List ℕ) × List ℕ

-- the words behind the keyword `mod`
abbrev pub modulus_in : List (List ℕ) → Result ℕ Refusal
modulus_in [] = Err refusal.BadModulus
modulus_in (w ∷ []) =
    if is_number w then
    (if nat_le 2 (number_of w) && nat_lt (number_of w) (2 ^ 63) then Ok (number_of w) else
    Err refusal.ModulusOutOfRange)
    else Err refusal.BadModulus
modulus_in (w ∷ v ∷ more) = Err refusal.BadModulus

abbrev pub modulus_said : Result ℕ Refusal → Said
modulus_said (Ok m) = Longer (WithModulus m)
modulus_said (Err f) = Refused f

abbrev pub name_in : List ℕ → List ℕ
name_in [] = []
name_in (b ∷ w) = if b == 58 then [] else b ∷ name_in w

abbrev pub behind_colon : List ℕ → Option (List ℕ)
behind_colon [] = None
behind_colon (b ∷ w) = if b == 58 then Some w else behind_colon w

abbrev pub weight_said : Option (List ℕ) → Option ℕ
weight_said None = Some 1
weight_said (Some w) = number_in 1 64 w

abbrev pub weight_in : List ℕ → Option ℕ
weight_in w = weight_said (behind_colon w)

-- a weight, where there is one, and what goes on with it
abbrev pub weighed : ℕ → (ℕ → Result Named Refusal) → Option ℕ → Result Named Refusal
weighed k more None = Err (refusal.BadWeight k)
weighed k more (Some v) = more v

-- what is wrong with the name of word k behind these names
abbrev pub name_fault : List (List ℕ) → List ℕ → ℕ → Option Refusal
name_fault names name k =
    if length names == 8 then Some refusal.TooManyNames else
    (if not (is_name name) then Some (refusal.BadName k) else
    (if list_any (bytes_eq name) names then Some (refusal.NameRepeats k) else None))

abbrev pub unless_fault : Option Refusal → Result Named Refusal → Result Named Refusal
unless_fault None rest = rest
unless_fault (Some f) rest = Err f

-- the names and weights of the words from word k on, behind these
abbrev pub names_from : List (List ℕ) → List ℕ → ℕ → List (List ℕ) → Result Named Refusal
names_from names ws k [] = Ok (names, ws ++ replicate (8 - length ws) 1)
names_from names ws k (w ∷ more) =
    unless_fault (name_fault names (name_in w) k)
    (weighed k (λ v. names_from (names ++ name_in w ∷ []) (ws ++ v ∷ []) (suc k) more) (weight_in w))

-- the words behind the keyword `vars`
abbrev pub names_in : List (List ℕ) → Result Named Refusal
names_in [] = Err refusal.NoNames
names_in (w ∷ more) = names_from [] [] 1 (w ∷ more)

abbrev pub error_in : Result Named Refusal → Option Refusal
error_in (Ok p) = None
error_in (Err f) = Some f

abbrev pub names_said : ℕ → Result Named Refusal → Said
names_said m (Ok p) = Longer (WithNames m p.0 p.1)
names_said m (Err f) = Refused f

-- the text behind the keyword `poly`
abbrev pub TreeSaid : ℕ → List (List ℕ) → List ℕ → List ℕ → Said → Type 0
TreeSaid m names ws text s =
    ((e : Expr) × Reads names text e × (s ≡ Longer (WithTree m names ws e)))
    ⊎ ((f : Fault) × IsFirstFault names text f × (s ≡ Refused (refusal.BadPolynomial (error_of f))))

-- what the code answers of an expression that isn't read: its first fault, or want of memory
abbrev pub TreeFault : List (List ℕ) → List ℕ → refused.Refused → Type 0
TreeFault names text (answer.Line r) =
    (f : Fault) × IsFirstFault names text f × (r ≡ refusal.BadPolynomial (error_of f))
TreeFault names text answer.OutOfMemory = Unit {0}

abbrev pub residue : ℕ → Bool → ℕ → ℕ
residue m minus c = if minus then (m - c % m) % m else c % m

abbrev pub root_by : ℕ → Bool → Option ℕ → Option ℕ → Option Root
root_by m minus None times = None
root_by m minus (Some value) None = None
root_by m minus (Some value) (Some times) = Some (record { value = residue m minus value; times = times })

abbrev pub root_from : ℕ → Bool → List ℕ → Option (List ℕ) → Option Root
root_from m minus c None = None
root_from m minus c (Some k) = root_by m minus (number_in 0 (2 ^ 64 - 1) c) (number_in 1 32 k)

abbrev pub root_unsigned : ℕ → Bool → List ℕ → Option Root
root_unsigned m minus w = root_from m minus (name_in w) (behind_colon w)

abbrev pub root_in : ℕ → List ℕ → Option Root
root_in m [] = None
root_in m (b ∷ w) = if b == 45 then root_unsigned m true w else root_unsigned m false (b ∷ w)

abbrev pub root_before : ℕ → Option Root → Result (List Root) ℕ → Result (List Root) ℕ
root_before k None rest = Err k
root_before k (Some root) (Ok roots) = Ok (root ∷ roots)
root_before k (Some root) (Err later) = Err later

abbrev pub roots_from : ℕ → ℕ → List (List ℕ) → Result (List Root) ℕ
roots_from m k [] = Ok []
roots_from m k (w ∷ ws) = root_before k (root_in m w) (roots_from m (suc k) ws)

-- what is wrong with the words behind the keyword `roots`, by what is read of them
abbrev pub roots_fault : Result (List Root) ℕ → Option Refusal
roots_fault (Err k) = Some (refusal.BadRoot k)
roots_fault (Ok []) = Some refusal.NoRoots
roots_fault (Ok (root ∷ roots)) = None

abbrev pub JobSaid : List (List ℕ) → JobData → Said → Type 0
JobSaid names j s =
    (IsValidJob j × (s ≡ Makes names j))
    ⊎ ((e : JobError) × (e ≢ job.OutOfMemory) × IsJobRefusal j e × (s ≡ Refused (refusal.BadJob e)))

-- the words behind the keyword `roots`
abbrev pub RootsSaid : ℕ → List (List ℕ) → List ℕ → Expr → Result (List Root) ℕ → Said → Type 0
RootsSaid m names ws e (Err k) s = s ≡ Refused (refusal.BadRoot k)
RootsSaid m names ws e (Ok []) s = s ≡ Refused refusal.NoRoots
RootsSaid m names ws e (Ok (root ∷ roots)) s = JobSaid names (data_of m names ws e (root ∷ roots)) s

-- what stands behind the keyword that is due, as words and as a text
abbrev pub ContentSays : Header → List (List ℕ) → List ℕ → Said → Type 0
ContentSays Empty more text s = s ≡ modulus_said (modulus_in more)
ContentSays (WithModulus m) more text s = s ≡ names_said m (names_in more)
ContentSays (WithNames m names ws) more text s = TreeSaid m names ws text s
ContentSays (WithTree m names ws e) more text s = RootsSaid m names ws e (roots_from m 1 more) s

-- by whether the line begins with the keyword
abbrev pub KeywordSays : Bool → Header → List (List ℕ) → List ℕ → Said → Type 0
KeywordSays true h more text s = ContentSays h more text s
KeywordSays false h more text s = s ≡ Refused (refusal.Expected (keyword_due h))

abbrev pub LineSays : Header → List (List ℕ) → List ℕ → Said → Type 0
LineSays h [] text s = s ≡ Refused (refusal.Expected (keyword_due h))
LineSays h (w ∷ more) text s = KeywordSays (bytes_eq w (keyword_text (keyword_due h))) h more text s

-- of a line that isn't skipped
abbrev pub HeaderSays : Header → List ℕ → Said → Type 0
HeaderSays h line s = LineSays h (words line) (rest_of_line line) s
