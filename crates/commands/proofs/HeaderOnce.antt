-- A line of a header says one thing, and so a line does one thing.
use Rattle.std.proofs.Common.{◌≡◌, ◌∙◌, sym, ap, refl, ℕ, ◌≤◌, List, [], ◌∷◌, length, take, Bool, true, false}
use Rattle.std.proofs.Common.{Result, Ok, Err, inl, inr}
use Rattle.std.specs.Str.{bytes_eq}
use Rattle.ps_model.specs.Tokens.{tokens_of}
use Rattle.ps_model.specs.declared.expr.Expr.{Expr}
use Rattle.ps_model.specs.declared.job.JobData.{JobData}
use Rattle.ps_model.specs.declared.job.Root.{Root}
use Rattle.grammar.proofs.Complete.{one_tree}
use Rattle.grammar.proofs.Whole.{one_fault}
use Rattle.expr_reader.specs.ReadErrors.{error_of}
use Rattle.intake.specs.JobErrors.{job_error_of}
use Rattle.intake.specs.Jobs.{data_of}
use Rattle.script.specs.Header.{Header, Empty, WithModulus, WithNames, WithTree, Said, Longer, Refused, keyword_due}
use Rattle.script.specs.Header.{TreeSaid, JobSaid, RootsSaid, ContentSays, KeywordSays, LineSays, HeaderSays, roots_from}
use Rattle.script.specs.Refusals.{keyword_text}
use Rattle.script.specs.Requests.{request_said}
use Rattle.script.specs.Script.{Begun, Has, outcome_of, asked_by}
use Rattle.script.specs.Words.{is_skipped, words, rest_of_line}
use Rattle.script.specs.declared.refusal.Refusal.TheVariants as refusal
use Rattle.script.proofs.JobsOnce.{one_job_fault}
use Rattle.commands.specs.declared.command.ScriptCommand.{ScriptCommand}
use Rattle.commands.specs.Answering.{DoesOnly}
use Rattle.commands.specs.Words.{takes_streams}
use Rattle.commands.proofs.LinesDone.{does_content}

tree_once : (m : ℕ) (names : List (List ℕ)) (ws : List ℕ) (text : List ℕ) (a b : Said)
    → TreeSaid m names ws text a → TreeSaid m names ws text b → a ≡ b
tree_once m names ws text a b (inl (e, reads, is)) (inl (f, reads', is')) =
    is ∙ ap (λ (t : Expr). Longer (WithTree m names ws t)) (one_tree reads.spelled reads'.spelled) ∙ sym is'
tree_once m names ws text a b (inl (e, reads, is)) (inr (f, fault, is')) = absurd (reads.no_fault f fault)
tree_once m names ws text a b (inr (f, fault, is)) (inl (e, reads, is')) = absurd (reads.no_fault f fault)
tree_once m names ws text a b (inr (f, fault, is)) (inr (g, fault', is')) =
    is ∙ ap (λ x. Refused (refusal.BadPolynomial (error_of x))) (one_fault [] (tokens_of names text) f g fault fault')
    ∙ sym is'

job_once : (names : List (List ℕ)) (job : JobData) (a b : Said) → JobSaid names job a → JobSaid names job b → a ≡ b
job_once names job a b (inl (valid, is)) (inl (valid', is')) = is ∙ sym is'
job_once names job a b (inl (valid, is)) (inr (e, told, refused, is')) =
    let first = refused told in absurd (valid first.0 first.1.holds)
job_once names job a b (inr (e, told, refused, is)) (inl (valid, is')) =
    let first = refused told in absurd (valid first.0 first.1.holds)
job_once names job a b (inr (e, told, refused, is)) (inr (f, told', refused', is')) =
    let first = refused told in let first' = refused' told' in
    is ∙ ap (λ x. Refused (refusal.BadJob x))
    (first.2 ∙ ap job_error_of (one_job_fault job first.0 first'.0 first.1 first'.1) ∙ sym first'.2)
    ∙ sym is'

roots_once : (m : ℕ) (names : List (List ℕ)) (ws : List ℕ) (e : Expr) (roots : Result (List Root) ℕ) (a b : Said)
    → RootsSaid m names ws e roots a → RootsSaid m names ws e roots b → a ≡ b
roots_once m names ws e (Err k) a b h j = h ∙ sym j
roots_once m names ws e (Ok []) a b h j = h ∙ sym j
roots_once m names ws e (Ok (root ∷ roots)) a b h j =
    job_once names (data_of m names ws e (root ∷ roots)) a b h j

content_once : (h : Header) (more : List (List ℕ)) (text : List ℕ) (a b : Said) → ContentSays h more text a
    → ContentSays h more text b → a ≡ b
content_once Empty more text a b x y = x ∙ sym y
content_once (WithModulus m) more text a b x y = x ∙ sym y
content_once (WithNames m names ws) more text a b x y = tree_once m names ws text a b x y
content_once (WithTree m names ws e) more text a b x y = roots_once m names ws e (roots_from m 1 more) a b x y

keyword_once : (due : Bool) (h : Header) (more : List (List ℕ)) (text : List ℕ) (a b : Said)
    → KeywordSays due h more text a → KeywordSays due h more text b → a ≡ b
keyword_once true h more text a b x y = content_once h more text a b x y
keyword_once false h more text a b x y = x ∙ sym y

line_once : (h : Header) (ws : List (List ℕ)) (text : List ℕ) (a b : Said) → LineSays h ws text a
    → LineSays h ws text b → a ≡ b
line_once h [] text a b x y = x ∙ sym y
line_once h (w ∷ more) text a b x y =
    keyword_once (bytes_eq w (keyword_text (keyword_due h))) h more text a b x y

-- what the line says is the only thing that it says
pub says_once : (h : Header) (line : List ℕ) (a b : Said) → HeaderSays h line a → HeaderSays h line b → a ≡ b
says_once h line a b x y = line_once h (words line) (rest_of_line line) a b x y

-- a line of the header
pub does_header : (c : ScriptCommand) (h : Header) (line : List ℕ) (s : Said) → length line ≤ 65536
    → is_skipped line ≡ false → HeaderSays h line s → DoesOnly c (Begun h) line (outcome_of s)
does_header c h line s short read says = does_content c (Begun h) line (outcome_of s) short read (s, says, refl)
    (λ other (t, is, done). done ∙ ap outcome_of (says_once h line t s is says))

-- a line behind it
pub does_request : (c : ScriptCommand) (names : List (List ℕ)) (job : JobData) (line : List ℕ) → length line ≤ 65536
    → is_skipped line ≡ false
    → DoesOnly c (Has names job) line (asked_by (request_said (takes_streams c) (take job.n job.weights) line))
does_request c names job line short read = does_content c (Has names job) line
    (asked_by (request_said (takes_streams c) (take job.n job.weights) line)) short read refl (λ other done. done)
