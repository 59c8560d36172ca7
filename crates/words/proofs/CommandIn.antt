-- The command that words name, by what `clap` finds, is the one whose form they are.
use Rattle.std.proofs.Common.{◌≡◌, ◌∙◌, sym, refl, Bool, true, false, cond, List, [], Some, None}
use Rattle.clap.specs.Walk.{Text, is_empty}
use Rattle.clap.specs.Faults.{fault_of}
use Rattle.clap.proofs.SimpleLemmas.{is_nil}
use Rattle.words.specs.declared.command.Command.{Command}
use Rattle.words.specs.Subcommands.{declared}
use Rattle.words.specs.Forms.{Names}
use Rattle.words.specs.Rules.{command_in, has_end_of_options, parsed}
use Rattle.words.proofs.Plain.{some≢none, the_same}
use Rattle.words.proofs.Parses.{parsed_named}
use Rattle.words.proofs.Forward.{named_taken}

by_fault : (words : List Text) (c : Command) (b : Bool) → has_end_of_options words ≡ false
    → is_empty (fault_of declared words) ≡ b → cond b (parsed words) None ≡ Some c → Names words c
by_fault words c true ends none e = parsed_named words ends (is_nil (fault_of declared words) none) c e
by_fault words c false ends none e = absurd (some≢none c (sym e))

by_end : (words : List Text) (c : Command) (b : Bool) → has_end_of_options words ≡ b
    → cond b None (cond (is_empty (fault_of declared words)) (parsed words) None) ≡ Some c → Names words c
by_end words c true ends e = absurd (some≢none c (sym e))
by_end words c false ends e = by_fault words c (is_empty (fault_of declared words)) ends refl e

pub taken_named : (words : List Text) (c : Command) → command_in words ≡ Some c → Names words c
unfolding command_in
taken_named words c e = by_end words c (has_end_of_options words) refl e

pub named_in : (words : List Text) (c : Command) → Names words c → command_in words ≡ Some c
unfolding command_in
named_in words c named =
    let taken = named_taken words c named in
    λ i. cond (taken.ends i) None (cond (is_empty (taken.passes i)) (taken.gives i) None)

pub one_named : (words : List Text) (c d : Command) → Names words c → Names words d → c ≡ d
one_named words c d e f = the_same c d (sym (named_in words c e) ∙ named_in words d f)

-- what the code answers
pub ended : (words : List Text) → has_end_of_options words ≡ true → None ≡ command_in words
unfolding command_in
ended words e = λ i. cond (sym e i) None (cond (is_empty (fault_of declared words)) (parsed words) None)

pub faulty : (words : List Text) → (fault_of declared words ≡ [] → ⊥) → None ≡ command_in words
unfolding command_in
faulty words fault = go (has_end_of_options words) (is_empty (fault_of declared words)) refl
  where
    go : (a b : Bool) → is_empty (fault_of declared words) ≡ b → None ≡ cond a None (cond b (parsed words) None)
    go true b e = refl
    go false true e = absurd (fault (is_nil (fault_of declared words) e))
    go false false e = refl

pub faultless : (words : List Text) → has_end_of_options words ≡ false → fault_of declared words ≡ []
    → parsed words ≡ command_in words
unfolding command_in
faultless words ends none = λ i. cond (sym ends i) None (cond (is_empty (sym none i)) (parsed words) None)
