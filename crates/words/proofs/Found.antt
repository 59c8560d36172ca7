-- What the code reads of `clap`'s answers.
use Rattle.std.proofs.Common.{◌≡◌, ◌≢◌, ◌∙◌, ap, sym, ap₂, subst, refl, true, false, true≢false, List, []}
use Rattle.std.proofs.Common.{Option, Some, None, is_some, option_map, inl, inr}
use Rattle.std.specs.Prelude.{option_and_then}
use Rattle.clap.specs.Walk.{Row, Text}
use Rattle.clap.specs.Kinds.{HasKind, IsAmong, Kinds}
use Rattle.clap.specs.Values.{kind_of}
use Rattle.clap.specs.Simple.{App, is_simple, subcommand_of}
use Rattle.clap.specs.Faults.{fault_of, is_simple_and_free}
use Rattle.clap.specs.declared.error.Error.{Error}
use Rattle.clap.specs.declared.error.kind.ErrorKind.TheVariants.{OutOfMemory}
use Rattle.words.specs.declared.command.Command.{Command}
use Rattle.words.specs.Rules.{command_in, has_end_of_options, taken}
use Rattle.words.specs.Subcommands.{declared}
use Rattle.words.proofs.CommandIn.{faultless, faulty}
use Rattle.words.proofs.Plain.{some≢none, the_same}

pub declared_simple : is_simple declared ≡ true
declared_simple = refl

pub declared_free : is_simple_and_free declared ≡ true
declared_free = refl

-- an error that isn't want of memory has its cause in the words
pub caused : (kinds : Kinds) (e : Error) → HasKind kinds e → kind_of e ≢ OutOfMemory → kinds ≡ [] → ⊥
caused kinds e (inl memory) other none = other memory
caused kinds e (inr among) other none = subst (IsAmong (kind_of e)) none among

-- words that are refused name no command
pub refusal : (app : App) (words : List Text) (e : Error) → app ≡ declared
    → (is_simple_and_free app ≡ true → HasKind (fault_of app words) e) → kind_of e ≢ OutOfMemory
    → None ≡ command_in words
refusal app words e is kinds other =
    let free = ap is_simple_and_free is ∙ declared_free in
    let here = subst (λ (a : App). HasKind (fault_of a words) e) is (kinds free) in
    faulty words (caused (fault_of declared words) e here other)

abbrev pub command_by : Option (Text × List Row) → Option Command
command_by = option_and_then (λ p. taken p.0 p.1)

-- what is found in words without a fault is the command that they name
pub found_command : (app : App) (words : List Text) (X : Type 0) (found : Option (Text × List Row)) → app ≡ declared
    → has_end_of_options words ≡ false → (is_simple_and_free app ≡ true → fault_of app words ≡ [])
    → (is_simple app ≡ true → X × (found ≡ subcommand_of app words)) → command_by found ≡ command_in words
found_command app words X found is ends passes matches =
    let none = ap (λ (a : App). fault_of a words) (sym is) ∙ passes (ap is_simple_and_free is ∙ declared_free) in
    let same = (matches (ap is_simple is ∙ declared_simple)).1 ∙ ap (λ (a : App). subcommand_of a words) is in
    ap command_by same ∙ faultless words ends none

abbrev both_of : {X : Type 0} → (X → Text) → (X → List Row) → X → Text × List Row
both_of f g x = (f x, g x)

-- a pair of which both halves are known
pub entered : {X : Type 0} (f : X → Text) (g : X → List Row) (o : Option X) (name : Text) (rows : List Row)
    → option_map f o ≡ Some name → option_map (λ (p : Text × List Row). p.1) (option_map (both_of f g) o) ≡ Some rows
    → option_map (both_of f g) o ≡ Some (name, rows)
entered f g None name rows e h = absurd (some≢none name (sym e))
entered f g (Some x) name rows e h = ap₂ (λ n r. Some (n, r)) (the_same (f x) name e) (the_same (g x) rows h)

pub none_entered : {X Y : Type 0} (f : X → Y) (o : Option X) → is_some o ≡ false → option_map f o ≡ None
none_entered f None e = refl
none_entered f (Some x) e = absurd (true≢false e)
