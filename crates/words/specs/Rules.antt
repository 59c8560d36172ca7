-- The rules behind the parse of the words.
--     workers_in rounds workers      the workers that the values of the two options ask for: not both may be given
--     taken name rows      the command of the subcommand with this name, with what `clap` found for it
--     command_in words      the command that the words name, None of refused words: no word is `--`, `clap` finds no
--         fault, and what it finds meets the rules
use Rattle.std.specs.Prelude.{ℕ, if◌then◌else◌, Bool, List, codes, Option, Some, None}
use Rattle.std.specs.Prelude.{option_map, option_and_then}
use Rattle.std.specs.List.{list_any}
use Rattle.std.specs.Str.{bytes_eq}
use Rattle.clap.specs.Walk.{Row, Text, first_of, is_empty}
use Rattle.clap.specs.Simple.{subcommand_of}
use Rattle.clap.specs.Faults.{fault_of}
use Rattle.words.specs.declared.command.Command.{Command}
use Rattle.words.specs.declared.command.Command.TheVariants.{Factor, Expand, Check, Demo}
use Rattle.words.specs.declared.command.Workers.{Workers}
use Rattle.words.specs.declared.command.Workers.TheVariants.{One, Rounds, Pipeline}
use Rattle.words.specs.Numbers.{number_in}
use Rattle.words.specs.Forms.{greatest_seed}
use Rattle.words.specs.Subcommands.{declared}

abbrev pub workers_in : Option Text → Option Text → Option Workers
workers_in None None = Some One
workers_in (Some v) None = option_map Rounds (number_in 4 1 64 v)
workers_in None (Some v) = option_map Pipeline (number_in 4 1 64 v)
workers_in (Some v) (Some w) = None

abbrev pub seed_in : Option Text → Option ℕ
seed_in = option_and_then (number_in 20 0 greatest_seed)

abbrev pub taken : Text → List Row → Option Command
taken name rows =
    if bytes_eq name (codes "factor")
    then option_map Factor (workers_in (first_of (codes "rounds") rows) (first_of (codes "workers") rows))
    else (if bytes_eq name (codes "expand") then Some Expand
    else (if bytes_eq name (codes "check") then Some Check
    else (if bytes_eq name (codes "demo") then option_map Demo (seed_in (first_of (codes "number") rows))
    else None)))

abbrev pub is_end_of_options : Text → Bool
is_end_of_options word = bytes_eq word (codes "--")

abbrev pub has_end_of_options : List Text → Bool
has_end_of_options = list_any is_end_of_options

abbrev pub parsed : List Text → Option Command
parsed words = option_and_then (λ p. taken p.0 p.1) (subcommand_of declared words)

unfoldable pub command_in : List Text → Option Command
command_in words =
    if has_end_of_options words then None
    else (if is_empty (fault_of declared words) then parsed words else None)
