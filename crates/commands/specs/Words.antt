-- What the program does for the words of the command line.
--     Work      the requests of a script are answered, as its command does, a block is judged, or the job of a number
--         is summed up
--     work_of command      what is done for a command. Who raises the factors is no part of it
--     work_in words      what is done for the words, None of refused words
--     is_reading work      whether the input counts
--     takes_streams c      whether a script of the command may ask for streams
--     usage_line      what is written for refused words
--     asks_pipe words      whether the words are those of `factor` with a pipeline: the first is `factor`, and a later one
--         is `--workers` or begins with `--workers=`. Refused words may be among them
use Rattle.std.specs.Prelude.{ℕ, Bool, true, false, ◌==◌, ◌&&◌, ◌||◌, List, [], ◌∷◌, codes, Option, Some, None}
use Rattle.std.specs.Prelude.{option_and_then}
use Rattle.std.specs.List.{list_any, starts_with}
use Rattle.std.specs.Str.{bytes_eq}
use Rattle.words.specs.Rules.{command_in}
use Rattle.words.specs.declared.command.Command.{Command}
use Rattle.words.specs.declared.command.Command.TheVariants as command
use Rattle.commands.specs.declared.command.ScriptCommand.{ScriptCommand}
use Rattle.commands.specs.declared.command.ScriptCommand.TheVariants.{Factor, Expand}

pub data Work : Type 0 where
  Script : ScriptCommand → Work
  Check : Work
  Demo : ℕ → Work

abbrev pub work_of : Command → Option Work
work_of (command.Factor workers) = Some (Script Factor)
work_of command.Expand = Some (Script Expand)
work_of command.Check = Some Check
work_of (command.Demo n) = Some (Demo n)

abbrev pub work_in : List (List ℕ) → Option Work
work_in words = option_and_then work_of (command_in words)

abbrev pub is_reading : Option Work → Bool
is_reading None = false
is_reading (Some (Script c)) = true
is_reading (Some Check) = true
is_reading (Some (Demo n)) = false

abbrev pub takes_streams : ScriptCommand → Bool
takes_streams Factor = true
takes_streams Expand = false

abbrev pub usage_line : List ℕ
usage_line = codes "usage: hensel_tool factor [--rounds N | --workers N] | expand | check | demo NUMBER\n"

abbrev pub names_workers : List ℕ → Bool
names_workers word = bytes_eq word (codes "--workers") || starts_with (λ a b. a == b) word (codes "--workers=")

abbrev pub asks_pipe : List (List ℕ) → Bool
asks_pipe [] = false
asks_pipe (word ∷ words) = bytes_eq word (codes "factor") && list_any names_workers words
