-- The lists of words that the program takes.
--     Names words command      the words name the command: they are one of its forms, where each V is a word by its
--         rule. All lists that name no command are refused
--     IsWorkers v n      V of `--rounds` and `--workers`: one to four digits with a value from 1 to 64
--     IsSeed v n      V of `demo`: one to twenty digits with a value of at most 2^64 - 1
--     Gives name v words      `factor NAME V` or `factor NAME=V`
use Rattle.std.specs.Prelude.{◌≡◌, ◌⊎◌, ℕ, List, [], ◌∷◌, ◌++◌, codes}
use Rattle.words.specs.declared.command.Command.{Command}
use Rattle.words.specs.declared.command.Command.TheVariants.{Factor, Expand, Check, Demo}
use Rattle.words.specs.declared.command.Workers.TheVariants.{One, Rounds, Pipeline}
use Rattle.words.specs.Numbers.{IsNumber}

abbrev pub Text : Type 0
Text = List ℕ

abbrev pub rounds_option : Text
rounds_option = codes "--rounds"

abbrev pub workers_option : Text
workers_option = codes "--workers"

abbrev pub greatest_seed : ℕ
greatest_seed = 18446744073709551615

abbrev pub IsWorkers : Text → ℕ → Type 0
IsWorkers = IsNumber 4 1 64

abbrev pub IsSeed : Text → ℕ → Type 0
IsSeed = IsNumber 20 0 greatest_seed

abbrev pub Gives : Text → Text → List Text → Type 0
Gives name v words =
    (words ≡ codes "factor" ∷ name ∷ v ∷ []) ⊎ (words ≡ codes "factor" ∷ (name ++ 61 ∷ v) ∷ [])

abbrev pub Names : List Text → Command → Type 0
Names words (Factor One) = words ≡ codes "factor" ∷ []
Names words (Factor (Rounds n)) = (v : Text) × IsWorkers v n × Gives rounds_option v words
Names words (Factor (Pipeline n)) = (v : Text) × IsWorkers v n × Gives workers_option v words
Names words Expand = words ≡ codes "expand" ∷ []
Names words Check = words ≡ codes "check" ∷ []
Names words (Demo n) = (v : Text) × IsSeed v n × (words ≡ codes "demo" ∷ v ∷ [])
