-- The line that is due behind the header of `check`.
--     block_said line      what is wrong with it; None of the one word `block`
use Rattle.std.specs.Prelude.{ℕ, List, [], ◌∷◌, Option, Some, None, if◌then◌else◌}
use Rattle.std.specs.Str.{bytes_eq}
use Rattle.script.specs.Refusals.{keyword_text}
use Rattle.script.specs.Words.{words}
use Rattle.script.specs.declared.refusal.Keyword.TheVariants.{Block}
use Rattle.script.specs.declared.refusal.Refusal.{Refusal}
use Rattle.script.specs.declared.refusal.Refusal.TheVariants.{Expected, BadBlock}

-- the words behind the keyword
abbrev pub behind_block : List (List ℕ) → Option Refusal
behind_block [] = None
behind_block (w ∷ more) = Some BadBlock

abbrev pub block_words_said : List (List ℕ) → Option Refusal
block_words_said [] = Some (Expected Block)
block_words_said (w ∷ more) = if bytes_eq w (keyword_text Block) then behind_block more else Some (Expected Block)

-- of a line that isn't skipped
abbrev pub block_said : List ℕ → Option Refusal
block_said line = block_words_said (words line)
