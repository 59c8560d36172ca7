-- What the rules make of what `clap` found for a subcommand.
use Rattle.std.proofs.Common.{◌≡◌, ◌∙◌, sym, ap, ap₂, codes, Option, option_map}
use Rattle.clap.specs.Walk.{Text, rows_of}
use Rattle.clap.specs.Matches.{first_value}
use Rattle.clap.specs.declared.parser.matches.Found.{Found}
use Rattle.clap.proofs.WalkLemmas.{first_value-rows}
use Rattle.words.specs.declared.command.Command.TheVariants.{Factor, Demo}
use Rattle.words.specs.Rules.{seed_in, taken, workers_in}

module _ (name : Text) (f : Found) where
  pub factor_taken : (rounds workers : Option Text) → name ≡ codes "factor" → rounds ≡ first_value f (codes "rounds")
      → workers ≡ first_value f (codes "workers")
      → option_map Factor (workers_in rounds workers) ≡ taken name (rows_of f)
  factor_taken rounds workers is a b =
      ap₂ (λ r w. option_map Factor (workers_in r w)) (a ∙ first_value-rows f (codes "rounds"))
      (b ∙ first_value-rows f (codes "workers"))
      ∙ ap (λ n. taken n (rows_of f)) (sym is)

  pub demo_taken : (word : Option Text) → name ≡ codes "demo" → word ≡ first_value f (codes "number")
      → option_map Demo (seed_in word) ≡ taken name (rows_of f)
  demo_taken word is a =
      ap (λ w. option_map Demo (seed_in w)) (a ∙ first_value-rows f (codes "number"))
      ∙ ap (λ n. taken n (rows_of f)) (sym is)
