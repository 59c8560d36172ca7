use Rattle.script.specs.Answers.{items_of}
use Rattle.commands.proofs.ChecksOnce.{checks_once, output_once}
use Rattle.commands.proofs.OutputsOnce.{answers_once}
use Rattle.commands.proofs.laws.output_laws.Goals as goal

pub returns : goal.returns
returns c = record {
  lines = λ c ended bytes. answers_once c (items_of ended bytes);
  checks = checks_once;
  output = output_once;
}
