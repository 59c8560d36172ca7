use Rattle.words.proofs.CommandIn.{named_in, one_named, taken_named}
use Rattle.words.proofs.laws.words_laws.Goals as goal

pub returns-clause-forms : goal.returns-clause-forms
returns-clause-forms c = λ words command. (taken_named words command, named_in words command)

pub returns-clause-one : goal.returns-clause-one
returns-clause-one c = one_named
