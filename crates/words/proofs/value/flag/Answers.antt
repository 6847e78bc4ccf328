use Rattle.words.proofs.Unsaid.{no_bool}
use Rattle.words.proofs.value.flag.Goals as goal

pub returns-in_default-clause-refused : goal.returns-in_default-clause-refused
returns-in_default-clause-refused c = no_bool c.args.word.now c.in_default.not-true c.in_default.not-false
