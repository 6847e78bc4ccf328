use Rattle.std.proofs.Common.{[], ◌∷◌, ◌++◌, Some, arith}
use Rattle.std.proofs.lemmas.Str.Pattern.{strip_prefix_char}
use Rattle.words.proofs.Replies.{no_end}
use Rattle.words.proofs.reply.within_brackets.Goals as goal

pub returns-in_default-clause-refused : goal.returns-in_default-clause-refused
unfolding lib.Utf8.encode
returns-in_default-clause-refused c = record { none = λ inner e. c.in_default.ensures.cases (inner ++ 93 ∷ []) e }

pub returns-in-None-clause-refused : goal.returns-in-None-clause-refused
unfolding lib.Utf8.encode
returns-in-None-clause-refused c = no_end c.args.words.now c.in-Some.rest.now
    (strip_prefix_char 91 c.args.words.now (Some c.in-Some.rest) c.in-Some.ensures.cases (omega arith)) c.in-None.ensures.cases
