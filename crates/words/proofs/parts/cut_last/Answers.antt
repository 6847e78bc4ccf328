use Rattle.words.proofs.Marks.{last_front, last_rest}
use Rattle.words.proofs.parts.cut_last.Goals as goal

pub returns-in-Some-clause-front : goal.returns-in-Some-clause-front
returns-in-Some-clause-front c = last_front c.args.mark.now c.args.words.now c.in-Some.front.now c.in-Some.rest.now c.in-Some.ensures.cases

pub returns-in-Some-clause-rest : goal.returns-in-Some-clause-rest
returns-in-Some-clause-rest c = last_rest c.args.mark.now c.args.words.now c.in-Some.front.now c.in-Some.rest.now c.in-Some.ensures.cases
