use Rattle.words.proofs.Marks.{first_front, first_rest}
use Rattle.expectations.proofs.parts.cut_first.Goals as goal

pub returns-in-Some-clause-front : goal.returns-in-Some-clause-front
returns-in-Some-clause-front c = first_front c.args.mark.now c.args.words.now c.in-Some.front.now c.in-Some.rest.now c.in-Some.ensures.cases

pub returns-in-Some-clause-rest : goal.returns-in-Some-clause-rest
returns-in-Some-clause-rest c = first_rest c.args.mark.now c.args.words.now c.in-Some.front.now c.in-Some.rest.now c.in-Some.ensures.cases
