use Rattle.console.proofs.AnswerLaws.{prints_answer}
use Rattle.console.proofs.answer.answer.Goals as goal

pub returns-clause-answered : goal.returns-clause-answered
returns-clause-answered g c =
    λ e. prints_answer _ _ _ _ c.in-Some.datagram c.in-Ok.said (rw c.in-Some.is at c.in_ok-datagram.ensures.read)
    (rw c.in-Some.is at c.in_ok-datagram.ensures.only) (rw (← c.as_slice.ensures) c.in-Ok.ensures.responds)
    (rw (← c.as_slice-2.ensures) c.in_ok-print.ensures)
