use Rattle.std.proofs.Common.{arith, sym}
use Rattle.bvll.proofs.Refusals.{cut_before_function, cut_behind_function}
use Rattle.bvll.proofs.datagram.Bvll.header_from.Goals as goal

pub returns-in_default-clause-fault : goal.returns-in_default-clause-fault
returns-in_default-clause-fault c = cut_before_function c.args.octets.now (omega arith) (λ some. absurd (omega arith))

pub returns-in_default-octets-clause-fault : goal.returns-in_default-octets-clause-fault
returns-in_default-octets-clause-fault c = cut_before_function c.args.octets.now (omega arith) (λ some. c.if-first.false)

pub returns-in_default-octets-2-clause-fault : goal.returns-in_default-octets-2-clause-fault
returns-in_default-octets-2-clause-fault c =
    cut_behind_function c.args.octets.now c.in_ok-function.function (λ i. omega (arith, c.type_inv.octets i)) (omega arith) (omega arith) c.if-first.false
    (sym c.in_ok-function.ensures)
