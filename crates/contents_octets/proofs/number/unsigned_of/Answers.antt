use Rattle.std.proofs.Common.{length, arith}
use Rattle.contents_octets.proofs.Numbers.{number_below}
use Rattle.contents_octets.proofs.number.unsigned_of.Goals as goal

pub overflow_cast-result : goal.overflow_cast-result
overflow_cast-result c =
    let b = number_below (length c.args.octets.now) c.args.octets.now (omega arith) (λ i. omega (arith, c.type_inv.octets i)) in
    omega (arith, b, c.read_uint.ensures)
