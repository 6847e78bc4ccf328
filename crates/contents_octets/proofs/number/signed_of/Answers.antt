use Rattle.std.proofs.Common.{◌<◌, length, arith, rules}
use Rattle.std.specs.Prelude.{FitsSigned}
use Rattle.std.specs.Int.{w32, w64}
use Rattle.std.proofs.lemmas.Int.{to_z-of_z}
use Rattle.std.proofs.lemmas.Grind.{common_steps}
use Rattle.byteorder.specs.Numbers.{big_from-lt}
use Rattle.contents_octets.proofs.Numbers.{signed_fits}
use Rattle.contents_octets.proofs.number.signed_of.Goals as goal

pub overflow_cast-result : goal.overflow_cast-result
overflow_cast-result c =
    let n = length c.args.octets.now in
    let some : 0 < length c.args.octets.now = grind (arith, common_steps) in
    let lt = big_from-lt 0 n c.args.octets.now (λ i. omega (arith, c.type_inv.octets i)) in
    let b = signed_fits n _ some (omega arith) lt in
    let wide : FitsSigned w64 c.read_int.result = search rules in
    rw (to_z-of_z w64 c.read_int.result wide, c.read_int.ensures) b

pub returns-clause-read : goal.returns-clause-read
returns-clause-read c =
    let n = length c.args.octets.now in
    let some : 0 < length c.args.octets.now = grind (arith, common_steps) in
    let lt = big_from-lt 0 n c.args.octets.now (λ i. omega (arith, c.type_inv.octets i)) in
    let b = signed_fits n _ some (omega arith) lt in
    let wide : FitsSigned w64 c.read_int.result = search rules in
    let thin : FitsSigned w32 c.read_int.result = rw c.read_int.ensures b in
    rw (to_z-of_z w64 c.read_int.result wide, to_z-of_z w32 c.read_int.result thin) (record { some = some; few = omega arith; value = c.read_int.ensures })
