use Rattle.std.proofs.Common.{arith, ◌-◌, length, take, drop, slice_index_or}
use Rattle.std.proofs.lemmas.Grind.{common_steps}
use Rattle.apdu.proofs.ApduLaws.{only_apdu, spelled_behind}
use Rattle.apdu.proofs.apdu.Apdu.read.Goals as goal

pub returns-clause-only : goal.returns-clause-only
returns-clause-only c =
    only_apdu c.args.octets.now c.apdu_behind.result
    (spelled_behind c.in_ok-kind.kind (slice_index_or c.args.octets.now 0 0) (take (length c.args.octets.now - 1) (drop 1 c.args.octets.now))
    c.args.octets.now c.apdu_behind.result (grind (arith, common_steps)) c.in_ok-kind.ensures c.apdu_behind.ensures.read)
