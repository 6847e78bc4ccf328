use Rattle.std.proofs.Common.{◌≡◌, drop}
use Rattle.mstp_frame.specs.Remainder.{data_divisor}
use Rattle.mstp_frame.proofs.Division.{register}
use Rattle.mstp_frame.proofs.check.data_check.Given as goal

-- what is left of the octets so far leads with the others to what is left of all
abbrev pub invariant-loop-octet : goal.invariant-loop-octet
invariant-loop-octet l = register data_divisor l.remainder (drop l.octet-index l.octets) ≡ register data_divisor 65535 l.octets
