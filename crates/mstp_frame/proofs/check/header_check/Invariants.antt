use Rattle.std.proofs.Common.{◌≡◌, drop}
use Rattle.mstp_frame.specs.Remainder.{header_divisor}
use Rattle.mstp_frame.proofs.Division.{register}
use Rattle.mstp_frame.proofs.check.header_check.Given as goal

-- what is left of the octets so far leads with the others to what is left of all
abbrev pub invariant-loop-octet : goal.invariant-loop-octet
invariant-loop-octet l = register header_divisor l.remainder (drop l.octet-index l.octets) ≡ register header_divisor 255 l.octets
