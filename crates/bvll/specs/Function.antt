-- The numbers of the functions.
use Rattle.std.specs.Prelude.{ℕ}
use Rattle.bvll.specs.declared.function.Function.{Function}
use Rattle.bvll.specs.declared.function.Function.TheVariants.{Result, WriteBroadcastDistributionTable}
use Rattle.bvll.specs.declared.function.Function.TheVariants.{ReadBroadcastDistributionTable}
use Rattle.bvll.specs.declared.function.Function.TheVariants.{ReadBroadcastDistributionTableAck, ForwardedNpdu}
use Rattle.bvll.specs.declared.function.Function.TheVariants.{RegisterForeignDevice, ReadForeignDeviceTable}
use Rattle.bvll.specs.declared.function.Function.TheVariants.{ReadForeignDeviceTableAck, DeleteForeignDeviceTableEntry}
use Rattle.bvll.specs.declared.function.Function.TheVariants.{DistributeBroadcastToNetwork, OriginalUnicastNpdu}
use Rattle.bvll.specs.declared.function.Function.TheVariants.{OriginalBroadcastNpdu}

-- the second octet of a datagram (J.2)
abbrev pub number_of : Function → ℕ
number_of Result = 0
number_of WriteBroadcastDistributionTable = 1
number_of ReadBroadcastDistributionTable = 2
number_of ReadBroadcastDistributionTableAck = 3
number_of ForwardedNpdu = 4
number_of RegisterForeignDevice = 5
number_of ReadForeignDeviceTable = 6
number_of ReadForeignDeviceTableAck = 7
number_of DeleteForeignDeviceTableEntry = 8
number_of DistributeBroadcastToNetwork = 9
number_of OriginalUnicastNpdu = 10
number_of OriginalBroadcastNpdu = 11
