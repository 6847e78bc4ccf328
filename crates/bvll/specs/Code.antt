-- The codes of a result.
use Rattle.std.specs.Prelude.{ℕ, ◌≢◌}
use Rattle.bvll.specs.declared.code.ResultCode.{ResultCode}
use Rattle.bvll.specs.declared.code.ResultCode.TheVariants.{Success, WriteBroadcastDistributionTableNak}
use Rattle.bvll.specs.declared.code.ResultCode.TheVariants.{ReadBroadcastDistributionTableNak, RegisterForeignDeviceNak}
use Rattle.bvll.specs.declared.code.ResultCode.TheVariants.{ReadForeignDeviceTableNak, DeleteForeignDeviceTableEntryNak}
use Rattle.bvll.specs.declared.code.ResultCode.TheVariants.{DistributeBroadcastToNetworkNak, Other}

-- the two octets of a code, as a number (J.2.1)
abbrev pub code_number : ResultCode → ℕ
code_number Success = 0x00
code_number WriteBroadcastDistributionTableNak = 0x10
code_number ReadBroadcastDistributionTableNak = 0x20
code_number RegisterForeignDeviceNak = 0x30
code_number ReadForeignDeviceTableNak = 0x40
code_number DeleteForeignDeviceTableEntryNak = 0x50
code_number DistributeBroadcastToNetworkNak = 0x60
code_number (Other n) = n

-- a code that has a name goes by it
abbrev pub IsNamed : ResultCode → Type 0
IsNamed (Other n) = (n ≢ code_number Success)
    × (n ≢ code_number WriteBroadcastDistributionTableNak)
    × (n ≢ code_number ReadBroadcastDistributionTableNak)
    × (n ≢ code_number RegisterForeignDeviceNak)
    × (n ≢ code_number ReadForeignDeviceTableNak)
    × (n ≢ code_number DeleteForeignDeviceTableEntryNak)
    × (n ≢ code_number DistributeBroadcastToNetworkNak)
IsNamed _ = Unit {0}
