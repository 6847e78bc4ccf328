use Rattle.std.proofs.Common.{rules}
use Rattle.site.specs.Devices.{AreDevices, IsDeviceIn}
use Rattle.site.proofs.RestLaws.{rest_told}
use Rattle.site.proofs.devices.are_devices.Goals as goal

pub loop-left-preserved : goal.loop-left-preserved
loop-left-preserved g c = rest_told (λ s. IsDeviceIn s.name s.role) (AreDevices c.args.stations.now) _ c.loop-left.left.now c.first-item.result c.first-item.is c.in-len1-up.len_at_least (c.is_device_in.ensures.0 (search rules)) c.loop-left.invariant
