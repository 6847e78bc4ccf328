use Rattle.std.proofs.Common.{◌∙◌, sym}
use Rattle.object_model.proofs.ReadLaws.{device_none}
use Rattle.object_model.proofs.reading.read_device.Goals as goal

pub returns-in-DeviceAddressBinding : goal.returns-in-DeviceAddressBinding
returns-in-DeviceAddressBinding g c = c.new.ensures ∙ sym (device_none c.args.objects.now c.args.device.now c.args.property c.in-DeviceAddressBinding.is)
