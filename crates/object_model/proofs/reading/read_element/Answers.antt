use Rattle.object_model.proofs.ReadLaws.{device_array, value_array}
use Rattle.object_model.proofs.reading.read_element.Goals as goal

pub returns-in_default : goal.returns-in_default
returns-in_default g c = rw (c.in-Device.is, device_array c.args.objects.now c.in-Device.field-0 c.args.property c.requires c.in_default.not-ObjectList)
    c.new.ensures

pub returns-in_default-property : goal.returns-in_default-property
returns-in_default-property g c = rw (c.in-Value.is, value_array c.in-Value.value c.args.property c.requires c.in_default-property.not-PriorityArray)
    c.new-in_default-property.ensures
