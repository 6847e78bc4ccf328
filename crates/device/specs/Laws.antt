-- What holds of any device, for the proofs of the layers above.
use Rattle.std.specs.Prelude.{◌≡◌, ◌<◌, ◌-◌, ◌/◌, ◌%◌, ◌^◌, ◌==◌, ◌⊎◌, ◌↔◌, ℕ, Bool, true, List, [], ◌∷◌, get_or}
use Rattle.apdu.specs.Numbers.{service_number}
use Rattle.apdu.specs.declared.numbers.ConfirmedService.{ConfirmedService}
use Rattle.device.specs.Device.{DeviceState}
use Rattle.device.specs.Hearing.{DeviceHears}
use Rattle.device.specs.DeviceTold.{DeviceTold}
use Rattle.npdu.specs.declared.mac.Mac.{Mac}
use Rattle.npdu.specs.declared.mac.Target.{Target}
use Rattle.object_model.specs.Objects.{PlainTable, held_by_device}
use Rattle.object_model.specs.Supported.{has_bit}
use Rattle.object_model.specs.declared.object.DeviceObject.{DeviceObject}
use Rattle.primitives.specs.declared.property.Property.TheVariants.{ProtocolServicesSupported}
use Rattle.tags.specs.declared.value.Value.{Value}
use Rattle.tags.specs.declared.value.Value.TheVariants.{Bits}

-- what comes of an NPDU is one thing: what is said and executed, and what the device is then
abbrev pub HeardOnce : Type 0 → Type 0
HeardOnce A = (now : ℕ) (from : Mac) (to : Target) (npdu : List ℕ) (old x y : DeviceState A)
    (told other : DeviceTold A) → DeviceHears now from to npdu old told x → DeviceHears now from to npdu old other y →
    (told ≡ other) × (x ≡ y)

-- the bit of Who-Is in BACnetServicesSupported (21)
abbrev pub WHO_IS_BIT : ℕ
WHO_IS_BIT = 34

-- a confirmed service of this product has this number, which is that of its bit in BACnetServicesSupported too (21)
pub record IsServiceNumber (n : ℕ) : Type 0 where
  pub service : ConfirmedService
  pub numbered : service_number service ≡ n

-- a property has a Bit String of 35 bits, of which exactly those are set whose service a device executes: a confirmed
-- one that has a name in this product, or Who-Is (12.11.13)
pub record SaysServices {A : Type 0} (values : List (Value A)) : Type 0 where
  pub octets : List ℕ
  pub are : values ≡ Bits 5 octets ∷ []
  pub says : (n : ℕ) → n < 35 → (has_bit octets n ≡ true) ↔ (IsServiceNumber n ⊎ (n ≡ WHO_IS_BIT))

-- Protocol_Services_Supported of a Device object names the services that a device executes, and no others (12.11.13)
abbrev pub ServicesAreSupported : Type 0 → Type 0
ServicesAreSupported A = (t : PlainTable A) (d : DeviceObject A) →
    SaysServices (held_by_device t d ProtocolServicesSupported)
