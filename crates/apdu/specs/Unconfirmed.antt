-- Who-Is and I-Am (16.10).
use Rattle.std.specs.Prelude.{◌≡◌, ◌≢◌, ℕ, ◌≤◌, List, [], ◌++◌, Option, Some, None}
use Rattle.tags.specs.declared.object_id.ObjectId.{ObjectId}
use Rattle.tags.specs.declared.tag.Class.TheVariants.{Application, Context}
use Rattle.tags.specs.Canonical.{tagged}
use Rattle.tags.specs.Number.{SpellsUnsigned, unsigned_octets, object_octets}
use Rattle.primitives.specs.Numbers.{type_number}
use Rattle.primitives.specs.declared.object_type.ObjectType.TheVariants.{Device}
use Rattle.apdu.specs.Parameter.{IsObject, Takes}
use Rattle.apdu.specs.declared.unconfirmed.UnconfirmedService.{UnconfirmedService}
use Rattle.apdu.specs.declared.unconfirmed.UnconfirmedService.TheVariants as service
use Rattle.apdu.specs.declared.unconfirmed.Segmentation.{Segmentation}
use Rattle.apdu.specs.declared.unconfirmed.Segmentation.TheVariants as segmentation
use Rattle.apdu.specs.declared.unconfirmed.Limits.{Limits}
use Rattle.apdu.specs.declared.unconfirmed.IAm.{IAm}

-- BACnet unconfirmed services (21, BACnetUnconfirmedServiceChoice)
abbrev pub service_number : UnconfirmedService → ℕ
service_number service.IAm = 0
service_number service.WhoIs = 8

-- no unconfirmed service of this product has this number
abbrev pub NoService : ℕ → Type 0
NoService n = (s : UnconfirmedService) → service_number s ≢ n

-- BACnetSegmentation (21)
abbrev pub segmentation_number : Segmentation → ℕ
segmentation_number segmentation.Both = 0
segmentation_number segmentation.Transmit = 1
segmentation_number segmentation.Receive = 2
segmentation_number segmentation.NoSegmentation = 3

-- an instance is asked for where there are no limits, or it is within both (16.10.2)
abbrev pub Covers : Option Limits → ℕ → Type 0
Covers None instance = Unit {0}
Covers (Some l) instance = (l.low ≤ instance) × (instance ≤ l.high)

-- low limit [0] and high limit [1], and nothing else (16.10.1.1, 21)
pub record SpellsLimits (octets : List ℕ) (low high : ℕ) : Type 0 where
  pub at_high : List ℕ
  pub low_taken : Takes SpellsUnsigned Context 0 octets low at_high
  pub high_taken : Takes SpellsUnsigned Context 1 at_high high []

-- both limits, or no octet (16.10.1.1)
abbrev pub SpellsWhoIs : List ℕ → Option Limits → Type 0
SpellsWhoIs octets None = octets ≡ []
SpellsWhoIs octets (Some l) = SpellsLimits octets l.low l.high

-- the octets spell a Who-Is with these limits, and no other
pub record OnlyWhoIs (octets : List ℕ) (limits : Option Limits) : Type 0 where
  pub only : (o : Option Limits) → SpellsWhoIs octets o → limits ≡ o

-- no Who-Is is spelled
pub record NoWhoIs (octets : List ℕ) : Type 0 where
  pub none : (o : Option Limits) → SpellsWhoIs octets o → ⊥

-- the octets spell no other limits (16.10.1.1)
pub record OnlyLimits (octets : List ℕ) (low high : ℕ) : Type 0 where
  pub only : (m n : ℕ) → SpellsLimits octets m n → (low ≡ m) × (high ≡ n)

-- no limits are spelled (16.10.1.1)
pub record NoLimits (octets : List ℕ) : Type 0 where
  pub none : (m n : ℕ) → SpellsLimits octets m n → ⊥

-- the shortest octets of a Who-Is
abbrev pub limits_octets : Option Limits → List ℕ
limits_octets None = []
limits_octets (Some l) = tagged Context 0 (unsigned_octets l.low) ++ tagged Context 1 (unsigned_octets l.high)

-- an instance of the Device object type (21, BACnetObjectType)
abbrev pub device : ℕ → ObjectId
device instance = record { object_type = type_number Device; instance = instance }

-- one to four octets of a segmentation (21, BACnetSegmentation)
pub record SaysSegmentation (inner : List ℕ) (s : Segmentation) : Type 0 where
  pub number : SpellsUnsigned inner (segmentation_number s)

-- Device, greatest APDU, segmentation and vendor, and nothing else (16.10.3.1)
pub record SpellsIAm (octets : List ℕ) (i : IAm) : Type 0 where
  pub at_size : List ℕ
  pub at_segmentation : List ℕ
  pub at_vendor : List ℕ
  pub device_taken : Takes IsObject Application 12 octets (device i.instance) at_size
  pub size_taken : Takes SpellsUnsigned Application 2 at_size i.max_apdu at_segmentation
  pub segmentation_taken : Takes SaysSegmentation Application 9 at_segmentation i.segmentation at_vendor
  pub vendor_taken : Takes SpellsUnsigned Application 2 at_vendor i.vendor []

-- the octets spell this I-Am and no other
pub record OnlyIAm (octets : List ℕ) (i : IAm) : Type 0 where
  pub only : (j : IAm) → SpellsIAm octets j → i ≡ j

-- no I-Am is spelled
pub record NoIAm (octets : List ℕ) : Type 0 where
  pub none : (i : IAm) → SpellsIAm octets i → ⊥

-- the shortest octets of an I-Am
abbrev pub i_am_octets : IAm → List ℕ
i_am_octets i = tagged Application 12 (object_octets (type_number Device) i.instance) ++
    (tagged Application 2 (unsigned_octets i.max_apdu) ++
    (tagged Application 9 (unsigned_octets (segmentation_number i.segmentation)) ++
    tagged Application 2 (unsigned_octets i.vendor)))
