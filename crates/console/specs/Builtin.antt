-- The built-in device of the program (12.8, 12.11).
use Rattle.std.specs.Prelude.{◌≡◌, ℕ, [], ◌∷◌, codes, refl}
use Rattle.bvll.specs.declared.address.Address.{Address}
use Rattle.link_ip.specs.Port.{IpPortState, new_port, station_of}
use Rattle.link_ip.specs.declared.port.Reach.TheVariants.{Members}
use Rattle.tags.specs.declared.value.Value.TheVariants as value
use Rattle.object_model.specs.declared.object.ValueKind.TheVariants as kind
use Rattle.profile.specs.declared.link_kind.LinkKind.TheVariants.{BacnetIp}
use Rattle.object_model.specs.declared.site.SiteObject.{SiteObject}
use Rattle.object_model.specs.declared.site.SiteObjects.{SiteObjects}
use Rattle.npdu.specs.declared.mac.Mac.TheVariants.{Six}
use Rattle.npdu.specs.declared.mac.Station.{Station}
use Rattle.device.specs.Device.{DeviceState, new_device}

-- Binary Value 1, named BV1, whose Relinquish_Default is active
abbrev pub builtin_value : {A : Type 0} → SiteObject A
builtin_value = record {
  kind = kind.Binary;
  instance = 1;
  name = codes "BV1";
  default = value.Enum 1;
  description = [];
}

-- the instance of its Device object
abbrev pub builtin_instance : ℕ
builtin_instance = 99

-- Device 99 on BACnet/IP, of vendor 0, with that object
abbrev pub builtin_site : {A : Type 0} → SiteObjects A
builtin_site = record {
  name = codes "device";
  instance = builtin_instance;
  vendor = 0;
  data_link = BacnetIp;
  objects = builtin_value ∷ [];
}

-- an address of this host (J.1.2)
abbrev pub here : ℕ → Address
here port = record { ip = 127 ∷ 0 ∷ 0 ∷ 1 ∷ []; port = port }

-- its port: on network 1 at 127.0.0.1:47808, where 127.0.0.1:47809 is the one other member (J.4.5)
abbrev pub builtin_port : {A : Type 0} → IpPortState A
builtin_port = new_port 1 (here 47808) (Members (here 47809 ∷ []))

-- where it is: network 1, at 127.0.0.1:47808
abbrev pub builtin_address : Station
builtin_address = record { net = 1; mac = Six (127 ∷ 0 ∷ 0 ∷ 1 ∷ 186 ∷ 192 ∷ []) }

-- a row that a slip in a definition would break: that is where its port is
row_address : (A : Type 0) → station_of (builtin_port {A = A}) ≡ builtin_address
row_address A = refl

-- the device as it opens
abbrev pub builtin_device : {A : Type 0} → DeviceState A
builtin_device = new_device builtin_site builtin_address
