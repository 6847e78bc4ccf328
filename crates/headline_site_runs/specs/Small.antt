-- A site of one client and one device on one network, and what they begin with.
use Rattle.std.specs.Prelude.{cond, [], ◌∷◌, Some, None, true}
use Rattle.apdu.specs.declared.sizes.MaxApdu.{MaxApdu}
use Rattle.apdu.specs.declared.sizes.MaxApdu.TheVariants.{UpTo1476}
use Rattle.apdu.specs.declared.unconfirmed.IAm.{IAm}
use Rattle.apdu.specs.declared.unconfirmed.Segmentation.TheVariants.{Both}
use Rattle.client.specs.Client.{new_client}
use Rattle.device.specs.Device.{new_device}
use Rattle.headline.specs.Happenings.{start}
use Rattle.history.specs.Book.{Broadcast, I_am, Message}
use Rattle.npdu.specs.Mac.{same_station}
use Rattle.npdu.specs.declared.mac.Mac.TheVariants.{Six}
use Rattle.npdu.specs.declared.mac.Station.{Station}
use Rattle.npdu.specs.declared.mac.Way.{Way}
use Rattle.headline_bacnet.specs.Protocol.{bacnet}
use Rattle.headline_bacnet.specs.Refined.{ObjectSite}
use Rattle.object_model.specs.Site.{opening_table}
use Rattle.profile.specs.declared.link_kind.LinkKind.TheVariants.{BacnetIp}
use Rattle.object_model.specs.declared.site.SiteObjects.{SiteObjects}
use Rattle.primitives.specs.declared.plain_data.Request.{Request}
use Rattle.primitives.specs.declared.plain_data.Request.TheVariants.{Read}
use Rattle.headline_site.specs.AllStations.{AllStations}

-- the stations
abbrev pub client : Station
client = record { net = 1; mac = Six (127 ∷ 0 ∷ 0 ∷ 1 ∷ 186 ∷ 193 ∷ []) }

abbrev pub device : Station
device = record { net = 1; mac = Six (127 ∷ 0 ∷ 0 ∷ 1 ∷ 186 ∷ 201 ∷ []) }

-- the device is 10, called D, and has no objects but its Device object
abbrev pub objects : {A : Type 0} → SiteObjects A
objects = record { name = 68 ∷ []; instance = 10; vendor = 1; data_link = BacnetIp; objects = [] }

abbrev pub site : (A : Type 0) → ObjectSite A
site A =
    record {
      instance_of = λ x. cond (same_station x device) (Some 10) None;
      opening = λ x. opening_table (objects {A = A});
    }

-- all take APDUs of 1476 octets
abbrev pub own : Station → MaxApdu
own x = UpTo1476

-- nothing has happened
abbrev pub begun : (A : Type 0) → AllStations A
begun A =
    record {
      core = start (bacnet A) (site A);
      clients = new_client client true UpTo1476 ∷ [];
      devices = new_device objects device ∷ [];
    }

-- what the device says of itself at the start, and the way back
abbrev pub i_am : IAm
i_am = record { instance = 10; max_apdu = 1476; segmentation = Both; vendor = 1 }

abbrev pub says_i_am : Message Station
says_i_am = record { from = device; to = Broadcast; body = I_am 10; stamp = 0 }

abbrev pub to_device : Way
to_device = record { to = device.mac; destination = None }

abbrev pub to_client : Way
to_client = record { to = client.mac; destination = None }

-- the request: Object_Name of the device
abbrev pub reads_name : {A : Type 0} → Request A
reads_name = Read (record { object_type = 8; instance = 10 }) 77 None
