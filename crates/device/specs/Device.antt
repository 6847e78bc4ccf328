-- A device on its network: what it knows (5.4.5, 12.11, 16.10.3).
use Rattle.std.specs.Prelude.{ℕ}
use Rattle.apdu.specs.Sizes.{apdu_taken}
use Rattle.apdu.specs.declared.unconfirmed.IAm.{IAm}
use Rattle.apdu.specs.declared.unconfirmed.Segmentation.TheVariants.{Both}
use Rattle.npdu.specs.declared.mac.Mac.{Mac}
use Rattle.npdu.specs.declared.mac.Station.{Station}
use Rattle.object_model.specs.Objects.{PlainTable}
use Rattle.object_model.specs.Site.{opening_table}
use Rattle.object_model.specs.declared.site.SiteObjects.{SiteObjects}
use Rattle.unitdata.specs.Sizes.{longest_apdu}
use Rattle.server_tsm.specs.Server.{ServerTsmState, new_server, restarted}

-- its server of transactions, which has its objects; the instance and the vendor of its Device object; its network and
-- its address there
pub record DeviceState (A : Type 0) : Type 0 where
  pub server : ServerTsmState A
  pub instance : ℕ
  pub vendor : ℕ
  pub net : ℕ
  pub mac : Mac

-- a device at an address, as it opens with the objects of its site
abbrev pub new_device : {A : Type 0} → SiteObjects A → Station → DeviceState A
new_device site address =
    record {
      server = new_server (opening_table site) (longest_apdu site.data_link);
      instance = site.instance;
      vendor = site.vendor;
      net = address.net;
      mac = address.mac;
    }

-- what it says of itself: it takes and sends segments (16.10.3)
abbrev pub i_am_of : {A : Type 0} → DeviceState A → IAm
i_am_of d =
    record {
      instance = d.instance;
      max_apdu = apdu_taken d.server.max_apdu;
      segmentation = Both;
      vendor = d.vendor;
    }

-- it restarts at this moment with these objects
abbrev pub restarts : {A : Type 0} → ℕ → PlainTable A → DeviceState A → DeviceState A
restarts now table d = record d { server = restarted now table d.server }
